use Rattle.std.proofs.Common.{rules, ◌∙◌, sym, below_more}
use Rattle.std.proofs.lemmas.Bool.{true≢false}
use Rattle.lossy_index.proofs.Looking.{Looks, seeks, looks, found, of_other_tag, passed, of_other_key}
use Rattle.lossy_index.proofs.finding.find_hashed.Given.{Over}
use Rattle.lossy_index.proofs.finding.find_hashed.Goals as goal
use Rattle.lossy_index.proofs.finding.find_hashed.Goals.{After-entry_offset-offset, else-entry_tag-tag-via-then-entry_tag-tag+then-tail-offset+else-holds_key_hashed, else-entry_tag-tag-via-then-entry_tag-tag+else-tail-offset, else-entry_tag-tag-via-else-entry_tag-tag}

pub loop-slot-init : goal.loop-slot-init
loop-slot-init g c = record {
  owner = search rules;
  home = search rules;
  kept = c.requires.kept;
  seeks = seeks (g.W.OwnerWords.owner c.args.words.now) c.args.key.now _ _ _ _ _ c.requires.hashed c.tag_of-tag.ensures
      c.requires.stamped c.tail_of-tail.ensures (search rules);
  none = search rules;
}

look : (g : Over) (c : After-entry_offset-offset g) → Looks (g.W.OwnerWords.owner c.args.words.now) c.args.bucket c.loop-slot.slot c.args.key.now
    c.tag_of-tag.result c.tail_of-tail.result c.from-log_words.result c.read-entry.result c.entry_offset-offset.result
look g c = looks _ _ c.loop-slot.invariant.owner c.args.bucket c.loop-slot.slot c.args.key.now _ _ _ _ _ c.loop-slot.invariant.seeks c.read-entry.ensures.value c.entry_offset-offset.ensures

pub returns-then-holds_key_hashed-clause-found : goal.returns-then-holds_key_hashed-clause-found
returns-then-holds_key_hashed-clause-found g c =
    let l = look g (goal.at.returns-then-holds_key_hashed-clause-found g c).After-entry_offset-offset in
    record {
      slot = found _ c.args.bucket c.loop-slot.slot c.args.key.now _ _ _ _ _ l c.loop-slot-test.true (sym c.entry_tag.ensures ∙ c.if-entry_tag-tag.true) c.if-tail-offset.true
          _ (c.read-entry.ensures.same ∙ c.loop-slot.invariant.owner) (c.holds_key_hashed.ensures.holds.0 c.if-holds_key_hashed.true);
      offset = l.offset_is;
    }

pub loop-slot-preserved : goal.loop-slot-preserved
loop-slot-preserved g c =
    let loop = c.loop-slot.invariant in
    let l = look g (goal.at.loop-slot-preserved g c).After-entry_offset-offset in
    record {
      owner = search rules;
      home = search rules;
      kept = search rules;
      seeks = loop.seeks;
      none = below_more _ _ loop.none (elim c.else-entry_tag-tag.branch [
        | else-entry_tag-tag-via-then-entry_tag-tag+then-tail-offset+else-holds_key_hashed w ↦ of_other_key _ c.args.bucket c.loop-slot.slot c.args.key.now _ _ _ _ _ l
            _ (c.read-entry.ensures.same ∙ loop.owner) (λ has. true≢false (sym (w.holds_key_hashed.ensures.holds.1 has) ∙ w.if-holds_key_hashed.false))
        | else-entry_tag-tag-via-then-entry_tag-tag+else-tail-offset w ↦ passed _ c.args.bucket c.loop-slot.slot c.args.key.now _ _ _ _ _ l w.if-tail-offset.false
        | else-entry_tag-tag-via-else-entry_tag-tag w ↦
            of_other_tag _ c.args.bucket c.loop-slot.slot c.args.key.now _ _ _ _ _ l (λ same. w.if-entry_tag-tag.false (c.entry_tag.ensures ∙ same))
      ]);
    }
