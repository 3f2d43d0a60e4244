use Rattle.std.proofs.Common.{◌≡◌, true, sym, subst}
use Rattle.std.specs.List.{list_all}
use Rattle.partition_words.specs.declared.state.OwnerState.{OwnerState}
use Rattle.partition_words.specs.Kept.{Kept}
use Rattle.partition_words.specs.OwnerState.{options_in}
use Rattle.kept_items.specs.Walk.{IsWalk}
use Rattle.partition_walk.specs.PairAt.{is_item, pairs_from}
use Rattle.partition_walk.proofs.Walked.{is_walk, all_items}
use Rattle.partition_walk.proofs.walk.WordsWalk.over.Goals as goal

pub invariant_of-result : goal.invariant_of-result
invariant_of-result g c =
    let o = g.W.OwnerWords.owner c.args.words in
    record {
      items = subst (λ (p : OwnerState). list_all (is_item p) c.args.offsets.items ≡ true) (sym c.read.ensures.same)
          (all_items o (subst Kept c.read.ensures.same c.read.ensures.kept) c.requires.idle c.args.offsets.items c.requires.listed);
    }

pub returns-clause-walk : goal.returns-clause-walk
returns-clause-walk g c =
    let o = g.W.OwnerWords.owner c.args.words in
    subst (λ (p : OwnerState). IsWalk (options_in o) o.history (pairs_from p 0 c.args.offsets.items)) (sym c.read.ensures.same)
    (is_walk o (subst Kept c.read.ensures.same c.read.ensures.kept) c.requires.idle c.args.offsets.items c.requires.listed)
