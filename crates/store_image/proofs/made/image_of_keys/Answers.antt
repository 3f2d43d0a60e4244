use Rattle.std.proofs.Common.{rules}
use Rattle.std.proofs.Common.{◌≡◌, ◌+◌, ◌<◌, ◌++◌, [], ℕ, List, Option, Some, None, Bor, length, map, drop, get_or, sym, ap, ◌∙◌, arith, append_assoc}
use Rattle.std.specs.Prelude.{option_map}
use Rattle.std.specs.List.{cons_option, flat_map}
use Rattle.std.proofs.Math.ListN.{drop_of_length-le}
use Rattle.std.proofs.Math.Seq.{map-set_same}
use Rattle.mica_trace.specs.TraceGrammar.{IsKey}
use Rattle.store_image.specs.ImageGrammar.{Pair, pair_text}
use Rattle.store_image.specs.PutKeys.{pairs_by}
use Rattle.store_image.specs.Answers.{value_at}
use Rattle.store_image.proofs.Keys.{text_at}
use Rattle.store_image.proofs.Left.{part_there, part_answers, pairs_left}
use Rattle.store_image.proofs.PairLaws.{kept_all}
use Rattle.store_image.proofs.made.image_of_keys.Goals.{then-finds+in_ok-put_pair, else-finds}
use Rattle.store_image.proofs.made.image_of_keys.Goals as goal

abbrev now : Bor (List ℕ) → List ℕ
now k = k.now

abbrev none : Bor (List ℕ)
none = record { ref_ptr = (0, 0); now = [] }

-- what the key at a place adds to the pairs after it
module _ (value_of : List ℕ → Option (List ℕ)) (keys : List (Bor (List ℕ))) (i : ℕ) (less : i < length keys) where
  abbrev pairs_from : ℕ → List Pair
  pairs_from n = pairs_by value_of (map now (drop n keys))

  abbrev pair_with : List ℕ → Pair
  pair_with v = record { key = now (get_or keys i none); value = v }

  added : (found : Option (List ℕ)) → value_of (now (get_or keys i none)) ≡ found → pairs_from i ≡ cons_option (option_map pair_with found) (pairs_from (i + 1))
  added found is = pairs_left value_of now keys i none less ∙ ap (λ (o : Option (List ℕ)). cons_option (option_map pair_with o) (pairs_from (i + 1))) is

pub index_mut-part-requires : goal.index_mut-part-requires
index_mut-part-requires g c =
    let some = c.requires.valid.partitions.0 in
    let there = part_there g.P.Partition.owner c.args.parts.now.items c.loop-key.parts.items c.args.options.now.hashing c.args.options.now.partitions _ _ (get_or c.args.keys.now c.loop-key.key-index none).now (omega arith) c.requires.many c.loop-key.invariant.same c.key_hash.ensures c.partition_of-partition.ensures in
    omega (arith, c.loop-key.parts.ok.0)

pub finds-requires : goal.finds-requires
finds-requires g c = (text_at now IsKey c.args.keys.now c.loop-key.key-index none c.requires.keys c.loop-key-test.true).0

pub put_pair-requires-clause-key : goal.put_pair-requires-clause-key
put_pair-requires-clause-key g c = (text_at now IsKey c.args.keys.now c.loop-key.key-index none c.requires.keys c.loop-key-test.true).0

pub put_pair-requires-clause-value : goal.put_pair-requires-clause-value
put_pair-requires-clause-value g c =
    let some = c.requires.valid.partitions.0 in
    let key = (get_or c.args.keys.now c.loop-key.key-index none).now in
    let found = part_answers g.P.Partition.owner c.args.parts.now.items c.loop-key.parts.items c.args.options.now.hashing c.args.options.now.partitions _ _ key (omega arith) c.requires.many c.loop-key.invariant.same c.key_hash.ensures c.partition_of-partition.ensures c.index_mut-part.result.now c.index_mut-part.ensures.value in
    (c.requires.values key c.value-then-finds.result.now (found ∙ c.if-finds.ensures.answer ∙ ap Some (sym c.value-then-finds.ensures.value))).0

pub overflow_add-count : goal.overflow_add-count
overflow_add-count g c =
    let some = c.requires.valid.partitions.0 in
    let owner = g.P.Partition.owner in
    let partitions = c.args.options.now.partitions in
    let found = part_answers owner c.args.parts.now.items c.loop-key.parts.items c.args.options.now.hashing partitions _ _ (get_or c.args.keys.now c.loop-key.key-index none).now (omega arith) c.requires.many c.loop-key.invariant.same c.key_hash.ensures c.partition_of-partition.ensures c.index_mut-part.result.now c.index_mut-part.ensures.value in
    let one = ap length (added (value_at (map owner c.args.parts.now.items) c.args.options.now.hashing partitions) c.args.keys.now c.loop-key.key-index c.loop-key-test.true _ (found ∙ c.if-finds.ensures.answer)) in
    omega (arith, one, c.loop-key.invariant.count, c.requires.image.few)

pub loop-key-preserved : goal.loop-key-preserved
loop-key-preserved g c =
    let some = c.requires.valid.partitions.0 in
    let owner = g.P.Partition.owner in
    let partitions = c.args.options.now.partitions in
    let keys = c.args.keys.now in
    let i = c.loop-key.key-index in
    let parts = c.loop-key.parts.items in
    let at = c.partition_of-partition.result in
    let part = c.index_mut-part.result.now in
    let value_of : List ℕ → Option (List ℕ) = value_at (map owner c.args.parts.now.items) c.args.options.now.hashing partitions in
    let left : List Pair = pairs_by value_of (map now (drop (i + 1) keys)) in
    let found = part_answers owner c.args.parts.now.items parts c.args.options.now.hashing partitions _ _ (get_or keys i none).now (omega arith) c.requires.many c.loop-key.invariant.same c.key_hash.ensures c.partition_of-partition.ensures part c.index_mut-part.ensures.value in
    let same = map-set_same owner parts at c.finds.new.part part (c.finds.ensures.same ∙ ap owner c.index_mut-part.ensures.value) ∙ c.loop-key.invariant.same in
    elim c.if-finds.branch [
      | then-finds+in_ok-put_pair w ↦
          let value = w.value-then-finds.result.now in
          let is = added value_of keys i c.loop-key-test.true (Some value) (found ∙ w.if-finds.ensures.answer ∙ ap Some (sym w.value-then-finds.ensures.value)) in
          let one = ap length is in
          record {
            count = rw w.count-is (omega (arith, one, c.loop-key.invariant.count));
            texts = rw (w.texts-is, w.in_ok-put_pair.ensures) (append_assoc c.loop-key.texts.items _ (flat_map pair_text left)
                ∙ ap (λ (ps : List Pair). c.loop-key.texts.items ++ flat_map pair_text ps) (sym is) ∙ c.loop-key.invariant.texts);
            same = same;
          }
      | else-finds w ↦
          let is = added value_of keys i c.loop-key-test.true None (found ∙ w.if-finds.ensures.answer) in
          record {
            count = rw w.count-is (ap (λ (ps : List Pair). c.loop-key.count + length ps) (sym is) ∙ c.loop-key.invariant.count);
            texts = rw w.texts-is (ap (λ (ps : List Pair). c.loop-key.texts.items ++ flat_map pair_text ps) (sym is) ∙ c.loop-key.invariant.texts);
            same = same;
          }
    ]

pub of-requires : goal.of-requires
of-requires g c = search (rules, pairs_by, value_at, map, kept_all, drop_of_length-le)

pub returns : goal.returns
returns g c = search (rules, pairs_by, value_at, map, kept_all, drop_of_length-le)
