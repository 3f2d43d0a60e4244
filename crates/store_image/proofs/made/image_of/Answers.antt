use Rattle.std.proofs.Common.{rules}
use Rattle.std.proofs.Common.{◌<◌, ◌^◌, List, ℕ, Bor, length, map, sym, ◌∙◌, subst, arith}
use Rattle.std.specs.List.{AllByRecursion}
use Rattle.std.proofs.lemmas.List.{length-map}
use Rattle.mica_trace.specs.declared.line.TraceLine.{TraceLine}
use Rattle.mica_trace.specs.TraceGrammar.{IsKey, IsTraceLine}
use Rattle.partition_words.specs.Seats.{diary_of}
use Rattle.store_image.specs.PutKeys.{put_keys, has_key, pairs_by}
use Rattle.store_image.specs.Answers.{value_at}
use Rattle.store_image.specs.ImageOf.{HasPairsOf}
use Rattle.store_image.proofs.Keys.{all_among, put_keys_are}
use Rattle.store_image.proofs.Left.{left_image, left_pairs, value_stands}
use Rattle.store_image.proofs.made.image_of.Goals as goal

abbrev now : Bor (List ℕ) → List ℕ
now k = k.now

pub image_of_keys-requires-clause-keys : goal.image_of_keys-requires-clause-keys
image_of_keys-requires-clause-keys c = search (rules, AllByRecursion, all_among, map, put_keys, put_keys_are)

pub image_of_keys-requires-clause-values : goal.image_of_keys-requires-clause-values
image_of_keys-requires-clause-values c = λ key value is.
    let owners = map (λ p. (diary_of p.words).owner) c.reply_to_all.new.parts.items in
    value_stands c.args.options.now c.requires.valid c.args.trace.now c.in_ok-report.report owners c.in_ok-report.ensures.answered c.lines-lines.ensures.lines key value is

pub image_of_keys-requires-clause-image : goal.image_of_keys-requires-clause-image
image_of_keys-requires-clause-image c =
    let options = c.args.options.now in
    let lines = c.lines-lines.result.now in
    let keys = c.in_ok-keys.keys.items in
    let all = subst (λ (ls : List TraceLine). AllByRecursion IsTraceLine ls) (sym c.lines-lines.ensures.same) c.lines-lines.ensures.lines in
    let are = all_among IsKey (map now keys) (put_keys lines) (λ key has. sym (c.in_ok-keys.ensures.all key) ∙ has) (put_keys_are lines all) in
    let owners = map (λ p. (diary_of p.words).owner) c.reply_to_all.new.parts.items in
    let few : length (map now keys) < 2 ^ 32 = omega (arith, length-map keys now, c.in_ok-keys.ensures.few) in
    rw c.as_slice.ensures.value (left_image options c.requires.valid c.args.trace.now c.in_ok-report.report owners c.in_ok-report.ensures.answered c.lines-lines.ensures.lines (map now keys) are c.in_ok-keys.ensures.rise few)

pub returns : goal.returns
returns c = search (rules, map, pairs_by, has_key, HasPairsOf, left_pairs, diary_of, value_at, put_keys)
