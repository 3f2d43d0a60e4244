use Rattle.std.proofs.Common.{rules, [], ap, length, ◌∙◌, ◌∷◌, ◌≡◌, subst, sym, ℕ}
use Rattle.std.proofs.lemmas.List.{length-map}
use Rattle.partition_words.specs.Seats.{diary_of}
use Rattle.partition_words.proofs.Shapes.{possible_in_range}
use Rattle.scripted_reader.specs.Script.{NoneAbove, Rises}
use Rattle.scripted_reader.proofs.ScriptKeeps.{starts}
use Rattle.scripted_reader.proofs.scripted.Scripted.new.Goals as goal

pub of_words-requires : goal.of_words-requires
of_words-requires c =
    let script = c.into_script-script.result in
    let e = c.into_script-script.ensures in
    starts script (0 ∷ []) (possible_in_range script.shape e.valid) e.can

-- the script has the cuts that were handed over, and as many events as the words kept

pub invariant_of-result-2-clause-rise : goal.invariant_of-result-2-clause-rise
invariant_of-result-2-clause-rise c =
    let same : c.into_script-script.result.cuts.items ≡ c.args.cuts.now = search rules in
    subst Rises (sym same) c.requires.rise

pub invariant_of-result-2-clause-few : goal.invariant_of-result-2-clause-few
invariant_of-result-2-clause-few c =
    let same : c.into_script-script.result.cuts.items ≡ c.args.cuts.now = search rules in
    let e = c.into_script-script.ensures in
    let many : length c.into_script-script.result.events.items ≡ length (diary_of c.args.plain).kept =
    ap length e.events ∙ (length-map _ _ ∙ ap (λ me. length me.0.kept) e.same.1) in
    subst (λ (n : ℕ). NoneAbove n c.into_script-script.result.cuts.items) (sym many) (subst (NoneAbove _) (sym same) c.requires.few)
