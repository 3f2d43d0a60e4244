use Rattle.std.proofs.Common.{◌≡◌, ℕ, List, Option, ap, sym, ◌∙◌, Some, None, get_or, take, drop}
use Rattle.partition_model.specs.declared.options.Options.{Options}
use Rattle.partition_model.specs.declared.fate.Fate.TheVariants.{Displaced, Passed}
use Rattle.partition_model.specs.Cache.{Cache, Record}
use Rattle.mica_model.specs.CacheFields.{Notes, displaced_at, marked, marked_passed, marked_displaced, notes_of, without_at}
use Rattle.partition_model.specs.CacheStep.{without_passed}
use Rattle.mica_model.proofs.CacheSteps.{displaced_found, displaced_goes, displaced_missed}
use Rattle.mica_model.proofs.Passed.{passed_dropped, passed_marked}
use Rattle.mica_model.proofs.cache_machine.drop_dead.Goals as goal
use Rattle.mica_model.proofs.cache_machine.drop_dead.Goals.{in-Some, in_default}

module _ (c : goal.After-remove) where
  abbrev options : Options
  options = c.args.options.now

  abbrev before : Cache
  before = c.args.state.now

  abbrev left : Cache
  left = without_passed options before

  abbrev fates : Notes
  fates = marked_passed (Passed c.args.number) options.words before.stamp before.records (notes_of c.args.fates.now)

  left_is : c.drop_first.new.self ≡ without_passed c.args.options.now c.args.state.now
  left_is =
      c.drop_first.ensures
      ∙ ap (λ (n : ℕ). record before { records = drop n before.records }) c.passed-passed.ensures
      ∙ ap (λ (rs : List Record). record before { records = rs }) (sym (passed_dropped options.words before.stamp before.records c.requires.rising))

  passed_is : notes_of c.mark_passed.new.fates ≡ fates
  passed_is =
      c.mark_passed.ensures
      ∙ ap (λ (stamp : ℕ). marked_passed (Passed c.args.number) options.words stamp (take c.passed-passed.result c.records.result.now) (notes_of c.args.fates.now)) c.stamp.ensures
      ∙ ap (λ (all : List Record). marked_passed (Passed c.args.number) options.words before.stamp (take c.passed-passed.result all) (notes_of c.args.fates.now)) c.records.ensures
      ∙ ap (λ (n : ℕ). marked_passed (Passed c.args.number) options.words before.stamp (take n before.records) (notes_of c.args.fates.now)) c.passed-passed.ensures
      ∙ passed_marked options.words before.stamp (Passed c.args.number) before.records (notes_of c.args.fates.now) c.requires.rising

  displaced_is : c.displaced-displaced.result ≡ displaced_at options c.args.key.now left.records
  displaced_is = c.displaced-displaced.ensures ∙ ap (λ (t : Cache). displaced_at options c.args.key.now t.records) left_is

  same_place : c.match-displaced.displaced ≡ c.displaced-displaced.result
  same_place = elim c.match-displaced.branch [
    | in-Some w ↦ let named = w.displaced-is in let found = w.in-Some.is in cc
    | in_default w ↦ let named = w.displaced-is in let found = w.in_default.is in cc
  ]

pub returns-clause-state : goal.returns-clause-state
returns-clause-state c =
    c.remove.ensures
    ∙ ap (λ (t : Cache). record t { records = without_at c.match-displaced.displaced t.records }) (left_is c)
    ∙ ap (λ (at : Option ℕ). record (left c) { records = without_at at (left c).records }) (same_place c ∙ displaced_is c)
    ∙ ap (λ (rs : List Record). record (left c) { records = rs }) (displaced_goes c.args.options.now c.args.key.now (left c).records)

pub returns-clause-fates : goal.returns-clause-fates
returns-clause-fates c =
    let rs = (left c).records in
    let key = c.args.key.now in
    let mark = λ (o : Option Record). marked_displaced (Displaced c.args.number) o (fates c) in
    elim c.match-displaced.branch [
      | in-Some w ↦
          let held = w.index-records-at.result in
          let place : displaced_at (options c) key rs ≡ Some w.in-Some.at = sym (displaced_is c) ∙ w.in-Some.is in
          let read : held ≡ get_or rs w.in-Some.at held = w.index-records-at.is ∙ ap (λ (l : List Record). get_or l w.in-Some.at held) (w.records-in-Some.ensures ∙ ap (λ (t : Cache). t.records) (left_is c)) in
          ap notes_of w.fates-is ∙ w.mark.ensures ∙ ap (λ k. marked k (Displaced c.args.number) (notes_of c.mark_passed.new.fates)) w.key.ensures
          ∙ ap (marked held.key (Displaced c.args.number)) (passed_is c)
          ∙ sym (ap mark (displaced_found (options c) key rs w.in-Some.at place held read))
      | in_default w ↦
          let none : displaced_at (options c) key rs ≡ None = sym (displaced_is c) ∙ w.in_default.is in
          ap notes_of w.fates-is ∙ passed_is c ∙ sym (ap mark (displaced_missed (options c) key rs none))
    ]
