-- The answers of a store's part, one behind another.
use Rattle.std.proofs.Common.{◌≡◌, ℕ, false, List, [], ◌∷◌, ◌++◌, length, map, Option, Some, None, refl, sym, subst, ◌∙◌, arith, ne_eqb}
use Rattle.mica_words.specs.Mark.{is_mark}
use Rattle.partition_model.specs.declared.options.Mode.TheVariants.{Cache, Store}
use Rattle.partition_model.specs.declared.options.Options.{Options}
use Rattle.partition_model.specs.declared.write.Write.{Write}
use Rattle.partition_model.specs.History.{History}
use Rattle.memcached_text.specs.Fit.{IsFitKey}
use Rattle.fronts.specs.Answered.{Answered, wrote, got, changed, kept}
use Rattle.fronts.specs.Changing.{Becoming, stays, becomes, goes, write_for}
use Rattle.fronts.specs.Looks.{IsLookAt}
use Rattle.one_order.specs.Order.{IsAnswerBehind, behind}
use Rattle.memcached_page.specs.Shelf.{Shelf, empty}
use Rattle.memcached_page.specs.Course.{Deed, Done, after, IsCourse}
use Rattle.memcached_page.specs.Kept.{shelf_in}
use Rattle.part_courses.specs.Courses.{Purpose, asks, flushes, sweeps, Served, IsFor, AreServed, deeds_of, done_by, course_of, AreCoursesOfStore}
use Rattle.part_courses.proofs.Shelves.{stands_empty}
use Rattle.part_courses.proofs.Steps.{Steps, left_by, Begun, One}
use Rattle.part_courses.proofs.Carried.{kept_one, changed_one}
use Rattle.part_courses.proofs.Flushed.{flush_one, swept_one}

-- deeds, and then a course
then_course : (served : Served) (shelf : Shelf) (deeds : List Deed) (later : List Done) → Steps shelf deeds → IsCourse Store (left_by shelf deeds) later (shelf_in (left_by shelf deeds) later)
    → IsCourse Store shelf (map (done_by served) deeds ++ later) (shelf_in shelf (map (done_by served) deeds ++ later))
then_course served shelf [] later steps rest = rest
then_course served shelf (deed ∷ deeds) later steps rest = (steps.0, then_course served (after deed shelf) deeds later steps.1 rest)

-- what is written of a look is of its key
pub own_key : (key : List ℕ) (value : Option (List ℕ)) (b : Becoming) (write : Write) → write_for key value b ≡ Some write → write.key ≡ key
own_key key value stays write is = absurd (cc)
own_key key value (becomes next) write is = cc
own_key key None goes write is = absurd (cc)
own_key key (Some stored) goes write is = cc

-- no client's key is as long as a mark
pub no_mark : (key : List ℕ) → IsFitKey key → is_mark key ≡ false
no_mark key fit = ne_eqb (length key) 255 (λ same. omega (arith, same, fit))

module _ {options : Options} {base : ℕ} (part : ℕ) {h : History} {shelf : Shelf} (g : Begun options base h shelf) where
  pub one : (purpose : Purpose) (answered : Answered) → IsAnswerBehind options h answered → IsFor options base part purpose answered
      → One options base shelf (behind h answered) (deeds_of base part (length h) purpose answered)
  one (asks asked) (wrote step) answer for = absurd (for.1)
  one (asks asked) (got key stamp value) answer for = absurd (for.1)
  one (asks asked) (changed step look) answer for =
      let looked = subst (λ key. IsLookAt options h key look) (own_key asked.key look.value _ step.write for.1) answer.1 in
      changed_one g asked look looked for.0 (no_mark asked.key for.0.0) step answer.0.0 for.1
  one (asks asked) (kept key stamp look) answer for =
      let looked = subst (λ k. IsLookAt options h k look) for.1.0 answer.1 in
      kept_one g asked look looked for.0 (no_mark asked.key for.0.0) stamp (refl, for.1.1)
  one (flushes flush) (wrote step) answer for = flush_one g part step flush answer.0 for.0 for.1
  one (flushes flush) (got key stamp value) answer for = absurd (for)
  one (flushes flush) (changed step look) answer for = absurd (for)
  one (flushes flush) (kept key stamp look) answer for = absurd (for)
  one sweeps (wrote step) answer for = let both : Store ≡ Cache = sym g.is_store ∙ for.0 in absurd (cc)
  one sweeps (got key stamp value) answer for = absurd (for)
  one sweeps (changed step look) answer for = swept_one g step look for.1.0 answer.0.0 answer.1 for.0 for.1.1 for.1.2
  one sweeps (kept key stamp look) answer for = record { steps = tt; stands_then = g.stands }

all_in_course : (options : Options) (base part : ℕ) (all : List Served) (h : History) (shelf : Shelf) → Begun options base h shelf → AreServed options base part h all
    → IsCourse Store shelf (course_of base part h all) (shelf_in shelf (course_of base part h all))
all_in_course options base part [] h shelf g served = refl
all_in_course options base part (first ∷ later) h shelf g served =
    let came = one part g first.purpose first.answered served.0 served.1 in
    let deeds = deeds_of base part (length h) first.purpose first.answered in
    let then_h = behind h first.answered in
    then_course first shelf deeds (course_of base part then_h later) came.steps
    (all_in_course options base part later then_h (left_by shelf deeds) (record { is_store = g.is_store; small = g.small; stands = came.stands_then }) served.2)

pub courses : AreCoursesOfStore
courses options base part all is_store small served = all_in_course options base part all [] empty (record { is_store = is_store; small = small; stands = stands_empty options base }) served
