-- What becomes of an item is what becomes of its text, and what is said of it.
use Rattle.std.proofs.Common.{◌≡◌, List, ℕ, Bool, true, false, Option, Some, None, inl, inr, refl, ap, ◌∙◌}
use Rattle.partition_model.specs.declared.write.Outcome.{Outcome}
use Rattle.partition_model.specs.declared.change.Change.{Change}
use Rattle.partition_model.specs.declared.change.Change.TheVariants.{Stay, Become, Go}
use Rattle.memcached_commands.specs.declared.moment.Moment.{Moment}
use Rattle.memcached_commands.specs.Changes as commands
use Rattle.memcached_commands.specs.declared.ask.Ask.{Ask}
use Rattle.memcached_commands.specs.Decide.{Becoming, stays, becomes, goes, Decision, decide}
use Rattle.memcached_commands.specs.Moments.{found_in}
use Rattle.memcached_commands.proofs.MeantLaws.{leaves_alike}
use Rattle.memcached_text.specs.declared.item.Item.{Item}
use Rattle.fronts.specs.declared.changing.When.{When}
use Rattle.fronts.specs.Changing as here
use Rattle.fronts.specs.Changing.{IsChange, OnlyGets, TellsWhen}
use Rattle.memcached_decisions.specs.Numbered.{Order, stored_becoming, moment_at, value_in, becoming_by, says_by, unless_refused}

pub same_change : (becoming : Becoming) (change : Change) (next : List ℕ) → commands.IsChange becoming change next → IsChange (stored_becoming becoming) change next
same_change stays Stay next is = is
same_change stays Become next is = is
same_change stays Go next is = is
same_change (becomes item) Stay next is = is
same_change (becomes item) Become next is = is
same_change (becomes item) Go next is = is
same_change goes Stay next is = is
same_change goes Become next is = is
same_change goes Go next is = is

-- where a command leaves whatever is stored, so does what is stored of it
pub becomes_nothing : (order : Order) → ((at : Moment) (stored : Option (List ℕ)) → commands.becoming_of at order.ask stored ≡ stays) → OnlyGets (becoming_by order)
becomes_nothing order leaves when stored = ap stored_becoming (leaves (moment_at order.base when) (value_in stored))

-- where a value is left, what is decided of it leaves it
stays_left : (at : Moment) (ask : Ask) (stored : Option (List ℕ)) → stored_becoming (commands.becoming_of at ask stored) ≡ here.stays
    → (decide at ask (found_in at stored)).becoming ≡ stays
stays_left at ask stored is = of_flush (decide at ask (found_in at stored)).becoming (of_dead (commands.only_gets ask) stored (found_in at stored) _ (of_text _ is))
  where
    of_text : (becoming : Becoming) → stored_becoming becoming ≡ here.stays → becoming ≡ stays
    of_text stays is = refl
    of_text (becomes item) is = absurd (cc)
    of_text goes is = absurd (cc)

    of_dead : (reads : Bool) (stored : Option (List ℕ)) (found : Option Item) (becoming : Becoming) → commands.without_dead reads stored found becoming ≡ stays → becoming ≡ stays
    of_dead true stored found becoming is = is
    of_dead false None found becoming is = is
    of_dead false (Some text) (Some item) becoming is = is
    of_dead false (Some text) None stays is = refl
    of_dead false (Some text) None (becomes item) is = is
    of_dead false (Some text) None goes is = is

    of_flush : (becoming : Becoming) → commands.ends_with_flush at becoming ≡ stays → becoming ≡ stays
    of_flush stays is = refl
    of_flush (becomes item) is = absurd (cc)
    of_flush goes is = absurd (cc)

-- What is said of a look goes by all that is told of it; but where whatever is found is left, by no number of writes.
pub says_alike : (order : Order) (told when : When) (stored : Option (List ℕ)) (outcome : Option Outcome) → TellsWhen (becoming_by order) told when
    → says_by order told stored outcome ≡ says_by order when stored outcome
says_alike order told when stored outcome tells = elim tells [
  | inl all ↦ ap (λ w. says_by order w stored outcome) all
  | inr some ↦
      let at = moment_at order.base when in
      let left = stays_left at order.ask (value_in stored) (some.0 when stored) in
      ap (λ w. says_by order w stored outcome) some.1
      ∙ ap (λ (d : Decision). unless_refused order.ask outcome d.says)
      (leaves_alike at order.ask (found_in at (value_in stored)) (moment_at order.base told).unique left)
]
