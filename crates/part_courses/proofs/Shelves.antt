-- What a part's shelf has, by the history of its machine.
use Rattle.std.proofs.Common.{◌≡◌, ◌≤◌, ◌==◌, ℕ, Bool, true, false, cond, List, [], length, Option, Some, None, nat_lt, option_map, refl, sym, ap, subst, ◌∙◌, arith}
use Rattle.std.specs.Prelude.{IfSome}
use Rattle.std.proofs.lemmas.Bool.{le-leb}
use Rattle.mica_words.specs.Mark.{is_mark}
use Rattle.mica_words.specs.declared.item.TheConstants.{MAX_STORED_LEN}
use Rattle.partition_model.specs.declared.options.Options.{Options}
use Rattle.partition_model.specs.History.{History, IsHistory, answer_of}
use Rattle.memcached_text.specs.Item.{item_in}
use Rattle.memcached_commands.specs.declared.moment.Moment.{Moment}
use Rattle.memcached_commands.specs.Moments.{is_there, found_in}
use Rattle.memcached_commands.specs.Laws.{IsFitItem, IsFitFound}
use Rattle.fronts.specs.declared.flushes.Flushes.{Flushes}
use Rattle.fronts.specs.Flushes.{flushed_at, waits_at, flushes_in}
use Rattle.fronts.specs.Looks.{when_after}
use Rattle.memcached_decisions.specs.Numbered.{numbered, moment_at, value_in}
use Rattle.memcached_decisions.proofs.Values.{none_at_first}
use Rattle.memcached_page.specs.Shelf.{Shelf, empty, at, there}

-- what is stored is an item as commands store it, under a key that a line may spell
pub record IsStored (key stored : List ℕ) : Type 0 where
  pub short : length stored ≤ MAX_STORED_LEN
  pub fit : IsFitItem (item_in stored)
  pub spelled : is_mark key ≡ false

-- What a command finds of it is what it finds on the shelf.
pub value_same : (key : List ℕ) (o : Option (List ℕ)) → IfSome o (IsStored key) → value_in o ≡ o
value_same key None is = refl
value_same key (Some stored) is = ap (λ b. cond b (Some stored) None) (le-leb (length stored) MAX_STORED_LEN is.short)

pub found_stored : (m : Moment) (key : List ℕ) (o : Option (List ℕ)) → IfSome o (IsStored key) → there m (option_map item_in o) ≡ found_in m (value_in o)
found_stored m key None is = refl
found_stored m key (Some stored) is = ap (found_in m) (sym (value_same key (Some stored) is))

pub found_fit : (m : Moment) (key : List ℕ) (o : Option (List ℕ)) → IfSome o (IsStored key) → IsFitFound (there m (option_map item_in o))
found_fit m key None is = tt
found_fit m key (Some stored) is = by (is_there m (item_in stored))
  where
    by : (b : Bool) → IsFitFound (cond b (Some (item_in stored)) None)
    by true = is.fit
    by false = tt

-- a count of writes, as the number that parts what is stored before from what is stored behind
abbrev pub number_of : ℕ → ℕ → ℕ
number_of base n = cond (n == 0) 0 (numbered base n)

abbrev pub in_numbers : ℕ → Flushes → Flushes
in_numbers base flushes = record { before = number_of base flushes.before; due = flushes.due; after = number_of base flushes.after }

module _ (options : Options) (base : ℕ) where
  -- The shelf has what the machine has for each key, and the flushes of its history.
  pub record Stands (h : History) (shelf : Shelf) : Type 0 where
    pub accepted : IsHistory options h
    pub items : (key : List ℕ) → shelf.items key ≡ option_map item_in (answer_of options h key)
    pub stored : (key : List ℕ) → IfSome (answer_of options h key) (IsStored key)
    pub free : shelf.free ≤ numbered base (length h)
    pub flushes : shelf.flushes ≡ in_numbers base (flushes_in options.hashing options.buckets h)

  pub stands_empty : Stands [] empty
  stands_empty = record {
    accepted = tt;
    items = λ key. ap (option_map item_in) (sym (none_at_first options key));
    stored = λ key. subst (λ o. IfSome o (IsStored key)) (sym (none_at_first options key)) tt;
    free = omega arith;
    flushes = refl;
  }

  -- a command is carried out at the same moment on both
  pub moment_same : (h : History) (flushes : Flushes) (second : ℕ) → flushes ≡ in_numbers base (flushes_in options.hashing options.buckets h) → (shelf : Shelf) → shelf.flushes ≡ flushes
      → at second (numbered base (length h)) shelf ≡ moment_at base (when_after options second h)
  moment_same h flushes second is shelf own = ap moment (own ∙ is) ∙ by (nat_lt second before.due)
    where
      before : Flushes
      before = flushes_in options.hashing options.buckets h

      made : ℕ → ℕ → Moment
      made flushed until = record { second = second; flushed = flushed; unique = numbered base (length h); until = until }

      moment : Flushes → Moment
      moment f = made (flushed_at second f) (waits_at second f)

      by : (b : Bool) → made (cond b (number_of base before.before) (number_of base before.after)) (cond b before.due 0) ≡ made (number_of base (cond b before.before before.after)) (cond b before.due 0)
      by true = refl
      by false = refl
