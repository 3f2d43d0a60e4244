-- What is named of partitions that were filled.
use Rattle.std.proofs.Common.{◌≡◌, ℕ, ◌<◌, ◌≤◌, List, [], length, slice_get, inl, inr, sym, ap, ◌∙◌, subst, arith}
use Rattle.std.proofs.lemmas.Bool.{cases_lt}
use Rattle.std.proofs.lemmas.Option.{slice_get_past}
use Rattle.list_laws.proofs.Places.{element_at}
use Rattle.partition_model.specs.declared.options.Options.{Options}
use Rattle.partition_model.specs.declared.write.Write.{Write}
use Rattle.partition_model.specs.History.{IsHistory}
use Rattle.turn_book.specs.Entries.{book_view}
use Rattle.locked_server.specs.Filled.{origin_of}
use Rattle.locked_server.proofs.Fills.{none_there}
use Rattle.locked_front.specs.Plan.{Plan}
use Rattle.locked_server.specs.Opening.{FilledView, AreFilled, ArePlanned, book_in, home_in, origin_in, plan_of}

-- each is the plan's of its place
pub of_plan : (options : Options) (fronts : ℕ) (writes : List Write) (all : List FilledView) → AreFilled options writes all → ArePlanned (plan_of options fronts all) 0 all
of_plan options fronts writes all are = record {
  many = are.many;
  each = λ p filled at.
      let it = are.each p filled at in
      record {
        owner = it.owner;
        origin = sym (ap origin_in at);
        home = sym (ap home_in at);
        book = it.book ∙ ap (λ t. book_view t 0 []) (sym (ap book_in at));
        flushes = it.flushes;
      };
}

-- and begins with the writes to its keys
pub origin_is : (options : Options) (fronts : ℕ) (writes : List Write) (all : List FilledView) → 1 ≤ options.partitions → AreFilled options writes all
    → (plan_of options fronts all).origin ≡ origin_of options writes
origin_is options fronts writes all some are = λ i p. at p i
  where
    at : (p : ℕ) → origin_in (slice_get all p) ≡ origin_of options writes p
    at p = elim (cases_lt p (length all)) as (λ _. origin_in (slice_get all p) ≡ origin_of options writes p) [
      | inl low ↦ let o = element_at all p low in ap origin_in o.1 ∙ (are.each p o.0 o.1).origin
      | inr past ↦ ap origin_in (slice_get_past all p past) ∙ sym (none_there options some p (omega (arith, are.many)) writes)
    ]

-- so each has accepted what it begins with
pub accepted : (plan : Plan) (takers : ℕ) (all : List FilledView) → ArePlanned plan takers all → (p : ℕ) → p < plan.options.partitions → IsHistory plan.options (plan.origin p)
accepted plan takers all are p low =
    let o = element_at all p (omega (arith, low, are.many)) in
    let it = are.each p o.0 o.1 in
    subst (IsHistory plan.options) it.origin it.owner.accepted
