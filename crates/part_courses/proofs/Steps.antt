-- Deeds that an answer comes to, and the shelf behind one write more.
use Rattle.std.proofs.Common.{◌≡◌, ◌≢◌, ◌≤◌, ◌<◌, ◌+◌, ◌^◌, ℕ, suc, Bool, true, false, cond, List, [], ◌∷◌, ◌++◌, length, option_map, bytes_eq, refl, sym, ap, subst, ◌∙◌, length-append, arith}
use Rattle.std.specs.Prelude.{IfSome}
use Rattle.std.proofs.lemmas.Bool.{true≢false}
use Rattle.std.proofs.lemmas.Slice.Eq.{bytes_eq-Decides}
use Rattle.partition_model.specs.declared.options.Options.{Options}
use Rattle.partition_model.specs.declared.options.Mode.TheVariants.{Store}
use Rattle.partition_model.specs.declared.write.Write.{Write}
use Rattle.partition_model.specs.declared.write.Outcome.{Outcome}
use Rattle.partition_model.specs.Write.{is_accepted}
use Rattle.partition_model.specs.History.{History, MayGive, answer_of}
use Rattle.partition_model.proofs.Histories.{history_snoc, within_wear}
use Rattle.memcached_text.specs.Item.{item_in}
use Rattle.fronts.specs.Flushes.{is_flush, flush_in, flushes_then, flushes_in}
use Rattle.fronts.proofs.FlushLaws.{flushes_push}
use Rattle.memcached_decisions.specs.Numbered.{numbered}
use Rattle.memcached_page.specs.Shelf.{Shelf}
use Rattle.memcached_page.specs.Course.{Deed, after, IsDeed}
use Rattle.part_courses.proofs.Values.{other_is}
use Rattle.part_courses.proofs.Shelves.{IsStored, in_numbers, Stands}

-- Deeds, one behind another

abbrev pub Steps : Shelf → List Deed → Type 0
Steps shelf [] = Unit {0}
Steps shelf (deed ∷ later) = IsDeed Store shelf deed × Steps (after deed shelf) later

abbrev pub left_by : Shelf → List Deed → Shelf
left_by shelf [] = shelf
left_by shelf (deed ∷ later) = left_by (after deed shelf) later

-- A part of a store before an answer, with its shelf. Its numbers do not come to 62 bits.
pub record Begun (options : Options) (base : ℕ) (h : History) (shelf : Shelf) : Type 0 where
  pub is_store : options.mode ≡ Store
  pub small : base + options.wear < 2 ^ 62
  pub stands : Stands options base h shelf

-- what an answer came to
pub record One (options : Options) (base : ℕ) (shelf : Shelf) (then_h : History) (deeds : List Deed) : Type 0 where
  pub steps : Steps shelf deeds
  pub stands_then : Stands options base then_h (left_by shelf deeds)

-- Behind one write more, where the shelf has what its key has then, and the rest as before.
pub record Next (options : Options) (base : ℕ) (h : History) (shelf : Shelf) (write : Write) (outcome : Outcome) (next : Shelf) : Type 0 where
  pub may : MayGive options h write outcome
  pub on : is_accepted outcome ≡ true
  pub own : next.items write.key ≡ option_map item_in (answer_of options (h ++ write ∷ []) write.key)
  pub others : (key : List ℕ) → key ≢ write.key → next.items key ≡ shelf.items key
  pub stored : IfSome (answer_of options (h ++ write ∷ []) write.key) (IsStored write.key)
  pub free : next.free ≤ numbered base (suc (length h))
  pub flushes : next.flushes ≡ in_numbers base (flushes_in options.hashing options.buckets (h ++ write ∷ []))

module _ {options : Options} {base : ℕ} {h : History} {shelf : Shelf} (g : Begun options base h shelf) where
  abbrev n : ℕ
  n = length h

  -- numbers last for one write more
  pub below_next : (write : Write) (outcome : Outcome) → MayGive options h write outcome → is_accepted outcome ≡ true → base + suc n < 2 ^ 62
  below_next write outcome may on =
      let most = within_wear options (h ++ write ∷ []) (history_snoc options h write g.stands.accepted (outcome, on, may)) in
      let sum = length-append h (write ∷ []) in
      omega (arith, most, sum, g.small)

  one_more : (write : Write) → length (h ++ write ∷ []) ≡ suc n
  one_more write = let sum = length-append h (write ∷ []) in omega (arith, sum)

  pub stands_next : (write : Write) (outcome : Outcome) (next : Shelf) → Next options base h shelf write outcome next → Stands options base (h ++ write ∷ []) next
  stands_next write outcome next is = record {
    accepted = history_snoc options h write g.stands.accepted (outcome, is.on, is.may);
    items = λ key. by_key (λ k. next.items k ≡ option_map item_in (answer_of options (h ++ write ∷ []) k)) is.own
        (λ k differ. is.others k differ ∙ g.stands.items k ∙ ap (option_map item_in) (sym (other_is options g.is_store h write k differ))) key;
    stored = λ key. by_key (λ k. IfSome (answer_of options (h ++ write ∷ []) k) (IsStored k)) is.stored
        (λ k differ. subst (λ o. IfSome o (IsStored k)) (sym (other_is options g.is_store h write k differ)) (g.stands.stored k)) key;
    free = subst (λ m. next.free ≤ numbered base m) (sym (one_more write)) is.free;
    flushes = is.flushes;
  }
    where
      by_key : (P : List ℕ → Type 0) → P write.key → ((k : List ℕ) → k ≢ write.key → P k) → (key : List ℕ) → P key
      by_key P own others key = by (bytes_eq key write.key) refl
        where
          by : (b : Bool) → bytes_eq key write.key ≡ b → P key
          by true same = subst P (sym ((bytes_eq-Decides key write.key).0 same)) own
          by false differ = others key (λ e. true≢false (sym ((bytes_eq-Decides key write.key).1 e) ∙ differ))

  pub same_flushes : (write : Write) → is_flush options.hashing options.buckets write ≡ false → in_numbers base (flushes_in options.hashing options.buckets h) ≡ in_numbers base (flushes_in options.hashing options.buckets (h ++ write ∷ []))
  same_flushes write off = ap (in_numbers base) (sym (flushes_push options.hashing options.buckets h write ∙ ap (λ b. cond b (flushes_then (suc (length h)) (flush_in write.key) (flushes_in options.hashing options.buckets h)) (flushes_in options.hashing options.buckets h)) off))
