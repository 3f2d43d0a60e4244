-- How a partition is filled, one write after another.
use Rattle.std.proofs.Common.{◌≡◌, ℕ, ◌+◌, ◌≤◌, Bool, true, false, cond, List, [], ◌∷◌, ◌++◌, take, drop, Some, refl, sym, ap, ◌∙◌, subst, append_assoc, slice_get, eqb, eqb-true, arith}
use Rattle.std.specs.Prelude.{◌≢◌}
use Rattle.std.proofs.lemmas.Bool.{true≢false, eq-eqb}
use Rattle.std.proofs.lemmas.List.{append-nil, take_more, take-append-drop}
use Rattle.std.proofs.lemmas.List.Elements.{filter-append}
use Rattle.std.proofs.lemmas.Option.{slice_get_within, get_or_from_slice_get}
use Rattle.mica_words.specs.Hash.{partition_of}
use Rattle.mica_words.proofs.Hashes.{partition_of-below}
use Rattle.partition_model.specs.declared.options.Options.{Options}
use Rattle.partition_model.specs.declared.write.Write.{Write}
use Rattle.partition_model.specs.declared.write.Outcome.{Outcome}
use Rattle.partition_model.specs.Write.{is_accepted}
use Rattle.partition_model.specs.History.{History, IsHistory, MayGive}
use Rattle.partition_model.proofs.Histories.{history_snoc}
use Rattle.partition_words.specs.declared.state.OwnerState.{OwnerState}
use Rattle.partition_words.specs.OwnerState.{as_made, options_in}
use Rattle.partition_words.specs.OwnerStep.{IsOwnerStep}
use Rattle.partition_words.specs.Shape.{shape_of}
use Rattle.partition_words.proofs.SameMachine.{same_may_give}
use Rattle.locked_server.specs.Filled.{origin_of, RefusesFilling, IsFilledOwner}

module _ (options : Options) (p : ℕ) where
  -- the partition accepted those of these writes that are its own
  pub record FilledBy (writes : List Write) (owner : OwnerState) : Type 0 where
    pub filled : IsFilledOwner options owner
    pub origin : owner.history ≡ origin_of options writes p

  -- what a write may do to the owner of the partition where it is its own, and where it is not
  abbrev Own : Write → OwnerState → OwnerState → Bool → Type 0
  Own write old new kept = partition_of options.hashing write.key options.partitions ≡ p → (outcome : Outcome) × (is_accepted outcome ≡ kept) × IsOwnerStep old new write outcome

  abbrev Other : Write → OwnerState → OwnerState → Bool → Type 0
  Other write old new kept = partition_of options.hashing write.key options.partitions ≢ p → (kept ≡ true) × (new ≡ old)

  pub filled_none : (owner : OwnerState) → owner ≡ as_made (shape_of options) → FilledBy [] owner
  filled_none owner is = subst (FilledBy []) (sym is) (record { filled = record { accepted = tt; state = refl }; origin = refl })

  may_give : (old : OwnerState) (write : Write) (outcome : Outcome) → IsFilledOwner options old → MayGive (options_in old) old.history write outcome → MayGive options old.history write outcome
  may_give old write outcome filled may =
      same_may_give options old.history write outcome (subst (λ (s : OwnerState). MayGive (options_in s) s.history write outcome) filled.state may)

  stepped : (old new : OwnerState) (write : Write) (outcome : Outcome) → IsFilledOwner options old → is_accepted outcome ≡ true → IsOwnerStep old new write outcome
      → IsFilledOwner options new × (new.history ≡ old.history ++ write ∷ [])
  stepped old new write outcome filled accepted step =
      let more : OwnerState = record old { words = new.words; history = old.history ++ write ∷ [] } in
      let gained : new ≡ more = step.gained ∙ ap (λ b. cond b more old) accepted in
      let history : new.history ≡ old.history ++ write ∷ [] = ap (λ (s : OwnerState). s.history) gained in (
        record {
          accepted = subst (IsHistory options) (sym history)
              (history_snoc options old.history write filled.accepted (outcome, accepted, may_give old write outcome filled step.allowed));
          state = gained ∙ (λ i. record (filled.state i) { words = new.words; history = sym history i });
        },
        history,
      )

  own_more : (writes : List Write) (write : Write) (b : Bool) → eqb (partition_of options.hashing write.key options.partitions) p ≡ b
      → origin_of options (writes ++ write ∷ []) p ≡ origin_of options writes p ++ cond b (write ∷ []) []
  own_more writes write b is =
      filter-append (λ w. eqb (partition_of options.hashing w.key options.partitions) p) writes (write ∷ []) ∙ ap (λ c. origin_of options writes p ++ cond c (write ∷ []) []) is

  pub filled_more : (writes : List Write) (write : Write) (old new : OwnerState) → FilledBy writes old → Own write old new true → Other write old new true
      → FilledBy (writes ++ write ∷ []) new
  filled_more writes write old new so_far own other = by (eqb (partition_of options.hashing write.key options.partitions) p) refl
    where
      by : (b : Bool) → eqb (partition_of options.hashing write.key options.partitions) p ≡ b → FilledBy (writes ++ write ∷ []) new
      by true is =
          let step = own (eqb-true (partition_of options.hashing write.key options.partitions) p is) in
          let next = stepped old new write step.0 so_far.filled step.1 step.2 in
          record { filled = next.0; origin = next.1 ∙ ap (λ (h : History). h ++ write ∷ []) so_far.origin ∙ sym (own_more writes write true is) }
      by false is =
          let same = (other (λ e. absurd (true≢false (sym (eq-eqb _ _ e) ∙ is)))).1 in
          record {
            filled = subst (IsFilledOwner options) (sym same) so_far.filled;
            origin = ap (λ (s : OwnerState). s.history) same ∙ so_far.origin ∙ sym (own_more writes write false is ∙ append-nil (origin_of options writes p));
          }

  -- a write that was not done was refused
  pub refuses : (before later : List Write) (write : Write) (all : List Write) (old new : OwnerState) → all ≡ before ++ write ∷ later → FilledBy before old
      → Own write old new false → Other write old new false → RefusesFilling options all
  refuses before later write all old new split so_far own other = by (eqb (partition_of options.hashing write.key options.partitions) p) refl
    where
      by : (b : Bool) → eqb (partition_of options.hashing write.key options.partitions) p ≡ b → RefusesFilling options all
      by true is =
          let here = eqb-true (partition_of options.hashing write.key options.partitions) p is in
          let step = own here in
          let history : old.history ≡ origin_of options before (partition_of options.hashing write.key options.partitions) = so_far.origin ∙ ap (origin_of options before) (sym here) in
          record {
            before = before;
            write = write;
            later = later;
            split = split;
            accepted = subst (IsHistory options) history so_far.filled.accepted;
            outcome = step.0;
            refused = step.1;
            may = subst (λ (h : History). MayGive options h write step.0) history (may_give old write step.0 so_far.filled step.2.allowed);
          }
      by false is = absurd (true≢false (sym (other (λ e. absurd (true≢false (sym (eq-eqb _ _ e) ∙ is)))).0))

-- the first k writes, and one more
pub taken_more : (writes : List Write) (k : ℕ) (write : Write) → slice_get writes k ≡ Some write → take (k + 1) writes ≡ take k writes ++ write ∷ []
taken_more writes k write is =
    take_more writes k write (slice_get_within writes k write is) ∙ ap (λ (w : Write). take k writes ++ w ∷ []) (get_or_from_slice_get writes k write write is)

pub split_at : (writes : List Write) (k : ℕ) (write : Write) → slice_get writes k ≡ Some write → writes ≡ take k writes ++ write ∷ drop (k + 1) writes
split_at writes k write is =
    sym (take-append-drop (k + 1) writes) ∙ ap (λ (l : List Write). l ++ drop (k + 1) writes) (taken_more writes k write is)
    ∙ append_assoc (take k writes) (write ∷ []) (drop (k + 1) writes)

pub none_there : (options : Options) → 1 ≤ options.partitions → (p : ℕ) → options.partitions ≤ p → (writes : List Write) → origin_of options writes p ≡ []
none_there options some p past [] = refl
none_there options some p past (write ∷ writes) = by (eqb (partition_of options.hashing write.key options.partitions) p) refl (none_there options some p past writes)
  where
    by : (b : Bool) → eqb (partition_of options.hashing write.key options.partitions) p ≡ b → origin_of options writes p ≡ [] → cond b (write ∷ origin_of options writes p) (origin_of options writes p) ≡ []
    by true is rest = absurd (omega (arith, eqb-true (partition_of options.hashing write.key options.partitions) p is, partition_of-below options.hashing write.key options.partitions some))
    by false is rest = rest
