-- What is only said to hold of an acknowledgement holds of it, since its cut can be found.
use Rattle.std.proofs.Common.{◌≡◌, ◌≢◌, ℕ, zero, suc, ◌+◌, ◌-◌, ◌<◌, ◌≤◌, ◌⊎◌, inl, inr, [], ◌∷◌, ◌++◌, length, length-append, take, drop, take-append-drop, Bool, true, false, Option, Some, None, refl, sym, ap, ◌∙◌, subst, arith, take_at, drop_at, IsSomeAnd, leb, leb-true, leb-false}
use Rattle.std.proofs.Math.Logic.{∥∥₁_elim}
use Rattle.std.proofs.Props.{props}
use Rattle.std.specs.FinMap.{get}
use mathlib.Core.Logic.{dite}
use native.Mathlib.Decide.{ℕ_discrete}
use Rattle.partition_model.specs.declared.options.Options.{Options}
use Rattle.partition_model.specs.declared.write.Op.{Op}
use Rattle.partition_model.specs.declared.write.Op.TheVariants.{Put, Add, Touch, Del}
use Rattle.partition_model.specs.declared.write.Write.{Write}
use Rattle.partition_model.specs.declared.write.Outcome.{Outcome}
use Rattle.partition_model.specs.declared.write.Outcome.TheVariants.{Stored, Deleted, Absent, Touched, FullSpare, FullBlock, Worn, Exists}
use Rattle.partition_model.specs.Write.{GivesValue, Replaces, is_accepted, size_of}
use Rattle.partition_model.specs.Store.{Cell, Store}
use Rattle.partition_model.specs.StoreStep as ss
use Rattle.partition_model.specs.History.{History, State, cache_state, store_state, IsCut, MayGive, Allows, state_of, stamp_of}
use Rattle.partition_model.specs.ReplyAt.{IsReplyAt}
use Rattle.partition_model.proofs.Rises.{one_cut}
use Rattle.partition_words.specs.Shape.{options_of}
use Rattle.partition_words.specs.declared.reader.ReaderState.{ReaderState}
use Rattle.owner_queue.specs.Acked.{IsAcked}

-- the first number below n at which f is 0, or none
search_below : (f : ℕ → ℕ) (n : ℕ) → ((k : ℕ) × (k < n) × (f k ≡ 0)) ⊎ ((k : ℕ) → k < n → f k ≢ 0)
search_below f zero = inr (λ k l. absurd (omega arith))
search_below f (suc n) = elim (search_below f n) [
  | inl found ↦ inl (found.0, (let less = found.1 in omega arith), found.2)
  | inr none ↦ dite (ℕ_discrete (f n) 0)
      (λ is. inl (n, omega arith, is))
      (λ differs. inr (λ k l. dite (ℕ_discrete k n) (λ same is. differs (ap f (sym same) ∙ is)) (λ other. none k (omega arith))))
]

number_from : (x c : ℕ) → (x - c) + (c - x) ≡ 0 → x ≡ c
number_from x c e = omega arith

-- Outcomes that may be given

gives_once : (op : Op) → IsProp (GivesValue op)
gives_once Put = hlevel props
gives_once Add = hlevel props
gives_once Touch = hlevel props
gives_once Del = hlevel props

-- whether an operation replaces a value can be seen of it, and of an add it is known that its key has none
stores_whole : (op : Op) (o : Option Cell) → ∥ GivesValue op × (Replaces op ⊎ (o ≡ None)) ∥₁ → GivesValue op × (Replaces op ⊎ (o ≡ None))
stores_whole Put o has = (tt, inl tt)
stores_whole Add o has = (tt, inr (∥∥₁_elim has (hlevel props) (λ a. elim a.1 as (λ _. o ≡ None) [ inl replaces ↦ absurd replaces | inr none ↦ none ])))
stores_whole Touch o has = absurd (∥∥₁_elim has (hlevel props) (λ a. a.0))
stores_whole Del o has = absurd (∥∥₁_elim has (hlevel props) (λ a. a.0))

module _ (options : Options) (s : Store) (write : Write) where
  fits_or_not : (o : Option Cell) → (IsSomeAnd o (λ cell. size_of write ≤ cell.room)) ⊎ ¬ (IsSomeAnd o (λ cell. size_of write ≤ cell.room))
  fits_or_not None = inr (λ fits. fits)
  fits_or_not (Some cell) = elim (leb (size_of write) cell.room) as (λ b. leb (size_of write) cell.room ≡ b → (size_of write ≤ cell.room) ⊎ ¬ (size_of write ≤ cell.room)) [
    | true ↦ λ e. inl (leb-true (size_of write) cell.room e)
    | false ↦ λ e. inr (λ le. let over = leb-false (size_of write) cell.room e in omega arith)
  ] refl

  stored_whole : ∥ ss.Allows options s write Stored ∥₁ → ss.Allows options s write Stored
  stored_whole has = (
    ∥∥₁_elim has (hlevel props) (λ a. a.0),
    (
      stores,
      elim (fits_or_not (get s.cells write.key)) as (λ _. ss.FitsRoom s write ⊎ (ss.NeedsBlock options s write × ss.HasWords options s write)) [
        | inl fits ↦ inl fits
        | inr not_fits ↦ inr (
          (record { stores = stores; no_room = not_fits; has_spare = ∥∥₁_elim has (hlevel props) (λ a. elim a.1.1 as (λ _. ¬ (ss.NeedsSpare options s write.key)) [ inl fits ↦ absurd (not_fits fits) | inr block ↦ block.0.has_spare ]) }),
          ∥∥₁_elim has (hlevel props) (λ a. elim a.1.1 as (λ _. ss.HasWords options s write) [ inl fits ↦ absurd (not_fits fits) | inr block ↦ block.1 ]),
        )
      ],
    ),
  )
    where
      stores : ss.Stores s write
      stores = stores_whole write.op (get s.cells write.key) (∥∥₁_elim has (hlevel props) (λ a. ∣ a.1.0 ∣₁))

  allows_whole : (outcome : Outcome) → ∥ ss.Allows options s write outcome ∥₁ → ss.Allows options s write outcome
  allows_whole Stored has = stored_whole has
  allows_whole Deleted has = (∥∥₁_elim has (hlevel props) (λ a. a.0), ∥∥₁_elim has (hlevel props) (λ a. a.1))
  allows_whole Touched has = (∥∥₁_elim has (hlevel props) (λ a. a.0), ∥∥₁_elim has (hlevel props) (λ a. a.1))
  allows_whole Exists has = (∥∥₁_elim has (hlevel props) (λ a. a.0), ∥∥₁_elim has (hlevel props) (λ a. a.1))
  allows_whole Absent has = (∥∥₁_elim has (hlevel props) (λ a. a.0), ∥∥₁_elim has (hlevel props) (λ a. a.1))
  allows_whole FullSpare has = (∥∥₁_elim has (hlevel props) (λ a. a.0), (∥∥₁_elim has (gives_once write.op) (λ a. a.1.0), ∥∥₁_elim has (hlevel props) (λ a. a.1.1)))
  allows_whole FullBlock has = (
    ∥∥₁_elim has (hlevel props) (λ a. a.0),
    (
      record {
        stores = stores_whole write.op (get s.cells write.key) (∥∥₁_elim has (hlevel props) (λ a. ∣ a.1.0.stores ∣₁));
        no_room = ∥∥₁_elim has (hlevel props) (λ a. a.1.0.no_room);
        has_spare = ∥∥₁_elim has (hlevel props) (λ a. a.1.0.has_spare);
      },
      ∥∥₁_elim has (hlevel props) (λ a. a.1.1),
    ),
  )
  allows_whole Worn has = ∥∥₁_elim has (hlevel props) (λ a. a)

may_in : (options : Options) (now : State) (write : Write) (outcome : Outcome) → ∥ Allows options now write outcome ∥₁ → Allows options now write outcome
may_in options (cache_state s) write outcome has = ∥∥₁_elim has (hlevel props) (λ a. a)
may_in options (store_state s) write outcome has = allows_whole options s write outcome has

last_before : (before : History) (write : Write) → take (length (before ++ write ∷ []) - 1) (before ++ write ∷ []) ≡ before
last_before before write = take_at before (write ∷ []) (length (before ++ write ∷ []) - 1) (let more = length-append before (write ∷ []) in omega arith)

reply_at : (b : Bool) (options : Options) (cut : History) (write : Write) (outcome : Outcome) → ∥ IsReplyAt b options cut write outcome ∥₁ → IsReplyAt b options cut write outcome
reply_at true options cut write outcome has = (
  take (length cut - 1) cut,
  ∥∥₁_elim has (hlevel props) (λ a. a.1 ∙ ap (λ h. h ++ write ∷ []) (sym (front a.0 a.1))),
  may_in options (state_of options (take (length cut - 1) cut)) write outcome
      (∥∥₁_elim has (hlevel props) (λ a. ∣ subst (λ (h : History). MayGive options h write outcome) (sym (front a.0 a.1)) a.2 ∣₁)),
)
  where
    front : (before : History) → cut ≡ before ++ write ∷ [] → take (length cut - 1) cut ≡ before
    front before is = ap (λ h. take (length h - 1) h) is ∙ last_before before write
reply_at false options cut write outcome has = may_in options (state_of options cut) write outcome has

pub acked_whole : (note : ReaderState) (write : Write) (outcome : Outcome) (stamp : ℕ) → ∥ IsAcked note write outcome stamp ∥₁ → IsAcked note write outcome stamp
acked_whole note write outcome stamp has =
    elim (search_below (λ k. (stamp_of (options_of note.shape) (take k note.seen) - stamp) + (stamp - stamp_of (options_of note.shape) (take k note.seen))) (suc (length note.seen)))
    as (λ _. IsAcked note write outcome stamp) [
      | inl found ↦ at (take found.0 note.seen) (record { begins = (drop found.0 note.seen, sym (take-append-drop found.0 note.seen)); stamped = number_from _ _ found.2 })
      | inr none ↦ absurd (∥∥₁_elim has (hlevel props) (λ a.
          let is : take (length a.cut) note.seen ≡ a.cut = ap (take (length a.cut)) a.is_cut.begins.1 ∙ take_at a.cut a.is_cut.begins.0 (length a.cut) refl in
          let long = ap length a.is_cut.begins.1 ∙ length-append a.cut a.is_cut.begins.0 in
          let stamped : stamp_of (options_of note.shape) (take (length a.cut) note.seen) ≡ stamp = ap (stamp_of (options_of note.shape)) is ∙ a.is_cut.stamped in
          none (length a.cut) (omega arith) (omega arith)))
    ]
  where
    at : (cut : History) → IsCut (options_of note.shape) note.seen stamp cut → IsAcked note write outcome stamp
    at cut is_cut = record {
      cut = cut;
      is_cut = is_cut;
      ended = (
        drop (length cut) note.done,
        ∥∥₁_elim has (hlevel props) (λ a.
            let same : a.cut ≡ cut = one_cut (options_of note.shape) note.seen stamp a.cut cut a.is_cut is_cut in
            let begins : note.done ≡ cut ++ a.ended.0 = a.ended.1 ∙ ap (λ h. h ++ a.ended.0) same in
            begins ∙ ap (λ h. cut ++ h) (sym (ap (drop (length cut)) begins ∙ drop_at cut a.ended.0 (length cut) refl))),
      );
      reply = reply_at (is_accepted outcome) (options_of note.shape) cut write outcome (∥∥₁_elim has (hlevel props) (λ a.
          ∣ subst (λ (h : History). IsReplyAt (is_accepted outcome) (options_of note.shape) h write outcome) (one_cut (options_of note.shape) note.seen stamp a.cut cut a.is_cut is_cut) a.reply ∣₁));
    }
