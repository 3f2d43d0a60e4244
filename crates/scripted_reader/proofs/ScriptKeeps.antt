-- Each step of a script keeps the rule of the one-word table whose seat has a book.
use Rattle.partition_words.proofs.Vocabulary.{CanPlay, IsAllowed, IsPossibleShape, Kept, List, ReaderKept}
use Rattle.partition_words.proofs.Vocabulary.{[], after, ap, append-nil, append_assoc, arith, as_made, drop, drop-cons, get_or, length}
use Rattle.partition_words.proofs.Vocabulary.{map, newcomer, owner_event, plays, refl, suc, sym, ℕ, ◌++◌, ◌+◌, ◌<◌, ◌^◌, ◌∙◌, ◌∷◌, ◌≡◌}
use Rattle.partition_words.specs.declared.event.Event.{Event}
use Rattle.partition_words.specs.declared.event.Event.TheVariants.{Begins, Ends}
use Rattle.partition_words.specs.declared.reader.ReaderState.{ReaderState}
use Rattle.partition_words.specs.declared.reading.Plan.{Plan}
use Rattle.partition_words.specs.declared.shape.Shape.{Shape}
use Rattle.partition_words.specs.declared.state.OwnerState.{OwnerState}
use Rattle.std.proofs.lemmas.Grind.{common_steps}
use mathlib.Core.Option.{none}
use Rattle.atomic_table.specs.Table.{Allows, keeps, opening, step}
use Rattle.partition_words.specs.declared.event.OwnerEvent.{OwnerEvent}
use Rattle.partition_words.specs.declared.plain.Script.{Script}
use Rattle.scripted_reader.specs.declared.scripted.Book.{Book}
use Rattle.scripted_reader.specs.declared.scripted.Look.{Look}
use Rattle.scripted_reader.specs.declared.scripted.Look.TheVariants.{FirstEpoch, LastEpoch, Stamp, Word}
use Rattle.partition_words.proofs.Made.{kept_as_made}
use Rattle.partition_words.proofs.Marked.{ends_main}
use Rattle.partition_words.proofs.Keeps.{kept_after}
use Rattle.partition_words.proofs.Inside.{epoch_small, event_inside}
use Rattle.partition_words.proofs.Growing.{grows, reader_grows}
use Rattle.partition_words.proofs.LoadKeeps.{loads, opens, shuts, stamps}
use Rattle.partition_words.proofs.JoinKeeps.{lends}
use Rattle.partition_words.proofs.DiaryKeeps.{one_fits, plays_more, set_fit}
use Rattle.scripted_reader.specs.Script.{AllFit, BookFits, IsTime, MayLook, Reading, first_event, look_at, look_next, looked, next_owner, opening_book}
use Rattle.partition_words.specs.Plan.{owner_at}
use Rattle.scripted_reader.specs.Script.{owner_place, owner_sum, plan_of, play_next, played, reads_on, later_events}

next_fits : (b : Book) → BookFits b → BookFits (play_next b)
next_fits b f = by_rest b.rest f.script f.rest
  where
    by_rest : (rest : List Event) → b.played ++ rest ≡ b.plan.events → CanPlay rest b.owner
        → BookFits (record b { owner = next_owner rest b.owner; played = b.played ++ first_event rest; rest = later_events rest })
    by_rest [] script can = record {
      owner = f.owner;
      reader = f.reader;
      script = ap (λ (z : List Event). z ++ []) (append-nil b.played) ∙ script;
      played = f.played ∙ ap (λ (z : List Event). plays z (as_made b.plan.shape)) (sym (append-nil b.played));
      rest = tt;
      looks = f.looks;
    }
    by_rest (e ∷ es) script can = record {
      owner = kept_after b.owner f.owner e can.0;
      reader = reader_grows b.owner (after e b.owner) (grows b.owner f.owner e can.0) b.reader f.reader;
      script = append_assoc b.played (e ∷ []) es ∙ script;
      played = ap (after e) f.played ∙ sym (plays_more b.played e (as_made b.plan.shape));
      rest = can.1;
      looks = f.looks;
    }

look_fits : (look : Look) (o : OwnerState) (r : ReaderState) → Kept o → ReaderKept o r → MayLook look r → ReaderKept o (look_at look o r)
look_fits (FirstEpoch b) o r s k may = opens o s r k b may
look_fits (Word place) o r s k may = loads o s r k place
look_fits Stamp o r s k may = stamps o s r k
look_fits (LastEpoch b) o r s k may = shuts o s r k b may

pub more_loads : (look : Look) (o : OwnerState) (r : ReaderState) → (look_at look o r).loads ≡ r.loads + 1
more_loads (FirstEpoch b) o r = refl
more_loads look o r = refl

-- The numbers of the loads

loads_on : (plan : Plan) (n : ℕ) (looks : List Look) (r : ReaderState) → (reads_on plan n looks r).loads ≡ r.loads + length looks
loads_on plan n [] r = omega arith
loads_on plan n (look ∷ looks) r = grind (arith, common_steps, loads_on plan (n + 1) looks (look_at look (owner_at plan (n + 1)) r))

pub loads_counted : (b : Book) → BookFits b → b.reader.loads ≡ length b.looks
loads_counted b f = omega (arith, loads_on b.plan 0 b.looks (newcomer b.plan.shape [] []), ap (λ (z : ReaderState). z.loads) f.looks)

reads_more : (plan : Plan) (n : ℕ) (looks : List Look) (look : Look) (r : ReaderState)
    → reads_on plan n (looks ++ look ∷ []) r ≡ look_at look (owner_at plan (n + length looks + 1)) (reads_on plan n looks r)
reads_more plan n [] look r = ap (λ (z : ℕ). look_at look (owner_at plan z) r) (omega arith)
reads_more plan n (l ∷ looks) look r = grind (arith, common_steps, reads_more plan (n + 1) looks look)

-- the owner of the book is the plan's at the next load
pub owner_then : (b : Book) → BookFits b → IsTime b → b.owner ≡ owner_at b.plan (b.reader.loads + 1)
owner_then b f time = grind (arith, common_steps)

book_looks : (look : Look) (b : Book) → BookFits b → MayLook look b.reader → IsTime b → BookFits (look_next look b)
book_looks look b f may time = let count = loads_counted b f in let number : b.reader.loads + 1 ≡ 0 + length b.looks + 1 = omega arith in record {
  owner = f.owner;
  reader = look_fits look b.owner b.reader f.owner f.reader may;
  script = f.script;
  played = f.played;
  rest = f.rest;
  looks = grind (arith, common_steps, owner_then b f time, reads_more b.plan 0 b.looks look (newcomer b.plan.shape [] []));
}

module _ (script : Script) where
  abbrev Fit : Book → Type 0
  Fit b = (b.plan ≡ plan_of script) × BookFits b

  module _ (slots id : ℕ) (me : Reading) where
    pub plays_at : (i n : ℕ) → Allows (AllFit script) slots id me i (λ _. n) (λ _. played (step slots i n 0 none) me n)
    plays_at i n s all _ at _ =
        let f = all id me.0 at in
        (play_next me.0, keeps, tt, set_fit Fit s.views id (play_next me.0) (f.0, next_fits me.0 f.1) all, (refl, f.1))

    pub looks_at : (look : Look) (i n : ℕ) → MayLook look me.0.reader → IsTime me.0
        → Allows (AllFit script) slots id me i (λ _. n) (λ _. looked look (step slots i n 0 none) me n)
    looks_at look i n may time s all _ at _ =
        let f = all id me.0 at in
        let fits = book_looks look me.0 f.1 may time in
        (look_next look me.0, keeps, tt, set_fit Fit s.views id (look_next look me.0) (f.0, fits) all, (refl, f.1, fits))

  pub starts : (words : List ℕ) → IsPossibleShape script.shape → CanPlay script.token.me.0.kept (as_made script.shape)
      → AllFit script (opening words [] (opening_book (plan_of script)))
  starts words valid can =
      let s = kept_as_made script.shape valid in
      one_fits Fit (opening_book (plan_of script))
      (refl, record { owner = s; reader = lends (as_made script.shape) s; script = refl; played = refl; rest = can; looks = refl })

-- the next event of a script, by what is in memory of it

abbrev Fits : OwnerEvent → Shape → List ℕ → Type 0
Fits x shape items = (owner_place shape x < length items) × (owner_sum x (get_or items (owner_place shape x) 0) < 2 ^ 64)

event_fits : (e : Event) (o : OwnerState) → Kept o → IsAllowed e o → Fits (owner_event e) o.shape o.words
event_fits (Begins b) o s a = (event_inside o s (Begins b) a, epoch_small o s b a.main)
event_fits (Ends b) o s a = (event_inside o s (Ends b) a, epoch_small o s b (ends_main o s o.phase refl b a.marked))
event_fits e o s a = (event_inside o s e a, omega arith)

head_fits : (rest : List Event) (xs : List OwnerEvent) (x : OwnerEvent) (o : OwnerState) → x ∷ xs ≡ map owner_event rest → Kept o → CanPlay rest o → Fits x o.shape o.words
head_fits [] xs x o is s can = absurd (cc is)
head_fits (e ∷ es) xs x o is s can = grind (arith, common_steps, event_fits e o s can.0)

pub next_fits_memory : (b : Book) (events : List OwnerEvent) (done : ℕ) (x : OwnerEvent) (shape : Shape) (items : List ℕ) → drop done events ≡ map owner_event b.rest → done < length events
    → x ≡ get_or events done x → BookFits b → b.owner.shape ≡ shape → items ≡ b.owner.words → Fits x shape items
next_fits_memory b events done x shape items is l at f same words =
    grind (arith, common_steps, drop done events, drop (suc done) events, drop-cons events done x l, head_fits b.rest (drop (suc done) events) x b.owner)
