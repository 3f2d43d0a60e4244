-- What is kept of calls: what lies there stays as it is where more follows.
use Rattle.std.proofs.Common.{◌≡◌, ℕ, ◌+◌, ◌<◌, ◌≤◌, Bool, true, false, cond, eqb, List, [], ◌∷◌, ◌++◌, length, refl, sym, ap, ◌∙◌, arith}
use Rattle.std.specs.Prelude.{slice_range, map, reverse, take, get_or}
use Rattle.std.specs.List.{All, AllByRecursion}
use Rattle.std.proofs.lemmas.List.{append-nil, map-append, reverse-append, take_more}
use Rattle.std.proofs.lemmas.List.Elements.{recursion_from_All}
use Rattle.std.proofs.lemmas.Grind.{common_steps}
use Rattle.memory_connections.specs.declared.memory_log.Note.{Note}
use Rattle.memory_connections.specs.declared.memory_log.Note.TheVariants.{Opened, Reported, TurnedAway, Met, Second, Received, Asked, Closed}
use Rattle.memory_connections.specs.declared.memory_log.Mark.{Mark}
use Rattle.memory_connections.specs.declared.memory_log.Mark.TheVariants.{Noted, Sent}
use Rattle.connections.specs.State.{Entry, opened, reported, turned_away, met, second, received, sent, asked, closed}
use Rattle.connections.specs.Log.{sent_of}
use Rattle.memory_connections.specs.MemoryLog.{noted, entry_in, entries_in, IsWithin}

same_range : (bytes more : List ℕ) (from to : ℕ) → from ≤ to → to ≤ length bytes → slice_range (bytes ++ more) from to ≡ slice_range bytes from to
same_range bytes more from to order within = grind (arith, common_steps)

last_range : (bytes more : List ℕ) (to : ℕ) → to ≡ length (bytes ++ more) → slice_range (bytes ++ more) (length bytes) to ≡ more
last_range bytes more to is = grind (arith, common_steps)

same_entry : (bytes more : List ℕ) (mark : Mark) → IsWithin (length bytes) mark → entry_in (bytes ++ more) mark ≡ entry_in bytes mark
same_entry bytes more (Noted note) within = refl
same_entry bytes more (Sent c from to) within = ap (sent c) (same_range bytes more from to within.0 within.1)

kept : (bytes more : List ℕ) (marks : List Mark) → AllByRecursion (IsWithin (length bytes)) marks → map (entry_in (bytes ++ more)) marks ≡ map (entry_in bytes) marks
kept bytes more [] all = refl
kept bytes more (mark ∷ marks) all =
    ap (λ e. e ∷ map (entry_in (bytes ++ more)) marks) (same_entry bytes more mark all.0) ∙ ap (λ es. entry_in bytes mark ∷ es) (kept bytes more marks all.1)

-- one entry more
pub entries_more : (bytes : List ℕ) (marks : List Mark) (mark : Mark) → entries_in bytes (marks ++ mark ∷ []) ≡ entry_in bytes mark ∷ entries_in bytes marks
entries_more bytes marks mark =
    ap reverse (map-append (entry_in bytes) marks (mark ∷ [])) ∙ reverse-append (map (entry_in bytes) marks) (entry_in bytes mark ∷ [])

-- one entry more, and the bytes that were sent
pub sent_more : (bytes more : List ℕ) (marks : List Mark) (c from to : ℕ) → All (IsWithin (length bytes)) marks → from ≡ length bytes → to ≡ length (bytes ++ more)
    → entries_in (bytes ++ more) (marks ++ Sent c from to ∷ []) ≡ sent c more ∷ entries_in bytes marks
sent_more bytes more marks c from to all from_is to_is =
    entries_more (bytes ++ more) marks (Sent c from to)
    ∙ ap (λ (b : List ℕ). sent c b ∷ entries_in (bytes ++ more) marks) (ap (λ f. slice_range (bytes ++ more) f to) from_is ∙ last_range bytes more to to_is)
    ∙ ap (λ (es : List Entry). sent c more ∷ reverse es) (kept bytes more marks (recursion_from_All _ marks all))

-- an entry adds what was sent by it
sent_one : (c : ℕ) (entry : Entry) (entries : List Entry) → sent_of c (entry ∷ entries) ≡ sent_of c entries ++ sent_of c (entry ∷ [])
sent_one c (opened number) entries = sym (append-nil (sent_of c entries))
sent_one c (reported number) entries = sym (append-nil (sent_of c entries))
sent_one c turned_away entries = sym (append-nil (sent_of c entries))
sent_one c met entries = sym (append-nil (sent_of c entries))
sent_one c (second s) entries = sym (append-nil (sent_of c entries))
sent_one c (received d bytes) entries = sym (append-nil (sent_of c entries))
sent_one c (sent d bytes) entries = by (eqb d c)
  where
    by : (b : Bool) → cond b (sent_of c entries ++ bytes) (sent_of c entries) ≡ sent_of c entries ++ cond b bytes []
    by true = refl
    by false = sym (append-nil (sent_of c entries))
sent_one c (asked d) entries = sym (append-nil (sent_of c entries))
sent_one c (closed d) entries = sym (append-nil (sent_of c entries))

-- what was sent by one mark more
pub sent_on : (c : ℕ) (bytes : List ℕ) (marks : List Mark) (i : ℕ) (d : Mark) → i < length marks
    → sent_of c (entries_in bytes (take (i + 1) marks)) ≡ sent_of c (entries_in bytes (take i marks)) ++ sent_of c (entry_in bytes (get_or marks i d) ∷ [])
sent_on c bytes marks i d there =
    ap (λ m. sent_of c (entries_in bytes m)) (take_more marks i d there) ∙ ap (sent_of c) (entries_more bytes (take i marks) (get_or marks i d))
    ∙ sent_one c (entry_in bytes (get_or marks i d)) (entries_in bytes (take i marks))

-- a note keeps nothing that was sent
pub none_noted : (c : ℕ) (note : Note) → [] ≡ sent_of c (noted note ∷ [])
none_noted c (Opened number) = refl
none_noted c (Reported number) = refl
none_noted c TurnedAway = refl
none_noted c Met = refl
none_noted c (Second s) = refl
none_noted c (Received d bytes) = refl
none_noted c (Asked d) = refl
none_noted c (Closed d) = refl
