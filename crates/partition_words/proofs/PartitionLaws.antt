-- Laws of a partition, in either mode: what it knows between two writes, and of a write that the machine accepts.
use Rattle.partition_words.proofs.Vocabulary.{AreBytes, Begins, Cell, Ends, Has, HasKey, Idle, IsBucket, IsMain, IsOffset, IsWrite, Kept, List, Marked}
use Rattle.partition_words.proofs.Vocabulary.{Marks, MayBegin, MayEnd, MayGive, MayMark, Options, Outcome, OwnerState, Phase, Spells, SpellsItem}
use Rattle.partition_words.proofs.Vocabulary.{StandsFor, State, Worn, Write, [], accepted_is_length, add-zero, after, ap, arith, as_made, bucket_in}
use Rattle.partition_words.proofs.Vocabulary.{cache_state, cases_Bool, entry_at, entry_in, entry_offset, entry_tag, epoch_at, false, get_or}
use Rattle.partition_words.proofs.Vocabulary.{is_accepted, item_at, item_in, le-leb, length, link_at, link_in, marked_in, options_in, plays}
use Rattle.partition_words.proofs.Vocabulary.{puts_from, refl, room_in, stamp_at, stamp_in, stamp_of, state_in, state_snoc, store_state, subst, sym}
use Rattle.partition_words.proofs.Vocabulary.{tag_of, true, true≢false, word_count, ℕ, ◌++◌, ◌+◌, ◌<◌, ◌∙◌, ◌∷◌, ◌≡◌, ◌≢◌, ◌≤◌, ◌⊎◌}
use Rattle.std.specs.Str.{bytes_eq}
use Rattle.std.proofs.lemmas.Slice.Eq.{bytes_eq-Decides}
use Rattle.std.proofs.lemmas.Grind.{common_steps}
use Rattle.partition_model.specs.CacheStep as cs
use Rattle.partition_model.specs.History.{Allows, accepted_in, after as state_after}
use Rattle.partition_words.specs.OwnerStep.{IsOwnerStep}
use Rattle.partition_words.proofs.Carried.{changed, spells_there}
use Rattle.partition_words.proofs.EventWords.{other, stamp_marks}
use Rattle.partition_words.proofs.Inside.{some_words}
use Rattle.partition_words.proofs.Keeps.{kept_after}
use Rattle.partition_words.proofs.Keys.{has_its_key, has_no_other}
pub use Rattle.partition_words.proofs.Keys.{item_room}
use Rattle.partition_words.proofs.Machine.{has_fits}
use Rattle.partition_words.proofs.Made.{no_stamp_yet}
pub use Rattle.partition_words.proofs.Machine.{same_cell}
pub use Rattle.partition_words.proofs.Marked.{main_of}
use Rattle.partition_words.proofs.Marked.{bit_same}
use Rattle.partition_words.proofs.Places.{no_item}
use Rattle.partition_words.proofs.Puts.{PutsWords, puts_words}

-- two keys are one, or not
pub same_or_other : (key key' : List ℕ) → (key ≡ key') ⊎ (key ≢ key')
same_or_other key key' = grind (arith, common_steps, cases_Bool (bytes_eq key key'), bytes_eq-Decides key key', true≢false)

-- no stamp was given yet
pub new_stamp : (o : OwnerState) → o ≡ as_made o.shape → 0 ≡ stamp_of (options_in o) o.history
new_stamp o made = sym (ap (λ (z : OwnerState). stamp_of (options_in o) z.history) made ∙ no_stamp_yet o.shape.mode)

-- Between two writes

module _ (o : OwnerState) (s : Kept o) where
  pub stands_idle : o.phase ≡ Idle → (c : ℕ) → IsMain o.shape c → StandsFor o c
  stands_idle idle c l = s.state c l (ap (λ (z : Phase). marked_in z c) idle)

  -- one key is spelt at an offset
  pub only_key : (c c' x x' : ℕ) (key key' : List ℕ) (cell cell' : Cell) → Spells o c x key cell → Spells o c' x' key' cell'
      → entry_offset x ≡ entry_offset x' → key ≡ key'
  only_key c c' x x' key key' cell cell' sp sp' same =
      let fits = has_fits (options_in o) o.history s.history.writes key' cell' (entry_offset x') sp'.has in
      has_no_other o s c x key cell sp key' fits.1 (subst (λ (p : ℕ). HasKey o p key') (sym same) (has_its_key o s c' x' key' cell' sp'))

  -- it is the key whose words stand there
  pub spelt_key : (c x : ℕ) (key : List ℕ) → AreBytes key → HasKey o (entry_offset x) key → (k : List ℕ) × (cell : Cell) × Spells o c x k cell
      → (cell : Cell) × Spells o c x key cell
  spelt_key c x key bytes item some = (some.1, subst (λ (k : List ℕ). Spells o c x k some.1) (has_no_other o s c x some.0 some.1 some.2 key bytes item) some.2)

  -- an entry spells the item that stands at its offset, where the machine has it
  pub spells_item : (c x : ℕ) (key : List ℕ) (cell : Cell) → bucket_in o key ≡ c → Has (state_in o) key cell (entry_offset x)
      → IsOffset o.shape.mode o.shape.words (entry_offset x) → entry_tag x ≡ tag_of o.shape.hashing key → SpellsItem o (entry_offset x) key cell → Spells o c x key cell
  spells_item c x key cell bucket has offset tag item =
      let fits = has_fits (options_in o) o.history s.history.writes key cell (entry_offset x) has in
      let room = item_room o (entry_offset x) key cell fits.5 (omega (arith, fits.0)) item in
      record { bucket = bucket; has = has; offset = offset; tag = tag; item = item; in_room = omega arith }

-- A write that is refused

pub refused_step : (o : OwnerState) → o.phase ≡ Idle → (w : Write) (outcome : Outcome) → is_accepted outcome ≡ false → MayGive (options_in o) o.history w outcome
    → IsOwnerStep o o w outcome
refused_step o idle w outcome refuses may = record { allowed = may; gained = rw refuses refl; idle = idle }

allows_worn : (options : Options) (now : State) (w : Write) → options.wear ≤ accepted_in now → Allows options now w Worn
unfolding cs.reply
allows_worn options (cache_state s) w full = grind (arith, common_steps, le-leb options.wear s.accepted full)
allows_worn options (store_state s) w full = full

-- in a worn partition each is
pub worn_step : (o : OwnerState) → o.phase ≡ Idle → o.shape.wear ≤ length o.history → (w : Write) → IsOwnerStep o o w Worn
worn_step o idle full w =
    refused_step o idle w Worn refl (allows_worn (options_in o) (state_in o) w (omega (arith, accepted_is_length (options_in o) o.history)))

-- A write that is accepted

-- The history gains it, and beside it words alone have changed.
pub accepted_step : (o new : OwnerState) → o.phase ≡ Idle → (w : Write) (outcome : Outcome) → is_accepted outcome ≡ true → MayGive (options_in o) o.history w outcome
    → new ≡ record o { words = new.words; history = o.history ++ w ∷ [] } → IsOwnerStep o new w outcome
accepted_step o new idle w outcome accepted may gained = grind (arith, common_steps)

-- an idle owner's state, a write that its machine accepts, and the stamp after it
pub record AcceptedWrite (o : OwnerState) : Type 0 where
  pub kept : Kept o
  pub idle : o.phase ≡ Idle
  pub unworn : length o.history < o.shape.wear
  pub w : Write
  pub is : IsWrite w
  pub outcome : Outcome
  pub accepted : is_accepted outcome ≡ true
  pub may : MayGive (options_in o) o.history w outcome
  pub t : ℕ
  pub stamp : t ≡ stamp_of (options_in o) (o.history ++ w ∷ [])

module _ (o : OwnerState) (a : AcceptedWrite o) where
  abbrev b : ℕ
  b = bucket_in o a.w.key

  pub main : IsMain o.shape b
  main = main_of o a.kept a.w.key

  pub stood : StandsFor o b
  stood = stands_idle o a.kept a.idle b main

  -- It is begun and marked

  pub may_begin : MayBegin o b
  may_begin = record { idle = a.idle; main = main; not_worn = a.unworn }

  pub may_mark : MayMark (after (Begins b) o) a.w a.t
  may_mark = record { begun = refl; fits = a.is; accepted = (a.outcome, a.accepted, a.may); stamp = a.stamp }

  kept_begun : Kept (after (Begins b) o)
  kept_begun = kept_after o a.kept (Begins b) may_begin

  abbrev pub marked : OwnerState
  marked = after (Marks a.w a.t) (after (Begins b) o)

  pub kept_marked : Kept marked
  kept_marked = kept_after (after (Begins b) o) kept_begun (Marks a.w a.t) may_mark

  marked_else : (i : ℕ) → i ≢ stamp_at → i ≢ epoch_at b → get_or marked.words i 0 ≡ get_or o.words i 0
  marked_else i n n' = other (after (Begins b) o) (Marks a.w a.t) i n ∙ other o (Begins b) i n'

  pub marked_item : (q : ℕ) → item_in marked q ≡ item_in o q
  marked_item q = marked_else (item_at o.shape q) (λ is. omega arith) (λ is. omega (arith, main))

  pub marked_link : (d : ℕ) → link_in marked d ≡ link_in o d
  marked_link d = marked_else (link_at o.shape d) (λ is. omega arith) (λ is. omega (arith, main))

  pub marked_entry : (d slot : ℕ) → slot < 15 → entry_in marked d slot ≡ entry_in o d slot
  marked_entry d slot low = marked_else (entry_at o.shape d slot) (λ is. omega arith) (λ is. omega (arith, main))

  -- Then words alone change

  -- the state with these words, before the write's end
  abbrev pub written : List ℕ → OwnerState
  written words = changed o words (o.history ++ a.w ∷ []) (Marked (bucket_in o a.w.key) a.w o.history)

  pub written_marked : (words : List ℕ) → marked_in (written words).phase b ≡ 1
  written_marked words = bit_same b b refl

  pub written_state : (words : List ℕ) → state_in (written words) ≡ state_after (options_in o) (state_in o) a.w
  written_state words = state_snoc (options_in o) o.history a.w

  module _ (p : ℕ) (xs : List ℕ) (few : length xs ≤ o.shape.words) where
    puts : PutsWords marked (plays (puts_from p xs) marked) p xs
    puts = puts_words marked p xs kept_marked.wide (some_words o a.kept) few

    -- the words once these are put from the offset on
    abbrev pub put_words : List ℕ
    put_words = (plays (puts_from p xs) marked).words

    pub put_long : length put_words ≡ word_count o.shape
    put_long = puts.wide ∙ kept_marked.wide

    pub put_same : plays (puts_from p xs) marked ≡ written put_words
    put_same = puts.same

    pub put_stamp : stamp_in (written put_words) ≡ a.t
    put_stamp = puts.others 0 (λ i l is. omega arith) ∙ stamp_marks (after (Begins b) o) kept_begun.wide a.w a.t

    pub put_link : (d : ℕ) → IsBucket o.shape d → link_in (written put_words) d ≡ link_in o d
    put_link d l = puts.others (link_at o.shape d) (λ i less. no_item o.shape d 15 (p + i) l (omega arith)) ∙ marked_link d

    pub put_entry : (d slot : ℕ) → IsBucket o.shape d → slot < 15 → entry_in (written put_words) d slot ≡ entry_in o d slot
    put_entry d slot l low = puts.others (entry_at o.shape d slot) (λ i less. no_item o.shape d slot (p + i) l (omega arith)) ∙ marked_entry d slot low

    pub put_item : (i : ℕ) → i < length xs → item_in (written put_words) (p + i) ≡ get_or xs i 0
    put_item = puts.put

    pub put_others : (q : ℕ) → ((i : ℕ) → i < length xs → item_at o.shape q ≢ item_at o.shape (p + i)) → item_in (written put_words) q ≡ item_in o q
    put_others q none = puts.others (item_at o.shape q) none ∙ marked_item q

  module _ (words : List ℕ) where
    -- the words of the entry's room are as before
    abbrev pub Keeps : ℕ → Type 0
    Keeps x = (i : ℕ) → i < room_in o x → item_in (written words) (entry_offset x + i) ≡ item_in o (entry_offset x + i)

    pub room_same : (x : ℕ) → Keeps x → 0 < room_in o x → room_in (written words) x ≡ room_in o x
    room_same x keeps some = grind (arith, common_steps, add-zero (entry_offset x))

    -- so the entry spells what it spelt, where the machine still has it
    pub spells_on : (c x : ℕ) → Keeps x → (key : List ℕ) (cell : Cell) → Has (state_in (written words)) key cell (entry_offset x)
        → Spells o c x key cell → Spells (written words) c x key cell
    spells_on c x keeps key cell has sp =
        let fits = sp.in_room in spells_there o (written words) c x key cell has (room_same x keeps (omega arith)) (λ i l. keeps i (omega arith)) sp

    -- It ends

    pub may_end : StandsFor (written words) b → MayEnd (written words) b
    may_end stands = record { marked = written_marked words; stands_for = stands }

    abbrev pub ended : OwnerState
    ended = after (Ends b) (written words)

    pub ended_gains : ended ≡ record o { words = ended.words; history = o.history ++ a.w ∷ [] }
    ended_gains = ap (λ (z : Phase). record o { words = ended.words; history = o.history ++ a.w ∷ []; phase = z }) (sym a.idle)

    pub ended_step : IsOwnerStep o ended a.w a.outcome
    ended_step = accepted_step o ended a.idle a.w a.outcome a.accepted a.may ended_gains
