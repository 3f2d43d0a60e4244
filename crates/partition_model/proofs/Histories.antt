-- Histories, in both modes: the case of the state, one write more, and how many writes there are.
use Rattle.std.proofs.Common.{rules}
use Rattle.std.proofs.Common.{◌≡◌, ◌+◌, ◌≤◌, ◌<◌, [], ◌∷◌, ◌++◌, length, true, refl, sym, ap, ◌∙◌, subst, arith, append_assoc}
use Rattle.std.specs.List.{fold}
use Rattle.std.proofs.lemmas.List.{append-nil}
use Rattle.std.proofs.lemmas.Grind.{common_steps}
use Rattle.mica_words.specs.Stamp.{tail_of}
use Rattle.partition_model.specs.declared.options.Options.{Options}
use Rattle.partition_model.specs.declared.options.Mode.{Mode}
use Rattle.partition_model.specs.declared.options.Mode.TheVariants.{Cache as CacheMode, Store as StoreMode}
use Rattle.partition_model.specs.declared.write.Write.{Write}
use Rattle.partition_model.specs.declared.write.Outcome.{Outcome}
use Rattle.partition_model.specs.Limits.{last_tail}
use Rattle.partition_model.specs.Write.{is_accepted}
use Rattle.partition_model.specs.Cache as cache
use Rattle.partition_model.specs.CacheStep as cs
use Rattle.partition_model.specs.Store as store
use Rattle.partition_model.specs.StoreStep as ss
use Rattle.partition_model.specs.History.{History, State, cache_state, store_state, after, start, state_of, accepted_in, Allows, IsAcceptedAfter, IsHistoryFrom, IsHistory}
use Rattle.partition_model.proofs.Rises.{fold-snoc}

-- the state after one write more
pub state_snoc : (options : Options) (history : History) (write : Write) → state_of options (history ++ write ∷ []) ≡ after options (state_of options history) write
state_snoc options history write = fold-snoc options (start options.mode) history write

-- the case of the state goes by the mode

cached_after : (options : Options) (s : cache.Cache) (history : History) → (c : cache.Cache) × (fold (after options) (cache_state s) history ≡ cache_state c)
cached_after options s [] = (s, refl)
cached_after options s (write ∷ history) = cached_after options (cs.after options s write) history

stored_after : (options : Options) (s : store.Store) (history : History) → (c : store.Store) × (fold (after options) (store_state s) history ≡ store_state c)
stored_after options s [] = (s, refl)
stored_after options s (write ∷ history) = stored_after options (ss.after s write) history

pub cached_in : (options : Options) → options.mode ≡ CacheMode → (history : History) → (s : cache.Cache) × (state_of options history ≡ cache_state s)
cached_in options is history = grind (arith, common_steps, cached_after options cache.start history)

pub stored_in : (options : Options) → options.mode ≡ StoreMode → (history : History) → (s : store.Store) × (state_of options history ≡ store_state s)
stored_in options is history =
    subst (λ (mode : Mode). (s : store.Store) × (fold (after options) (start mode) history ≡ store_state s)) (sym is) (stored_after options store.start history)

-- one accepted write more is a history

snoc_from : (options : Options) (before later : History) (write : Write) → IsHistoryFrom options before later → IsAcceptedAfter options (before ++ later) write → IsHistoryFrom options before (later ++ write ∷ [])
snoc_from options before [] write is accepted = (subst (λ (h : History). IsAcceptedAfter options h write) (append-nil before) accepted, tt)
snoc_from options before (w ∷ later) write is accepted = grind (arith, common_steps, snoc_from options (before ++ w ∷ []) later write is.1)

pub history_snoc : (options : Options) (history : History) (write : Write) → IsHistory options history → IsAcceptedAfter options history write → IsHistory options (history ++ write ∷ [])
history_snoc options history write is accepted = snoc_from options [] history write is accepted

-- the last write of a history is accepted after those before it

last_from : (options : Options) (before later : History) (write : Write) → IsHistoryFrom options before (later ++ write ∷ []) → IsAcceptedAfter options (before ++ later) write
last_from options before [] write is = subst (λ (h : History). IsAcceptedAfter options h write) (sym (append-nil before)) is.0
last_from options before (w ∷ later) write is = grind (arith, common_steps, last_from options (before ++ w ∷ []) later write is.1)

pub last_accepted : (options : Options) (history : History) (write : Write) → IsHistory options (history ++ write ∷ []) → IsAcceptedAfter options history write
last_accepted options history write is = last_from options [] history write is

-- the machine has accepted as many writes as the history has

pub accepted_after : (options : Options) (now : State) (write : Write) → accepted_in (after options now write) ≡ accepted_in now + 1
unfolding cs.after ss.after
accepted_after options now write = grind (arith, common_steps)

accepted_from : (options : Options) (now : State) (history : History) → accepted_in (fold (after options) now history) ≡ accepted_in now + length history
accepted_from options now [] = omega arith
accepted_from options now (write ∷ history) = grind (arith, common_steps, accepted_from options (after options now write) history, accepted_after options now write)

accepted_start : (mode : Mode) → accepted_in (start mode) ≡ 0
unfolding cache.start store.start
accepted_start mode = grind (arith, common_steps)

pub accepted_is_length : (options : Options) (history : History) → accepted_in (state_of options history) ≡ length history
accepted_is_length options history = grind (arith, common_steps, accepted_from options (start options.mode) history, accepted_start options.mode)

-- and no more than the partition may bear

pub cache_unworn : (options : Options) (s : cache.Cache) (write : Write) (outcome : Outcome) → is_accepted outcome ≡ true → outcome ≡ cs.reply options s write → s.accepted < options.wear
unfolding cs.reply
cache_unworn options s write outcome accepted is = grind (arith, common_steps)

-- nor has its log come to its end
pub cache_has_room : (options : Options) (s : cache.Cache) (write : Write) (outcome : Outcome) → is_accepted outcome ≡ true → outcome ≡ cs.reply options s write → tail_of s.stamp < last_tail
unfolding cs.reply
cache_has_room options s write outcome accepted is = grind (arith, common_steps)

store_unworn : (options : Options) (s : store.Store) (write : Write) (outcome : Outcome) → is_accepted outcome ≡ true → ss.Allows options s write outcome → s.accepted < options.wear
store_unworn options s write outcome accepted is = grind (arith, common_steps)

unworn_in : (options : Options) (now : State) (write : Write) (outcome : Outcome) → is_accepted outcome ≡ true → Allows options now write outcome → accepted_in now < options.wear
unworn_in options now write outcome accepted is = grind (arith, cache_unworn options, store_unworn options)

pub unworn : (options : Options) (history : History) (write : Write) → IsAcceptedAfter options history write → accepted_in (state_of options history) < options.wear
unworn options history write is = unworn_in options (state_of options history) write is.0 is.1 is.2

wear_from : (options : Options) (before later : History) → accepted_in (state_of options before) ≤ options.wear → IsHistoryFrom options before later → accepted_in (state_of options (before ++ later)) ≤ options.wear
wear_from options before [] few is = subst (λ (h : History). accepted_in (state_of options h) ≤ options.wear) (sym (append-nil before)) few
wear_from options before (write ∷ later) few is =
    let one = ap accepted_in (state_snoc options before write) ∙ accepted_after options (state_of options before) write in
    let less = unworn options before write is.0 in
    subst (λ (h : History). accepted_in (state_of options h) ≤ options.wear) (append_assoc before (write ∷ []) later)
    (wear_from options (before ++ write ∷ []) later (omega arith) is.1)

pub within_wear : (options : Options) (history : History) → IsHistory options history → length history ≤ options.wear
within_wear options history is = search (rules, accepted_start, wear_from, accepted_is_length)

-- a step that is refused leaves the state, and one that is accepted adds its write
