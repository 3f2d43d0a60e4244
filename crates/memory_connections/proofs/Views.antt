-- What is unread of a connection: what of it waits, and what is to come.
use Rattle.std.proofs.Common.{◌≡◌, ℕ, ◌+◌, ◌-◌, ◌*◌, ◌≤◌, List, ◌++◌, length, sym, ap, ◌∙◌, arith}
use Rattle.std.specs.Prelude.{take, drop, min}
use Rattle.std.proofs.lemmas.List.{length-take-le, length-drop, drop-take, take_min}
use Rattle.std.proofs.Math.Seq.{take-add}
use Rattle.std.proofs.Math.Nat.{min_comm}
use Rattle.std.proofs.lemmas.Grind.{common_steps}
use Rattle.connections.specs.Connection.{Connection, after_read}

-- after so many were taken
pub waits_after : (n came : ℕ) (unread : List ℕ) → n ≤ came → take (came - n) (drop n unread) ≡ drop n (take came unread)
waits_after n came unread fits =
    let whole : n + (came - n) ≡ came = omega (arith, fits) in
    sym (drop-take n (came - n) unread) ∙ ap (λ k. drop n (take k unread)) whole

pub comes_after : (n came : ℕ) (unread : List ℕ) → n ≤ came → drop (came - n) (drop n unread) ≡ drop came unread
comes_after n came unread fits = grind (arith, common_steps)

-- so many more come
pub more_waits : (came n : ℕ) (unread : List ℕ) → came ≤ length unread
    → take (came + min (length unread - came) n) unread ≡ take came unread ++ take n (drop came unread)
more_waits came n unread fits =
    let rest = drop came unread in
    let count : min (length unread - came) n ≡ min n (length rest) = min_comm (length unread - came) n ∙ ap (min n) (sym (length-drop came unread)) in
    take-add came (min (length unread - came) n) unread ∙ ap (λ l. take came unread ++ l) (ap (λ k. take k rest) count ∙ take_min n rest)

-- of what waits, so many can be read still
pub kept_waits : (n m : ℕ) (unread : List ℕ) → take (min n m) (take (min n m) unread) ≡ take m (take n unread)
kept_waits n m unread = grind (arith, common_steps)

pub all_waits : (n : ℕ) (unread : List ℕ) → take n (take n unread) ≡ take n unread
all_waits n unread = grind (arith, common_steps)

-- a connection of which n bytes were read, and this is left
abbrev pub left_with : Connection → List ℕ → List ℕ → ℕ → Connection
left_with c to_come waiting n = record c { to_come = to_come; waiting = waiting; asks = c.asks + 2 * n }

pub taken : (c : Connection) (came n most : ℕ) (unread rest : List ℕ) → came ≤ length unread → c.to_come ≡ drop came unread → c.waiting ≡ take came unread
    → n ≡ min came most → rest ≡ drop n unread
    → left_with c (drop (came - n) rest) (take (came - n) rest) n ≡ after_read (min (length c.waiting) most) c
taken c came n most unread rest fits to_come_is waiting_is n_is rest_is =
    let le : n ≤ came = omega (arith, n_is) in
    let same : n ≡ min (length c.waiting) most = n_is ∙ ap (λ k. min k most) (sym (ap length waiting_is ∙ length-take-le came unread fits)) in
    ap (λ r. left_with c (drop (came - n) r) (take (came - n) r) n) rest_is
    ∙ ap (λ l. left_with c l (take (came - n) (drop n unread)) n) (comes_after n came unread le ∙ sym to_come_is)
    ∙ ap (λ l. left_with c c.to_come l n) (waits_after n came unread le ∙ ap (drop n) (sym waiting_is))
    ∙ ap (λ k. left_with c c.to_come (drop k c.waiting) k) same
