-- Each entry takes what the schedule and its connections need for it.
use Rattle.std.proofs.Common.{◌≡◌, ℕ, zero, suc, ◌+◌, ◌*◌, ◌<◌, ◌≤◌, false, List, [], ◌∷◌, ◌++◌, length, sym, ap, ◌∙◌, subst, arith}
use Rattle.std.specs.Prelude.{slice_get, slice_index_or, take, Option, None, Some, if◌then◌else◌}
use Rattle.std.specs.List.{sum_by}
use Rattle.std.proofs.lemmas.List.{length-take, length-drop}
use Rattle.std.proofs.lemmas.List.Sums.{sum_by-cons, sum_by_push}
use Rattle.std.proofs.lemmas.Option.{none-some, same_Some, slice_get-get_or}
use Rattle.std.proofs.lemmas.Grind.{common_steps}
use Rattle.connections.specs.declared.schedule.Change.{Change}
use Rattle.connections.specs.declared.schedule.Step.{Step}
use Rattle.connections.specs.declared.schedule.Step.TheVariants.{Opens, TurnsAway, Reports, Happens}
use Rattle.connections.specs.Connection.{Connection, readable, after_change, after_read, after_write, after_ask, after_close}
use Rattle.connections.specs.State.{changed}
use Rattle.memory_connections.specs.MemoryConnection.{need_of, cost_of, need}

raised : (c d : ℕ) (f : Connection → Connection) (all : List Connection) → ((x : Connection) → need_of (f x) ≤ need_of x + d) → sum_by need_of (changed c f all) ≤ sum_by need_of all + d
raised c d f [] h = omega arith
raised zero d f (x ∷ all) h = omega (arith, sum_by-cons need_of (f x) all, sum_by-cons need_of x all, h x)
raised (suc c) d f (x ∷ all) h = omega (arith, sum_by-cons need_of x (changed c f all), sum_by-cons need_of x all, raised c d f all h)

lowered : (c d : ℕ) (f : Connection → Connection) (all : List Connection) (x : Connection) → slice_get all c ≡ Some x → need_of (f x) + d ≤ need_of x → sum_by need_of (changed c f all) + d ≤ sum_by need_of all
lowered c d f [] x is h = absurd (none-some x is)
lowered zero d f (y ∷ all) x is h =
    let same = same_Some y x is in
    let h' : need_of (f y) + d ≤ need_of y = subst (λ z. need_of (f z) + d ≤ need_of z) (sym same) h in
    omega (arith, sum_by-cons need_of (f y) all, sum_by-cons need_of y all, h')
lowered (suc c) d f (y ∷ all) x is h = omega (arith, sum_by-cons need_of y (changed c f all), sum_by-cons need_of y all, lowered c d f all x is h)

-- what one connection needs is part of all
pub part : (c : ℕ) (all : List Connection) (x : Connection) → slice_get all c ≡ Some x → need_of x ≤ sum_by need_of all
part c [] x is = absurd (none-some x is)
part zero (y ∷ all) x is = let same = ap need_of (same_Some y x is) in omega (arith, sum_by-cons need_of y all, same)
part (suc c) (y ∷ all) x is = omega (arith, sum_by-cons need_of y all, part c all x is)

length_readable : (breaks : Option ℕ) (bytes : List ℕ) → length (readable breaks bytes) ≤ length bytes
length_readable None bytes = omega arith
length_readable (Some n) bytes = omega (arith, length-take n bytes)

change_needs : (change : Change) (x : Connection) → need_of (after_change change x) ≤ need_of x + (8 * change.comes + change.takes)
change_needs change x =
    let came = x.waiting ++ take change.comes x.to_come in
    let all : length came ≤ length x.waiting + change.comes = grind (arith, common_steps) in
    let fits = length_readable change.breaks came in
    omega (arith, fits, all)

-- a window that grows fits
pub window_fits : (c takes bound : ℕ) (all : List Connection) (x : Connection) → c < length all → x ≡ slice_index_or all c x → sum_by need_of all + takes < bound → x.window + takes < bound
window_fits c takes bound all x there is small = let p = part c all x (slice_get-get_or all c x there ∙ ap Some (sym is)) in omega (arith, p, small)

-- what stands after each entry needs less
pub opened_needs : (all : List Connection) (later : List Step) (window : ℕ) (bytes : List ℕ) (x : Connection) → need_of x ≡ window + 1
    → need (record { connections = all ++ x ∷ []; later = later }) + 2 ≤ need (record { connections = all; later = Opens window bytes ∷ later })
opened_needs all later window bytes x is = omega (arith, sum_by_push need_of all x, sum_by-cons cost_of (Opens window bytes) later, is)

pub turned_needs : (all : List Connection) (later : List Step) → need (record { connections = all; later = later }) + 2 ≤ need (record { connections = all; later = TurnsAway ∷ later })
turned_needs all later = omega (arith, sum_by-cons cost_of TurnsAway later)

pub reported_needs : (all : List Connection) (later : List Step) (c : ℕ) (change : Change) → need (record { connections = changed c (after_change change) all; later = later }) + 2 ≤ need (record { connections = all; later = Reports c change ∷ later })
reported_needs all later c change =
    omega (arith, raised c (8 * change.comes + change.takes) (after_change change) all (change_needs change), sum_by-cons cost_of (Reports c change) later)

pub happened_needs : (all : List Connection) (later : List Step) (c : ℕ) (change : Change) → need (record { connections = changed c (after_change change) all; later = later }) + 3 ≤ need (record { connections = all; later = Happens c change ∷ later })
happened_needs all later c change =
    omega (arith, raised c (8 * change.comes + change.takes) (after_change change) all (change_needs change), sum_by-cons cost_of (Happens c change) later)

pub pushed_needs : (all : List Connection) (later : List Step) (step : Step) → need (record { connections = all; later = later ++ step ∷ [] }) ≡ need (record { connections = all; later = later }) + cost_of step
pushed_needs all later step = omega (arith, sum_by_push cost_of later step)

pub read_needs : (all : List Connection) (later : List Step) (c count : ℕ) (x : Connection) → slice_get all c ≡ Some x → 0 < count → count ≤ length x.waiting
    → need (record { connections = changed c (after_read count) all; later = later }) + 2 ≤ need (record { connections = all; later = later })
read_needs all later c count x is some fits =
    let l = lowered c 2 (after_read count) all x is (omega (arith, length-drop count x.waiting, some, fits)) in omega (arith, l)

pub write_needs : (all : List Connection) (later : List Step) (c count : ℕ) (x : Connection) → slice_get all c ≡ Some x → count ≤ x.window
    → need (record { connections = changed c (after_write count) all; later = later }) + count ≤ need (record { connections = all; later = later })
write_needs all later c count x is fits =
    let l = lowered c count (after_write count) all x is (omega (arith, fits)) in omega (arith, l)

pub ask_needs : (all : List Connection) (later : List Step) (c : ℕ) (x : Connection) → slice_get all c ≡ Some x → 0 < x.asks
    → need (record { connections = changed c after_ask all; later = later }) + 3 ≤ need (record { connections = all; later = later })
ask_needs all later c x is some =
    let l = lowered c 3 after_ask all x is (omega (arith, some)) in omega (arith, l)

pub close_needs : (all : List Connection) (later : List Step) (c : ℕ) (x : Connection) → slice_get all c ≡ Some x → x.is_closed ≡ false
    → need (record { connections = changed c after_close all; later = later }) + 1 ≤ need (record { connections = all; later = later })
close_needs all later c x is unclosed =
    let one : need_of x ≡ 8 * length x.waiting + x.window + 3 * x.asks + 1 = ap (λ b. 8 * length x.waiting + x.window + 3 * x.asks + (if b then 0 else 1)) unclosed in
    let l = lowered c 1 after_close all x is (omega (arith, one)) in omega (arith, l)
