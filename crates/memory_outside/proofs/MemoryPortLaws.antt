-- The ports of a net over memory: a write at the port of a number changes that port alone.
use Rattle.std.proofs.Common.{◌≡◌, ℕ, zero, suc, ◌<◌, ◌≤◌, Bool, ltb, true, false, cond, List, [], ◌∷◌, length, refl, sym, ap, ◌∙◌, eqb, eqb-true, arith}
use Rattle.std.specs.Prelude.{not, ◌==◌, slice_set, slice_index_or, position, is_some, Option, Some, None}
use Rattle.std.specs.List.{position_or_len}
use Rattle.std.proofs.lemmas.Bool.{eqb-false, eq-eqb, ne_eqb, ltb-true, ltb-false}
use Rattle.std.proofs.lemmas.Grind.{common_steps}
use Rattle.memory_outside.specs.declared.memory_ports.Place.{Place}
use Rattle.memory_outside.specs.declared.setup.Setup.{Setup}
use Rattle.memory_outside.specs.declared.memory_ports.MemPort.{MemPort}
use Rattle.memory_outside.specs.declared.memory_ports.Place.TheVariants.{Waiting, Out, Back}
use Rattle.outside.specs.PortStates.{Port, PortStates, absent, with_port, is_waiting, is_added}
use Rattle.memory_outside.specs.MemoryPorts.{told_port, ports_in}

-- where the port of this number stands, or how many ports there are
abbrev pub place_in : ℕ → List MemPort → ℕ
place_in number [] = 0
place_in number (p ∷ ports) = cond (not (eqb p.number number)) (suc (place_in number ports)) 0

same_place : (number : ℕ) (ports : List MemPort) → place_in number ports ≡ position_or_len (λ p. p.number == number) ports
same_place number [] = refl
same_place number (p ∷ ports) = grind (arith, common_steps, same_place number ports)

same_ports : (f g : PortStates) → ((n : ℕ) → f n ≡ g n) → f ≡ g
same_ports f g h = λ i. λ n. h n i

twice : (number : ℕ) (x y : Port) (ports : PortStates) → with_port number x (with_port number y ports) ≡ with_port number x ports
twice number x y ports = same_ports _ _ (λ n. by n (eqb n number))
  where
    by : (n : ℕ) (b : Bool) → cond b x (cond b y (ports n)) ≡ cond b x (ports n)
    by n true = refl
    by n false = refl

apart : (a b : ℕ) (x y : Port) (ports : PortStates) → ¬ (a ≡ b) → with_port a x (with_port b y ports) ≡ with_port b y (with_port a x ports)
apart a b x y ports other = same_ports _ _ (λ n. by n (eqb n a) (eqb n b) refl refl)
  where
    by : (n : ℕ) (p q : Bool) → eqb n a ≡ p → eqb n b ≡ q → cond p x (cond q y (ports n)) ≡ cond q y (cond p x (ports n))
    by n true true is_a is_b = absurd (other (sym (eqb-true n a is_a) ∙ eqb-true n b is_b))
    by n true false is_a is_b = refl
    by n false true is_a is_b = refl
    by n false false is_a is_b = refl

-- the port of a number, where it stands at a place
pub record IsHere (number : ℕ) (ports : List MemPort) (at : ℕ) (d : MemPort) : Type 0 where
  pub told : ports_in ports number ≡ told_port (slice_index_or ports at d).place
  pub number_is : (slice_index_or ports at d).number ≡ number

elsewhere : (number : ℕ) (p : MemPort) (ports : List MemPort) → eqb p.number number ≡ false → with_port p.number (told_port p.place) (ports_in ports) number ≡ ports_in ports number
elsewhere number p ports is = ap (λ b. cond b (told_port p.place) (ports_in ports number)) (ne_eqb number p.number (λ e. eqb-false p.number number is (sym e)))

pub here : (number : ℕ) (ports : List MemPort) (d : MemPort) → place_in number ports < length ports → IsHere number ports (place_in number ports) d
here number [] d lt = absurd (omega arith)
here number (p ∷ ports) d lt = by (here number ports d) (eqb p.number number) refl lt
  where
    by : (place_in number ports < length ports → IsHere number ports (place_in number ports) d) → (b : Bool) → eqb p.number number ≡ b
        → cond (not b) (suc (place_in number ports)) 0 < suc (length ports) → IsHere number (p ∷ ports) (cond (not b) (suc (place_in number ports)) 0) d
    by rest true is lt = record {
      told = ap (λ b. cond b (told_port p.place) (ports_in ports number)) (eq-eqb number p.number (sym (eqb-true p.number number is)));
      number_is = eqb-true p.number number is;
    }
    by rest false is lt = let later = rest (omega arith) in record { told = elsewhere number p ports is ∙ later.told; number_is = later.number_is }

-- where it stands nowhere, it is absent
pub nowhere : (number : ℕ) (ports : List MemPort) → length ports ≤ place_in number ports → ports_in ports number ≡ absent
nowhere number [] past = refl
nowhere number (p ∷ ports) past = by (nowhere number ports) (eqb p.number number) refl past
  where
    by : (length ports ≤ place_in number ports → ports_in ports number ≡ absent) → (b : Bool) → eqb p.number number ≡ b
        → suc (length ports) ≤ cond (not b) (suc (place_in number ports)) 0 → with_port p.number (told_port p.place) (ports_in ports) number ≡ absent
    by rest true is past = absurd (omega arith)
    by rest false is past = elsewhere number p ports is ∙ rest (omega arith)

-- its end is put elsewhere
pub put_at : (number : ℕ) (ports : List MemPort) (place : Place) → place_in number ports < length ports
    → ports_in (slice_set ports (place_in number ports) (record { number = number; place = place })) ≡ with_port number (told_port place) (ports_in ports)
put_at number [] place lt = absurd (omega arith)
put_at number (p ∷ ports) place lt = by (put_at number ports place) (eqb p.number number) refl lt
  where
    by : (place_in number ports < length ports
        → ports_in (slice_set ports (place_in number ports) (record { number = number; place = place })) ≡ with_port number (told_port place) (ports_in ports))
        → (b : Bool) → eqb p.number number ≡ b → cond (not b) (suc (place_in number ports)) 0 < suc (length ports)
        → ports_in (slice_set (p ∷ ports) (cond (not b) (suc (place_in number ports)) 0) (record { number = number; place = place }))
        ≡ with_port number (told_port place) (with_port p.number (told_port p.place) (ports_in ports))
    by rest true is lt =
        sym (ap (λ (m : ℕ). with_port number (told_port place) (with_port m (told_port p.place) (ports_in ports))) (eqb-true p.number number is)
        ∙ twice number (told_port place) (told_port p.place) (ports_in ports))
    by rest false is lt =
        ap (λ (f : PortStates). with_port p.number (told_port p.place) f) (rest (omega arith))
        ∙ apart p.number number (told_port p.place) (told_port place) (ports_in ports) (eqb-false p.number number is)

-- what `position` finds, and what it does not
pub found : (number : ℕ) (ports : List MemPort) (i : ℕ) → position (λ p. p.number == number) ports ≡ Some i → (i ≡ place_in number ports) × (place_in number ports < length ports)
found number ports i is = by (ltb (position_or_len (λ p. p.number == number) ports) (length ports)) refl is
  where
    by : (b : Bool) → ltb (position_or_len (λ p. p.number == number) ports) (length ports) ≡ b → cond b (Some (position_or_len (λ p. p.number == number) ports)) None ≡ Some i
        → (i ≡ place_in number ports) × (place_in number ports < length ports)
    by true lt is =
        let same = same_place number ports in
        let at : position_or_len (λ p. p.number == number) ports ≡ i = cc in
        let below = ltb-true _ _ lt in
        (omega arith, omega arith)
    by false ge is = absurd (cc)

pub missed : (number : ℕ) (ports : List MemPort) → position (λ p. p.number == number) ports ≡ None → length ports ≤ place_in number ports
missed number ports is = by (ltb (position_or_len (λ p. p.number == number) ports) (length ports)) refl is
  where
    by : (b : Bool) → ltb (position_or_len (λ p. p.number == number) ports) (length ports) ≡ b → cond b (Some (position_or_len (λ p. p.number == number) ports)) None ≡ None
        → length ports ≤ place_in number ports
    by true lt is = absurd (cc)
    by false ge is = let same = same_place number ports in let past = ltb-false _ _ ge in omega arith

-- a port that was found is that of the number
pub record IsFound (number : ℕ) (ports : List MemPort) (at : ℕ) (port : MemPort) : Type 0 where
  pub told : ports_in ports number ≡ told_port port.place
  pub number_is : port.number ≡ number
  pub put : (place : Place) → ports_in (slice_set ports at (record { number = port.number; place = place })) ≡ with_port number (told_port place) (ports_in ports)

pub found_at : (number : ℕ) (ports : List MemPort) (at : ℕ) (port : MemPort) → position (λ p. p.number == number) ports ≡ Some at → port ≡ slice_index_or ports at port
    → IsFound number ports at port
found_at number ports at port is there = grind (arith, common_steps, found number ports at is, here number ports port, put_at number ports)

pub not_found : (number : ℕ) (ports : List MemPort) → position (λ p. p.number == number) ports ≡ None → ports_in ports number ≡ absent
not_found number ports is = nowhere number ports (missed number ports is)

added_place : (place : Place) → is_added (told_port place) ≡ true
added_place (Waiting setup) = refl
added_place Out = refl
added_place (Back end) = refl

-- a port is added exactly where it is found
pub added : (number : ℕ) (ports : List MemPort) (found : Option ℕ) → position (λ p. p.number == number) ports ≡ found → is_some found ≡ is_added (ports_in ports number)
added number ports None is = sym (ap is_added (not_found number ports is))
added number ports (Some at) is = by ports is
  where
    by : (ports : List MemPort) → position (λ p. p.number == number) ports ≡ Some at → true ≡ is_added (ports_in ports number)
    by [] is = absurd (cc)
    by (p ∷ ports) is =
        let f = found number (p ∷ ports) at is in
        let h = here number (p ∷ ports) p f.1 in
        sym (ap is_added h.told ∙ added_place (slice_index_or (p ∷ ports) (place_in number (p ∷ ports)) p).place)

pub not_waiting : (place : Place) → ((setup : Setup) → place ≡ Waiting setup → ⊥) → is_waiting (told_port place) ≡ false
not_waiting (Waiting setup) h = absurd (h setup refl)
not_waiting Out h = refl
not_waiting (Back end) h = refl

pub set_twice : (ports : List MemPort) (i : ℕ) (a b : MemPort) → slice_set (slice_set ports i a) i b ≡ slice_set ports i b
set_twice [] i a b = refl
set_twice (p ∷ ports) zero a b = refl
set_twice (p ∷ ports) (suc i) a b = ap (λ (r : List MemPort). p ∷ r) (set_twice ports i a b)

-- a port that is put as it was changes nothing
pub kept : (number : ℕ) (ports : PortStates) → with_port number (ports number) ports ≡ ports
kept number ports = same_ports _ _ (λ n. by n (eqb n number) refl)
  where
    by : (n : ℕ) (b : Bool) → eqb n number ≡ b → cond b (ports number) (ports n) ≡ ports n
    by n true is = ap ports (sym (eqb-true n number is))
    by n false is = refl
