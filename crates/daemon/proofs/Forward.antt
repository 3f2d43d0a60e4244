-- What never goes back for a front never goes back for one of its clients, who is given some of its answers, in order.
use Rattle.std.proofs.Common.{◌≡◌, ℕ, ◌<◌, Bool, true, false, cond, List, [], ◌∷◌, ◌++◌, map, length, refl, sym, ap, ◌∙◌, subst, arith, append-nil, slice_index_or}
use Rattle.std.specs.Prelude.{◌==◌, filter}
use Rattle.std.specs.List.{AllPairs}
use Rattle.std.proofs.lemmas.List.{get_or-map, length-map, map-append}
use Rattle.std.proofs.lemmas.List.Elements.{filter-append}
use Rattle.std.proofs.lemmas.List.Kept.{AllPairs-filter}
use Rattle.partition_model.specs.declared.options.Options.{Options}
use Rattle.fronts.specs.Answered.{Answered, partition_in}
use Rattle.served.specs.Served.{NoFall}
use Rattle.connection_loop.specs.Given.{Given, answers_in, given_to}
use Rattle.connection_loop.specs.Turns.{Turn, given_in, answered_in}
use Rattle.daemon.specs.Headline.{GoesForward}

module _ {X Y : Type 0} (f : X → Y) where
  kept_or : (b : Bool) (x : X) (ys : List Y) (xs : List X) → ys ≡ map f xs → cond b (f x ∷ ys) ys ≡ map f (cond b (x ∷ xs) xs)
  kept_or true x ys xs is = ap (λ l. f x ∷ l) is
  kept_or false x ys xs is = is

  filter_mapped : (q : Y → Bool) (xs : List X) → filter q (map f xs) ≡ map f (filter (λ x. q (f x)) xs)
  filter_mapped q [] = refl
  filter_mapped q (x ∷ xs) = kept_or (q (f x)) x (filter q (map f xs)) (filter (λ x. q (f x)) xs) (filter_mapped q xs)

  pairs_before : (R : Y → Y → Type 0) (xs : List X) → AllPairs R (map f xs) → AllPairs (λ x y. R (f x) (f y)) xs
  pairs_before R xs h i j d lt within =
      subst (λ (y : Y). R y (f (slice_index_or xs j d))) (get_or-map f xs i d (f d) (omega arith))
      (subst (λ (y : Y). R (slice_index_or (map f xs) i (f d)) y) (get_or-map f xs j d (f d) within) (h i j (f d) lt (omega (arith, length-map xs f))))

  pairs_mapped : (R : Y → Y → Type 0) (xs : List X) → AllPairs (λ x y. R (f x) (f y)) xs → AllPairs R (map f xs)
  pairs_mapped R [] h i j e lt within = absurd (omega (arith, within))
  pairs_mapped R (x ∷ xs) h i j e lt within =
      let short : j < length (x ∷ xs) = omega (arith, length-map (x ∷ xs) f) in
      subst (λ (y : Y). R y (slice_index_or (map f (x ∷ xs)) j e)) (sym (get_or-map f (x ∷ xs) i x e (omega (arith, short))))
      (subst (λ (y : Y). R (f (slice_index_or (x ∷ xs) i x)) y) (sym (get_or-map f (x ∷ xs) j x e short)) (h i j x lt short))

module _ {X : Type 0} (p q : X → Bool) where
  either_way : (b c : Bool) (x : X) (xs ys : List X) → filter p xs ≡ filter q ys → b ≡ p x → c ≡ q x → filter p (cond c (x ∷ xs) xs) ≡ filter q (cond b (x ∷ ys) ys)
  either_way true true x xs ys is b c = rw (sym b, sym c) (ap (λ l. x ∷ l) is)
  either_way true false x xs ys is b c = rw (sym c) is
  either_way false true x xs ys is b c = rw (sym b) is
  either_way false false x xs ys is b c = is

  filter_swap : (xs : List X) → filter p (filter q xs) ≡ filter q (filter p xs)
  filter_swap [] = refl
  filter_swap (x ∷ xs) = either_way (p x) (q x) x (filter q xs) (filter p xs) (filter_swap xs) refl refl

-- an answer of a front, and whether it was given to this client
record Marked : Type 0 where
  pub mine : Bool
  pub answered : Answered

abbrev given_mark : ℕ → Given → Marked
given_mark c g = record { mine = g.to == c; answered = g.answered }

abbrev swept_mark : Answered → Marked
swept_mark a = record { mine = false; answered = a }

abbrev marked : ℕ → List Turn → List Marked
marked c [] = []
marked c (turn ∷ earlier) = marked c earlier ++ map (given_mark c) turn.given ++ map swept_mark turn.swept

abbrev answer_in : Marked → Answered
answer_in m = m.answered

given_marked : (c : ℕ) (given : List Given) → map answer_in (map (given_mark c) given) ≡ answers_in given
given_marked c [] = refl
given_marked c (g ∷ given) = ap (λ l. g.answered ∷ l) (given_marked c given)

swept_marked : (swept : List Answered) → map answer_in (map swept_mark swept) ≡ swept
swept_marked [] = refl
swept_marked (a ∷ swept) = ap (λ l. a ∷ l) (swept_marked swept)

mine_given : (c : ℕ) (given : List Given) → map answer_in (filter (λ m. m.mine) (map (given_mark c) given)) ≡ given_to c given
mine_given c [] = refl
mine_given c (g ∷ given) = go (g.to == c) (mine_given c given)
  where
    go : (t : Bool) → map answer_in (filter (λ m. m.mine) (map (given_mark c) given)) ≡ given_to c given → map answer_in (cond t (given_mark c g ∷ filter (λ m. m.mine) (map (given_mark c) given)) (filter (λ m. m.mine) (map (given_mark c) given)))
        ≡ answers_in (cond t (g ∷ filter (λ g. g.to == c) given) (filter (λ g. g.to == c) given))
    go true is = ap (λ l. g.answered ∷ l) is
    go false is = is

none_swept : (swept : List Answered) → filter (λ m. m.mine) (map swept_mark swept) ≡ []
none_swept [] = refl
none_swept (a ∷ swept) = none_swept swept

all_marked : (c : ℕ) (turns : List Turn) → map answer_in (marked c turns) ≡ answered_in turns
all_marked c [] = refl
all_marked c (turn ∷ earlier) =
    let given = map (given_mark c) turn.given in
    map-append answer_in (marked c earlier ++ given) (map swept_mark turn.swept)
    ∙ rw (map-append answer_in (marked c earlier) given, all_marked c earlier, given_marked c turn.given, swept_marked turn.swept) refl

given_in_turn : (c : ℕ) (given more : List Given) → given_to c (given ++ more) ≡ given_to c given ++ given_to c more
given_in_turn c given more = ap answers_in (filter-append (λ g. g.to == c) given more) ∙ map-append (λ g. g.answered) (filter (λ g. g.to == c) given) _

abbrev mine : List Marked → List Answered
mine all = map answer_in (filter (λ m. m.mine) all)

mine_append : (a b : List Marked) → mine (a ++ b) ≡ mine a ++ mine b
mine_append a b = ap (map answer_in) (filter-append (λ m. m.mine) a b) ∙ map-append answer_in (filter (λ m. m.mine) a) _

mine_marked : (c : ℕ) (turns : List Turn) → mine (marked c turns) ≡ given_to c (given_in turns)
mine_marked c [] = refl
mine_marked c (turn ∷ earlier) =
    let given = map (given_mark c) turn.given in
    mine_append (marked c earlier ++ given) (map swept_mark turn.swept) ∙ ap (λ l. mine (marked c earlier ++ given) ++ map answer_in l) (none_swept turn.swept) ∙ append-nil _
    ∙ mine_append (marked c earlier) given ∙ rw (mine_marked c earlier, mine_given c turn.given) (sym (given_in_turn c (given_in earlier) turn.given))

pub goes_forward : (options : Options) (c : ℕ) (turns : List Turn) → GoesForward options (answered_in turns) → GoesForward options (given_to c (given_in turns))
goes_forward options c turns forward p low =
    let here = λ (a : Answered). partition_in options a == p in
    let of = λ (m : Marked). here m.answered in
    let all : filter here (answered_in turns) ≡ map answer_in (filter of (marked c turns)) = ap (filter here) (sym (all_marked c turns)) ∙ filter_mapped answer_in here (marked c turns) in
    let own : map answer_in (filter (λ m. m.mine) (filter of (marked c turns))) ≡ filter here (given_to c (given_in turns)) =
    ap (map answer_in) (filter_swap (λ m. m.mine) of (marked c turns)) ∙ sym (filter_mapped answer_in here (filter (λ m. m.mine) (marked c turns))) ∙ ap (filter here) (mine_marked c turns) in
    subst (AllPairs NoFall) own (pairs_mapped answer_in NoFall _ (AllPairs-filter (λ x y. NoFall (answer_in x) (answer_in y)) (λ m. m.mine) (filter of (marked c turns)) (pairs_before answer_in NoFall _ (subst (AllPairs NoFall) all (forward p low)))))
