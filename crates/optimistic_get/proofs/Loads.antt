-- Loads in an open try, one after another.
use Rattle.std.proofs.Common.{◌≡◌, ◌≢◌, ℕ, ◌+◌, ◌-◌, ◌<◌, ◌≤◌, List, [], ◌∷◌, ◌++◌, length, slice_index, true, refl, sym, ap, ◌∙◌, subst, arith, Option, Some, None, ⊎_elim, length-append}
use Rattle.std.specs.Prelude.{is_some}
use Rattle.std.proofs.lemmas.Bool.{cases_lt}
use Rattle.std.proofs.lemmas.List.{get_or_append_left}
use Rattle.std.proofs.Math.Seq.{get_or-append_seam, get_or-append_right}
use Rattle.partition_words.specs.declared.shape.Shape.{Shape}
use Rattle.partition_words.specs.declared.reader.Try.{Try}
use Rattle.partition_words.specs.declared.reader.ReaderState.{ReaderState}
use Rattle.partition_words.specs.Layout.{item_at}
use Rattle.partition_words.specs.ReaderState.{with_load, loaded, loaded_items}
use Rattle.partition_words.specs.Spelt.{HasLoad}
use Rattle.partition_words.proofs.Failing.{in_left, in_last}
use Rattle.optimistic_get.specs.Loading.{loads_of, loads_in, Keeps, TryGoesOn, GoesOn, HasLoadedWords, LacksWord}

-- a try goes on

same_try : (c : Option Try) → is_some c ≡ true → TryGoesOn c c
same_try None trying = cc
same_try (Some t) trying = (refl, λ place x h. h)

load_more : (c d : Option Try) (place x : ℕ) → TryGoesOn c d → TryGoesOn c (with_load place x d)
load_more None None place x g = g
load_more None (Some u) place x g = g
load_more (Some t) None place x g = g
load_more (Some t) (Some u) place x g = (
  ap (λ (z : Try). record z { loads = u.loads ++ (place, x) ∷ [] }) g.0,
  λ at y h. in_left u.loads ((place, x) ∷ []) (at, y) (g.1 at y h),
)

then_try : (c d e : Option Try) → TryGoesOn c d → TryGoesOn d e → TryGoesOn c e
then_try None None e g h = absurd g
then_try None (Some u) e g h = absurd g
then_try (Some t) None e g h = absurd g
then_try (Some t) (Some u) None g h = h
then_try (Some t) (Some u) (Some v) g h = (
  h.0 ∙ ap (λ (z : Try). record z { loads = v.loads }) g.0,
  λ at y i. h.1 at y (g.1 at y i),
)

still_open : (c d : Option Try) → TryGoesOn c d → is_some d ≡ true
still_open None None g = absurd g
still_open None (Some u) g = absurd g
still_open (Some t) None g = absurd g
still_open (Some t) (Some u) g = refl

keeps_try : (c d : Option Try) → TryGoesOn c d → Keeps (loads_of c) (loads_of d)
keeps_try None None g = absurd g
keeps_try None (Some u) g = absurd g
keeps_try (Some t) None g = absurd g
keeps_try (Some t) (Some u) g = g.1

this_load : (c : Option Try) (place x : ℕ) → is_some c ≡ true → HasLoad (loads_of (with_load place x c)) place x
this_load None place x trying = cc
this_load (Some t) place x trying = in_last t.loads (place, x)

-- and so does a reader

pub on_none : (r : ReaderState) → is_some r.current ≡ true → GoesOn r 0 r
on_none r trying = record { same = refl; most = omega arith; least = omega arith; current = same_try r.current trying }

pub on_load : (r q p : ReaderState) (n place x : ℕ) → GoesOn r n q → p ≡ loaded place x q → GoesOn r (n + 1) p
on_load r q p n place x g is = subst (GoesOn r (n + 1)) (sym is) record {
  same = ap (λ (z : ReaderState). record z { loads = q.loads + 1; current = with_load place x q.current }) g.same;
  most = let few = g.most in omega arith;
  least = let some = g.least in omega arith;
  current = load_more r.current q.current place x g.current;
}

pub on_then : (r q p : ReaderState) (n m : ℕ) → GoesOn r n q → GoesOn q m p → GoesOn r (n + m) p
on_then r q p n m g h = record {
  same = h.same ∙ ap (λ (z : ReaderState). record z { loads = p.loads; current = p.current }) g.same;
  most = let few = g.most in let more = h.most in omega arith;
  least = let some = g.least in let more = h.least in omega arith;
  current = then_try r.current q.current p.current g.current h.current;
}

pub on_at_most : (r q : ReaderState) (n m : ℕ) → n ≤ m → GoesOn r n q → GoesOn r m q
on_at_most r q n m less g = record { same = g.same; most = let few = g.most in omega arith; least = g.least; current = g.current }

pub on_open : (r q : ReaderState) (n : ℕ) → GoesOn r n q → is_some q.current ≡ true
on_open r q n g = still_open r.current q.current g.current

pub on_keeps : (r q : ReaderState) (n : ℕ) → GoesOn r n q → Keeps (loads_in r) (loads_in q)
on_keeps r q n g = keeps_try r.current q.current g.current

pub on_shape : (r q : ReaderState) (n : ℕ) → GoesOn r n q → q.shape ≡ r.shape
on_shape r q n g = ap (λ (z : ReaderState). z.shape) g.same

pub load_here : (q p : ReaderState) (place x : ℕ) → is_some q.current ≡ true → p ≡ loaded place x q → HasLoad (loads_in p) place x
load_here q p place x trying is = subst (λ (z : ReaderState). HasLoad (loads_in z) place x) (sym is) (this_load q.current place x trying)

-- Words

-- the first n of these words were found from the offset on
abbrev pub HasFirst : ReaderState → ℕ → List ℕ → ℕ → Type 0
HasFirst r p words n = (i : ℕ) → i < n → HasLoad (loads_in r) (item_at r.shape (p + i)) (slice_index words i)

first_keeps : (q : ReaderState) (place x p i : ℕ) (words : List ℕ) → is_some q.current ≡ true → place ≡ item_at q.shape (p + i) → x ≡ slice_index words i
    → HasFirst q p words i → HasFirst (loaded place x q) p words (i + 1)
first_keeps q place x p i words trying at is has k l = ⊎_elim
    (λ (less : k < i). keeps_try q.current (with_load place x q.current) (load_more q.current q.current place x (same_try q.current trying)) (item_at q.shape (p + k)) (slice_index words k) (has k less))
    (λ (not : i ≤ k).
    let same : k ≡ i = omega arith in
    subst (λ (z : ℕ × ℕ). HasLoad (loads_of (with_load place x q.current)) z.0 z.1)
    (λ j. ((at ∙ ap (λ (z : ℕ). item_at q.shape (p + z)) (sym same)) j, (is ∙ ap (slice_index words) (sym same)) j))
    (this_load q.current place x trying))
    (cases_lt k i)

pub first_more : (q p' : ReaderState) (x p i : ℕ) (words : List ℕ) → is_some q.current ≡ true → p' ≡ loaded (item_at q.shape (p + i)) x q
    → x ≡ slice_index words i → HasFirst q p words i → HasFirst p' p words (i + 1)
first_more q p' x p i words trying is same has =
    subst (λ (z : ReaderState). HasFirst z p words (i + 1)) (sym is) (first_keeps q (item_at q.shape (p + i)) x p i words trying refl same has)

pub lacks : (q p' : ReaderState) (x p i : ℕ) (words : List ℕ) → is_some q.current ≡ true → p' ≡ loaded (item_at q.shape (p + i)) x q
    → i < length words → x ≢ slice_index words i → LacksWord p' p words
lacks q p' x p i words trying is inside other =
    subst (λ (z : ReaderState). LacksWord z p words) (sym is) record { at = i; inside = inside; found = x; load = this_load q.current (item_at q.shape (p + i)) x trying; other = other }

-- One load

pub item_here : (q p' : ReaderState) (p x : ℕ) → is_some q.current ≡ true → p' ≡ loaded (item_at q.shape p) x q → HasLoad (loads_in p') (item_at p'.shape p) x
item_here q p' p x trying is = subst (λ (z : ReaderState). HasLoad (loads_in z) (item_at z.shape p) x) (sym is) (this_load q.current (item_at q.shape p) x trying)

-- what was found before is there still
pub item_still : (r q : ReaderState) (n p x : ℕ) → GoesOn r n q → HasLoad (loads_in r) (item_at r.shape p) x → HasLoad (loads_in q) (item_at q.shape p) x
item_still r q n p x g h = subst (λ (z : Shape). HasLoad (loads_in q) (item_at z p) x) (sym (on_shape r q n g)) (on_keeps r q n g (item_at r.shape p) x h)

pub words_still : (r q : ReaderState) (n p : ℕ) (words : List ℕ) → GoesOn r n q → HasLoadedWords r p words → HasLoadedWords q p words
words_still r q n p words g has i l = item_still r q n (p + i) (slice_index words i) g (has i l)

-- a word more at a list's end
pub first_snoc : (q p' : ReaderState) (x p i : ℕ) (words : List ℕ) → is_some q.current ≡ true → p' ≡ loaded (item_at q.shape (p + i)) x q
    → length words ≡ i → HasFirst q p words i → HasFirst p' p (words ++ x ∷ []) (i + 1)
first_snoc q p' x p i words trying is long has =
    first_more q p' x p i (words ++ x ∷ []) trying is
    (sym (ap (λ (z : ℕ). slice_index (words ++ x ∷ []) z) (sym long) ∙ get_or-append_seam words x [] 0))
    (λ k l. subst (HasLoad (loads_in q) (item_at q.shape (p + k))) (sym (get_or_append_left words (x ∷ []) 0 k (omega arith))) (has k l))

-- words more at a list's end
pub words_then : (q p' : ReaderState) (n p : ℕ) (words more : List ℕ) → GoesOn q n p' → HasLoadedWords q p words → HasLoadedWords p' (p + length words) more
    → HasLoadedWords p' p (words ++ more)
words_then q p' n p words more g has new k l = ⊎_elim
    (λ (less : k < length words). subst (HasLoad (loads_in p') (item_at p'.shape (p + k))) (sym (get_or_append_left words more 0 k less)) (words_still q p' n p words g has k less))
    (λ (not : length words ≤ k).
    let at : p + length words + (k - length words) ≡ p + k = omega arith in
    subst (λ (z : ℕ × ℕ). HasLoad (loads_in p') (item_at p'.shape z.0) z.1)
    (λ j. (at j, sym (get_or-append_right words more k 0 not) j))
    (new (k - length words) (omega (arith, l, length-append words more))))
    (cases_lt k (length words))

-- words that were loaded one after another

first_on : (r : ReaderState) (place x : ℕ) → is_some r.current ≡ true → GoesOn r 1 (loaded place x r)
first_on r place x trying = on_load r r (loaded place x r) 0 place x (on_none r trying) refl

pub on_items : (p : ℕ) (xs : List ℕ) (r q : ReaderState) → is_some r.current ≡ true → q ≡ loaded_items p xs r → GoesOn r (length xs) q
on_items p [] r q trying is = subst (GoesOn r 0) (sym is) (on_none r trying)
on_items p (x ∷ xs) r q trying is =
    let next = loaded (item_at r.shape p) x r in
    let first = first_on r (item_at r.shape p) x trying in
    on_at_most r q (1 + length xs) _ (omega arith) (on_then r next q 1 (length xs) first (on_items (p + 1) xs next q (on_open r next 1 first) is))

pub items_here : (p : ℕ) (xs : List ℕ) (r q : ReaderState) → is_some r.current ≡ true → q ≡ loaded_items p xs r → HasLoadedWords q p xs
items_here p [] r q trying is = λ i l. absurd (omega (arith, l))
items_here p (x ∷ xs) r q trying is =
    let next = loaded (item_at r.shape p) x r in
    let tried = on_open r next 1 (first_on r (item_at r.shape p) x trying) in
    words_then next q (length xs) p (x ∷ []) xs (on_items (p + 1) xs next q tried is)
    (first_snoc r next x p 0 [] trying (ap (λ (z : ℕ). loaded (item_at r.shape z) x r) (omega arith)) refl (λ i l. absurd (omega (arith, l))))
    (items_here (p + 1) xs next q tried is)
