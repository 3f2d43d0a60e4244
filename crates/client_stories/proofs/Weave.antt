-- Two lists that go by the same keys, as one.
use Rattle.std.specs.List.{AllZip, AllByRecursion}
use Rattle.std.proofs.Common.{◌≡◌, ◌==◌, ◌⊎◌, inl, inr, ℕ, Bool, true, false, cond, List, [], ◌∷◌, ◌++◌, length, map, filter, refl, sym, ap, subst, ◌∙◌, arith}
use Rattle.std.proofs.lemmas.Bool.{eqb-true, eq-eqb}

-- Lists

pub two_ways : {X : Type 0} (xs ys us vs : List X) → xs ++ ys ≡ us ++ vs → ((z : List X) × (xs ≡ us ++ z) × (vs ≡ z ++ ys)) ⊎ ((z : List X) × (us ≡ xs ++ z) × (ys ≡ z ++ vs))
two_ways [] ys us vs is = inr (us, refl, is)
two_ways (x ∷ xs) ys [] vs is = inl (x ∷ xs, refl, sym is)
two_ways (x ∷ xs) ys (u ∷ us) vs is =
    let same : x ≡ u = cc in
    let rest : xs ++ ys ≡ us ++ vs = cc in
    elim (two_ways xs ys us vs rest) [
      | inl more ↦ inl (more.0, (λ i. same i ∷ more.1 i), more.2)
      | inr more ↦ inr (more.0, (λ i. sym same i ∷ more.1 i), more.2)
    ]

-- beginnings of one list that are equally long
pub same_first : {X : Type 0} (xs ys us vs : List X) → xs ++ ys ≡ us ++ vs → length xs ≡ length us → (xs ≡ us) × (ys ≡ vs)
same_first [] ys [] vs is long = (refl, is)
same_first [] ys (u ∷ us) vs is long = absurd (omega (arith, long))
same_first (x ∷ xs) ys [] vs is long = absurd (omega (arith, long))
same_first (x ∷ xs) ys (u ∷ us) vs is long =
    let same : x ≡ u = cc in
    let rest : xs ++ ys ≡ us ++ vs = cc in
    let later = same_first xs ys us vs rest (omega (arith, long)) in
    ((λ i. same i ∷ later.0 i), later.1)

pub none_of : {X : Type 0} (xs : List X) → length xs ≡ 0 → xs ≡ []
none_of [] is = refl
none_of (x ∷ xs) is = absurd (omega (arith, is))

pub record Parted {A B : Type 0} (f : A → B) (zs : List A) (xs ys : List B) : Type 0 where
  pub first : List A
  pub later : List A
  pub whole : zs ≡ first ++ later
  pub firsts : map f first ≡ xs
  pub laters : map f later ≡ ys

pub parted : {A B : Type 0} (f : A → B) (zs : List A) (xs ys : List B) → map f zs ≡ xs ++ ys → Parted f zs xs ys
parted f zs [] ys is = record { first = []; later = zs; whole = refl; firsts = refl; laters = is }
parted f [] (x ∷ xs) ys is = absurd (cc)
parted f (z ∷ zs) (x ∷ xs) ys is =
    let same : f z ≡ x = cc in
    let rest : map f zs ≡ xs ++ ys = cc in
    let p = parted f zs xs ys rest in
    record { first = z ∷ p.first; later = p.later; whole = ap (λ l. z ∷ l) p.whole; firsts = λ i. same i ∷ p.firsts i; laters = p.laters }

pub zip_of_maps : {A B C : Type 0} (f : A → C) (g : B → C) (xs : List A) (ys : List B) → map f xs ≡ map g ys → AllZip (λ x y. f x ≡ g y) xs ys
zip_of_maps f g [] [] is = tt
zip_of_maps f g [] (y ∷ ys) is = absurd (cc)
zip_of_maps f g (x ∷ xs) [] is = absurd (cc)
zip_of_maps f g (x ∷ xs) (y ∷ ys) is =
    let same : f x ≡ g y = cc in
    let rest : map f xs ≡ map g ys = cc in
    (same, zip_of_maps f g xs ys rest)

pub zip_and : {A B : Type 0} {R S : A → B → Type 0} (P : B → Type 0) (xs : List A) (ys : List B) → AllZip R xs ys → AllByRecursion P ys → ((x : A) (y : B) → R x y → P y → S x y) → AllZip S xs ys
zip_and P [] [] zip all f = tt
zip_and P [] (y ∷ ys) zip all f = absurd zip
zip_and P (x ∷ xs) [] zip all f = absurd zip
zip_and P (x ∷ xs) (y ∷ ys) zip all f = (f x y zip.0 all.0, zip_and P xs ys zip.1 all.1 f)

pub zip_long : {A B : Type 0} (R : A → B → Type 0) (xs : List A) (ys : List B) → AllZip R xs ys → length xs ≡ length ys
zip_long R [] [] zip = refl
zip_long R [] (y ∷ ys) zip = absurd zip
zip_long R (x ∷ xs) [] zip = absurd zip
zip_long R (x ∷ xs) (y ∷ ys) zip = let rest = zip_long R xs ys zip.1 in omega (arith, rest)

pub record ZipParted {A B : Type 0} (R : A → B → Type 0) (xs ys : List A) (zs : List B) : Type 0 where
  pub first : List B
  pub later : List B
  pub whole : zs ≡ first ++ later
  pub firsts : AllZip R xs first
  pub laters : AllZip R ys later

pub zip_parted : {A B : Type 0} (R : A → B → Type 0) (xs ys : List A) (zs : List B) → AllZip R (xs ++ ys) zs → ZipParted R xs ys zs
zip_parted R [] ys zs zip = record { first = []; later = zs; whole = refl; firsts = tt; laters = zip }
zip_parted R (x ∷ xs) ys [] zip = absurd zip
zip_parted R (x ∷ xs) ys (z ∷ zs) zip =
    let p = zip_parted R xs ys zs zip.1 in
    record { first = z ∷ p.first; later = p.later; whole = ap (λ l. z ∷ l) p.whole; firsts = (zip.0, p.firsts); laters = p.laters }

pub zip_append : {A B : Type 0} (R : A → B → Type 0) (xs ys : List A) (us vs : List B) → AllZip R xs us → AllZip R ys vs → AllZip R (xs ++ ys) (us ++ vs)
zip_append R [] ys [] vs first later = later
zip_append R [] ys (u ∷ us) vs first later = absurd first
zip_append R (x ∷ xs) ys [] vs first later = absurd first
zip_append R (x ∷ xs) ys (u ∷ us) vs first later = (first.0, zip_append R xs ys us vs first.1 later)

pub all_filter : {X : Type 0} (P : X → Type 0) (test : X → Bool) (xs : List X) → AllByRecursion P xs → AllByRecursion P (filter test xs)
all_filter P test [] all = tt
all_filter P test (x ∷ xs) all = by (test x) (all_filter P test xs all.1)
  where
    by : (b : Bool) → AllByRecursion P (filter test xs) → AllByRecursion P (cond b (x ∷ filter test xs) (filter test xs))
    by true rest = (all.0, rest)
    by false rest = rest

-- Woven

module _ {A X : Type 0} (key : A → ℕ) (R : A → X → Type 0) where
  -- Each of a list with one of the list that its key has, in order.
  pub record Woven (list : List A) (lists : ℕ → List X) : Type 0 where
    pub pairs : List (A × X)
    pub firsts : map (λ z. z.0) pairs ≡ list
    pub each : AllByRecursion (λ z. R z.0 z.1) pairs
    pub seconds : (k : ℕ) → map (λ z. z.1) (filter (λ z. key z.0 == k) pairs) ≡ lists k

  abbrev Zips : List A → (ℕ → List X) → Type 0
  Zips list lists = (k : ℕ) → AllZip R (filter (λ a. key a == k) list) (lists k)

  none_left : (xs : List X) → AllZip R [] xs → [] ≡ xs
  none_left [] zip = refl
  none_left (x ∷ xs) zip = absurd zip

  record Head (a : A) (later : List A) (xs : List X) : Type 0 where
    pub x : X
    pub rest : List X
    pub is : xs ≡ x ∷ rest
    pub own : R a x
    pub zip : AllZip R later rest

  head_of : (a : A) (later : List A) (xs : List X) → AllZip R (a ∷ later) xs → Head a later xs
  head_of a later [] zip = absurd zip
  head_of a later (x ∷ xs) zip = record { x = x; rest = xs; is = refl; own = zip.0; zip = zip.1 }

  -- what is left of each list behind the first of one
  abbrev left_of : ℕ → List X → (ℕ → List X) → ℕ → List X
  left_of own rest lists k = cond (own == k) rest (lists k)

  module _ (a : A) (list : List A) (lists : ℕ → List X) (head : Head a (filter (λ b. key b == key a) list) (lists (key a))) where
    still : (k : ℕ) (b : Bool) → (key a == k) ≡ b → AllZip R (cond b (a ∷ filter (λ c. key c == k) list) (filter (λ c. key c == k) list)) (lists k) → AllZip R (filter (λ c. key c == k) list) (cond b head.rest (lists k))
    still k true same zip = subst (λ m. AllZip R (filter (λ c. key c == m) list) head.rest) (eqb-true (key a) k same) head.zip
    still k false apart zip = zip

    seconds_are : (woven : Woven list (left_of (key a) head.rest lists)) (k : ℕ) (b : Bool) → (key a == k) ≡ b
        → map (λ z. z.1) (cond b ((a, head.x) ∷ filter (λ z. key z.0 == k) woven.pairs) (filter (λ z. key z.0 == k) woven.pairs)) ≡ lists k
    seconds_are woven k true same = ap (λ l. head.x ∷ l) (woven.seconds k ∙ ap (λ b. cond b head.rest (lists k)) same) ∙ sym head.is ∙ ap lists (eqb-true (key a) k same)
    seconds_are woven k false apart = woven.seconds k ∙ ap (λ b. cond b head.rest (lists k)) apart

    with_first : Woven list (left_of (key a) head.rest lists) → Woven (a ∷ list) lists
    with_first woven = record {
      pairs = (a, head.x) ∷ woven.pairs;
      firsts = ap (λ l. a ∷ l) woven.firsts;
      each = (head.own, woven.each);
      seconds = λ k. seconds_are woven k (key a == k) refl;
    }

  pub weave : (list : List A) (lists : ℕ → List X) → Zips list lists → Woven list lists
  weave [] lists zips = record { pairs = []; firsts = refl; each = tt; seconds = λ k. none_left (lists k) (zips k) }
  weave (a ∷ list) lists zips =
      let head = head_of a (filter (λ b. key b == key a) list) (lists (key a)) (subst (λ b. AllZip R (cond b (a ∷ filter (λ b. key b == key a) list) (filter (λ b. key b == key a) list)) (lists (key a))) (eq-eqb (key a) (key a) refl) (zips (key a))) in
      with_first a list lists head (weave list (left_of (key a) head.rest lists) (λ k. still a list lists head k (key a == k) refl (zips k)))
