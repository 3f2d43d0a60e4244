-- The line at the front of bytes.
use Rattle.std.proofs.Common.{◌≡◌, ◌≢◌, ℕ, Bool, true, false, true≢false, cond, eqb, eqb-true, List, [], ◌∷◌, ◌++◌, Option, Some, None, refl, sym, ap, ◌∙◌, ne_eqb}
use Rattle.std.specs.Prelude.{not, ◌&&◌, option_map, MatchOption}
use denote.Ref.{Bor}
use Rattle.std.proofs.lemmas.Bool.{eq-eqb}
use Rattle.std.proofs.lemmas.Option.{none-some}
use Rattle.memcached_text.specs.Lines.{Lacks, lacks, HasLine, line_at, without_return}

pub Lacks_append : (byte : ℕ) (a b : List ℕ) → Lacks byte a → Lacks byte b → Lacks byte (a ++ b)
Lacks_append byte [] b left right = right
Lacks_append byte (x ∷ a) b left right = (left.0, Lacks_append byte a b left.1 right)

-- bytes that lack one, by their test
pub lacks_all : (byte : ℕ) (text : List ℕ) → Lacks byte text → lacks byte text ≡ true
lacks_all byte [] all = refl
lacks_all byte (b ∷ text) all = rw (ne_eqb b byte all.0, lacks_all byte text all.1) refl

pub lacks_is : (byte : ℕ) (text : List ℕ) → lacks byte text ≡ true → Lacks byte text
lacks_is byte [] is = tt
lacks_is byte (b ∷ text) is = go (eqb b byte) refl is (λ all. lacks_is byte text all)
  where
    go : (t : Bool) → eqb b byte ≡ t → (not t && lacks byte text) ≡ true → (lacks byte text ≡ true → Lacks byte text) → Lacks byte (b ∷ text)
    go true here all later = absurd (true≢false (sym all))
    go false here all later = ((λ e. true≢false (sym (eq-eqb b byte e) ∙ here)), later all)

pub lacks_none : (byte : ℕ) (front rest : List ℕ) → lacks byte (front ++ byte ∷ rest) ≡ false
lacks_none byte [] rest = rw (eq-eqb byte byte refl) refl
lacks_none byte (b ∷ front) rest = go (not (eqb b byte)) (lacks_none byte front rest)
  where
    go : (t : Bool) → lacks byte (front ++ byte ∷ rest) ≡ false → (t && lacks byte (front ++ byte ∷ rest)) ≡ false
    go true later = later
    go false later = refl

-- bytes with a line feed behind a line
pub line_at_fed : (line rest : List ℕ) → Lacks 10 line → line_at (line ++ 10 ∷ rest) ≡ Some (line, rest)
line_at_fed [] rest lacks = refl
line_at_fed (b ∷ line) rest lacks = rw (ne_eqb b 10 lacks.0, line_at_fed line rest lacks.1) refl

-- bytes with no line feed
pub line_at_none : (bytes : List ℕ) → Lacks 10 bytes → line_at bytes ≡ None
line_at_none [] lacks = refl
line_at_none (b ∷ bytes) lacks = rw (ne_eqb b 10 lacks.0, line_at_none bytes lacks.1) refl

onto : (b : ℕ) (bytes line rest : List ℕ) → b ≢ 10 → HasLine bytes line rest → HasLine (b ∷ bytes) (b ∷ line) rest
onto b bytes line rest other has = record { whole = ap (λ t. b ∷ t) has.whole; first = (other, has.first) }

other : (b : ℕ) → eqb b 10 ≡ false → b ≢ 10
other b is same = true≢false (sym (rw same refl) ∙ is)

-- what is said of a line that was found, or of bytes with none
abbrev pub IsFound : List ℕ → Option (List ℕ × List ℕ) → Type 0
IsFound bytes None = Lacks 10 bytes
IsFound bytes (Some found) = HasLine bytes found.0 found.1

pub line_found : (bytes : List ℕ) → IsFound bytes (line_at bytes)
line_found [] = tt
line_found (b ∷ bytes) = go (eqb b 10) refl (line_at bytes) (line_found bytes)
  where
    go : (t : Bool) → eqb b 10 ≡ t → (o : Option (List ℕ × List ℕ)) → IsFound bytes o
        → IsFound (b ∷ bytes) (cond t (Some ([], bytes)) (option_map (λ found. (b ∷ found.0, found.1)) o))
    go true is o found = record { whole = ap (λ x. x ∷ bytes) (eqb-true b 10 is); first = tt }
    go false is None found = ((λ same. other b is same), found)
    go false is (Some x) found = onto b bytes x.0 x.1 (other b is) found

pub without_return_fed : (line : List ℕ) → without_return (line ++ 13 ∷ []) ≡ line
without_return_fed [] = refl
without_return_fed (b ∷ []) = refl
without_return_fed (b ∷ c ∷ line) = ap (λ t. b ∷ t) (without_return_fed (c ∷ line))

-- a line that does not end with a carriage return
pub without_return_kept : (line : List ℕ) → ((front : List ℕ) → line ≢ front ++ 13 ∷ []) → without_return line ≡ line
without_return_kept [] never = refl
without_return_kept (b ∷ []) never = go (eqb b 13) refl
  where
    go : (t : Bool) → eqb b 13 ≡ t → cond t [] (b ∷ []) ≡ b ∷ []
    go true is = absurd (never [] (ap (λ x. x ∷ []) (eqb-true b 13 is)))
    go false is = refl
without_return_kept (b ∷ c ∷ line) never = ap (λ t. b ∷ t) (without_return_kept (c ∷ line) (λ front same. never (b ∷ front) (ap (λ t. b ∷ t) same)))

-- what a carriage return taken from the end leaves
pub some_stripped : (line end : List ℕ) (r : Option (Bor (List ℕ))) (text : Bor (List ℕ)) → MatchOption r ((front : List ℕ) → line ≢ front ++ end) (λ x. line ≡ x.now ++ end) → end ≡ 13 ∷ [] → r ≡ Some text → text.now ≡ without_return line
some_stripped line end (Some x) text told feed is =
    let same : x.now ≡ text.now = cc in
    let whole : line ≡ text.now ++ 13 ∷ [] = told ∙ ap (λ t. t ++ end) same ∙ ap (λ e. text.now ++ e) feed in
    sym (ap without_return whole ∙ without_return_fed text.now)
some_stripped line end None text told feed is = absurd (none-some text is)

pub none_stripped : (line end : List ℕ) (r : Option (Bor (List ℕ))) → MatchOption r ((front : List ℕ) → line ≢ front ++ end) (λ x. line ≡ x.now ++ end) → end ≡ 13 ∷ [] → r ≡ None → line ≡ without_return line
none_stripped line end (Some x) told feed is = absurd (none-some x (sym is))
none_stripped line end None told feed is = sym (without_return_kept line (λ front same. told front (same ∙ ap (λ e. front ++ e) (sym feed))))
