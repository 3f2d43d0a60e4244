-- The reply to a get is read in one way.
use Rattle.std.proofs.Common.{◌≡◌, ℕ, ◌^◌, ◌<◌, Bool, true, false, List, [], ◌∷◌, ◌++◌, length, take, drop, flat_map, Option, Some, None, refl, sym, ap, ◌∙◌, arith, codes, append_assoc}
use Rattle.std.specs.Fmt.{decimal}
use Rattle.std.specs.List.{slice_index}
use Rattle.std.proofs.Math.Seq.{take-append_seam, drop-append_seam}
use Rattle.std.proofs.lemmas.List.{append_cancel_left}
use Rattle.std.proofs.lemmas.Fmt.{decimal_injective}
use Rattle.std.proofs.lemmas.Grind.{common_steps}
use Rattle.memcached_text.specs.Lines.{Lacks}
use Rattle.memcached_text.specs.Replies.{unique_text, value_text, FoundValue, found_text, HasUnique, IsFound, IsOneReply}
use Rattle.memcached_text.proofs.NumberLaws.{decimal_lacks}

-- where a byte stands behind parts that lack it, the parts are the same
pub one_split : (byte : ℕ) (a b c d : List ℕ) → Lacks byte a → Lacks byte c → a ++ byte ∷ b ≡ c ++ byte ∷ d → (a ≡ c) × (b ≡ d)
one_split byte [] b [] d a_lacks c_lacks same = (refl, cc)
one_split byte [] b (y ∷ c) d a_lacks c_lacks same = let head : y ≡ byte = cc in absurd (c_lacks.0 head)
one_split byte (x ∷ a) b [] d a_lacks c_lacks same = let head : x ≡ byte = cc in absurd (a_lacks.0 head)
one_split byte (x ∷ a) b (y ∷ c) d a_lacks c_lacks same = grind (arith, common_steps, one_split byte a b c d a_lacks.1 c_lacks.1)

-- a number, a byte that is no digit, and what stands behind it
one_number : (byte m n : ℕ) (b d : List ℕ) → byte < 48 → m < 2 ^ 64 → n < 2 ^ 64 → decimal m ++ byte ∷ b ≡ decimal n ++ byte ∷ d → (m ≡ n) × (b ≡ d)
one_number byte m n b d low m_is n_is same =
    let parts = one_split byte (decimal m) b (decimal n) d (decimal_lacks byte m low m_is) (decimal_lacks byte n low n_is) same in
    (decimal_injective m n m_is n_is parts.0, parts.1)

-- parts of one length
one_part : (a b c d : List ℕ) → length a ≡ length c → a ++ b ≡ c ++ d → (a ≡ c) × (b ≡ d)
one_part a b c d count same =
    let left : a ≡ c = sym (take-append_seam a b) ∙ ap (take (length a)) same ∙ ap (λ n. take n (c ++ d)) count ∙ take-append_seam c d in
    let right : b ≡ d = sym (drop-append_seam a b) ∙ ap (drop (length a)) same ∙ ap (λ n. drop n (c ++ d)) count ∙ drop-append_seam c d in
    (left, right)

abbrev text_of : FoundValue → List ℕ
text_of found = value_text found.key found.flags found.value found.unique

-- what stands behind the length of a value
abbrev behind_len : FoundValue → List ℕ → List ℕ
behind_len found more = unique_text found.unique ++ 13 ∷ 10 ∷ (found.value ++ 13 ∷ 10 ∷ more)

regroup : (found : FoundValue) (more : List ℕ) → text_of found ++ more ≡ codes "VALUE " ++ (found.key ++ 32 ∷ (decimal found.flags ++ 32 ∷ (decimal (length found.value) ++ behind_len found more)))
unfolding value_text
regroup found more =
    let begin = codes "VALUE " in
    let end = codes "\r\n" in
    let flags = 32 ∷ decimal found.flags in
    let len = 32 ∷ decimal (length found.value) in
    let unique = unique_text found.unique in
    let value = found.value in
    append_assoc (begin ++ found.key ++ flags ++ len ++ unique ++ end ++ value) end more
    ∙ append_assoc (begin ++ found.key ++ flags ++ len ++ unique ++ end) value (end ++ more)
    ∙ append_assoc (begin ++ found.key ++ flags ++ len ++ unique) end (value ++ (end ++ more))
    ∙ append_assoc (begin ++ found.key ++ flags ++ len) unique (end ++ (value ++ (end ++ more)))
    ∙ append_assoc (begin ++ found.key ++ flags) len (unique ++ (end ++ (value ++ (end ++ more))))
    ∙ append_assoc (begin ++ found.key) flags (len ++ (unique ++ (end ++ (value ++ (end ++ more)))))
    ∙ append_assoc begin found.key (flags ++ (len ++ (unique ++ (end ++ (value ++ (end ++ more))))))

-- the length of a value, its unique number where there is one, and the value
record SameEnd (m n : ℕ) (u v : Option ℕ) (b d : List ℕ) : Type 0 where
  count : m ≡ n
  unique : u ≡ v
  behind : b ≡ d

one_end : (asks : Bool) (m n : ℕ) (u v : Option ℕ) (b d : List ℕ) → m < 2 ^ 64 → n < 2 ^ 64 → HasUnique asks u → HasUnique asks v
    → decimal m ++ (unique_text u ++ 13 ∷ b) ≡ decimal n ++ (unique_text v ++ 13 ∷ d) → SameEnd m n u v b d
one_end false m n None None b d m_is n_is u_is v_is same =
    let parts = one_number 13 m n b d (omega arith) m_is n_is same in record { count = parts.0; unique = refl; behind = parts.1 }
one_end false m n None (Some v) b d m_is n_is u_is v_is same = absurd v_is
one_end false m n (Some u) v b d m_is n_is u_is v_is same = absurd u_is
one_end true m n None v b d m_is n_is u_is v_is same = absurd u_is
one_end true m n (Some u) None b d m_is n_is u_is v_is same = absurd v_is
one_end true m n (Some u) (Some v) b d m_is n_is u_is v_is same =
    let parts = one_number 32 m n (decimal u ++ 13 ∷ b) (decimal v ++ 13 ∷ d) (omega arith) m_is n_is same in
    let uniques = one_number 13 u v b d (omega arith) u_is v_is parts.1 in
    record { count = parts.0; unique = ap (λ n. Some n) uniques.0; behind = uniques.1 }

-- one value, and what stands behind it
pub one_value : (asks : Bool) (a b : FoundValue) (x y : List ℕ) → IsFound asks a → IsFound asks b → text_of a ++ x ≡ text_of b ++ y → (a ≡ b) × (x ≡ y)
one_value asks a b x y a_is b_is same =
    let whole = sym (regroup a x) ∙ same ∙ regroup b y in
    let inner = append_cancel_left (codes "VALUE ") _ _ whole in
    let keys = one_split 32 a.key _ b.key _ a_is.no_space b_is.no_space inner in
    let flags = one_number 32 a.flags b.flags _ _ (omega arith) (omega (arith, a_is.flags)) (omega (arith, b_is.flags)) keys.1 in
    let ends = one_end asks (length a.value) (length b.value) a.unique b.unique _ _ (omega (arith, a_is.value)) (omega (arith, b_is.value)) a_is.unique b_is.unique flags.1 in
    let values = one_part a.value (13 ∷ 10 ∷ x) b.value (13 ∷ 10 ∷ y) ends.count (append_cancel_left (10 ∷ []) _ _ ends.behind) in
    let key : a.key ≡ b.key = keys.0 in
    let flag : a.flags ≡ b.flags = flags.0 in
    let value : a.value ≡ b.value = values.0 in
    let unique : a.unique ≡ b.unique = ends.unique in
    let made : List ℕ → ℕ → List ℕ → Option ℕ → FoundValue = λ k f v u. record { key = k; flags = f; value = v; unique = u } in (
      ap (λ k. made k a.flags a.value a.unique) key ∙ ap (λ f. made b.key f a.value a.unique) flag ∙ ap (λ v. made b.key b.flags v a.unique) value ∙ ap (made b.key b.flags b.value) unique,
      append_cancel_left (codes "\r\n") x y values.1,
    )

-- the first value, and what stands behind it
behind_one : (found : FoundValue) (founds : List FoundValue) (more : List ℕ) → found_text (found ∷ founds) ++ more ≡ text_of found ++ (found_text founds ++ more)
behind_one found founds more =
    ap (λ t. t ++ more) (append_assoc (text_of found) (flat_map text_of founds) (codes "END\r\n")) ∙ append_assoc (text_of found) (found_text founds) more

-- an end is no value
ends_here : (found : FoundValue) (founds : List FoundValue) (x y : List ℕ) → codes "END\r\n" ++ x ≡ found_text (found ∷ founds) ++ y → ⊥
ends_here found founds x y same =
    let whole = same ∙ behind_one found founds y ∙ regroup found (found_text founds ++ y) in
    let head : ◌≡◌ {A = ℕ} 69 86 = ap (λ t. slice_index t 0) whole in
    omega arith

pub one_reply : IsOneReply
one_reply asks [] [] x y a_is b_is same = (refl, append_cancel_left (codes "END\r\n") x y same)
one_reply asks [] (b ∷ bs) x y a_is b_is same = absurd (ends_here b bs x y same)
one_reply asks (a ∷ as') [] x y a_is b_is same = absurd (ends_here a as' y x (sym same))
one_reply asks (a ∷ as') (b ∷ bs) x y a_is b_is same =
    let one = one_value asks a b (found_text as' ++ x) (found_text bs ++ y) a_is.0 b_is.0 (sym (behind_one a as' x) ∙ same ∙ behind_one b bs y) in
    let later = one_reply asks as' bs x y a_is.1 b_is.1 one.1 in
    (ap (λ f. f ∷ as') one.0 ∙ ap (λ fs. b ∷ fs) later.0, later.1)
