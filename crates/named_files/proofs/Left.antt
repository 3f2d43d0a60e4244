-- What a crash leaves of a place in memory.
use Rattle.std.proofs.Common.{◌≡◌, inl, inr, ℕ, zero, suc, ◌≤◌, Bool, true, false, leb, List, [], ◌∷◌, length, drop, take, min, refl, sym, ap, subst, ◌∙◌, arith}
use Rattle.std.specs.Prelude.{Option, Some, None, map, nat_lt, slice_get, slice_index_or}
use Rattle.std.proofs.lemmas.List.{take_all}
use Rattle.std.proofs.lemmas.Bool.{leb-true, leb-false, ltb-true}
use Rattle.std.proofs.lemmas.Option.{slice_get_read}
use Rattle.named_files.specs.declared.memory.MemVersion.{MemVersion}
use Rattle.named_files.specs.declared.memory.MemPlace.{MemPlace}
use Rattle.named_files.specs.Files.{Version, LeavesOf, LeavesOne, MayLeave}
use Rattle.named_files.specs.Memory.{version_of, state_in}

one_left : (n i : ℕ) (versions : List MemVersion) (version : MemVersion) (c : Option (List ℕ)) → n ≤ i → slice_get versions i ≡ Some version → LeavesOf (version_of version) c → LeavesOne (drop n (map version_of versions)) c
one_left n i [] version c below at left = absurd cc
one_left zero zero (first ∷ versions) version c below at left = inl (subst (λ (v : MemVersion). LeavesOf (version_of v) c) (let e : version ≡ first = cc in e) left)
one_left zero (suc i) (first ∷ versions) version c below at left = inr (one_left zero i versions version c (omega arith) at left)
one_left (suc n) zero (first ∷ versions) version c below at left = absurd (omega arith)
one_left (suc n) (suc i) (first ∷ versions) version c below at left = one_left n i versions version c (omega arith) at left

pub past_left : (place : MemPlace) (i : ℕ) (version : MemVersion) (past : List MemVersion) → past ≡ place.past.items → place.first ≤ i → true ≡ nat_lt i (length past) → version ≡ slice_index_or past i version
    → (c : Option (List ℕ)) → LeavesOf (version_of version) c → MayLeave (state_in place) c
past_left place i version past same below there is c left =
    inl (one_left place.first i place.past.items version c below (subst (λ (versions : List MemVersion). slice_get versions i ≡ Some version) same (slice_get_read past (length past) i version refl (ltb-true _ _ (sym there)) is)) left)

pub now_left : (place : MemPlace) (c : Option (List ℕ)) → LeavesOf (version_of place.newest) c → MayLeave (state_in place) c
now_left place c left = inr left

-- so many bytes, or all
pub take_least : (n : ℕ) (bytes : List ℕ) → take (min n (length bytes)) bytes ≡ take n bytes
take_least n bytes = go (leb n (length bytes)) refl
  where
    go : (b : Bool) → leb n (length bytes) ≡ b → take (min n (length bytes)) bytes ≡ take n bytes
    go true is = ap (λ (k : ℕ). take k bytes) (let e : min n (length bytes) ≡ n = omega (arith, leb-true n (length bytes) is) in e)
    go false is =
        let more = leb-false n (length bytes) is in
        ap (λ (k : ℕ). take k bytes) (let e : min n (length bytes) ≡ length bytes = omega (arith, more) in e) ∙ take_all (length bytes) bytes (omega arith) ∙ sym (take_all n bytes (omega (arith, more)))
