-- What bytes begin with, they begin with whatever follows.
use Rattle.std.proofs.Common.{◌≡◌, ℕ, Bool, true, false, ltb, List, [], ◌∷◌, ◌++◌, length, drop, refl, sym, subst, ◌∙◌, arith}
use Rattle.std.proofs.lemmas.List.{drop-append-le, drop_all}
use Rattle.std.proofs.lemmas.Bool.{ltb-true, ltb-false}
use Rattle.memcached_text.specs.declared.next.Next.{Next}
use Rattle.memcached_text.specs.declared.next.Next.TheVariants.{More}
use Rattle.memcached_text.specs.Next.{next_of}
use Rattle.memcached_text.specs.Stream.{len_of, is_last, Behind, BeginsWith, GoesOn}
use Rattle.memcached_text.proofs.NextLaws.{no_line_short, stays}

nothing : next_of [] ≡ More
nothing = no_line_short [] refl (omega arith) tt

-- nothing begins with nothing
no_more : (nexts : List Next) → BeginsWith [] nexts → nexts ≡ []
no_more [] is = refl
no_more (next ∷ nexts) is = absurd (is.0 (sym is.1 ∙ nothing))

-- those behind the first, where what this takes has come, and where it has not
behind : (bytes more : List ℕ) (len : ℕ) (nexts : List Next) → ((rest : List ℕ) → BeginsWith rest nexts → BeginsWith (rest ++ more) nexts) → BeginsWith (drop len bytes) nexts → BeginsWith (drop len (bytes ++ more)) nexts
behind bytes more len nexts later is = go (ltb (length bytes) len) refl
  where
    go : (t : Bool) → ltb (length bytes) len ≡ t → BeginsWith (drop len (bytes ++ more)) nexts
    go false come = subst (λ t. BeginsWith t nexts) (sym (drop-append-le len bytes more (ltb-false _ _ come))) (later (drop len bytes) is)
    go true come =
        let beyond = ltb-true _ _ come in
        let none : nexts ≡ [] = no_more nexts (subst (λ t. BeginsWith t nexts) (drop_all len bytes (omega arith)) is) in
        subst (BeginsWith (drop len (bytes ++ more))) (sym none) tt

-- nothing stands behind what is last, whatever follows
onward : (last : Bool) (nexts : List Next) (A B : Type 0) → (A → B) → Behind last nexts A → Behind last nexts B
onward true nexts A B later is = is
onward false nexts A B later is = later is

pub goes_on : GoesOn
goes_on bytes more [] is = tt
goes_on bytes more (next ∷ nexts) is = (
  is.0,
  stays bytes more (λ waits. is.0 (sym is.1 ∙ waits)) ∙ is.1,
  onward (is_last next) nexts _ _ (λ here. behind bytes more (len_of next) nexts (λ rest begins. goes_on rest more nexts begins) here) is.2,
)
