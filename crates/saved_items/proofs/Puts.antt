-- Content that goes into blocks, piece by piece.
use Rattle.std.proofs.Common.{◌≡◌, ℕ, List, [], ◌∷◌, ◌++◌, refl, sym, ap, subst, ◌∙◌, append_assoc}
use Rattle.std.specs.Prelude.{Option}
use Rattle.std.specs.List.{AllByRecursion}
use Rattle.std.specs.Io.KnownBytes.{Appends}
use Rattle.std.proofs.KnownBytes.{Appends-trans}
use Rattle.std.proofs.lemmas.List.{append-nil}
use Rattle.saved_items.specs.declared.blocks.TheConstants.{FIRST_SUM}
use Rattle.saved_items.specs.Blocks.{content_sum, sum_behind, block_text, blocks_text, FillsBlock, joined}
use Rattle.saved_items.specs.Moves.{HasPut, Puts}

blocks_text-snoc : (sum : ℕ) (contents : List (List ℕ)) (content : List ℕ) → blocks_text sum (contents ++ content ∷ []) ≡ blocks_text sum contents ++ block_text (sum_behind sum contents) content
blocks_text-snoc sum [] content = append-nil (block_text sum content)
blocks_text-snoc sum (first ∷ contents) content =
    ap (λ (t : List ℕ). block_text sum first ++ t) (blocks_text-snoc (content_sum sum first) contents content)
    ∙ sym (append_assoc (block_text sum first) (blocks_text (content_sum sum first) contents) (block_text (sum_behind (content_sum sum first) contents) content))

sum_behind-snoc : (sum : ℕ) (contents : List (List ℕ)) (content : List ℕ) → sum_behind sum (contents ++ content ∷ []) ≡ content_sum (sum_behind sum contents) content
sum_behind-snoc sum [] content = refl
sum_behind-snoc sum (first ∷ contents) content = sum_behind-snoc (content_sum sum first) contents content

joined-snoc : (contents : List (List ℕ)) (content : List ℕ) → joined (contents ++ content ∷ []) ≡ joined contents ++ content
joined-snoc [] content = append-nil content
joined-snoc (first ∷ contents) content = ap (λ (t : List ℕ). first ++ t) (joined-snoc contents content) ∙ sym (append_assoc first (joined contents) content)

whole-snoc : (contents : List (List ℕ)) (content : List ℕ) → AllByRecursion FillsBlock contents → FillsBlock content → AllByRecursion FillsBlock (contents ++ content ∷ [])
whole-snoc [] content whole last = (last, tt)
whole-snoc (first ∷ contents) content whole last = (whole.0, whole-snoc contents content whole.1 last)

-- held back alone
pub Puts_held : (taken : Option (List ℕ)) (sum : ℕ) (held bytes : List ℕ) → Puts taken taken sum sum held (held ++ bytes) bytes
Puts_held taken sum held bytes = λ before content has. record {
  contents = has.contents;
  whole = has.whole;
  took = has.took;
  summed = has.summed;
  parts = sym (append_assoc (joined has.contents) held bytes) ∙ ap (λ (c : List ℕ). c ++ bytes) has.parts;
}

-- a block is full
pub Puts_block : (old new : Option (List ℕ)) (sum : ℕ) (held : List ℕ) → FillsBlock held → Appends old new (block_text sum held) → Puts old new sum (content_sum sum held) held [] []
Puts_block old new sum held full appends = λ before content has.
    let behind : block_text sum held ≡ block_text (sum_behind FIRST_SUM has.contents) held = ap (λ (s : ℕ). block_text s held) has.summed in
    let blocks : blocks_text FIRST_SUM has.contents ++ block_text sum held ≡ blocks_text FIRST_SUM (has.contents ++ held ∷ []) =
    ap (λ (t : List ℕ). blocks_text FIRST_SUM has.contents ++ t) behind ∙ sym (blocks_text-snoc FIRST_SUM has.contents held) in
    record {
      contents = has.contents ++ held ∷ [];
      whole = whole-snoc has.contents held has.whole full;
      took = subst (Appends before new) blocks (Appends-trans before old new (blocks_text FIRST_SUM has.contents) (block_text sum held) has.took appends);
      summed = ap (λ (s : ℕ). content_sum s held) has.summed ∙ sym (sum_behind-snoc FIRST_SUM has.contents held);
      parts = append-nil (joined (has.contents ++ held ∷ [])) ∙ joined-snoc has.contents held ∙ has.parts ∙ sym (append-nil content);
    }

pub Puts_then : (a b c : Option (List ℕ)) (s t u : ℕ) (x y z bs cs : List ℕ) → Puts a b s t x y bs → Puts b c t u y z cs → Puts a c s u x z (bs ++ cs)
Puts_then a b c s t u x y z bs cs first second = λ before content has.
    subst (HasPut before c u z) (append_assoc content bs cs) (second before (content ++ bs) (first before content has))

-- what is held back is full with these bytes, and is written
pub Puts_full : (old new : Option (List ℕ)) (sum sum' : ℕ) (held held' filled bytes : List ℕ) → sum' ≡ content_sum sum filled → held' ≡ [] → filled ≡ held ++ bytes → FillsBlock filled
    → Appends old new (block_text sum filled) → Puts old new sum sum' held held' bytes
Puts_full old new sum sum' held held' filled bytes next none is full appends =
    let block : Puts old new sum sum' filled held' [] =
    subst (λ (h : List ℕ). Puts old new sum sum' filled h []) (sym none) (subst (λ (s : ℕ). Puts old new sum s filled [] []) (sym next) (Puts_block old new sum filled full appends)) in
    let front : Puts old old sum sum held filled bytes = subst (λ (f : List ℕ). Puts old old sum sum held f bytes) (sym is) (Puts_held old sum held bytes) in
    subst (Puts old new sum sum' held held') (append-nil bytes) (Puts_then old old new sum sum sum' held filled held' bytes [] front block)

pub Puts_none : (taken : Option (List ℕ)) (sum : ℕ) (held : List ℕ) → Puts taken taken sum sum held held []
Puts_none taken sum held = subst (λ (h : List ℕ). Puts taken taken sum sum held h []) (append-nil held) (Puts_held taken sum held [])
