-- How the line `check` parts the bytes that a source gave.
use Rattle.std.specs.Prelude.{◌≡◌, ◌≢◌, ◌⊎◌, ⊤, ℕ, List, [], ◌∷◌, ◌++◌, codes, Option, Some, None}
use Rattle.std.specs.List.{AllByRecursion}
use Rattle.mica_trace.specs.Lines.{lines_of}

-- whole lines: none, or the last one has its line feed
abbrev pub EndsLine : List ℕ → Type 0
EndsLine [] = ⊤
EndsLine (b ∷ []) = b ≡ 10
EndsLine (b ∷ c ∷ bytes) = EndsLine (c ∷ bytes)

-- no line is exactly `check`
abbrev pub HasNoCheck : List ℕ → Type 0
HasNoCheck bytes = AllByRecursion (λ line. line ≢ codes "check") (lines_of bytes)

-- The first line that is exactly `check` stands between the two. Its line feed may lack at the end of the bytes.
pub record IsParted (bytes before after : List ℕ) : Type 0 where
  pub whole : EndsLine before
  pub first : HasNoCheck before
  pub parts : (bytes ≡ before ++ codes "check" ++ 10 ∷ after) ⊎ ((bytes ≡ before ++ codes "check") × (after ≡ []))

-- what stands before that line, and what stands behind it; all bytes stand before it where there is none
abbrev pub HasParts : List ℕ → List ℕ → Option (List ℕ) → Type 0
HasParts bytes before None = HasNoCheck bytes × (before ≡ bytes)
HasParts bytes before (Some after) = IsParted bytes before after
