-- When a script is settled: by its last cut, and whether a write is under way.
use Rattle.std.proofs.lemmas.Grind.{common_steps}
use Rattle.partition_words.proofs.Vocabulary.{Bool, IsTrue, ap, arith, false, get_or, length, not}
use Rattle.partition_words.proofs.Vocabulary.{refl, sym, true, ℕ, ◌-◌, ◌<◌, ◌∙◌, ◌≡◌}
use Rattle.partition_words.specs.declared.reading.Plan.{Plan}
use Rattle.partition_words.specs.declared.state.Phase.{Phase}
use Rattle.partition_words.specs.declared.state.Phase.TheVariants.{Idle}
use Rattle.scripted_reader.specs.declared.scripted.Scripted.{Scripted}
use Rattle.scripted_reader.proofs.Cuts.{last_of_still, still_at_last}
use Rattle.partition_words.specs.Plan.{Rests, owner_at}
use Rattle.scripted_reader.specs.Script.{HasPlayedOut, is_writing}
use Rattle.scripted_reader.specs.Seat.{book_of}

idle_is : (phase : Phase) → is_writing phase ≡ false → phase ≡ Idle
idle_is Idle e = refl
idle_is phase e = absurd (cc e)

module _ (s : Scripted) (last : ℕ) (is : last ≡ get_or s.cuts.items (length s.cuts.items - 1) 0) where
  pub settled : s.stage.played ≡ last → s.stage.writing ≡ false → HasPlayedOut (book_of s)
  settled end calm =
      grind (arith, common_steps, still_at_last s.cuts.items (book_of s).reader.loads s.stage.played s.rise s.at (end ∙ is), idle_is (book_of s).owner.phase (sym s.stage.begun ∙ calm), calm)

  pub at_end : HasPlayedOut (book_of s) → s.stage.played ≡ last
  at_end now = grind (arith, common_steps, last_of_still s.cuts.items (book_of s).reader.loads s.stage.played)

  pub calm : HasPlayedOut (book_of s) → s.stage.writing ≡ false
  calm now = s.stage.begun ∙ ap is_writing now.idle

pub quiet_is : (writing : Bool) → IsTrue (not writing) → writing ≡ false
quiet_is false quiet = refl
quiet_is true quiet = absurd (cc quiet)

-- from then on the owner is at rest

module _ (s : Scripted) (settled : HasPlayedOut (book_of s)) where
  pub at_rest : Rests (book_of s).plan (book_of s).reader.loads (book_of s).owner
  at_rest = grind (arith, common_steps)

  -- and so it is after more loads of the same plan
  module _ (t : Scripted) (plan : (book_of t).plan ≡ (book_of s).plan) (later : (book_of s).reader.loads < (book_of t).reader.loads) where
    pub same_owner : (book_of t).owner ≡ (book_of s).owner
    same_owner = t.finds ∙ ap (λ (z : Plan). owner_at z (book_of t).reader.loads) plan ∙ at_rest.still (book_of t).reader.loads later

    pub settled_still : HasPlayedOut (book_of t)
    settled_still = grind (arith, common_steps)
