-- What an owner has met changes nothing else of what is kept of it.
use Rattle.std.proofs.Common.{arith}
use Rattle.std.proofs.lemmas.Grind.{common_steps}
use Rattle.partition_words.proofs.Vocabulary.{FailsFit, Grows, IsDense, IsMain, IsPrefix, IsInReach, Kept, OwnerState, by_entry}
use Rattle.partition_words.proofs.Vocabulary.{by_item, by_link, le_refl, marked_in, refl, ℕ, ◌≡◌}
use Rattle.partition_words.specs.declared.state.Met.{Met}
use Rattle.partition_words.proofs.Carried.{Carries, stands_on}
use Rattle.partition_words.proofs.Prefixes.{prefix_same}

module _ (o : OwnerState) (met : Met) (closed : ℕ) where
  abbrev p : OwnerState
  p = record o { met = met; closed = closed }

  pub dense_on : (b : ℕ) → IsDense o b → IsDense p b
  dense_on b d = assumption

  reach_back : (b place : ℕ) → IsInReach p b place → IsInReach o b place
  reach_back b place (by_entry c slot h x is) = by_entry c slot h x is
  reach_back b place (by_link c h is) = by_link c h is
  reach_back b place (by_item c slot entry i h x is) = by_item c slot entry i (assumption) x is

  pub met_grows : Grows o p
  met_grows = record {
    shape = refl;
    history = prefix_same o.history;
    rises = λ b l. le_refl _;
    still = λ b l even same place reached. (reach_back b place reached, refl);
  }

  carries : Kept o → (b : ℕ) → IsMain o.shape b → marked_in o.phase b ≡ 0 → Carries o p b
  carries s b main unmarked = grind (arith, common_steps)

  pub met_kept : Kept o → IsPrefix met.seen o.history → FailsFit o met.fails → Kept p
  met_kept s seen fails = grind (arith, common_steps, stands_on o p, carries s)
