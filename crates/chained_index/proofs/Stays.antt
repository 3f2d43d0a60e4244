-- What stays where no bucket changed: a chain with its entries, and the index.
use Rattle.std.proofs.lemmas.Grind.{common_steps}
use Rattle.chained_index.proofs.Words.{◌≡◌, ℕ, List, ◌∷◌, length, sym, ◌∙◌, arith, length-set}
use Rattle.chained_index.proofs.Words.{History, OwnerState, Phase, Ends, IsMain, IsBucket, InChain, IsDense, entries_of, KeepsChain}
use Rattle.chained_index.proofs.Words.{link_in, IsChain, in_chain, chain_there, words_after, history_after}
use Rattle.chained_index.proofs.Words.{phase_after, after, Index, IsIndexOf}
use Rattle.chained_index.proofs.Chained.{chain_is, Chained, kept_chain, chain_inside, free_on, free_back}
use Rattle.chained_index.proofs.Filled.{SameBucket, IsFilled, still_blank, dense_there, entries_are, filled_there, same_filled}

module _ (o : OwnerState) (words : List ℕ) (history : History) (phase : Phase) (long : length words ≡ length o.words)
    (s : Chained o) where
  abbrev p : OwnerState
  p = record o { words = words; history = history; phase = phase }

  -- a dense chain none of whose buckets changed is as it was
  module _ (b : ℕ) (main : IsMain o.shape b) (dense : IsDense o b) (same : (c : ℕ) → InChain o b c → SameBucket o p c) where
    abbrev behind : List ℕ
    behind = (chain_there o s.chains b main).0

    was : IsChain o b behind
    was = (chain_there o s.chains b main).1

    now : IsChain p b behind
    now = kept_chain o words history phase long s b main (λ c h. (same c h).link) behind was

    filled : IsFilled p (b ∷ behind) (entries_of o b)
    filled = same_filled o p (b ∷ behind) (entries_of o b) (filled_there o s.wide b main behind was dense) (λ c i. same c (in_chain o b behind was c i))

    pub chain_kept : KeepsChain o p b
    chain_kept =
        record { buckets = chain_is p b behind now ∙ sym (chain_is o b behind was); entries = entries_are p (long ∙ s.wide) b main behind now (entries_of o b) filled }

    pub dense_kept : IsDense p b
    dense_kept = dense_there p (long ∙ s.wide) b main behind now (entries_of o b) filled

  -- where none of any bucket's did, all are, and so is the index
  module _ (same : (d : ℕ) → IsBucket o.shape d → SameBucket o p d) (index : Index) (is : IsIndexOf index o) where
    chain_same : (b : ℕ) → IsMain o.shape b → (d : ℕ) → InChain o b d → SameBucket o p d
    chain_same b main d h = same d (chain_inside o s b d main h)

    links : (d : ℕ) → IsBucket o.shape d → link_in p d ≡ link_in o d
    links d l = (same d l).link

    pub entries_stay : (b : ℕ) → IsMain o.shape b → entries_of p b ≡ entries_of o b
    entries_stay b main = (chain_kept b main (is.dense b main) (chain_same b main)).entries

    pub index_stays : IsIndexOf index p
    index_stays = record {
      shape = is.shape;
      dense = λ b main. dense_kept b main (is.dense b main) (chain_same b main);
      free = λ d. (λ has. free_on o words history phase long s links d ((is.free d).0 has), λ f. (is.free d).1 (free_back o words history phase long s links d f));
      once = is.once;
      blank = λ d f. still_blank o p d (same d f.spare.1) (is.blank d (free_back o words history phase long s links d f));
    }

-- The end of a write goes to no word of a bucket.
module _ (o : OwnerState) (s : Chained o) (b : ℕ) (main : IsMain o.shape b) where
  ends_same : (d : ℕ) → IsBucket o.shape d → SameBucket o (after (Ends b) o) d
  ends_same d l = grind (arith, common_steps)

  pub entries_ends : (index : Index) → IsIndexOf index o → (c : ℕ) → IsMain o.shape c → entries_of (after (Ends b) o) c ≡ entries_of o c
  entries_ends = entries_stay o (words_after (Ends b) o) (history_after (Ends b) o.history) (phase_after (Ends b) o) (length-set o.words _ _) s ends_same

  pub index_ends : (index : Index) → IsIndexOf index o → IsIndexOf index (after (Ends b) o)
  index_ends = index_stays o (words_after (Ends b) o) (history_after (Ends b) o.history) (phase_after (Ends b) o) (length-set o.words _ _) s ends_same
