-- What is counted of answers that are given one after another.
use Rattle.std.proofs.Common.{◌≡◌, ℕ, Bool, true, false, List, [], ◌∷◌, ◌++◌, length, drop, refl, ap}
use Rattle.std.specs.Prelude.{if◌then◌else◌}
use Rattle.mica_words.specs.declared.hashing.Hashing.{Hashing}
use Rattle.memcached_commands.specs.declared.asks.Asked.{Asked}
use Rattle.memcached_requests.specs.declared.request.Next.{Next}
use Rattle.memcached_requests.specs.Requests.{asks_in}
use Rattle.memcached_stats.specs.Counted.{counter_by}
use Rattle.memcached_stats.specs.Tallies.{Numbers, counted}
use Rattle.fronts.specs.Answered.{Answered}
use Rattle.command_answers.specs.Counting.{tally_after, tally_after_all, tally_after_next}
use Rattle.command_answers.specs.Exchange.{is_flush_all}

-- one more, and what follows
pub counted_more : (base : ℕ) (hashing : Hashing) (partitions : ℕ) (asks left : List Asked) (answers : List Answered) (asked : Asked) (a : Answered) (later : List Answered) (tally : Numbers)
    → drop (length answers) asks ≡ asked ∷ left
    → tally_after_all base hashing partitions asks (answers ++ a ∷ later) tally
    ≡ tally_after_all base hashing partitions left later (tally_after base hashing partitions asked a (tally_after_all base hashing partitions asks answers tally))
counted_more base hashing partitions [] left [] asked a later tally here = absurd (cc)
counted_more base hashing partitions (x ∷ asks) left [] asked a later tally here =
    let first : x ≡ asked = cc in
    let rest : asks ≡ left = cc in
    λ i. tally_after_all base hashing partitions (rest i) later (tally_after base hashing partitions (first i) a tally)
counted_more base hashing partitions [] left (b ∷ answers) asked a later tally here = absurd (cc)
counted_more base hashing partitions (x ∷ asks) left (b ∷ answers) asked a later tally here = counted_more base hashing partitions asks left answers asked a later (tally_after base hashing partitions x b tally) here

module _ (base : ℕ) (hashing : Hashing) (partitions : ℕ) (next : Next) (done : ℕ) (answers : List Answered) (tally : Numbers) where
  abbrev both : Bool → Numbers
  both flushes =
      if flushes then counted (counter_by next) tally else tally_after_all base hashing partitions (drop done (asks_in next)) answers (counted (counter_by next) tally)

  -- a flush is counted by its command
  pub counted_flush : is_flush_all next ≡ true → tally_after_next base hashing partitions next done answers tally ≡ counted (counter_by next) tally
  counted_flush is = ap both is

  pub counted_keyed : is_flush_all next ≡ false
      → tally_after_next base hashing partitions next done answers tally ≡ tally_after_all base hashing partitions (drop done (asks_in next)) answers (counted (counter_by next) tally)
  counted_keyed is = ap both is

-- and so is what asks nothing of a key
pub counted_plain : (base : ℕ) (hashing : Hashing) (partitions : ℕ) (next : Next) (done : ℕ) (tally : Numbers) → tally_after_next base hashing partitions next done [] tally ≡ counted (counter_by next) tally
counted_plain base hashing partitions next done tally = by (is_flush_all next)
  where
    by : (b : Bool) → both base hashing partitions next done [] tally b ≡ counted (counter_by next) tally
    by true = refl
    by false = refl
