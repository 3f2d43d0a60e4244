-- The buckets of a partition in cache mode stand for its state.
use Rattle.std.proofs.Common.{rules}
use Rattle.std.proofs.Common.{◌≡◌, ◌≢◌, ℕ, zero, suc, ◌+◌, ◌<◌, ◌≤◌, List, [], ◌∷◌, ◌++◌, length, length-set, set, get_or, slice_get, Some, true, not, refl, sym, ap, ◌∙◌, subst, arith, eqb, eqb-true, ◌&&◌}
use borrow.Author.Tests.{eqb-false}
use Rattle.std.specs.Global.{Vec}
use Rattle.std.specs.List.{find}
use Rattle.std.proofs.lemmas.Bool.{eq-eqb, le-leb}
use Rattle.std.proofs.lemmas.Option.{slice_get_read}
use Rattle.std.proofs.lemmas.List.Sums.{prefix_len-le-length}
use Rattle.std.proofs.lemmas.Grind.{common_steps}
use Rattle.mica_words.specs.Hash.{bucket_of}
use Rattle.mica_words.specs.Stamp.{tail_of}
use Rattle.partition_model.specs.declared.options.Options.{Options}
use Rattle.partition_model.specs.declared.options.Mode.TheVariants.{Cache as CacheMode}
use Rattle.partition_model.specs.declared.write.Write.{Write}
use Rattle.partition_model.specs.Cache as cache
use Rattle.partition_model.specs.Cache.{Record, Cache, has_key, is_live, record_of, value_in}
use Rattle.mica_model.specs.CacheFields.{passed_front}
use Rattle.partition_model.specs.CacheStep as cs
use Rattle.partition_model.specs.CacheStep.{is_in_bucket}
use Rattle.partition_model.specs.History.{after as after_in}
use Rattle.partition_model.specs.Options.{IsValid}
use Rattle.partition_model.specs.Write.{IsWrite}
use Rattle.partition_model.proofs.CacheKept.{IsKept}
use Rattle.partition_model.proofs.CacheLaws.{kept_in}
use Rattle.partition_model.proofs.Found.{all_filter, all_push, all_weaker, count_filter, found_filter_all}
use Rattle.partition_model.proofs.Histories.{state_snoc}
use Rattle.partition_model.proofs.Laid.{laid_filter, unique_filter, key_is}
use Rattle.mica_model.proofs.Passed.{laid_rising}
use Rattle.report_check.specs.declared.cache_buckets.CacheBuckets.{CacheBuckets}
use Rattle.report_check.specs.Machines.{in_bucket, bucket_part, AreBuckets, HasPart, IsReachable}
use Rattle.report_check.proofs.Filters.{filter_weaker, filter_all, find_both}
use Rattle.report_check.proofs.BucketSteps.{own_after, other_after, live_before}

-- what stands in a list once one element is another
pub seen_set : {X : Type 0} (xs : List X) (i j : ℕ) (new x : X) → slice_get (set xs i new) j ≡ Some x → (j ≡ i → x ≡ new) × (j ≢ i → slice_get xs j ≡ Some x)
seen_set [] i j new x is = absurd (cc)
seen_set (y ∷ xs) zero zero new x is = ((λ _. cc), (λ other. absurd (other refl)))
seen_set (y ∷ xs) zero (suc j) new x is = ((λ same. absurd (omega arith)), (λ _. is))
seen_set (y ∷ xs) (suc i) zero new x is = ((λ same. absurd (omega arith)), (λ _. is))
seen_set (y ∷ xs) (suc i) (suc j) new x is = grind (arith, common_steps, seen_set xs i j new x is)

pub reached_kept : (options : Options) (s : Cache) → IsReachable options s → IsKept options s
reached_kept options s reached = kept_in options reached.0 reached.1 s reached.2

-- a bucket's part of a state has what every state has
pub part_kept : (options : Options) (bucket : ℕ) (s : Cache) → IsKept options s → IsKept options (bucket_part options bucket s)
part_kept options bucket s kept = search (rules, is_in_bucket, laid_filter, unique_filter, all_filter, count_filter, tail_of)

-- a bucket that was met has its part of the state, and nothing else
pub part_is : (options : Options) (bucket : ℕ) (s : Cache) → IsKept options s → HasPart options bucket s (bucket_part options bucket s)
part_is options bucket s kept =
    let part = part_kept options bucket s kept in
    record {
      rising = laid_rising 0 (tail_of s.stamp) (in_bucket options bucket s.records) part.laid;
      live = filter_all _ (in_bucket options bucket s.records) (all_weaker _ _ (λ r low. le-leb (tail_of s.stamp) (r.offset + options.words) low) (in_bucket options bucket s.records) part.live);
    }

-- a bucket that catches up
pub caught_up : (options : Options) (bucket : ℕ) (s held : Cache) → HasPart options bucket s held
    → cs.without_passed options (record held { stamp = s.stamp; accepted = s.accepted }) ≡ bucket_part options bucket s
caught_up options bucket s held has = ap (λ (rs : List Record). record s { records = rs }) has.live

-- the value of a key, by its bucket
pub value_by : (options : Options) (s held : Cache) (key : List ℕ) → HasPart options (bucket_of options.hashing key options.buckets) s held
    → find (λ r. has_key key r && is_live options.words s.stamp r.offset) held.records ≡ record_of s key
value_by options s held key has =
    find_both (has_key key) (λ r. is_live options.words s.stamp r.offset) held.records
    ∙ ap (find (has_key key)) has.live
    ∙ found_filter_all (has_key key) (is_in_bucket options (bucket_of options.hashing key options.buckets)) (λ r is. own_key r is) s.records
  where
    own_key : (r : Record) → has_key key r ≡ true → is_in_bucket options (bucket_of options.hashing key options.buckets) r ≡ true
    own_key r is = eq-eqb (bucket_of options.hashing r.key options.buckets) (bucket_of options.hashing key options.buckets) (ap (λ k. bucket_of options.hashing k options.buckets) (key_is key r is))

-- each bucket has its part, where one has just its part and the others have theirs
pub set_parts : (options : Options) (buckets : List Cache) (at : ℕ) (new s : Cache) → IsKept options s → new ≡ bucket_part options at s
    → ((bucket : ℕ) (held : Cache) → bucket ≢ at → slice_get buckets bucket ≡ Some held → HasPart options bucket s held)
    → (bucket : ℕ) (held : Cache) → slice_get (set buckets at new) bucket ≡ Some held → HasPart options bucket s held
set_parts options buckets at new s kept is others bucket held here =
    grind (arith, seen_set buckets at bucket new held here, eqb bucket at, eqb-true bucket at, part_is options bucket s kept, eqb-false bucket at, others bucket held)

module _ (options : Options) (s : Cache) (reached : IsReachable options s) (write : Write) (is : IsWrite write) where
  pub reached_after : IsReachable options (cs.after options s write)
  reached_after = (reached.0 ++ write ∷ [], all_push IsWrite reached.0 write reached.1 is, state_snoc options reached.0 write ∙ ap (λ t. after_in options t write) reached.2)

  -- a bucket after a write to a key of another
  pub other_part : (bucket : ℕ) (held : Cache) → bucket_of options.hashing write.key options.buckets ≢ bucket → HasPart options bucket s held → HasPart options bucket (cs.after options s write) held
  other_part bucket held other has = grind (arith, common_steps, filter_weaker, live_before options s write, other_after options s write bucket other)

-- The buckets once one was met.
module _ (options : Options) (olds news : Vec Cache) (stamp accepted : ℕ) (s : Cache) (are : AreBuckets s (record { options = options; buckets = olds; stamp = stamp; accepted = accepted })) (at : ℕ) (b : Cache)
    (items : news.items ≡ set olds.items at b) where
  met_many : length news.items ≡ options.buckets
  met_many = ap length items ∙ length-set olds.items at b ∙ are.many

  pub are_met : b ≡ bucket_part options at s → AreBuckets s (record { options = options; buckets = news; stamp = stamp; accepted = accepted })
  are_met is = record {
    valid = are.valid;
    reached = are.reached;
    stamp = are.stamp;
    accepted = are.accepted;
    many = met_many;
    each = λ bucket held here. set_parts options olds.items at b s (reached_kept options s are.reached) is (λ k h other there. are.each k h there) bucket held
        (subst (λ (bs : List Cache). slice_get bs bucket ≡ Some held) items here);
  }

  -- and took a write
  pub are_after : (write : Write) → IsWrite write → at ≡ bucket_of options.hashing write.key options.buckets → b ≡ cs.after options (bucket_part options at s) write → (stamp' accepted' : ℕ) → stamp' ≡ b.stamp → accepted' ≡ b.accepted
      → AreBuckets (cs.after options s write) (record { options = options; buckets = news; stamp = stamp'; accepted = accepted' })
  are_after write is own is_b stamp' accepted' same same' =
      let now = cs.after options s write in
      let part : b ≡ bucket_part options at now = is_b ∙ ap (λ k. cs.after options (bucket_part options k s) write) own ∙ own_after options s write ∙ ap (λ k. bucket_part options k now) (sym own) in
      let reached = reached_after options s are.reached write is in
      record {
        valid = are.valid;
        reached = reached;
        stamp = same ∙ ap (λ (t : Cache). t.stamp) part;
        accepted = same' ∙ ap (λ (t : Cache). t.accepted) part;
        many = met_many;
        each = λ bucket held here. set_parts options olds.items at b now (reached_kept options now reached) part
            (λ k h other there. other_part options s are.reached write is k h (λ e. other (sym e ∙ sym own)) (are.each k h there)) bucket held
            (subst (λ (bs : List Cache). slice_get bs bucket ≡ Some held) items here);
      }

-- an accepted write, step by step
pub after_is : (options : Options) (s : Cache) (write : Write) (wrote dropped : Cache) → wrote ≡ cs.after_write options s write
    → dropped ≡ cs.without_displaced options write.key (cs.without_passed options wrote) → record dropped { accepted = dropped.accepted + 1 } ≡ cs.after options s write
unfolding cs.after
after_is options s write wrote dropped wrote_is dropped_is = grind (arith, common_steps)

-- what the log has passed stands in front of the records
pub front_within : (words stamp : ℕ) (records : List Record) → passed_front words stamp records ≤ length records
front_within words stamp records = prefix_len-le-length (λ held. not (is_live words stamp held.offset)) records

-- what a write to a bucket may rely on
pub bucket_kept : (options : Options) (s bucket : Cache) (b : ℕ) → IsReachable options s → bucket ≡ bucket_part options b s → IsKept options bucket
bucket_kept options s bucket b reached is = subst (IsKept options) (sym is) (part_kept options b s (reached_kept options s reached))

-- One bucket of them, by its number.
module _ (m : CacheBuckets) (s : Cache) (are : AreBuckets s m) (number : ℕ) (held : Cache) (less : number < m.options.buckets) (is : held ≡ get_or m.buckets.items number held) where
  pub part_at : HasPart m.options number s held
  part_at = are.each number held (slice_get_read m.buckets.items m.options.buckets number held (sym are.many) less is)

  -- that catches up
  pub caught_at : cs.without_passed m.options (record held { stamp = m.stamp; accepted = m.accepted }) ≡ bucket_part m.options number s
  caught_at = grind (arith, common_steps, caught_up m.options number s held part_at, part_at)

  -- where a key's record is found
  pub found_in : (key : List ℕ) (records : List Record) → number ≡ bucket_of m.options.hashing key m.options.buckets → records ≡ held.records
      → find (λ r. has_key key r && is_live m.options.words m.stamp r.offset) records ≡ record_of s key
  found_in key records own same = grind (arith, common_steps, value_by m.options s held key, part_at)

-- the buckets of the empty partition
pub first_buckets : (options : Options) (buckets : Vec Cache) → IsValid options → options.mode ≡ CacheMode → length buckets.items ≡ options.buckets
    → ((bucket : ℕ) (held : Cache) → slice_get buckets.items bucket ≡ Some held → held ≡ cache.start)
    → AreBuckets cache.start (record { options = options; buckets = buckets; stamp = 0; accepted = 0 })
unfolding cache.start
first_buckets options buckets valid mode many empty = grind (arith, common_steps)
