-- What holds of all requests of a trace holds of its batches, and the other way round; each batch fits a datagram, and they are few.
use Rattle.std.proofs.Common.{◌≡◌, ◌≤◌, ◌<◌, ◌⊎◌, inl, inr, ℕ, zero, suc, ◌+◌, ◌*◌, ◌==◌, ◌||◌, Bool, true, false, List, [], ◌∷◌, ◌++◌, length, refl, sym, ap, subst, ◌∙◌, arith, cond, Some, None, eq-eqb, length-append, append_assoc, append-nil, get_or}
use Rattle.std.proofs.Math.ListN.{get_or-append}
use Rattle.std.proofs.Math.Nat.{mul-le-mul_left}
use Rattle.std.specs.Prelude.{nat_le, nat_lt, filter, flat_map}
use Rattle.std.specs.List.{AllByRecursion, range_with_len}
use Rattle.std.proofs.lemmas.Bool.{cases_eq, leb-true, ltb-true, and_parts, and_from, le-leb, lt-ltb}
use Rattle.std.proofs.lemmas.List.{get_or-append-add}
use Rattle.std.proofs.lemmas.List.Folds.{flat_map-map}
use Rattle.std.proofs.lemmas.List.Sums.{length-filter, count_by-le-length}
use Rattle.std.proofs.lemmas.List.Kept.{AllPairs-filter}
use Rattle.std.proofs.lemmas.Grind.{flat_map-append}
use Rattle.mica_words.specs.declared.hashing.Hashing.TheVariants.{Fnv1a}
use Rattle.mica_words.specs.Hash.{partition_of}
use Rattle.mica_words.specs.declared.item.TheConstants.{MAX_VALUE_LEN}
use Rattle.mica_words.proofs.Hashes.{partition_of-below}
use Rattle.mica_trace.specs.declared.line.TraceLine.{TraceLine}
use Rattle.mica_trace.specs.TraceGrammar.{IsTraceLine}
use Rattle.batch_packets.specs.declared.header.TheConstants.{HEADER_LEN, MAX_DATAGRAM_LEN_V2}
use Rattle.batch_packets.specs.declared.batch.Request.{Request}
use Rattle.batch_packets.specs.declared.batch.Batch.{Batch}
use Rattle.batch_packets.specs.Datagram.{FitsDatagram}
use Rattle.batch_packets.specs.BatchGrammar.{IsRequest, request_text, batch_text, operation_of}
use Rattle.mica_client.specs.declared.options.TheConstants.{VERSION}
use Rattle.server_words.specs.declared.ask_options.AskOptions.{AskOptions}
use Rattle.server_words.specs.AskOptions.{IsValidAsk}
use Rattle.mica_client.specs.Batches.{Group, request_of, in_front, requests_from, on_line, rounds_from, text_len, joins, last_batch, cut, is_in_partition, port_of, groups_at, groups_in, groups_of_round, groups_of}
use Rattle.mica_client.specs.Answers.{TicketsRise}
use Rattle.mica_client.proofs.Requests.{requests_lawful, requests_count}

-- a fact of each of two lists, and of both together
pub all_append : {X : Type 0} (P : X → Type 0) (xs ys : List X) → AllByRecursion P xs → AllByRecursion P ys → AllByRecursion P (xs ++ ys)
all_append P [] ys a b = b
all_append P (x ∷ xs) ys a b = (a.0, all_append P xs ys a.1 b)

pub all_parts : {X : Type 0} (P : X → Type 0) (xs ys : List X) → AllByRecursion P (xs ++ ys) → AllByRecursion P xs × AllByRecursion P ys
all_parts P [] ys h = (tt, h)
all_parts P (x ∷ xs) ys h = let parts = all_parts P xs ys h.1 in ((h.0, parts.0), parts.1)

pub all_each : {X : Type 0} (P Q : X → Type 0) → ((x : X) → P x → Q x) → (xs : List X) → AllByRecursion P xs → AllByRecursion Q xs
all_each P Q each [] h = tt
all_each P Q each (x ∷ xs) h = (each x h.0, all_each P Q each xs h.1)

all_filter : {X : Type 0} (P : X → Type 0) (test : X → Bool) (xs : List X) → AllByRecursion P xs → AllByRecursion P (filter test xs)
all_filter P test [] h = tt
all_filter P test (x ∷ xs) h =
    elim (test x) as (λ b. AllByRecursion P (cond b (x ∷ filter test xs) (filter test xs))) [ true ↦ (h.0, all_filter P test xs h.1) | false ↦ all_filter P test xs h.1 ]

-- No request is lost

abbrev flat : List (List Request) → List Request
flat batches = flat_map (λ batch. batch) batches

flat_last : (group : List Request) → flat (last_batch group) ≡ group
flat_last [] = refl
flat_last (r ∷ rs) = append-nil (r ∷ rs)

flat_cut : (per : ℕ) (group requests : List Request) → flat (cut per group requests) ≡ group ++ requests
flat_cut per group [] = flat_last group ∙ sym (append-nil group)
flat_cut per group (r ∷ rs) =
    elim (joins per group r) as (λ b. flat (cond b (cut per (group ++ r ∷ []) rs) (group ∷ cut per (r ∷ []) rs)) ≡ group ++ r ∷ rs) [
      | true ↦ flat_cut per (group ++ r ∷ []) rs ∙ append_assoc group (r ∷ []) rs
      | false ↦ ap (λ (l : List Request). group ++ l) (flat_cut per (r ∷ []) rs)
    ]

flat_rounds : (round : List Request) (n : ℕ) (lines : List TraceLine) → flat (rounds_from round n lines) ≡ round ++ requests_from n lines
flat_rounds round n [] = refl
flat_rounds round n (line ∷ lines) =
    elim (request_of n line) as (λ x. flat (on_line x round (λ r. rounds_from r (n + 1) lines)) ≡ round ++ in_front x (requests_from (n + 1) lines)) [
      | None ↦ ap (λ (l : List Request). round ++ l) (flat_rounds [] (n + 1) lines)
      | Some r ↦ flat_rounds (round ++ r ∷ []) (n + 1) lines ∙ append_assoc round (r ∷ []) (requests_from (n + 1) lines)
    ]

-- What holds of all requests holds of each batch

-- a fact of requests that holds of their parts, and of those that pass a test
pub record HoldsOfParts (Q : List Request → Type 0) : Type 0 where
  both : (xs ys : List Request) → Q (xs ++ ys) → Q xs × Q ys
  sifted : (test : Request → Bool) (xs : List Request) → Q xs → Q (filter test xs)

pub of_each : (P : Request → Type 0) → HoldsOfParts (AllByRecursion P)
of_each P = record { both = all_parts P; sifted = λ test xs h. all_filter P test xs h }

pub of_rise : HoldsOfParts TicketsRise
of_rise = record {
  both = λ xs ys h.
      let long = length-append xs ys in (
        λ i j d before within. subst (λ (r : Request). r.ticket < (get_or xs j d).ticket) (get_or-append xs ys d i (omega arith))
            (subst (λ (r : Request). (get_or (xs ++ ys) i d).ticket < r.ticket) (get_or-append xs ys d j within) (h i j d before (omega (arith, long)))),
        λ i j d before within. subst (λ (r : Request). r.ticket < (get_or ys j d).ticket) (get_or-append-add xs ys i d)
            (subst (λ (r : Request). (get_or (xs ++ ys) (length xs + i) d).ticket < r.ticket) (get_or-append-add xs ys j d) (h (length xs + i) (length xs + j) d (omega arith) (omega (arith, long)))),
      );
  sifted = λ test xs h. AllPairs-filter (λ one later. one.ticket < later.ticket) test xs h;
}

each_part : {Q : List Request → Type 0} → HoldsOfParts Q → (batches : List (List Request)) → Q (flat batches) → AllByRecursion Q batches
each_part of [] h = tt
each_part of (b ∷ bs) h = let both = of.both b (flat bs) h in (both.0, each_part of bs both.1)

each_round : {Q : List Request → Type 0} → HoldsOfParts Q → (trace : List TraceLine) → Q (requests_from 0 trace) → AllByRecursion Q (rounds_from [] 0 trace)
each_round {Q} of trace h = each_part of (rounds_from [] 0 trace) (subst Q (sym (flat_rounds [] 0 trace)) h)

abbrev own_batches : AskOptions → List Request → ℕ → List (List Request)
own_batches options round p = cut options.per [] (filter (is_in_partition options p) round)

-- a fact of each batch, by one of its round
module _ (Q R : List Request → Type 0) (options : AskOptions) (own : (round : List Request) (p : ℕ) → R round → AllByRecursion Q (own_batches options round p)) where
  each_at : (port : ℕ) (batches : List (List Request)) → AllByRecursion Q batches → AllByRecursion (λ g. Q g.requests) (groups_at port batches)
  each_at port [] h = tt
  each_at port (b ∷ bs) h = (h.0, each_at port bs h.1)

  each_own : (round : List Request) (a n : ℕ) → R round → AllByRecursion (λ g. Q g.requests) (flat_map (groups_in options round) (range_with_len a n))
  each_own round a zero h = tt
  each_own round a (suc n) h =
      all_append (λ g. Q g.requests) (groups_in options round a) (flat_map (groups_in options round) (range_with_len (a + 1) n))
      (each_at (port_of options a) (own_batches options round a) (own round a h)) (each_own round (a + 1) n h)

  each_group : (rounds : List (List Request)) → AllByRecursion R rounds → AllByRecursion (λ g. Q g.requests) (flat_map (groups_of_round options) rounds)
  each_group [] h = tt
  each_group (round ∷ rounds) h =
      all_append (λ g. Q g.requests) (groups_of_round options round) (flat_map (groups_of_round options) rounds) (each_own round 0 options.partitions h.0) (each_group rounds h.1)

pub all_groups : {Q : List Request → Type 0} → HoldsOfParts Q → (options : AskOptions) (trace : List TraceLine) → Q (requests_from 0 trace) → AllByRecursion (λ g. Q g.requests) (groups_of options trace)
all_groups {Q} of options trace h =
    each_group Q Q options
    (λ round p own. each_part of (own_batches options round p) (subst Q (sym (flat_cut options.per [] (filter (is_in_partition options p) round))) (of.sifted (is_in_partition options p) round own)))
    (rounds_from [] 0 trace) (each_round of trace h)

-- What holds of each batch holds of all requests

module _ (P : Request → Type 0) (options : AskOptions) where
  abbrev pub InEach : List Group → Type 0
  InEach groups = AllByRecursion (λ g. AllByRecursion P g.requests) groups

  of_groups : (port : ℕ) (batches : List (List Request)) → InEach (groups_at port batches) → AllByRecursion P (flat batches)
  of_groups port [] h = tt
  of_groups port (b ∷ bs) h = all_append P b (flat bs) h.0 (of_groups port bs h.1)

  of_own : (round : List Request) (a n : ℕ) → InEach (flat_map (groups_in options round) (range_with_len a n))
      → (p : ℕ) → a ≤ p → p < a + n → AllByRecursion P (filter (is_in_partition options p) round)
  of_own round a zero h p low high = absurd (omega arith)
  of_own round a (suc n) h p low high =
      let parts = all_parts (λ g. AllByRecursion P g.requests) (groups_in options round a) (flat_map (groups_in options round) (range_with_len (a + 1) n)) h in
      by (cases_eq a p) (subst (AllByRecursion P) (flat_cut options.per [] (filter (is_in_partition options a) round)) (of_groups (port_of options a) (own_batches options round a) parts.0))
      (λ more. of_own round (a + 1) n parts.1 p more (omega arith))
    where
      by : ((a ≡ p) ⊎ (a ≡ p → ⊥)) → AllByRecursion P (filter (is_in_partition options a) round) → (a + 1 ≤ p → AllByRecursion P (filter (is_in_partition options p) round))
          → AllByRecursion P (filter (is_in_partition options p) round)
      by (inl e) first later = subst (λ (q : ℕ). AllByRecursion P (filter (is_in_partition options q) round)) e first
      by (inr ne) first later = later (omega arith)

  of_round : (round : List Request) → 0 < options.partitions → ((p : ℕ) → p < options.partitions → AllByRecursion P (filter (is_in_partition options p) round)) → AllByRecursion P round
  of_round [] some h = tt
  of_round (r ∷ rs) some h =
      let p : ℕ = partition_of Fnv1a r.key options.partitions in
      let own = subst (λ b. AllByRecursion P (cond b (r ∷ filter (is_in_partition options p) rs) (filter (is_in_partition options p) rs))) (eq-eqb p p refl) (h p (partition_of-below Fnv1a r.key options.partitions some)) in
      (own.0, of_round rs some (λ q below. later q (h q below)))
    where
      later : (q : ℕ) → AllByRecursion P (filter (is_in_partition options q) (r ∷ rs)) → AllByRecursion P (filter (is_in_partition options q) rs)
      later q all =
          elim (is_in_partition options q r) as (λ b. AllByRecursion P (cond b (r ∷ filter (is_in_partition options q) rs) (filter (is_in_partition options q) rs)) → AllByRecursion P (filter (is_in_partition options q) rs)) [
            | true ↦ λ a. a.1
            | false ↦ λ a. a
          ] all

  of_rounds : (rounds : List (List Request)) → 0 < options.partitions → InEach (flat_map (groups_of_round options) rounds) → AllByRecursion P (flat rounds)
  of_rounds [] some h = tt
  of_rounds (round ∷ rounds) some h =
      let parts = all_parts (λ g. AllByRecursion P g.requests) (groups_of_round options round) (flat_map (groups_of_round options) rounds) h in
      all_append P round (flat rounds) (of_round round some (λ p below. of_own round 0 options.partitions parts.0 p (omega arith) (omega arith))) (of_rounds rounds some parts.1)

  pub all_lines : (trace : List TraceLine) → 0 < options.partitions → InEach (groups_of options trace) → AllByRecursion P (requests_from 0 trace)
  all_lines trace some h = subst (AllByRecursion P) (flat_rounds [] 0 trace) (of_rounds (rounds_from [] 0 trace) some h)

-- Each batch fits a datagram

abbrev pub Fits : List Request → Type 0
Fits group = FitsDatagram request_text VERSION group

value_short : (r : Request) → IsRequest VERSION r → length r.value ≤ MAX_VALUE_LEN
value_short r h =
    elim (operation_of r.want == 1 || operation_of r.want == 3) as (λ b. length r.value ≤ cond b MAX_VALUE_LEN 0 → length r.value ≤ MAX_VALUE_LEN) [ true ↦ λ v. v | false ↦ λ v. omega arith ] h.value

-- a request by itself fits
request_fits : (r : Request) → IsRequest VERSION r → HEADER_LEN + length (request_text r) ≤ MAX_DATAGRAM_LEN_V2
unfolding request_text
request_fits r h =
    let key = h.key.1 in
    let value = value_short r h in
    let both = length-append r.key r.value in
    omega (arith, key, value, both)

-- so does one alone, which joins a batch of none
alone : (r : Request) → IsRequest VERSION r → Fits (r ∷ [])
alone r h =
    let short = request_fits r h in
    let one = length-append (request_text r) [] in
    record { some = omega arith; few = omega arith; short = omega (arith, short, one) }

pub joins_none : (per : ℕ) (r : Request) → 1 ≤ per → IsRequest VERSION r → joins per [] r ≡ true
joins_none per r some h =
    and_from (nat_lt 0 per) (nat_le (text_len (r ∷ [])) MAX_DATAGRAM_LEN_V2) (lt-ltb 0 per (omega arith)) (le-leb (text_len (r ∷ [])) MAX_DATAGRAM_LEN_V2 (alone r h).short)

module _ (per : ℕ) (some : 1 ≤ per) (few : per ≤ 255) where
  joined : (group : List Request) (r : Request) → joins per group r ≡ true → Fits (group ++ r ∷ [])
  joined group r h =
      let parts = and_parts (nat_lt (length group) per) (nat_le (text_len (group ++ r ∷ [])) MAX_DATAGRAM_LEN_V2) h in
      let less = ltb-true (length group) per parts.0 in
      let long = length-append group (r ∷ []) in
      record {
        some = omega arith;
        few = omega arith;
        short = leb-true (text_len (group ++ r ∷ [])) MAX_DATAGRAM_LEN_V2 parts.1;
      }

  fits_last : (group : List Request) → (group ≡ []) ⊎ Fits group → AllByRecursion Fits (last_batch group)
  fits_last [] a = tt
  fits_last (r ∷ rs) (inl e) = absurd (cc)
  fits_last (r ∷ rs) (inr a) = (a, tt)

  fits_cut : (group requests : List Request) → (group ≡ []) ⊎ Fits group → AllByRecursion (IsRequest VERSION) requests → AllByRecursion Fits (cut per group requests)
  fits_cut group [] a h = fits_last group a
  fits_cut group (r ∷ rs) a h =
      by (joins per group r) refl (λ e. fits_cut (group ++ r ∷ []) rs (inr (joined group r e)) h.1) (fits_cut (r ∷ []) rs (inr (alone r h.0)) h.1)
    where
      full : (joins per group r ≡ false) → ((group ≡ []) ⊎ Fits group) → Fits group
      full e (inr f) = f
      full e (inl none) =
          absurd (let yes = joins_none per r some h.0 in let no = subst (λ (g : List Request). joins per g r ≡ false) none e in cc)

      by : (b : Bool) → joins per group r ≡ b → (joins per group r ≡ true → AllByRecursion Fits (cut per (group ++ r ∷ []) rs)) → AllByRecursion Fits (cut per (r ∷ []) rs)
          → AllByRecursion Fits (cond b (cut per (group ++ r ∷ []) rs) (group ∷ cut per (r ∷ []) rs))
      by true e more next = more e
      by false e more next = (full e a, next)

pub groups_fit : (options : AskOptions) (trace : List TraceLine) → IsValidAsk options → AllByRecursion (IsRequest VERSION) (requests_from 0 trace) → AllByRecursion (λ g. Fits g.requests) (groups_of options trace)
groups_fit options trace valid h =
    each_group Fits (AllByRecursion (IsRequest VERSION)) options
    (λ round p own. fits_cut options.per valid.per.0 valid.per.1 [] (filter (is_in_partition options p) round) (inl refl) (all_filter (IsRequest VERSION) (is_in_partition options p) round own))
    (rounds_from [] 0 trace) (each_round (of_each (IsRequest VERSION)) trace h)

-- The batches are few: each has a request, and no request is in two batches of one partition

abbrev all_of : List Group → List Request
all_of groups = flat_map (λ g. g.requests) groups

have_some : (groups : List Group) → AllByRecursion (λ g. Fits g.requests) groups → length groups ≤ length (all_of groups)
have_some [] h = omega arith
have_some (g ∷ gs) h =
    let more = have_some gs h.1 in
    let some = h.0.some in
    let both = length-append g.requests (all_of gs) in
    omega (arith, more, some, both)

own_count : (options : AskOptions) (round : List Request) (p : ℕ) → length (all_of (groups_in options round p)) ≤ length round
own_count options round p =
    let test = is_in_partition options p in
    let own : all_of (groups_in options round p) ≡ filter test round = flat_map-map (λ (g : Group). g.requests) _ (own_batches options round p) ∙ flat_cut options.per [] (filter test round) in
    let long = ap (λ (l : List Request). length l) own in
    let passing = length-filter test round in
    let few = count_by-le-length test round in
    omega (arith, long, passing, few)

range_count : (options : AskOptions) (round : List Request) (a n : ℕ) → length (all_of (flat_map (groups_in options round) (range_with_len a n))) ≤ length round * n
range_count options round a zero = omega arith
range_count options round a (suc n) =
    let here = groups_in options round a in
    let later = flat_map (groups_in options round) (range_with_len (a + 1) n) in
    let split = ap (λ (l : List Request). length l) (flat_map-append (λ (g : Group). g.requests) here later) in
    let both = length-append (all_of here) (all_of later) in
    let own = own_count options round a in
    let more = range_count options round (a + 1) n in
    let times : length round * suc n ≡ length round + length round * n = omega arith in
    omega (arith, split, both, own, more, times)

rounds_count : (options : AskOptions) (rounds : List (List Request)) → options.partitions ≤ 16 → length (all_of (flat_map (groups_of_round options) rounds)) ≤ 16 * length (flat rounds)
rounds_count options [] most = omega arith
rounds_count options (round ∷ rounds) most =
    let later = flat_map (groups_of_round options) rounds in
    let split = ap (λ (l : List Request). length l) (flat_map-append (λ (g : Group). g.requests) (groups_of_round options round) later) in
    let both = length-append (all_of (groups_of_round options round)) (all_of later) in
    let own = range_count options round 0 options.partitions in
    let wide = mul-le-mul_left (length round) most in
    let more = rounds_count options rounds most in
    let long = length-append round (flat rounds) in
    omega (arith, split, both, own, wide, more, long)

pub few_groups : (options : AskOptions) (trace : List TraceLine) → IsValidAsk options → AllByRecursion IsTraceLine trace → length trace ≤ 100000 → length (groups_of options trace) < 4294967295
few_groups options trace valid lawful few =
    let some = have_some (groups_of options trace) (groups_fit options trace valid (requests_lawful 0 trace lawful)) in
    let all = rounds_count options (rounds_from [] 0 trace) valid.partitions.1 in
    let long = ap (λ (l : List Request). length l) (flat_rounds [] 0 trace) in
    let own = requests_count 0 trace in
    omega (arith, some, all, long, own, few)

-- the text of a batch is not empty
pub batch_some : (batch : Batch) → 0 < length (batch_text batch)
unfolding batch_text
batch_some batch = omega arith
