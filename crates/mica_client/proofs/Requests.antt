-- The requests of the lines of a trace: each is one that a batch may have, and their tickets rise.
use Rattle.std.proofs.Common.{◌≡◌, ◌≤◌, ◌<◌, ℕ, suc, ◌+◌, false, List, [], ◌∷◌, length, refl, sym, ap, subst, ◌∙◌, arith, Option, Some, None, option_map, IsTrue}
use Rattle.std.specs.Prelude.{slice_get}
use Rattle.std.specs.List.{AllByRecursion}
use Rattle.std.proofs.lemmas.List.Elements.{All-from_recursion}
use Rattle.std.proofs.lemmas.List.Kept.{AllPairs-cons}
use Rattle.list_laws.proofs.AllElements.{all_at}
use Rattle.mica_words.specs.Item.{KeyFits}
use Rattle.mica_trace.specs.declared.line.TraceOp.{TraceOp}
use Rattle.mica_trace.specs.declared.line.TraceOp.TheVariants as op
use Rattle.mica_trace.specs.declared.line.TraceLine.{TraceLine}
use Rattle.mica_trace.specs.TraceGrammar.{IsTraceLine, IsKey, HasFields, is_sync, is_sync_op}
use Rattle.batch_packets.specs.declared.batch.Want.{Want}
use Rattle.batch_packets.specs.declared.batch.Want.TheVariants.{Put as PutWant, Add as AddWant, Del as DelWant, Touch as TouchWant, Get as GetWant}
use Rattle.batch_packets.specs.declared.batch.Request.{Request}
use Rattle.batch_packets.specs.BatchGrammar.{IsRequest, operation_of, is_operation, longest_value}
use Rattle.mica_client.specs.declared.options.TheConstants.{VERSION}
use Rattle.mica_client.specs.Batches.{want_of, request_of, in_front, requests_from}
use Rattle.mica_client.specs.Answers.{TicketsRise}

-- what a request has of its line
pub record OfLine (n : ℕ) (asked : TraceOp) (key value : List ℕ) (request : Request) : Type 0 where
  pub want : want_of asked ≡ Some request.want
  pub ticket : request.ticket ≡ n + 1
  pub key_is : request.key ≡ key
  pub value_is : request.value ≡ value

pub of_line : (n : ℕ) (line : TraceLine) (request : Request) → request_of n line ≡ Some request → OfLine n line.op line.key line.value request
of_line n line request h = by (want_of line.op) refl h
  where
    by : (want : Option Want) → want_of line.op ≡ want → option_map (λ want. record { want = want; ticket = n + 1; key = line.key; value = line.value }) want ≡ Some request
        → OfLine n line.op line.key line.value request
    by None e k = absurd (cc)
    by (Some want) e k =
        let it : Request = record { want = want; ticket = n + 1; key = line.key; value = line.value } in
        let same : it ≡ request = cc in
        record {
          want = e ∙ ap (λ (r : Request). Some r.want) same;
          ticket = sym (ap (λ (r : Request). r.ticket) same);
          key_is = sym (ap (λ (r : Request). r.key) same);
          value_is = sym (ap (λ (r : Request). r.value) same);
        }

abbrev request_with : ℕ → TraceLine → Want → Request
request_with n line want = record { want = want; ticket = n + 1; key = line.key; value = line.value }

-- each line but a sync has a request
pub other_some : (n : ℕ) (line : TraceLine) → is_sync line ≡ false → (r : Request) × (request_of n line ≡ Some r)
other_some n line h = by line.op h
  where
    by : (o : TraceOp) → is_sync_op o ≡ false → (r : Request) × (option_map (request_with n line) (want_of o) ≡ Some r)
    by op.Sync e = absurd (cc)
    by op.Put e = (request_with n line PutWant, refl)
    by op.Add e = (request_with n line AddWant, refl)
    by op.Del e = (request_with n line DelWant, refl)
    by op.Touch e = (request_with n line TouchWant, refl)
    by op.Get e = (request_with n line GetWant, refl)

-- A request may stand in a batch

no_value : (want : Want) (key value : List ℕ) → IsKey key × (value ≡ []) → KeyFits key × (length value ≤ longest_value VERSION (operation_of want))
no_value want key value h = let e = ap (λ (v : List ℕ). length v) h.1 in (h.0.0, omega (arith, e))

lawful_fields : (o : TraceOp) (want : Want) (key value : List ℕ) → HasFields o key value → want_of o ≡ Some want → KeyFits key × (length value ≤ longest_value VERSION (operation_of want))
unfolding operation_of
lawful_fields op.Put want key value h is =
    let same : PutWant ≡ want = cc in (h.0.0, subst (λ (w : Want). length value ≤ longest_value VERSION (operation_of w)) same h.1.0)
lawful_fields op.Add want key value h is =
    let same : AddWant ≡ want = cc in (h.0.0, subst (λ (w : Want). length value ≤ longest_value VERSION (operation_of w)) same h.1.0)
lawful_fields op.Del want key value h is = no_value want key value h
lawful_fields op.Touch want key value h is = no_value want key value h
lawful_fields op.Get want key value h is = no_value want key value h
lawful_fields op.Sync want key value h is = absurd (cc)

known_operation : (want : Want) → IsTrue (is_operation VERSION (operation_of want))
unfolding operation_of
known_operation want = elim want as (λ w. IsTrue (is_operation VERSION (operation_of w))) [ PutWant ↦ refl | AddWant ↦ refl | DelWant ↦ refl | TouchWant ↦ refl | GetWant ↦ refl ]

pub lawful_request : (n : ℕ) (line : TraceLine) (r : Request) → IsTraceLine line → request_of n line ≡ Some r → IsRequest VERSION r
lawful_request n line r h is =
    let of = of_line n line r is in
    let both = lawful_fields line.op r.want line.key line.value h of.want in
    record {
      operation = known_operation r.want;
      key = subst KeyFits (sym of.key_is) both.0;
      value = subst (λ (v : List ℕ). length v ≤ longest_value VERSION (operation_of r.want)) (sym of.value_is) both.1;
    }

pub each_request : (P : Request → Type 0) (n : ℕ) (lines : List TraceLine) → ((k : ℕ) (line : TraceLine) (r : Request) → slice_get lines k ≡ Some line → request_of (n + k) line ≡ Some r → P r)
    → AllByRecursion P (requests_from n lines)
each_request P n [] each = tt
each_request P n (line ∷ lines) each =
    by (request_of n line) refl (each_request P (n + 1) lines (λ k l r at is. each (suc k) l r at (ap (λ (m : ℕ). request_of m l) (let e : n + suc k ≡ n + 1 + k = omega arith in e) ∙ is)))
  where
    by : (x : Option Request) → request_of n line ≡ x → AllByRecursion P (requests_from (n + 1) lines) → AllByRecursion P (in_front x (requests_from (n + 1) lines))
    by None e later = later
    by (Some r) e later = (each 0 line r refl (ap (λ (m : ℕ). request_of m line) (let z : n + 0 ≡ n = omega arith in z) ∙ e), later)

pub requests_rise : (n : ℕ) (lines : List TraceLine) → TicketsRise (requests_from n lines)
requests_rise n [] = λ i j d before within. absurd (omega arith)
requests_rise n (line ∷ lines) = by (request_of n line) refl (requests_rise (n + 1) lines)
  where
    by : (x : Option Request) → request_of n line ≡ x → TicketsRise (requests_from (n + 1) lines) → TicketsRise (in_front x (requests_from (n + 1) lines))
    by None e later = later
    by (Some r) e later =
        let own = (of_line n line r e).ticket in
        AllPairs-cons (λ one later. one.ticket < later.ticket) r (requests_from (n + 1) lines)
        (All-from_recursion (λ other. r.ticket < other.ticket) (requests_from (n + 1) lines)
        (each_request (λ other. r.ticket < other.ticket) (n + 1) lines (λ k l other at is. let t = (of_line (n + 1 + k) l other is).ticket in omega (arith, own, t)))) later

pub requests_lawful : (n : ℕ) (lines : List TraceLine) → AllByRecursion IsTraceLine lines → AllByRecursion (IsRequest VERSION) (requests_from n lines)
requests_lawful n lines all = each_request (IsRequest VERSION) n lines (λ k line r at is. lawful_request (n + k) line r (all_at IsTraceLine lines k line all at) is)

pub requests_count : (n : ℕ) (lines : List TraceLine) → length (requests_from n lines) ≤ length lines
requests_count n [] = omega arith
requests_count n (line ∷ lines) =
    let more = requests_count (n + 1) lines in
    elim (request_of n line) as (λ x. length (in_front x (requests_from (n + 1) lines)) ≤ suc (length lines)) [ None ↦ omega (arith, more) | Some r ↦ omega (arith, more) ]
