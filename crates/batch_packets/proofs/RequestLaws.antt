-- What the text of a request tells of it.
use Rattle.std.proofs.Common.{◌≡◌, ℕ, ◌+◌, ◌^◌, ◌<◌, ◌≤◌, true, false, ltb, leb, List, ◌++◌, length, take, drop, None, refl, sym, ap, ◌∙◌, append_assoc, arith, length-append}
use Rattle.std.specs.Prelude.{◌==◌, IsTrue, if◌then◌else◌}
use Rattle.std.specs.List.{flat_map, All, AllByRecursion}
use Rattle.std.proofs.lemmas.List.Elements.{recursion_from_All}
use Rattle.std.specs.Int.{w32, from_le_bytes}
use Rattle.std.proofs.lemmas.Bool.{le-ltb, le-leb, lt-ltb}
use Rattle.std.proofs.lemmas.List.{take_at, drop_at}
use Rattle.std.proofs.lemmas.Nat.{from_le_bytes-to_le_bytes_4}
use Rattle.batch_packets.specs.declared.header.TheConstants.{HEADER_LEN, MAX_ITEMS}
use Rattle.batch_packets.specs.declared.batch.Request.{Request}
use Rattle.batch_packets.specs.declared.batch.Want.{Want}
use Rattle.batch_packets.specs.declared.batch.Want.TheVariants.{Get, Put, Del, Add, Touch}
use Rattle.batch_packets.specs.declared.batch.Batch.{Batch}
use Rattle.batch_packets.specs.Datagram.{SpellsItems, is_version, max_datagram_len, header_text, item_fault, first_fault, version_at, count_at, max_value_len}
use Rattle.batch_packets.specs.BatchGrammar.{IsRequest, IsInRange, request_text, batch_kind, is_operation, longest_value, operation_of, operation_at, key_len_at, value_len_at, batch_magic, batch_text, SpellsBatch}
use Rattle.batch_packets.proofs.Taking.{is_text, fit}
use Rattle.batch_packets.proofs.ItemLaws.{Tells, value_within, no_faults, one_list, no_first_fault}

want_at : ℕ → Want
want_at byte = if byte == 0 then Get else (if byte == 1 then Put else (if byte == 2 then Del else (if byte == 3 then Add else Touch)))

same_want : (want : Want) → want_at (operation_of want) ≡ want
unfolding want_at operation_of
same_want Get = refl
same_want Put = refl
same_want Del = refl
same_want Add = refl
same_want Touch = refl

pub request_at : List ℕ → Request
request_at bytes = record {
  want = want_at (operation_at bytes);
  ticket = from_le_bytes w32 (drop 4 bytes);
  key = take (key_len_at bytes) (drop 8 bytes);
  value = take (value_len_at bytes) (drop (key_len_at bytes) (drop 8 bytes));
}

longest : (version : ℕ) (want : Want) → longest_value version (operation_of want) ≤ max_value_len version
unfolding operation_of
longest version Get = omega arith
longest version Put = omega arith
longest version Del = omega arith
longest version Add = omega arith
longest version Touch = omega arith

operation_is : (x : Request) (rest : List ℕ) → operation_at (request_text x ++ rest) ≡ operation_of x.want
unfolding request_text
operation_is x rest = refl

key_len_is : (x : Request) (rest : List ℕ) → key_len_at (request_text x ++ rest) ≡ length x.key
unfolding request_text
key_len_is x rest = refl

value_len_is : (version : ℕ) (x : Request) (rest : List ℕ) → IsRequest version x → value_len_at (request_text x ++ rest) ≡ length x.value
unfolding request_text
value_len_is version x rest lawful = omega (arith, lawful.value, longest version x.want, value_within version)

ticket_is : (x : Request) (rest : List ℕ) → IsInRange x → from_le_bytes w32 (drop 4 (request_text x ++ rest)) ≡ x.ticket
unfolding request_text
ticket_is x rest in_range = from_le_bytes-to_le_bytes_4 x.ticket in_range

texts_are : (x : Request) (rest : List ℕ) → drop 8 (request_text x ++ rest) ≡ x.key ++ (x.value ++ rest)
unfolding request_text
texts_are x rest = append_assoc x.key x.value rest

pub length-request_text : (x : Request) → length (request_text x) ≡ 8 + length x.key + length x.value
unfolding request_text
length-request_text x = omega (arith, length-append x.key x.value)

size : (version : ℕ) (x : Request) (rest : List ℕ) → IsRequest version x → batch_kind.size (request_text x ++ rest) ≡ length (request_text x)
size version x rest lawful = rw (length-request_text x, key_len_is x rest, value_len_is version x rest lawful) refl

no_fault : (version : ℕ) (x : Request) (rest : List ℕ) → IsRequest version x → item_fault batch_kind version (request_text x ++ rest) ≡ None
no_fault version x rest lawful =
    let text = request_text x ++ rest in
    let whole : batch_kind.size text ≡ length (request_text x) = size version x rest lawful in
    let len : length text ≡ 8 + length x.key + length x.value + length rest = length-append (request_text x) rest ∙ rw (length-request_text x) refl in
    let a : ltb (length text) 8 ≡ false = le-ltb _ _ (omega arith) in
    let b : is_operation version (operation_at text) ≡ true = ap (is_operation version) (operation_is x rest) ∙ lawful.operation in
    let c : ltb 0 (key_len_at text) ≡ true = lt-ltb _ _ (rw (key_len_is x rest) lawful.key.0) in
    let d : leb (value_len_at text) (longest_value version (operation_at text)) ≡ true = le-leb _ _ (rw (value_len_is version x rest lawful, operation_is x rest) lawful.value) in
    let e : ltb (length text) (batch_kind.size text) ≡ false = le-ltb _ _ (omega (arith, length-request_text x)) in
    rw (a, b, c, d, e) refl

value : (version : ℕ) (x : Request) (rest : List ℕ) → IsRequest version x → IsInRange x → request_at (request_text x ++ rest) ≡ x
unfolding request_at
value version x rest lawful in_range =
    let want : want_at (operation_at (request_text x ++ rest)) ≡ x.want = ap want_at (operation_is x rest) ∙ same_want x.want in
    let key : take (length x.key) (x.key ++ (x.value ++ rest)) ≡ x.key = take_at x.key (x.value ++ rest) (length x.key) refl in
    let after_key : drop (length x.key) (x.key ++ (x.value ++ rest)) ≡ x.value ++ rest = drop_at x.key (x.value ++ rest) (length x.key) refl in
    let value : take (length x.value) (x.value ++ rest) ≡ x.value = take_at x.value rest (length x.value) refl in
    rw (want, ticket_is x rest in_range, key_len_is x rest, value_len_is version x rest lawful, texts_are x rest, key, after_key, value) refl

pub request_tells : (version : ℕ) (x : Request) → IsRequest version x → IsInRange x → Tells batch_kind version request_text request_at x
request_tells version x lawful in_range = record { no_fault = λ rest. no_fault version x rest lawful; size = λ rest. size version x rest lawful; value = λ rest. value version x rest lawful in_range }

pub requests_tell : (version : ℕ) (xs : List Request) → All (IsRequest version) xs → All IsInRange xs → AllByRecursion (Tells batch_kind version request_text request_at) xs
requests_tell version xs lawful in_range = recursion_from_All _ xs (λ k d lt. request_tells version _ (lawful k d lt) (in_range k d lt))

number_at : List ℕ → ℕ
number_at bytes = from_le_bytes w32 (drop 6 bytes)

-- what the text of a batch tells of it
record Shown (bytes : List ℕ) (batch : Batch) : Type 0 where
  version : version_at bytes ≡ batch.version
  number : number_at bytes ≡ batch.number
  count : count_at bytes ≡ length batch.requests
  texts : drop HEADER_LEN bytes ≡ flat_map request_text batch.requests

shown : (batch : Batch) → batch.number < 2 ^ 32 → Shown (batch_text batch) batch
unfolding number_at batch_text
shown batch lt = record { version = refl; number = from_le_bytes-to_le_bytes_4 batch.number lt; count = refl; texts = refl }

pub batch_has_no_fault : (bytes : List ℕ) (batch : Batch) → SpellsBatch bytes batch → first_fault batch_kind bytes ≡ None
unfolding batch_text
batch_has_no_fault bytes batch h =
    let fits = h.lawful.fits in
    let texts = flat_map request_text batch.requests in
    let none = no_faults batch_kind batch.version request_text request_at batch.requests (requests_tell batch.version batch.requests h.lawful.each h.in_range) in
    ap (first_fault batch_kind) h.text ∙ no_first_fault batch_kind (batch_text batch) batch.version (length batch.requests) h.lawful.version (omega (arith, fits.short)) (omega arith) refl refl refl fits.some none

pub one_batch : (bytes : List ℕ) (a b : Batch) → SpellsBatch bytes a → SpellsBatch bytes b → a ≡ b
one_batch bytes a b p q =
    let same : batch_text a ≡ batch_text b = sym p.text ∙ q.text in
    let m = shown a p.number in
    let n = shown b q.number in
    let version : a.version ≡ b.version = sym m.version ∙ ap version_at same ∙ n.version in
    let number : a.number ≡ b.number = sym m.number ∙ ap number_at same ∙ n.number in
    let count : length a.requests ≡ length b.requests = sym m.count ∙ ap count_at same ∙ n.count in
    let texts : flat_map request_text a.requests ≡ flat_map request_text b.requests = sym m.texts ∙ ap (drop HEADER_LEN) same ∙ n.texts in
    let requests : a.requests ≡ b.requests = one_list batch_kind a.version request_text request_at a.requests b.requests (requests_tell a.version a.requests p.lawful.each p.in_range) (requests_tell a.version b.requests (rw version q.lawful.each) q.in_range) count texts in
    let made : ℕ → ℕ → List Request → Batch = λ v n rs. record { version = v; number = n; requests = rs } in
    ap (λ v. made v a.number a.requests) version ∙ ap (λ n. made b.version n a.requests) number ∙ ap (made b.version b.number) requests

-- requests behind a header are a batch
pub is_batch_of : (bytes rest : List ℕ) (version count number : ℕ) (requests : List Request) → bytes ≡ header_text batch_magic version count number ++ rest → length requests ≡ count → SpellsItems request_text IsRequest IsInRange version rest requests
    → IsTrue (is_version version) → 0 < count → count ≤ MAX_ITEMS → length bytes ≤ max_datagram_len version → number < 2 ^ 32 → SpellsBatch bytes (record { version = version; number = number; requests = requests })
unfolding batch_text
is_batch_of bytes rest version count number requests whole few spells known some most short in_range = record {
  text = is_text request_text IsRequest IsInRange version batch_magic bytes rest count number requests whole few spells;
  lawful = record { version = known; fits = fit request_text IsRequest IsInRange version batch_magic bytes rest count number requests whole few spells refl some most short; each = spells.each };
  number = in_range;
  in_range = spells.in_range;
}
