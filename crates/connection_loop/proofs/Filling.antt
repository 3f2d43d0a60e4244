-- What lies in the room after a read behind what was kept.
use Rattle.std.proofs.Common.{◌≡◌, ◌⊎◌, inl, inr, ℕ, ◌+◌, ◌-◌, ◌<◌, ◌≤◌, List, [], ◌++◌, length, take, drop, refl, sym, ap, ◌∙◌, subst, append_assoc, arith}
use Rattle.std.specs.Prelude.{⊤, Option, None, Some, IfSome, Ok}
use Rattle.std.proofs.Math.Seq.{take-add}
use Rattle.std.proofs.lemmas.List.{take_at, take_all, drop_all, drop_at, drop-take, length-take, take-append-le, take-take}
use Rattle.memcached_text.specs.Lines.{Lacks}
use Rattle.memcached_text.proofs.LineLaws.{Lacks_append}
use Rattle.connections.specs.declared.connections.Input.{Input}
use Rattle.connections.specs.declared.connections.Input.TheVariants.{Bytes, All, Later, Ended}
use Rattle.connections.specs.Calls.{FitsRoom}
use Rattle.connections.specs.Log.{connections_of, Log}
use Rattle.connections.specs.State.{held}
use Rattle.connection_loop.specs.Buffers.{count_in, grown}
use Rattle.connection_loop.specs.Open.{OnLogs}
use Rattle.connection_loop.specs.Paid.{PaysThese}
use Rattle.connection_loop.specs.Traffic.{OnHeld, Reads, ReadsTo, bytes_read}

-- a read gave so many bytes, all that came or not
pub some_read : (out : List ℕ) (room : ℕ) (input : Input) (count : ℕ) → (input ≡ Bytes count) ⊎ (input ≡ All count) → FitsRoom room input
    → (count ≤ room) × (bytes_read out (Ok input) ≡ take count out)
some_read out room input count is fits = elim is as (λ _. (count ≤ room) × (bytes_read out (Ok input) ≡ take count out)) [
  | inl some ↦ ((subst (FitsRoom room) some fits).1, ap (λ (i : Input). bytes_read out (Ok i)) some)
  | inr all ↦ ((subst (FitsRoom room) all fits).1, ap (λ (i : Input). bytes_read out (Ok i)) all)
]

-- the room, which begins with a copy of what was kept
room_is : (kept copied after out behind : List ℕ) (had : ℕ) → copied ≡ kept → had ≡ length kept → take had (copied ++ after) ++ (out ++ behind) ≡ kept ++ (out ++ behind)
room_is kept copied after out behind had copy many = ap (λ k. take had (k ++ after) ++ (out ++ behind)) copy ∙ ap (λ k. k ++ (out ++ behind)) (take_at kept after had (sym many))

-- what was kept stands in front
pub filled_kept : (kept copied after out behind : List ℕ) (had count : ℕ) → copied ≡ kept → had ≡ length kept
    → take (had + count) (take had (copied ++ after) ++ (out ++ behind)) ≡ kept ++ drop (length kept) (take (had + count) (take had (copied ++ after) ++ (out ++ behind)))
filled_kept kept copied after out behind had count copy many =
    let room = take had (copied ++ after) ++ (out ++ behind) in
    take-add had count room ∙ ap (λ k. k ++ take count (drop had room)) (ap (take had) (room_is kept copied after out behind had copy many) ∙ take_at kept (out ++ behind) had (sym many))
    ∙ ap (λ t. kept ++ t) (sym (drop-take had count room)) ∙ ap (λ n. kept ++ drop n (take (had + count) room)) many

-- and what was read behind it
pub filled_read : (kept copied after out behind : List ℕ) (had count : ℕ) → copied ≡ kept → had ≡ length kept → count ≤ length out
    → take count out ≡ drop (length kept) (take (had + count) (take had (copied ++ after) ++ (out ++ behind)))
filled_read kept copied after out behind had count copy many fits =
    let room = take had (copied ++ after) ++ (out ++ behind) in
    sym (ap (λ n. drop n (take (had + count) room)) (sym many) ∙ drop-take had count room
    ∙ ap (take count) (ap (drop had) (room_is kept copied after out behind had copy many) ∙ drop_at kept (out ++ behind) had (sym many)) ∙ take-append-le count out behind fits)

-- A buffer

-- more room leaves what lies in front
pub widened : (items rest : List ℕ) (n len : ℕ) → len ≤ n → len ≤ length items → take len (take n items ++ rest) ≡ take len items
widened items rest n len within fits =
    let most : len ≤ length (take n items) = let count = length-take n items in omega (arith, count, within, fits) in
    take-append-le len (take n items) rest most ∙ take-take len n items within

-- so a copy of bytes
pub copied_wide : (bytes rest : List ℕ) (n len : ℕ) → len ≡ length bytes → len ≤ n → take len (take n bytes ++ rest) ≡ bytes
copied_wide bytes rest n len is within = widened bytes rest n len within (omega (arith, is)) ∙ take_all len bytes (omega (arith, is))

-- where those in front have no line feed, and those behind have none, none has one
pub looked_through : (items : List ℕ) (seen len : ℕ) → seen ≤ len → Lacks 10 (take seen items) → Lacks 10 (take (len - seen) (drop seen items)) → Lacks 10 (take len items)
looked_through items seen len within front behind =
    let parts : take (seen + (len - seen)) items ≡ take seen items ++ take (len - seen) (drop seen items) = take-add seen (len - seen) items in
    let all : seen + (len - seen) ≡ len = omega (arith, within) in
    subst (λ n. Lacks 10 (take n items)) all (subst (Lacks 10) (sym parts) (Lacks_append 10 (take seen items) (take (len - seen) (drop seen items)) front behind))

-- A read changes what lies behind the bytes that are kept: so many bytes of the room, which is as long as it was
into_room : (copied out behind more : List ℕ) (whole len count : ℕ) → len + count ≤ whole
    → take (len + count) (take whole ((take len copied ++ (out ++ behind)) ++ more)) ≡ take (len + count) (take len copied ++ (out ++ (behind ++ more)))
into_room copied out behind more whole len count within =
    take-take (len + count) whole ((take len copied ++ (out ++ behind)) ++ more) within
    ∙ ap (take (len + count)) (append_assoc (take len copied) (out ++ behind) more ∙ ap (λ t. take len copied ++ t) (append_assoc out behind more))

-- those in front stand, and some more are kept
pub read_behind : (items copied out behind more : List ℕ) (whole len count : ℕ) → copied ≡ items → len ≤ length copied → len + count ≤ whole
    → take (len + count) (take whole ((take len copied ++ (out ++ behind)) ++ more))
    ≡ take len items ++ drop (length (take len items)) (take (len + count) (take whole ((take len copied ++ (out ++ behind)) ++ more)))
read_behind items copied out behind more whole len count is fits within =
    let room = take len copied ++ (out ++ (behind ++ more)) in
    let many : length (take len copied) ≡ len = let come = length-take len copied in omega (arith, come, fits) in
    let front : take len room ≡ take len copied = take_at (take len copied) (out ++ (behind ++ more)) len many in
    subst (λ b. b ≡ take len items ++ drop (length (take len items)) b) (sym (into_room copied out behind more whole len count within))
    (subst (λ b. take (len + count) room ≡ take len b ++ drop (length (take len b)) (take (len + count) room)) is
    (take-add len count room ∙ ap (λ k. k ++ take count (drop len room)) front ∙ ap (λ t. take len copied ++ t) (sym (drop-take len count room)) ∙ ap (λ n. take len copied ++ drop n (take (len + count) room)) (sym many)))

-- and these are what it gave
pub read_gave : (items copied out behind more : List ℕ) (whole len count : ℕ) → copied ≡ items → len ≤ length copied → len + count ≤ whole → count ≤ length out
    → take count out ≡ drop (length (take len items)) (take (len + count) (take whole ((take len copied ++ (out ++ behind)) ++ more)))
read_gave items copied out behind more whole len count is fits within some =
    let room = take len copied ++ (out ++ (behind ++ more)) in
    let many : length (take len copied) ≡ len = let come = length-take len copied in omega (arith, come, fits) in
    subst (λ b. take count out ≡ drop (length (take len items)) b) (sym (into_room copied out behind more whole len count within))
    (subst (λ b. take count out ≡ drop (length (take len b)) (take (len + count) room)) is
    (sym (ap (λ n. drop n (take (len + count) room)) many ∙ drop-take len count room ∙ ap (take count) (drop_at (take len copied) (out ++ (behind ++ more)) len many) ∙ take-append-le count out (behind ++ more) some)))

-- How many bytes a read gave, and that these are paid for

pub grown_count : (had has : ℕ) (input : Option Input) → grown input had has → has ≡ had + count_in input
grown_count had has None g = omega (arith, g.0)
grown_count had has (Some (Bytes count)) g = g.0
grown_count had has (Some (All count)) g = g.0
grown_count had has (Some Later) g = omega (arith, g)
grown_count had has (Some Ended) g = omega (arith, g)

pub grown_pays : (asks had has : ℕ) (input : Option Input) → grown input had has → had ≤ asks → (had < has → has < asks) → PaysThese asks had has input
grown_pays asks had has None g paid more = (omega (arith, g.0, paid), g.1)
grown_pays asks had has (Some (Bytes count)) g paid more = let some : had < has = omega (arith, g.0, g.1) in (more some, some)
grown_pays asks had has (Some (All count)) g paid more = let some : had < has = omega (arith, g.0, g.1) in (more some, some)
grown_pays asks had has (Some Later) g paid more = omega (arith, g, paid)
grown_pays asks had has (Some Ended) g paid more = omega (arith, g, paid)

-- nothing was read, as there was no room
pub read_none : (number : ℕ) (bytes : List ℕ) (log : Option Log) → OnLogs (OnHeld number (ReadsTo (λ (i : Option Input). i) (drop (length bytes) bytes) (Ok None))) log log
read_none number bytes None = tt
read_none number bytes (Some a) = by (held number (connections_of a))
  where
    none : drop (length bytes) bytes ≡ []
    none = drop_all (length bytes) bytes (omega arith)

    by : (h : Option ℕ) → IfSome h (λ c. Reads c (drop (length bytes) bytes) a a × ⊤)
    by None = tt
    by (Some c) = (subst (λ b. Reads c b a a) (sym none) (record { schedule = refl; piece = refl; mets = []; each = tt; at = 0; entries = refl }), tt)
