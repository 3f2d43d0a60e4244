-- How a run keeps the promises of its command.
use Rattle.std.proofs.Common.{◌≡◌, ◌≢◌, ℕ, ◌⊎◌, inl, inr, List, Option, Some, None, refl, sym, ◌∙◌, subst}
use Rattle.std.specs.Prelude.{IfSome}
use Rattle.std.specs.Option.{IsSomeAnd}
use Rattle.std.specs.Io.KnownBytes.{Appends}
use Rattle.std.proofs.KnownBytes.{Consumes-whole, Keeps-refl}
use Rattle.outside.specs.Faults.{Rose}
use Rattle.mica_trace.specs.declared.line.TraceLine.{TraceLine}
use Rattle.mica_cmd.specs.declared.status.Status.{Status}
use Rattle.mica_cmd.specs.declared.status.Status.TheVariants.{Done, NoMemory, TraceRefused, TraceLong, ReadFault, WriteFault}
use Rattle.mica_cmd.specs.Outside.{SourceFacts, Outside}
use Rattle.server_words.specs.Output.{SinkFacts}
use Rattle.server_words.specs.Limits.{IsTooLong}
use Rattle.mica_cmd.specs.Headline.{ReadsWhole}
use Rattle.mica_cmd.specs.Promise.{Promise, IsDue, Ends, KeepsPromise, IsWritten, WritesDue, IsTold}
use Rattle.mica_cmd.specs.Input.{AtDone, IsDueOfInput, IsDueOfTrace, NoneByBytes, NoneByTrace, TellsInput, IsKindOfTrace}
use Rattle.mica_cmd.specs.Promises.{KeepsSeats}

abbrev Due : Type 1
Due = Status → List ℕ → Type 0

-- ---- what each status means

whole_ends : (due : Due) (old new : SinkFacts) (status : Status) (text : List ℕ) → IsDue due status text → Appends old.taken new.taken text → Ends due old new status
whole_ends due old new NoMemory text is all = absurd is
whole_ends due old new WriteFault text is all = absurd is
whole_ends due old new _ text is all = (text, is, all)

written_ends : (due : Due) (old new : SinkFacts) (status : Status) (text : List ℕ) (result : Status) → IsDue due status text
    → IsWritten status text old new result → Ends due old new result
written_ends due old new status text result is written = elim written as (λ _. Ends due old new result) [
  | inl all ↦ subst (Ends due old new) (sym all.0) (whole_ends due old new status text is all.1)
  | inr part ↦ subst (Ends due old new) (sym part.0) (part.1, (status, text, is, part.2))
]

ends : (due : Due) (old new : SinkFacts) (result : Status) → WritesDue due old new result → Ends due old new result
ends due old new result either = elim either as (λ _. Ends due old new result) [
  | inl none ↦ subst (Ends due old new) (sym none.0) none.1
  | inr some ↦ written_ends due old new some.0 some.1 result some.2 some.3
]

-- ---- completeness

-- where a status is unhindered, no write failed and no other status is due
abbrev pub Settles : Promise → Type 0
Settles promise = (old new : Outside) (free : Status) → promise.unhindered old new free
    → (¬ (Rose old.sink.faults new.sink.faults)) × ((status : Status) (text : List ℕ) → promise.is_due old new status text → status ≡ free)

due_is : (due : Due) (status : Status) (text : List ℕ) → IsDue due status text → due status text
due_is due NoMemory text is = absurd is
due_is due WriteFault text is = absurd is
due_is due _ text is = is

complete : (promise : Promise) → Settles promise → (old new : Outside) (result : Status) → WritesDue (promise.is_due old new) old.sink new.sink result
    → (free : Status) → promise.unhindered old new free → (result ≡ free) ⊎ (result ≡ NoMemory)
complete promise settles old new result either free told =
    let settled = settles old new free told in
    elim either as (λ _. (result ≡ free) ⊎ (result ≡ NoMemory)) [
      | inl none ↦ inr none.0
      | inr some ↦ elim some.3 as (λ _. (result ≡ free) ⊎ (result ≡ NoMemory)) [
        | inl all ↦ inl (all.0 ∙ settled.1 some.0 some.1 (due_is (promise.is_due old new) some.0 some.1 some.2))
        | inr part ↦ absurd (settled.0 part.1)
      ]
    ]

pub keeps_promise : (promise : Promise) → Settles promise → (old new : Outside) (result : Status) → WritesDue (promise.is_due old new) old.sink new.sink result
    → promise.reads old.source new.source → promise.net old.net new.net → promise.tables old new result → promise.link old new → KeepsPromise promise old new result
keeps_promise promise settles old new result writes reads net tables link = record {
  ended = ends (promise.is_due old new) old.sink new.sink result writes;
  complete = complete promise settles old new result writes;
  reads = reads;
  net = net;
  tables = tables;
  link = link;
}

-- ---- what settles the status of commands that read nothing

pub at_done : (P : List ℕ → Type 0) (status : Status) (text : List ℕ) → AtDone P status text → status ≡ Done
at_done P Done text is = refl
at_done P _ text is = absurd is

-- ---- what settles the status of commands that read the source

long_once : (is_kind : Status → List ℕ → Type 0) (source : SourceFacts) (free : Status) → IfSome source.left IsTooLong → TellsInput is_kind source free → TraceLong ≡ free
long_once is_kind source free long told = by_left source.left long told
  where
    by_left : (left : Option (List ℕ)) → IfSome left IsTooLong
        → IsSomeAnd left (λ bytes. ((free ≡ TraceLong) × IsTooLong bytes) ⊎ (¬ (IsTooLong bytes) × is_kind free bytes)) → TraceLong ≡ free
    by_left None long told = absurd told
    by_left (Some bytes) long told = elim told as (λ _. TraceLong ≡ free) [ inl is ↦ sym is.0 | inr is ↦ absurd (is.0 long) ]

told_at : (left : Option (List ℕ)) (bytes : List ℕ) (P : List ℕ → Type 0) → IfSome left (λ b. b ≡ bytes) → IsSomeAnd left P → P bytes
told_at None bytes P is told = absurd told
told_at (Some b) bytes P is told = subst P is told

-- what the source tells is of the bytes that it gave
pub kind_of_bytes : (is_kind : Status → List ℕ → Type 0) (old new : SourceFacts) (bytes : List ℕ) (free : Status) → ReadsWhole old new bytes → TellsInput is_kind old free → is_kind free bytes
kind_of_bytes is_kind old new bytes free read told =
    let here = told_at old.left bytes (λ b. ((free ≡ TraceLong) × IsTooLong b) ⊎ (¬ (IsTooLong b) × is_kind free b))
    (Consumes-whole old.left new.left bytes (λ b. b ≡ bytes) read.given read.ended.nothing refl) told in
    elim here as (λ _. is_kind free bytes) [ inl long ↦ absurd (read.few long.1) | inr is ↦ is.1 ]

pub input_once : (due : Status → List ℕ → List ℕ → Type 0) (is_kind : Status → List ℕ → Type 0)
    → ((status free : Status) (bytes text : List ℕ) → due status bytes text → is_kind free bytes → status ≡ free)
    → (old new : SourceFacts) (status free : Status) (text : List ℕ) → IsDueOfInput due old new status text → ¬ (Rose old.faults new.faults) → TellsInput is_kind old free → status ≡ free
input_once due is_kind once old new TraceLong free text is quiet told = long_once is_kind old free is.0.many told
input_once due is_kind once old new ReadFault free text is quiet told = absurd (quiet is.0)
input_once due is_kind once old new status free text is quiet told = once status free is.0 text is.2 (kind_of_bytes is_kind old new is.0 free is.1 told)

pub trace_once : (due : Status → List TraceLine → List ℕ → Type 0) (is_kind : Status → List TraceLine → Type 0)
    → ((status free : Status) (trace other : List TraceLine) (text : List ℕ) → due status trace text → is_kind free other → status ≡ free)
    → (status free : Status) (bytes text : List ℕ) → IsDueOfTrace due status bytes text → IsKindOfTrace is_kind free bytes → status ≡ free
trace_once due is_kind once TraceRefused free bytes text is told =
    elim told as (λ _. TraceRefused ≡ free) [ inl bad ↦ sym bad.0 | inr trace ↦ absurd (is.no_trace trace.0 trace.1) ]
trace_once due is_kind once status free bytes text is told =
    elim told as (λ _. status ≡ free) [ inl bad ↦ absurd (bad.1 is.0 is.1) | inr trace ↦ once status free is.0 trace.0 text is.2 trace.2 ]

-- ---- what was due of a source or a trace that could not be had

map_due : (due more : Due) → ((status : Status) (text : List ℕ) → IsDue due status text → IsDue more status text)
    → (old new : SinkFacts) (result : Status) → WritesDue due old new result → WritesDue more old new result
map_due due more step old new result either = elim either as (λ _. WritesDue more old new result) [
  | inl none ↦ inl none
  | inr some ↦ inr (some.0, some.1, step some.0 some.1 some.2, some.3)
]

of_input : (due : Status → List ℕ → List ℕ → Type 0) (old new : SourceFacts) (status : Status) (text : List ℕ)
    → IsDue (IsDueOfInput NoneByBytes old new) status text → IsDue (IsDueOfInput due old new) status text
of_input due old new NoMemory text is = absurd is
of_input due old new WriteFault text is = absurd is
of_input due old new TraceLong text is = is
of_input due old new ReadFault text is = is
of_input due old new _ text is = absurd is.2

of_trace : (due : Status → List TraceLine → List ℕ → Type 0) (old new : SourceFacts) (status : Status) (text : List ℕ)
    → IsDue (IsDueOfInput (IsDueOfTrace NoneByTrace) old new) status text → IsDue (IsDueOfInput (IsDueOfTrace due) old new) status text
of_trace due old new NoMemory text is = absurd is
of_trace due old new WriteFault text is = absurd is
of_trace due old new TraceLong text is = is
of_trace due old new ReadFault text is = is
of_trace due old new TraceRefused text is = is
of_trace due old new _ text is = absurd is.2.2

pub stopped_input : (due : Status → List ℕ → List ℕ → Type 0) (old new : SourceFacts) (before after : SinkFacts) (result : Status)
    → WritesDue (IsDueOfInput NoneByBytes old new) before after result → WritesDue (IsDueOfInput due old new) before after result
stopped_input due old new = map_due (IsDueOfInput NoneByBytes old new) (IsDueOfInput due old new) (of_input due old new)

pub stopped_trace : (due : Status → List TraceLine → List ℕ → Type 0) (old new : SourceFacts) (before after : SinkFacts) (result : Status)
    → WritesDue (IsDueOfInput (IsDueOfTrace NoneByTrace) old new) before after result → WritesDue (IsDueOfInput (IsDueOfTrace due) old new) before after result
stopped_trace due old new = map_due (IsDueOfInput (IsDueOfTrace NoneByTrace) old new) (IsDueOfInput (IsDueOfTrace due) old new) (of_trace due old new)

-- a text was told, or there was no memory for it
pub told_due : (due : Due) (old new : SinkFacts) (status : Status) (text : List ℕ) (result : Status) → IsDue due status text → IsTold status text old new result → WritesDue due old new result
told_due due old new status text result is either = elim either as (λ _. WritesDue due old new result) [
  | inl none ↦ inl none
  | inr written ↦ inr (status, text, is, written)
]

-- a command is not carried out where its trace could not be had
pub trace_not_done : (old new : SourceFacts) (before after : SinkFacts) (result : Status) → WritesDue (IsDueOfInput (IsDueOfTrace NoneByTrace) old new) before after result → result ≢ Done
trace_not_done old new before after result either done = elim either as (λ _. ⊥) [
  | inl none ↦ let no : NoMemory ≡ Done = sym none.0 ∙ done in cc
  | inr some ↦ elim some.3 as (λ _. ⊥) [
    | inl all ↦ (subst (λ s. IsDue (IsDueOfInput (IsDueOfTrace NoneByTrace) old new) s some.1) (sym all.0 ∙ done) some.2).2.2
    | inr part ↦ let no : WriteFault ≡ Done = sym part.0 ∙ done in cc
  ]
]

finds_no_memory : (due : Due) (sink : SinkFacts) → WritesDue due sink sink NoMemory
finds_no_memory due sink = inl (refl, Keeps-refl sink.taken)

-- nothing was written, as memory ran out
pub unwritten_promise : (promise : Promise) → Settles promise → (old new : Outside) → new.sink ≡ old.sink
    → promise.reads old.source new.source → promise.net old.net new.net → promise.tables old new NoMemory → promise.link old new → KeepsPromise promise old new NoMemory
unwritten_promise promise settles old new same reads net tables link =
    keeps_promise promise settles old new NoMemory
    (subst (λ s. WritesDue (promise.is_due old new) old.sink s NoMemory) (sym same) (finds_no_memory (promise.is_due old new) old.sink)) reads net tables link

-- ---- what the tables keep

module _ (is_seated : Outside → Outside → List ℕ → Type 0) (old new : Outside) where
  -- no run was begun, or none has ended
  pub keeps_tables : (result : Status) → result ≢ Done → new.tables ≡ old.tables → KeepsSeats is_seated old new result
  keeps_tables Done not_done same = absurd (not_done refl)
  keeps_tables NoMemory not_done same = inl same
  keeps_tables WriteFault not_done same = inl same
  keeps_tables _ not_done same = same

  -- a run has ended, and its text was told
  pub keeps_seats : (text : List ℕ) (result : Status) → is_seated old new text → IsTold Done text old.sink new.sink result → KeepsSeats is_seated old new result
  keeps_seats text result is told = elim told as (λ _. KeepsSeats is_seated old new result) [
    | inl none ↦ subst (KeepsSeats is_seated old new) (sym none.0) (inr (text, is))
    | inr written ↦ elim written as (λ _. KeepsSeats is_seated old new result) [
      | inl all ↦ subst (KeepsSeats is_seated old new) (sym all.0) (text, is, all.1)
      | inr part ↦ subst (KeepsSeats is_seated old new) (sym part.0) (inr (text, is))
    ]
  ]
