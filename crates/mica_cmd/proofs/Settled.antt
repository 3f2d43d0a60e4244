-- The status of each command is settled, and a command that found no memory keeps its promises.
use Rattle.std.proofs.Common.{◌≡◌, ℕ, List, [], Option, Some, None, inl, inr, refl, sym, ap, ◌∙◌, subst, arith}
use Rattle.std.proofs.KnownBytes.{Consumes-nil, Keeps-refl}
use Rattle.outside.specs.Faults.{Rose}
use Rattle.outside.specs.PortStates.{PortStates}
use Rattle.partition_model.specs.declared.options.Options.{Options}
use Rattle.mica_trace.specs.declared.line.TraceLine.{TraceLine}
use Rattle.server_words.specs.declared.ports.PortOptions.{PortOptions}
use Rattle.served.specs.Served.{BeginsPorts}
use Rattle.served.specs.NetRun.{NetFacts, OnPorts, ReleasesAll}
use Rattle.server_words.specs.declared.ask_options.AskOptions.{AskOptions}
use Rattle.store_image.specs.declared.fault.ImageFault.{ImageFault}
use Rattle.store_image.specs.ImageGrammar.{Pair, SpellsImage, first_fault}
use Rattle.store_image.proofs.Faultless.{image_has_no_fault}
use Rattle.mica_commands.specs.declared.command.Command.{Command}
use Rattle.mica_commands.specs.declared.command.Command.TheVariants.{Replay, Serve, Gen, Bench, Check, Exclusive, Ask, Image, Unpack}
use Rattle.mica_cmd.specs.declared.status.Status.{Status}
use Rattle.mica_cmd.specs.declared.status.Status.TheVariants.{Done, Usage, NoMemory, NetFault, ImageRefused}
use Rattle.mica_commands.specs.declared.gen_options.GenOptions.{GenOptions}
use Rattle.mica_cmd.specs.Outside.{SourceFacts, Outside}
use Rattle.mica_cmd.specs.Promise.{KeepsPromise}
use Rattle.mica_cmd.specs.Input.{AtDone, IsDueOfTrace, IsKindOfTrace}
use Rattle.mica_cmd.specs.Promises.{IsAlwaysDone, IsLawfulText, output_promise, input_promise, trace_promise, replay_promise, serve_promise, gen_promise, bench_promise, exclusive_promise, image_promise, ask_promise, unpack_promise, usage_promise, IsDueOfReplay, IsDueOfExclusive, IsDueOfImage, IsExactText, IsImageText, IsGenerated, IsSummary, IsNeverTold, IsDueOfAsk, IsDueOfUnpack, IsKindOfUnpack, IsDueOfServe, IsDueOfNoCommand, promise_of}
use Rattle.mica_cmd.proofs.Keeping.{Settles, at_done, input_once, trace_once}

settles_output : (due : Outside → Outside → Status → List ℕ → Type 0) (only : Status)
    → ((old new : Outside) (status : Status) (text : List ℕ) → due old new status text → status ≡ only) → Settles (output_promise due only)
settles_output due only once = λ old new free told. (told.1, λ status text is. once old new status text is ∙ sym told.0)

pub settles_input : (due : Outside → Outside → Status → List ℕ → List ℕ → Type 0) (is_kind : Status → List ℕ → Type 0)
    → ((old new : Outside) (status free : Status) (bytes text : List ℕ) → due old new status bytes text → is_kind free bytes → status ≡ free)
    → Settles (input_promise due is_kind)
settles_input due is_kind once = λ old new free told. (
  told.0.sink,
  λ status text is. input_once (due old new) is_kind (once old new) old.source new.source status free text is told.0.source told.1,
)

pub settles_trace : (due : Outside → Outside → Status → List TraceLine → List ℕ → Type 0) (is_kind : Status → List TraceLine → Type 0)
    → ((old new : Outside) (status free : Status) (trace other : List TraceLine) (text : List ℕ) → due old new status trace text → is_kind free other → status ≡ free)
    → Settles (trace_promise due is_kind)
settles_trace due is_kind once =
    settles_input (λ old new. IsDueOfTrace (due old new)) (IsKindOfTrace is_kind) (λ old new. trace_once (due old new) is_kind (once old new))

pub settles_replay : (options : Options) → Settles (replay_promise options)
settles_replay options = settles_trace (IsDueOfReplay options) IsAlwaysDone (λ old new status free trace other text is done. at_done (IsLawfulText options trace) status text is ∙ sym done)

serve_once : (options : Options) (ports : PortOptions) (old new : Outside) (status : Status) (text : List ℕ) → ¬ (Rose old.net.faults new.net.faults)
    → IsDueOfServe options ports old new status text → status ≡ Done
serve_once options ports old new Done text quiet is = refl
serve_once options ports old new NetFault text quiet is = absurd (elim is.0.rose as (λ _. ⊥) [ inl rose ↦ quiet rose | inr other ↦ other ])
serve_once options ports old new _ text quiet is = absurd is

pub settles_serve : (options : Options) (ports : PortOptions) → Settles (serve_promise options ports)
settles_serve options ports = λ old new free told. (told.1.1, λ status text is. serve_once options ports old new status text told.0 is ∙ sym told.1.0)

pub settles_gen : (generator : GenOptions) → Settles (gen_promise generator)
settles_gen generator = settles_output (λ _ _. AtDone (IsGenerated generator)) Done (λ old new status text is. at_done (IsGenerated generator) status text is)

pub settles_bench : (options : Options) (generator : GenOptions) → Settles (bench_promise options generator)
settles_bench options generator = settles_output (λ _ _. AtDone (IsSummary options generator)) Done (λ old new status text is. at_done (IsSummary options generator) status text is)

pub settles_exclusive : (options : Options) → Settles (exclusive_promise options)
settles_exclusive options = settles_trace (IsDueOfExclusive options) IsAlwaysDone (λ old new status free trace other text is done. at_done (IsExactText options trace) status text is ∙ sym done)

pub settles_image : (options : Options) → Settles (image_promise options)
settles_image options = settles_trace (IsDueOfImage options) IsAlwaysDone (λ old new status free trace other text is done. at_done (IsImageText options trace) status text is ∙ sym done)

pub settles_ask : (options : AskOptions) → Settles (ask_promise options)
settles_ask options = settles_trace (IsDueOfAsk options) IsNeverTold (λ old new status free trace other text is never. absurd never)

-- an image has no first fault
image_faultless : {A : Type 0} (bytes : List ℕ) (pairs : List Pair) (fault : ImageFault) → SpellsImage bytes pairs → first_fault bytes ≡ Some fault → A
image_faultless bytes pairs fault image refused = let no : None ≡ Some fault = sym (image_has_no_fault bytes pairs image) ∙ refused in absurd (cc)

unpack_once : (status free : Status) (bytes text : List ℕ) → IsDueOfUnpack status bytes text → IsKindOfUnpack free bytes → status ≡ free
unpack_once Done Done bytes text is told = refl
unpack_once Done ImageRefused bytes text is told = image_faultless bytes is.0 told.0 is.1 told.1
unpack_once Done _ bytes text is told = absurd told
unpack_once ImageRefused Done bytes text is told = image_faultless bytes told.0 is.0 told.1 is.1
unpack_once ImageRefused ImageRefused bytes text is told = refl
unpack_once ImageRefused _ bytes text is told = absurd told
unpack_once _ free bytes text is told = absurd is

pub settles_unpack : Settles unpack_promise
settles_unpack = settles_input (λ _ _. IsDueOfUnpack) IsKindOfUnpack (λ _ _. unpack_once)

usage_once : (old new : Outside) (status : Status) (text : List ℕ) → IsDueOfNoCommand old new status text → status ≡ Usage
usage_once old new Usage text is = refl
usage_once old new _ text is = absurd is

pub settles_usage : Settles usage_promise
settles_usage = settles_output IsDueOfNoCommand Usage usage_once

-- ---- a command that found no memory before it touched anything

reads_nothing : (command : Option Command) (source : SourceFacts) → (promise_of command).reads source source
reads_nothing (Some (Replay options)) source = ([], omega arith, Consumes-nil source.left)
reads_nothing (Some (Serve options ports)) source = refl
reads_nothing (Some (Gen generator)) source = refl
reads_nothing (Some (Bench options generator)) source = refl
reads_nothing (Some (Check options)) source = ([], omega arith, Consumes-nil source.left)
reads_nothing (Some (Exclusive options)) source = ([], omega arith, Consumes-nil source.left)
reads_nothing (Some (Ask options)) source = ([], omega arith, Consumes-nil source.left)
reads_nothing (Some (Image options)) source = ([], omega arith, Consumes-nil source.left)
reads_nothing (Some Unpack) source = ([], omega arith, Consumes-nil source.left)
reads_nothing None source = refl

releases_none : (ports : PortOptions) (told : Option PortStates) → OnPorts (ReleasesAll ports) told told
releases_none ports None = refl
releases_none ports (Some all) = record { released = λ _ is. is; others = λ _ _. refl }

begins_none : (ports : PortOptions) (told : Option PortStates) → OnPorts (BeginsPorts ports) told told
begins_none ports None = refl
begins_none ports (Some all) = λ f below. ([], [], omega arith, inl (refl, refl, refl))

binds_nothing : (command : Option Command) (net : NetFacts) → net.binds ≡ 0 → (promise_of command).net net net
binds_nothing (Some (Replay options)) net none = refl
binds_nothing (Some (Serve options ports)) net none = record {
  binds = omega (arith, none);
  first = λ some. absurd (omega (arith, none, some));
  never_fall = omega arith;
  released = releases_none ports net.ports;
  begins = begins_none ports net.ports;
}
binds_nothing (Some (Gen generator)) net none = refl
binds_nothing (Some (Bench options generator)) net none = refl
binds_nothing (Some (Check options)) net none = refl
binds_nothing (Some (Exclusive options)) net none = refl
binds_nothing (Some (Ask options)) net none = refl
binds_nothing (Some (Image options)) net none = refl
binds_nothing (Some Unpack) net none = refl
binds_nothing None net none = refl

keeps_nothing : (command : Option Command) (outside : Outside) → (promise_of command).tables outside outside NoMemory
keeps_nothing (Some (Replay options)) outside = inl refl
keeps_nothing (Some (Serve options ports)) outside = inl refl
keeps_nothing (Some (Gen generator)) outside = refl
keeps_nothing (Some (Bench options generator)) outside = inl refl
keeps_nothing (Some (Check options)) outside = refl
keeps_nothing (Some (Exclusive options)) outside = refl
keeps_nothing (Some (Ask options)) outside = refl
keeps_nothing (Some (Image options)) outside = refl
keeps_nothing (Some Unpack) outside = refl
keeps_nothing None outside = refl

links_nothing : (command : Option Command) (outside : Outside) → (promise_of command).link outside outside
links_nothing (Some (Replay options)) outside = refl
links_nothing (Some (Serve options ports)) outside = refl
links_nothing (Some (Gen generator)) outside = refl
links_nothing (Some (Bench options generator)) outside = refl
links_nothing (Some (Check options)) outside = refl
links_nothing (Some (Exclusive options)) outside = refl
links_nothing (Some (Ask options)) outside = inl refl
links_nothing (Some (Image options)) outside = refl
links_nothing (Some Unpack) outside = refl
links_nothing None outside = refl

pub memory_promise : (command : Option Command) (outside : Outside) → outside.net.binds ≡ 0 → KeepsPromise (promise_of command) outside outside NoMemory
memory_promise command outside none = record {
  ended = Keeps-refl outside.sink.taken;
  complete = λ free told. inr refl;
  reads = reads_nothing command outside.source;
  net = binds_nothing command outside.net none;
  tables = keeps_nothing command outside;
  link = links_nothing command outside;
}

-- the command that words give is this one
pub given_promise : (given : Option Command) (read command : Command) (old new : Outside) (result : Status) → given ≡ Some read → read ≡ command
    → KeepsPromise (promise_of (Some command)) old new result → KeepsPromise (promise_of given) old new result
given_promise given read command old new result is same kept = subst (λ c. KeepsPromise (promise_of c) old new result) (sym (is ∙ ap (λ c. Some c) same)) kept

-- words that give none
pub no_promise : (given : Option Command) (old new : Outside) (result : Status) → given ≡ None → KeepsPromise usage_promise old new result
    → KeepsPromise (promise_of given) old new result
no_promise given old new result none kept = subst (λ c. KeepsPromise (promise_of c) old new result) (sym none) kept
