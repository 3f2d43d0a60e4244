-- How the command `unpack` keeps its promises.
use Rattle.std.proofs.Common.{◌≡◌, ◌≢◌, ◌⊎◌, inl, inr, ℕ, List, Some, Result, Ok, Err, refl}
use Rattle.std.specs.Prelude.{IfOk}
use Rattle.outside.specs.declared.fault.NoMemory.{NoMemory as OutOfMemory}
use Rattle.partition_model.specs.declared.options.Options.{Options}
use Rattle.mica_trace.specs.declared.line.TraceLine.{TraceLine}
use Rattle.mica_trace.specs.TraceGrammar.{trace_text}
use Rattle.store_image.specs.declared.made.Imaged.{Imaged}
use Rattle.store_image.specs.ImageOf.{IsImaged}
use Rattle.store_image.specs.declared.fault.ImageFault.{ImageFault}
use Rattle.store_image.specs.declared.fault.ImageFault.TheVariants.{NoMemory as NoSpace}
use Rattle.store_image.specs.ImageGrammar.{Pair, SpellsImage, image_text, first_fault, fault_name}
use Rattle.store_image.specs.ImageLines.{put_lines}
use Rattle.mica_cmd.specs.declared.status.Status.{Status}
use Rattle.mica_cmd.specs.declared.status.Status.TheVariants.{Done, ImageRefused}
use Rattle.mica_cmd.specs.Outside.{SourceFacts}
use Rattle.server_words.specs.Output.{SinkFacts, with_line_feed}
use Rattle.mica_cmd.specs.Headline.{ReadsWhole}
use Rattle.mica_cmd.specs.Promise.{WritesDue, IsTold}
use Rattle.mica_cmd.specs.Input.{IsDueOfInput}
use Rattle.mica_cmd.specs.Promises.{IsImageText, IsDueOfUnpack, IsRefusedImage}
use Rattle.mica_cmd.proofs.Keeping.{told_due}

-- the text of the image that was made
pub image_made : (options : Options) (trace : List TraceLine) (imaged : Imaged) (result : Result (List ℕ) OutOfMemory) → IsImaged options trace imaged
    → IfOk result (λ text. text ≡ image_text imaged.image) → IfOk result (IsImageText options trace)
image_made options trace imaged (Ok text) is spelled = (imaged, is, spelled)
image_made options trace imaged (Err e) is spelled = tt

-- a fault that is not out of memory is the first one
first_is : (bytes : List ℕ) (fault : ImageFault) → (fault ≡ NoSpace) ⊎ (first_fault bytes ≡ Some fault) → fault ≢ NoSpace → first_fault bytes ≡ Some fault
first_is bytes fault (inl memory) named = absurd (named memory)
first_is bytes fault (inr first) named = first

module _ (old new : SourceFacts) (before after : SinkFacts) (result : Status) (bytes : List ℕ) where
  pub pairs_due : (pairs : List Pair) → ReadsWhole old new bytes → SpellsImage bytes pairs → IsTold Done (trace_text (put_lines pairs)) before after result
      → WritesDue (IsDueOfInput IsDueOfUnpack old new) before after result
  pairs_due pairs read is told = told_due (IsDueOfInput IsDueOfUnpack old new) before after Done (trace_text (put_lines pairs)) result (bytes, read, (pairs, is, refl)) told

  pub image_refused_due : (fault : ImageFault) → ReadsWhole old new bytes → (fault ≡ NoSpace) ⊎ (first_fault bytes ≡ Some fault) → IsRefusedImage fault before after result
      → WritesDue (IsDueOfInput IsDueOfUnpack old new) before after result
  image_refused_due fault read first either = elim either as (λ _. WritesDue (IsDueOfInput IsDueOfUnpack old new) before after result) [
    | inl memory ↦ inl memory
    | inr written ↦ inr (ImageRefused, with_line_feed (fault_name fault), (bytes, read, (fault, first_is bytes fault first written.0, refl)), written.1)
  ]
