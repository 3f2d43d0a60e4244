-- What meta commands want.
use Rattle.std.specs.Prelude.{ℕ, false, List, [], ◌∷◌, Option, Some, None}
use Rattle.memcached_text.specs.declared.fault.Fault.TheVariants.{Format}
use Rattle.memcached_commands.specs.declared.ask.Ask.TheVariants.{Spoil}
use Rattle.memcached_commands.specs.declared.ask.Says.TheVariants.{Refusal}
use Rattle.memcached_commands.specs.Asks.{asked}
use Rattle.memcached_commands.specs.Keys.{spelled}
use Rattle.memcached_meta.specs.declared.fault.MetaFault.{MetaFault}
use Rattle.memcached_meta.specs.declared.fault.MetaFault.TheVariants.{Line}
use Rattle.memcached_meta.specs.declared.line.Meta.{Meta}
use Rattle.memcached_meta.specs.declared.next.MetaNext.{MetaNext}
use Rattle.memcached_meta.specs.declared.next.MetaNext.TheVariants as metas
use Rattle.memcached_meta.specs.Lines.{is_base64}
use Rattle.memcached_meta.specs.Asks.{meta_ask}
use Rattle.memcached_meta.specs.Fit.{manner_of}
use Rattle.memcached_requests.specs.declared.request.Request.{Request}
use Rattle.memcached_requests.specs.declared.request.Request.TheVariants.{Keys, Said}
use Rattle.memcached_requests.specs.declared.request.Style.{Style}
use Rattle.memcached_requests.specs.declared.request.Style.TheVariants.{Classic, Meta as OfMeta, Fault}
use Rattle.memcached_requests.specs.declared.request.Next.{Next}
use Rattle.memcached_requests.specs.declared.request.Next.TheVariants.{Whole, More}

-- how a meta command that is refused is replied to: as a line, where its fault is one of lines
abbrev pub style_of : MetaFault → Style
style_of (Line fault) = Classic false false
style_of fault = Fault fault

-- what is refused; a store whose value is too large, and that replaces whatever is there, takes away the item of its key
abbrev pub refused_by : MetaFault → Option (List ℕ) → Request
refused_by fault (Some key) = Keys (asked Spoil key ∷ [])
refused_by (Line fault) None = Said (Refusal fault)
refused_by fault None = Said (Refusal Format)

-- what a meta command wants of its key
abbrev pub request_of : Meta → Request
request_of meta = Keys (asked (meta_ask meta.verb meta.flags meta.value) (spelled (is_base64 meta.flags) meta.word) ∷ [])

-- What bytes begin with that are a meta command.
abbrev pub of_meta : MetaNext → Next
of_meta (metas.Whole meta len) = Whole (request_of meta) (OfMeta (manner_of meta)) len false
of_meta (metas.Dropped fault stale len) = Whole (refused_by fault stale) (style_of fault) len false
of_meta metas.More = More
