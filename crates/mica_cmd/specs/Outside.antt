-- What is known of the outside at one moment of a run.
use Rattle.std.specs.Prelude.{◌≡◌, ℕ, Bool, true, List, Option}
use Rattle.std.specs.Io.KnownBytes.{IsAtEnd}
use Rattle.partition_table.specs.declared.tables.KeptSeat.{KeptSeat}
use Rattle.served.specs.NetRun.{NetFacts}
use Rattle.server_words.specs.Output.{SinkFacts}
use Rattle.outside.specs.declared.source.Source.{Ghosts as SourceTells}
use Rattle.mica_client.specs.Talk.{Talk}
use Rattle.mica_client.specs.declared.link.Link.{Ghosts as LinkTells}

-- a source: the bytes that it has left, where it tells them, how many its reads gave, whether a read has answered that it ended, and its
-- count of faults
pub record SourceFacts : Type 0 where
  pub left : Option (List ℕ)
  pub given : ℕ
  pub has_ended : Bool
  pub faults : ℕ

-- by what a source tells
abbrev pub source_facts : {S : Type 0} → SourceTells S → S → SourceFacts
source_facts source = λ s. record { left = source.left s; given = source.given s; has_ended = source.has_ended s; faults = source.faults s }

-- a link: its datagrams, where it tells them, whether a receive has answered that it ended, the seconds of silence after which it ends, and
-- its count of faults
pub record LinkFacts : Type 0 where
  pub talk : Option Talk
  pub has_ended : Bool
  pub silence : ℕ
  pub faults : ℕ

-- by what a link tells
abbrev pub link_facts : {L : Type 0} → LinkTells L → L → LinkFacts
link_facts link = λ l. record { talk = link.talk l; has_ended = link.has_ended l; silence = link.silence l; faults = link.faults l }

-- all that a run touches; the tables keep the owners' seats of a run that has ended
pub record Outside : Type 0 where
  pub source : SourceFacts
  pub sink : SinkFacts
  pub net : NetFacts
  pub tables : List KeptSeat
  pub link : LinkFacts

-- of its parts
abbrev pub outside : SourceFacts → SinkFacts → NetFacts → List KeptSeat → LinkFacts → Outside
outside source sink net tables link = record { source = source; sink = sink; net = net; tables = tables; link = link }

-- the source was read to its end
pub record IsReadUp (source : SourceFacts) : Type 0 where
  pub told : source.has_ended ≡ true
  pub nothing : IsAtEnd source.left
