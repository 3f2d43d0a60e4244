use Rattle.std.proofs.Common.{ℕ, List, refl, string_bytes}
use Rattle.std.specs.Prelude.{Ok, Err}
use Rattle.locked_server.specs.declared.stop.Stop.TheVariants.{Refused, Unbound, Unheard, Fault, Unannounced}
use Rattle.server_words.specs.Output.{SinkFacts, sink_facts}
use Rattle.daemon.specs.declared.speaker.Speaker.{Speaker}
use Rattle.served.specs.TotalsText.{totals_text}
use Rattle.daemon.proofs.Announced.{leaves_by, totals_last, written_last}
use Rattle.daemon.proofs.top.serve_aloud.Given as given
use Rattle.daemon.proofs.top.serve_aloud.Goals as goal

abbrev sink_at : (g : given.Over) → Speaker g.row.K.Denot → SinkFacts
sink_at g speaker = sink_facts g.K.Sink speaker.sink

abbrev line_at : (g : given.Over) → Speaker g.row.K.Denot → List ℕ
line_at g speaker = string_bytes speaker.line

pub returns-in-Ok : goal.returns-in-Ok
returns-in-Ok g c = record {
  answer = Ok c.in-Ok.totals;
  said = sink_at g c.serve_locked.new.announce;
  cause = c.in-Ok.ensures.cause;
  leaves = leaves_by (line_at g) (sink_at g) c.args.streams.now.ports c.requires.line c.in-Ok.ensures.leaves;
  last = totals_last (totals_text c.in-Ok.totals) _ _ c.status_at_totals.ensures c.print_totals.ensures;
}

pub returns-in-Err-Fault : goal.returns-in-Err-Fault
returns-in-Err-Fault g c = record {
  answer = Err c.in-Err-Fault.field-0;
  said = sink_at g c.serve_locked.new.announce;
  cause = c.in-Err-Fault.ensures.cause;
  leaves = leaves_by (line_at g) (sink_at g) c.args.streams.now.ports c.requires.line c.in-Err-Fault.ensures.leaves;
  last = written_last c.args.streams.now.ports.port c.in-Err-Fault.field-0 (Fault c.in-Err-Fault.fault) (sink_at g c.serve_locked.new.announce) _ _ c.in-Err-Fault.field-0-is (c.write_fault.ensures c.args.streams.now.ports.port);
}

pub returns-in-Err-Unbound : goal.returns-in-Err-Unbound
returns-in-Err-Unbound g c = record {
  answer = Err c.in-Err-Unbound.field-0;
  said = sink_at g c.serve_locked.new.announce;
  cause = c.in-Err-Unbound.ensures.cause;
  leaves = leaves_by (line_at g) (sink_at g) c.args.streams.now.ports c.requires.line c.in-Err-Unbound.ensures.leaves;
  last = written_last c.args.streams.now.ports.port c.in-Err-Unbound.field-0 (Unbound c.in-Err-Unbound.port) (sink_at g c.serve_locked.new.announce) _ _ c.in-Err-Unbound.field-0-is c.write_unbound.ensures;
}

pub returns-in-Err-Unheard : goal.returns-in-Err-Unheard
returns-in-Err-Unheard g c = record {
  answer = Err c.in-Err-Unheard.field-0;
  said = sink_at g c.serve_locked.new.announce;
  cause = c.in-Err-Unheard.ensures.cause;
  leaves = leaves_by (line_at g) (sink_at g) c.args.streams.now.ports c.requires.line c.in-Err-Unheard.ensures.leaves;
  last = written_last c.args.streams.now.ports.port c.in-Err-Unheard.field-0 (Unheard _) (sink_at g c.serve_locked.new.announce) _ _ c.in-Err-Unheard.field-0-is c.write_unbound-in-Err-Unheard.ensures;
}

pub returns-in-Err-Unannounced : goal.returns-in-Err-Unannounced
returns-in-Err-Unannounced g c = record {
  answer = Err c.in-Err-Unannounced.field-0;
  said = sink_at g c.serve_locked.new.announce;
  cause = c.in-Err-Unannounced.ensures.cause;
  leaves = leaves_by (line_at g) (sink_at g) c.args.streams.now.ports c.requires.line c.in-Err-Unannounced.ensures.leaves;
  last = written_last c.args.streams.now.ports.port c.in-Err-Unannounced.field-0 Unannounced (sink_at g c.serve_locked.new.announce) _ _ c.in-Err-Unannounced.field-0-is (refl, refl);
}

pub returns-in-Err-Refused : goal.returns-in-Err-Refused
returns-in-Err-Refused g c = record {
  answer = Err c.in-Err-Refused.field-0;
  said = sink_at g c.serve_locked.new.announce;
  cause = c.in-Err-Refused.ensures.cause;
  leaves = leaves_by (line_at g) (sink_at g) c.args.streams.now.ports c.requires.line c.in-Err-Refused.ensures.leaves;
  last = written_last c.args.streams.now.ports.port c.in-Err-Refused.field-0 Refused (sink_at g c.serve_locked.new.announce) _ _ c.in-Err-Refused.field-0-is c.write_due.ensures;
}
