use Rattle.std.proofs.Common.{◌≡◌, ◌⊎◌, subst}
use Rattle.mica_trace.specs.TraceGrammar.{IsTrace, IsNoTrace, Refuses}
use Rattle.mica_trace.specs.declared.line.TraceFault.TheVariants.{NoMemory as NoRoom}
use Rattle.server_words.specs.Output.{sink_facts}
use Rattle.mica_cmd.specs.Input.{IsDueOfTrace, NoneByTrace, IsRefusedWith}
use Rattle.mica_cmd.proofs.Ending.{refused_due}
use Rattle.mica_cmd.proofs.Keeping.{stopped_input}
use Rattle.mica_cmd.proofs.input.read_input.Goals as goal

pub returns-in-Err : goal.returns-in-Err
returns-in-Err g c = record {
  trace = tt;
  unwritten = tt;
  stopped = stopped_input (IsDueOfTrace NoneByTrace) _ _ _ _ _ c.in-Err.ensures.stopped;
  reads = c.in-Err.ensures.reads;
}

pub returns-in-Ok-read_trace : goal.returns-in-Ok-read_trace
returns-in-Ok-read_trace g c = record {
  trace = (c.in-Ok.bytes.items, c.in-Ok.ensures.all, subst (λ bytes. IsTrace bytes c.in-Ok-read_trace.trace) c.as_slice.ensures.value c.in-Ok-read_trace.ensures.trace);
  unwritten = c.in-Ok.ensures.unwritten;
  stopped = tt;
  reads = c.in-Ok.ensures.reads;
}

pub returns-in-Err-read_trace : goal.returns-in-Err-read_trace
returns-in-Err-read_trace g c =
    let fault = c.in-Err-read_trace.fault in
    let why = subst (λ bytes. (fault ≡ NoRoom) ⊎ (Refuses bytes fault × IsNoTrace bytes)) c.as_slice.ensures.value c.in-Err-read_trace.ensures.refused in
    let facts = sink_facts g.K.Sink in
    let refused = subst (λ s. IsRefusedWith fault (facts s) (facts c.refuse.new.sink) c.refuse.result) c.in-Ok.ensures.unwritten c.refuse.ensures in
    record {
      trace = tt;
      unwritten = tt;
      stopped = refused_due _ _ _ _ c.in-Ok.bytes.items fault _ c.in-Ok.ensures.all why refused;
      reads = c.in-Ok.ensures.reads;
    }
