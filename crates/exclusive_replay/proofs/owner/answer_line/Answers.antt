use Rattle.std.proofs.Common.{◌≡◌, List, Some, get_or, sym, ap, ◌∙◌, subst}
use Rattle.std.proofs.lemmas.Option.{slice_get-get_or}
use Rattle.mica_trace.specs.declared.line.TraceLine.{TraceLine}
use Rattle.mica_trace.specs.TraceGrammar.{IsTraceLine}
use Rattle.exclusive_replay.proofs.OwnerRuns.{all_at}
use Rattle.exclusive_replay.proofs.owner.answer_line.Goals as goal

pub reply_to-requires : goal.reply_to-requires
reply_to-requires c =
    let line = c.index-lines-number.result in
    let is = subst (λ (ls : List TraceLine). line ≡ get_or ls c.args.number line) c.lines-lines.ensures.same c.index-lines-number.is in
    all_at IsTraceLine c.args.trace.now c.args.number line c.lines-lines.ensures.lines c.requires is

pub returns : goal.returns
returns c =
    let line = c.index-lines-number.result in
    let is = subst (λ (ls : List TraceLine). line ≡ get_or ls c.args.number line) c.lines-lines.ensures.same c.index-lines-number.is in
    record {
      line = line;
      printed = c.in_ok-reply.reply;
      at = slice_get-get_or c.args.trace.now c.args.number line c.requires ∙ ap (λ (l : TraceLine). Some l) (sym is);
      more = c.in_ok-push.ensures.items;
      replied = c.in_ok-reply.ensures.ok;
    }
