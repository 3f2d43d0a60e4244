use Rattle.std.proofs.Common.{◌≡◌, ◌+◌, ℕ, Bool, true, false, cond, sym, ◌∙◌, ap, subst, inr, eqb-true, arith, length}
use Rattle.std.proofs.lemmas.List.{nil_from_length}
use Rattle.mica_trace.specs.TraceGrammar.{IsFaultOf, HasLineRoom, is_sync}
use Rattle.mica_trace.proofs.Reading.{HasRead, refuses, reads_more, reads_all, no_trace, AllZip_valid}
use Rattle.mica_trace.proofs.read.read_trace.Goals as goal
use Rattle.mica_trace.proofs.read.read_trace.Goals.{then-is_sync, else-is_sync}

pub returns-in-Err-clause-refused : goal.returns-in-Err-clause-refused
returns-in-Err-clause-refused c =
    let from = c.args.from.now in
    let at = c.first_line.result.0.now in
    let fault = c.in-Err.fault in
    let long : c.len.result ≡ length c.loop-rest.lines.items = omega (arith, c.len.ensures, c.loop-rest.lines.ok.0) in
    let here = subst (λ n. IsFaultOf (n + 1) c.loop-rest.syncs at fault) long c.in-Err.ensures.refused in
    let no = refuses from c.loop-rest.lines.items c.loop-rest.rest.now c.loop-rest.syncs c.loop-rest.invariant at c.first_line.result.1.now fault c.first_line.ensures.lines here in
    inr (no, no_trace from fault no)

counted : (b : Bool) (n m : ℕ) → b ≡ true → m ≡ n + 1 → m ≡ n + cond b 1 0
counted b n m is more = more ∙ ap (λ x. n + cond x 1 0) (sym is)

uncounted : (b : Bool) (n m : ℕ) → b ≡ false → m ≡ n → m ≡ n + cond b 1 0
uncounted b n m is same = let whole : m ≡ n + 0 = omega arith in subst (λ x. m ≡ n + cond x 1 0) (sym is) whole

pub loop-rest-preserved : goal.loop-rest-preserved
loop-rest-preserved c =
    let found = c.in-Ok-next_line.ensures.found in
    let n = c.loop-rest.syncs in
    let m = c.if-is_sync.syncs in
    let counts : m ≡ n + cond (is_sync c.in-Ok-next_line.line) 1 0 = elim c.if-is_sync.branch [
      | then-is_sync w ↦ counted (is_sync c.in-Ok-next_line.line) n m (sym c.is_sync.ensures ∙ w.if-is_sync.true) w.syncs-is
      | else-is_sync w ↦ uncounted (is_sync c.in-Ok-next_line.line) n m (sym c.is_sync.ensures ∙ w.if-is_sync.false) w.syncs-is
    ] in
    subst (λ ls. HasRead c.args.from.now ls c.first_line.result.1.now m) (sym c.in_ok-push.ensures.items)
    (reads_more c.args.from.now c.loop-rest.lines.items c.loop-rest.rest.now n c.loop-rest.invariant
    c.first_line.result.0.now c.first_line.result.1.now c.in-Ok-next_line.line m c.first_line.ensures.lines found.0
    (let long : c.len.result ≡ length c.loop-rest.lines.items = omega (arith, c.len.ensures, c.loop-rest.lines.ok.0) in
    subst (λ k. HasLineRoom k n c.in-Ok-next_line.line) long found.1) counts)

pub of-requires-clause-lines : goal.of-requires-clause-lines
of-requires-clause-lines c =
    let ended = nil_from_length c.loop-rest.rest.now (eqb-true _ 0 (sym c.is_empty.ensures ∙ c.loop-rest-test.false)) in
    AllZip_valid _ _ (reads_all c.args.from.now c.loop-rest.lines.items c.loop-rest.rest.now c.loop-rest.syncs c.loop-rest.invariant ended).spelled
