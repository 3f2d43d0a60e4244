use Rattle.std.proofs.Common.{List, ℕ, ◌-◌, ◌++◌, length, take, drop, append_assoc, sym, ap, ◌∙◌, arith}
use Rattle.std.proofs.lemmas.List.{take-append-drop, take_all, length-drop}
use Rattle.saved_items.proofs.Puts.{Puts_then}
use Rattle.saved_items.proofs.writing.put_bytes.Goals as goal

pub loop-rest-preserved : goal.loop-rest-preserved
loop-rest-preserved g c =
    let so_far = c.loop-rest.invariant.put in
    let before = c.loop-rest.spiller in
    let after = c.put_front.new.spiller in
    let rest = c.loop-rest.rest.now in
    let n = c.in_ok-count.count in
    record {
      rises = omega (arith, c.put_front.ensures.never_fall, c.loop-rest.invariant.rises);
      close = c.put_front.ensures.close ∙ c.loop-rest.invariant.close;
      put = (
        so_far.0 ++ take n rest,
        so_far.1 ∙ ap (λ (r : List ℕ). so_far.0 ++ r) (sym (take-append-drop n rest)) ∙ sym (append_assoc so_far.0 (take n rest) (drop n rest))
            ∙ ap (λ (r : List ℕ). (so_far.0 ++ take n rest) ++ r) (sym (take_all (length rest - n) (drop n rest) (omega (arith, length-drop n rest)))),
        Puts_then (g.K.Sink.taken c.args.sink.now) (g.K.Sink.taken c.loop-rest.sink) (g.K.Sink.taken c.put_front.new.sink) c.args.spiller.now.sum before.sum after.sum
            c.args.spiller.now.held.items before.held.items after.held.items so_far.0 (take n rest) so_far.2 c.in_ok-count.ensures.puts,
      );
    }
