use Rattle.std.proofs.Common.{rules, ◌≡◌, ◌<◌, ◌++◌, List, length, take, drop, get_or, sym, ap, ◌∙◌, subst, arith}
use Rattle.std.proofs.iter.Serving.{serving}
use Rattle.std.proofs.lemmas.List.{append-nil, drop_all, take_all}
use Rattle.locked_server.specs.declared.streams.StreamTask.{StreamTask}
use Rattle.locked_server.specs.Streams.{stream_facts}
use Rattle.locked_server.specs.Running.{IsReadyStream, StreamRan}
use Rattle.locked_server.proofs.streams.run_streams.Goals as goal

pub for_each_mut-requires-clause-accepts : goal.for_each_mut-requires-clause-accepts
for_each_mut-requires-clause-accepts g c κs within i p low is =
    let value = c.as_mut_slice.ensures.value in
    let fits : i < length c.args.streams.now.items = omega (arith, low, ap length value) in
    let here : p.now ≡ get_or c.args.streams.now.items i p.now = is ∙ ap (λ (l : List (StreamTask g.row.C.Denot)). get_or l i p.now) value in
    let facts = stream_facts g.C.Connections in (
      (
        omega (arith, fits, c.requires.many),
        c.requires.plan,
        c.requires.marks (omega (arith, fits)),
        subst (IsReadyStream g.J.ServerPlan.plan facts i) (sym here) (c.requires.ready i p.now fits),
      ),
      (grind serving, grind serving, grind serving, grind serving, grind serving, grind serving),
    )

pub returns : goal.returns
returns g c =
    let value = c.as_mut_slice.ensures.value in
    let items = c.args.streams.now.items in
    let new = c.for_each_mut.new.s in
    let facts = stream_facts g.C.Connections in
    let many : length new ≡ length items = search rules in
    let whole : take c.args.streams.now.len (new ++ drop (length new) items) ≡ new =
    ap (λ (l : List (StreamTask g.row.C.Denot)). take c.args.streams.now.len (new ++ l)) (drop_all (length new) items (omega (arith, many)))
    ∙ ap (take c.args.streams.now.len) (append-nil new) ∙ take_all c.args.streams.now.len new (omega (arith, many, c.args.streams.now.ok.0)) in (
      ap length whole ∙ many,
      λ k d low.
          let each = (c.for_each_mut.ensures k d (omega (arith, low, ap length value))).1 in
          let call : StreamRan {C = g.row.C.Denot} g.J.ServerPlan.plan facts c.args.shared.now.service.base c.args.shared.now.service.buffers k each.argument.now each.after_call.now = each.call in
          let here : each.argument.now ≡ get_or items k d = each.argument_is ∙ ap (λ (l : List (StreamTask g.row.C.Denot)). get_or l k d) value in
          let ran = subst (λ (y : StreamTask g.row.C.Denot × StreamTask g.row.C.Denot). StreamRan {C = g.row.C.Denot} g.J.ServerPlan.plan facts
          c.args.shared.now.service.base c.args.shared.now.service.buffers k y.0 y.1) (λ j. (here j, each.left j)) call in
          subst (λ (l : List (StreamTask g.row.C.Denot)). StreamRan {C = g.row.C.Denot} g.J.ServerPlan.plan facts c.args.shared.now.service.base c.args.shared.now.service.buffers k (get_or items k d) (get_or l k d)) (sym whole) ran,
    )
