use Rattle.std.proofs.Common.{◌≡◌, ◌-◌, ℕ, List, ◌++◌, length, replicate, sym, ap, ◌∙◌, arith}
use Rattle.std.proofs.lemmas.Bool.{eqb-true, eqb-false}
use Rattle.std.proofs.lemmas.List.{take_all, nil_from_length}
use Rattle.saved_items.proofs.Spilled.{finishes_none, finishes_held}
use Rattle.saved_items.proofs.writing.finish.Goals as goal

pub returns-then-is_empty-clause-finishes : goal.returns-then-is_empty-clause-finishes
returns-then-is_empty-clause-finishes g c =
    let held = c.args.spiller.now.held in
    let none : held.len ≡ 0 = eqb-true held.len 0 (sym c.is_empty.ensures ∙ c.if-is_empty.true) in
    finishes_none (g.K.Sink.taken c.args.sink.now) c.args.spiller.now (nil_from_length held.items (omega (arith, none, held.ok.0)))

pub returns-clause-finishes : goal.returns-clause-finishes
returns-clause-finishes g c =
    let held = c.args.spiller.now.held in
    let zeros = 65528 - held.len in
    let filled = c.resize.new.self in
    let some : held.len ≡ 0 → ⊥ = eqb-false held.len 0 (sym c.is_empty.ensures ∙ c.if-is_empty.false) in
    let is : filled.items ≡ held.items ++ replicate zeros 0 =
    c.in_ok-resize.ensures.items ∙ ap (λ (h : List ℕ). h ++ replicate zeros 0) (take_all 65528 held.items (omega (arith, held.ok.0, c.args.spiller.now.within))) in
    let full : length filled.items ≡ 65528 = omega (arith, c.in_ok-resize.ensures.len, filled.ok.0) in
    finishes_held (g.K.Sink.taken c.args.sink.now) (g.K.Sink.taken c.write_block.new.sink) c.args.spiller.now filled.items zeros is full (omega (arith, some)) c.in_ok-spiller.ensures.wrote
