use Rattle.std.proofs.Common.{sym, ◌∙◌, leb}
use Rattle.mica_model.proofs.Places.{front_of_place, front_of_none}
use Rattle.report_check.specs.declared.sharing.OwnLine.{OwnLine}
use Rattle.report_check.proofs.partition.count_before.Goals as goal

pub returns-in-Some : goal.returns-in-Some
returns-in-Some c = front_of_place (λ (own : OwnLine). leb c.args.place own.place) c.args.lines.now c.in-Some.at (sym c.first_from.ensures ∙ c.in-Some.is)

pub returns-in-None : goal.returns-in-None
returns-in-None c = front_of_none (λ (own : OwnLine). leb c.args.place own.place) c.args.lines.now (sym c.first_from.ensures ∙ c.in-None.is)
