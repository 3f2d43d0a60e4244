use Rattle.std.proofs.Common.{◌≡◌, None, All, refl, sym, ap, ◌∙◌, subst}
use Rattle.std.proofs.lemmas.List.Elements.{All-replicate}
use Rattle.work_desk.specs.Desk.{giver}
use Rattle.work_desk.specs.Rows.{all_told}
use Rattle.mica_replay.specs.Crew.{Desks, read_terms}
use Rattle.mica_replay.proofs.CrewRounds.{dismiss}
use Rattle.mica_replay.proofs.crew.Crew.end.Goals as goal

pub end_all-requires : goal.end_all-requires
end_all-requires g c =
    subst (All (λ k. k ≡ giver k.terms None)) (sym (ap (λ (d : Desks g.row.P.Denot). d.owners) c.self.view_is ∙ c.requires.owners))
    (All-replicate (λ k. k ≡ giver k.terms None) c.args.options.now.partitions (giver tt None) refl)

pub end_all-requires-2 : goal.end_all-requires-2
end_all-requires-2 g c =
    subst (All (λ k. k ≡ giver k.terms None)) (sym (ap (λ (d : Desks g.row.P.Denot). d.readers) c.self.view_is ∙ c.requires.readers))
    (All-replicate (λ k. k ≡ giver k.terms None) c.args.options.now.readers (giver (read_terms c.args.trace.now c.args.options.now) None) refl)

pub returns : goal.returns
returns g c = record {
  owners =
      c.end_all.ensures ∙ ap (λ l. all_told l) (ap (λ (d : Desks g.row.P.Denot). d.owners) c.self.view_is ∙ c.requires.owners)
      ∙ dismiss (tt {0}) c.args.options.now.partitions;
  readers =
      c.end_all-2.ensures ∙ ap (λ l. all_told l) (ap (λ (d : Desks g.row.P.Denot). d.readers) c.self.view_is ∙ c.requires.readers)
      ∙ dismiss (read_terms c.args.trace.now c.args.options.now) c.args.options.now.readers;
}
