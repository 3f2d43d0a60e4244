use Rattle.std.proofs.Common.{◌≡◌, ◌↔◌, ap, sym, ◌∙◌, subst}
use Rattle.std.specs.List.{AllByRecursion}
use Rattle.partition_model.specs.declared.fate.Fate.{Fate}
use Rattle.partition_model.specs.declared.fate.Fate.TheVariants.{Never}
use Rattle.partition_model.specs.Fate.{GivesNoValue, fate_of}
use Rattle.mica_model.specs.Logged.{Logged}
use Rattle.mica_model.proofs.NeverLaw.{never_is_no_value}
use Rattle.mica_model.proofs.cache_machine.CacheMachine.fate.Goals as goal

module _ (c : goal.After-get) where
  is : c.get.result ≡ fate_of c.self.inside.options c.self.inside.log.items c.args.key.now
  is = c.get.ensures ∙ sym (c.self.invariant.fates c.args.key.now)

pub returns-clause-fate : goal.returns-clause-fate
returns-clause-fate c = is c ∙ ap (λ (m : Logged). fate_of m.options m.history c.args.key.now) c.self.view_is

pub returns-clause-never : goal.returns-clause-never
returns-clause-never c =
    let a = c.self.inside in
    let law = never_is_no_value a.options c.self.invariant.mode a.log.items c.self.invariant.lawful c.self.invariant.writes c.args.key.now in
    subst (λ (m : Logged). (c.get.result ≡ Never) ↔ AllByRecursion (GivesNoValue c.args.key.now) m.history) c.self.view_is
    (subst (λ (f : Fate). (f ≡ Never) ↔ AllByRecursion (GivesNoValue c.args.key.now) a.log.items) (sym (is c)) law)
