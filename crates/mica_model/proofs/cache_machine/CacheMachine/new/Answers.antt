use Rattle.std.proofs.Common.{◌≡◌, ap, sym, ◌∙◌, subst}
use Rattle.partition_model.specs.declared.options.Mode.{Mode}
use Rattle.mica_model.specs.CacheFields.{Notes, fate_in}
use Rattle.partition_model.specs.Fate.{fate_of}
use Rattle.partition_model.specs.History.{History, IsHistory, start, state_of, cache_state}
use Rattle.partition_model.specs.Write.{IsWrite}
use Rattle.std.specs.List.{AllByRecursion}
use Rattle.mica_model.proofs.cache_machine.CacheMachine.new.Goals as goal

pub invariant_of-result : goal.invariant_of-result
unfolding fate_of
invariant_of-result c =
    let options = c.args.options.now in
    let none = sym c.new-2.ensures.items in
    record {
      valid = c.requires.valid;
      mode = c.requires.mode;
      lawful = subst (λ (log : History). IsHistory options log) none tt;
      writes = subst (λ (log : History). AllByRecursion IsWrite log) none tt;
      state = subst (λ (log : History). state_of options log ≡ cache_state c.new.result) none (ap (λ (mode : Mode). start mode) c.requires.mode ∙ ap cache_state (sym c.new.ensures));
      fates = λ key. sym (ap (λ (history : History). fate_of options history key) none) ∙ sym (ap (λ (notes : Notes). fate_in notes key) c.new-3.ensures);
    }
