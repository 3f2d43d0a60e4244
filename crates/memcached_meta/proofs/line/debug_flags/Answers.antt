use Rattle.std.proofs.Common.{ap, sym, ◌∙◌}
use Rattle.std.specs.Prelude.{bytes_eq}
use Rattle.memcached_meta.proofs.DebugLaws.{none_left}
use Rattle.memcached_meta.proofs.line.debug_flags.Goals as goal

pub returns-else-eq : goal.returns-else-eq
returns-else-eq c = c.of.ensures
    ∙ none_left c.args.words c.next_word.new.self c.in-Some.word.now c.as_slice-else-eq.result.now c.in-Some.ensures
    (ap (bytes_eq c.in-Some.word.now) (sym c.as_slice.ensures) ∙ sym c.eq.ensures ∙ c.if-eq.false) c.as_slice-else-eq.ensures
