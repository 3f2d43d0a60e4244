use Rattle.std.proofs.Common.{◌∙◌, sym}
use Rattle.option_words.proofs.Agreement.{texts_given, texts_fail}
use Rattle.option_words.proofs.StrayWords.{texts_refused}
use Rattle.option_words.proofs.clap_command.matches_of.Goals as goal

pub returns-then-has_stray-clause-refused : goal.returns-then-has_stray-clause-refused
returns-then-has_stray-clause-refused c = λ _. texts_refused _ _ c.args.words.now c.requires.named (sym c.has_stray.ensures ∙ c.if-has_stray.true)

pub returns-in-Ok-try_get_matches_from-clause-given : goal.returns-in-Ok-try_get_matches_from-clause-given
returns-in-Ok-try_get_matches_from-clause-given c = texts_given _ _ _ c.in-Ok-try_get_matches_from.matches _ c.args.words.now c.requires.simple c.in-Ok.ensures (sym c.has_stray.ensures ∙ c.if-has_stray.false) c.in-Ok-try_get_matches_from.ensures.kinds c.in-Ok-try_get_matches_from.ensures.matches

pub returns : goal.returns
returns c = record {
  given = tt;
  refused = λ _. texts_fail _ _ _ c.in-Err.error _ c.args.words.now c.requires.simple c.in-Ok.ensures (sym c.has_stray.ensures ∙ c.if-has_stray.false) c.in-Err.ensures.kinds (λ e. c.in_default-kind.not-OutOfMemory (c.kind.ensures ∙ e));
}
