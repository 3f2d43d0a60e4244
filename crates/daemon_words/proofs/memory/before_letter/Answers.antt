use Rattle.std.proofs.lemmas.Str.Pattern.{strip_suffix_char}
use Rattle.daemon_words.proofs.MemoryLemmas.{before_by}
use Rattle.daemon_words.proofs.memory.before_letter.Goals as goal

pub returns : goal.returns
returns c = before_by c.args.letter c.args.text.now c.strip_suffix.result (strip_suffix_char c.args.letter c.args.text.now c.strip_suffix.result c.strip_suffix.ensures.cases c.requires)
