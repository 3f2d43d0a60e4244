use Rattle.std.proofs.Common.{◌∙◌, ap, sym}
use Rattle.memcached_text.specs.Lines.{lacks}
use Rattle.memcached_text.proofs.LineLaws.{lacks_all, lacks_none}
use Rattle.memcached_text.proofs.split.lacks_byte.Goals as goal

pub returns-in-Some : goal.returns-in-Some
returns-in-Some c = sym (ap (lacks c.args.byte) c.in-Some.ensures.0 ∙ lacks_none c.args.byte _ _)

pub returns-in-None : goal.returns-in-None
returns-in-None c = sym (lacks_all c.args.byte c.args.text.now c.in-None.ensures)
