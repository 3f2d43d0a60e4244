use Rattle.std.proofs.lemmas.Slice.Eq.{strip_suffix_is}
use Rattle.std.proofs.lemmas.Bool.Decides.{Decides-eqb}
use Rattle.memcached_text.proofs.LineLaws.{some_stripped, none_stripped}
use Rattle.memcached_meta.proofs.next.without_return.Goals as goal

pub returns-in-Some : goal.returns-in-Some
returns-in-Some c =
    some_stripped c.args.line.now c.as_slice.result.now c.strip_suffix.result c.in-Some.text (strip_suffix_is Decides-eqb c.args.line.now c.as_slice.result.now c.strip_suffix.result c.strip_suffix.ensures.cases) c.as_slice.ensures c.in-Some.is

pub returns-in-None : goal.returns-in-None
returns-in-None c =
    none_stripped c.args.line.now c.as_slice.result.now c.strip_suffix.result (strip_suffix_is Decides-eqb c.args.line.now c.as_slice.result.now c.strip_suffix.result c.strip_suffix.ensures.cases) c.as_slice.ensures c.in-None.is
