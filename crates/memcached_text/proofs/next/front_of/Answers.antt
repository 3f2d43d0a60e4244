use Rattle.std.proofs.Common.{◌∙◌, false, None, sym, ap, eqb-true}
use Rattle.memcached_text.specs.declared.command.Command.TheVariants.{Get}
use Rattle.memcached_text.specs.declared.next.Next.TheVariants as nexts
use Rattle.memcached_text.proofs.NextLaws.{no_bytes}
use Rattle.memcached_text.proofs.SpelledLaws.{begins_next}
use Rattle.memcached_text.proofs.next.front_of.Goals as goal

pub returns-then-is_empty : goal.returns-then-is_empty
returns-then-is_empty c = sym (no_bytes c.args.from.now (eqb-true _ 0 (sym c.is_empty.ensures ∙ c.if-is_empty.true)))

pub returns-in-Some : goal.returns-in-Some
returns-in-Some c = ap (λ keys. nexts.Command (Get keys false None) c.in-Some.len) c.one.ensures ∙ begins_next c.args.from.now _ c.in-Some.len c.in-Some.ensures

pub returns-in-Some-spelled_set : goal.returns-in-Some-spelled_set
returns-in-Some-spelled_set c =
    ap (λ command. nexts.Command command c.in-Some-spelled_set.set.len) c.command-command.ensures ∙ begins_next c.args.from.now _ c.in-Some-spelled_set.set.len c.in-Some-spelled_set.ensures

pub returns-in-Some-spelled_count : goal.returns-in-Some-spelled_count
returns-in-Some-spelled_count c =
    ap (λ command. nexts.Command command c.in-Some-spelled_count.count.len) c.command-command-in-Some-spelled_count.ensures ∙ begins_next c.args.from.now _ c.in-Some-spelled_count.count.len c.in-Some-spelled_count.ensures
