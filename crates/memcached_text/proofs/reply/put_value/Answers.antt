use Rattle.std.proofs.Common.{◌++◌, ◌∙◌, List, ℕ, [], append-nil, ap, refl}
use Rattle.std.proofs.lemmas.Result.{on_ok_weaker}
use Rattle.memcached_text.specs.Replies.{value_text}
use Rattle.memcached_text.proofs.reply.put_value.Goals as goal

pub returns-clause-ok : goal.returns-clause-ok
returns-clause-ok c =
    let text = value_text c.args.key.now c.args.flags c.args.value.now c.args.unique in
    on_ok_weaker c.put_value_and.result (λ told. told [] refl ∙ ap (λ (z : List ℕ). c.args.out.now.items ++ z) (append-nil text)) c.put_value_and.ensures.ok
