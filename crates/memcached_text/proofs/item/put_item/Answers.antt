use Rattle.std.proofs.Common.{◌≡◌, ◌++◌, OnOk, subst}
use Rattle.memcached_text.proofs.ItemLaws.{item_parts}
use Rattle.memcached_text.proofs.item.put_item.Goals as goal

pub returns-clause-ok : goal.returns-clause-ok
returns-clause-ok c =
    subst (λ text. OnOk c.append_parts.result (c.append_parts.new.out.items ≡ c.args.out.now.items ++ text))
    (item_parts c.args.item c.as_slice.result.now c.as_slice-2.result.now c.as_slice-3.result.now c.bytes.result.now (cc) (cc) (cc) (cc)) c.append_parts.ensures.ok
