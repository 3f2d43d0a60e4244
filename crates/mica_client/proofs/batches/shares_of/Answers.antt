use Rattle.std.proofs.Common.{◌≡◌, ◌+◌, ◌∷◌, [], length, ap, ◌∙◌, arith, length-append}
use Rattle.mica_client.specs.Batches.{port_of}
use Rattle.mica_client.proofs.Cutting.{share_none, shares_push}
use Rattle.mica_client.proofs.batches.shares_of.Goals as goal

pub loop-partition-preserved : goal.loop-partition-preserved
loop-partition-preserved c =
    let options = c.args.options.now in
    let shares = c.loop-partition.shares.items in
    let many = c.loop-partition.invariant.many in
    let place : c.loop-partition.partition ≡ 0 + length shares = omega (arith, many) in
    let none = share_none options (0 + length shares) c.new.result (c.new.ensures.port ∙ c.port_of.ensures ∙ ap (port_of options) place) c.new.ensures.full c.new.ensures.last in
    record {
      many = rw (c.in_ok-push.ensures.items) (omega (arith, many, length-append shares (c.new.result ∷ [])));
      none = rw (c.in_ok-push.ensures.items) (shares_push options 0 shares c.new.result c.loop-partition.invariant.none none);
    }
