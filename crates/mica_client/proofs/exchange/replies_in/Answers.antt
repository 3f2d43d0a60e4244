use Rattle.std.proofs.Common.{◌∙◌}
use Rattle.mica_client.proofs.Cut.{version_told}
use Rattle.mica_client.proofs.exchange.replies_in.Goals as goal

pub returns-then-replies-ne-VERSION-clause-unread : goal.returns-then-replies-ne-VERSION-clause-unread
returns-then-replies-ne-VERSION-clause-unread c e found h =
    c.if-replies-ne-VERSION.true (version_told c.args.from.now c.in-Ok.replies found c.in-Ok.ensures.replies h.spelled ∙ h.version)
