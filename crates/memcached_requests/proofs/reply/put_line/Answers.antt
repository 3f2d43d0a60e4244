use Rattle.std.proofs.Common.{length, ap, arith, length-append}
use Rattle.std.proofs.lemmas.Result.{on_ok_weaker}
use Rattle.memcached_text.specs.Replies.{stat_text}
use Rattle.memcached_requests.proofs.StatLaws.{stat_len}
use Rattle.memcached_requests.proofs.reply.put_line.Goals as goal

pub returns-clause-short : goal.returns-clause-short
returns-clause-short c =
    on_ok_weaker c.put_stat.result (λ text. omega (
      arith,
      ap length text,
      length-append c.args.out.now.items (stat_text c.args.name.now c.args.value.now),
      stat_len c.args.name.now c.args.value.now,
    )) c.put_stat.ensures.ok
