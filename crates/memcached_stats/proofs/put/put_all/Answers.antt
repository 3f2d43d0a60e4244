use Rattle.std.proofs.Common.{◌≡◌, ◌++◌, true, [], ap, ◌∙◌, arith, append_assoc}
use Rattle.memcached_commands.specs.declared.ask.Says.TheVariants.{Line}
use Rattle.memcached_requests.specs.Replies.{said_text}
use Rattle.memcached_stats.specs.Figures.{told_of}
use Rattle.memcached_stats.specs.Stats.{reply_on, stats_text, topic_text}
use Rattle.memcached_stats.proofs.put.put_all.Goals as goal

pub returns-clause-ok : goal.returns-clause-ok
unfolding stats_text
returns-clause-ok c =
    let style = c.args.style.now in
    let before = c.args.out.now.items in
    let told = topic_text style c.args.partitions (told_of c.args.figures.now) c.args.topic in
    c.in_ok-put_said.ensures.ok ∙ (λ i. c.in_ok-put_topic.ensures.ok i ++ said_text style true [] (Line (c.reply_on.ensures i))) ∙ append_assoc before told (said_text style true [] (Line (reply_on c.args.topic)))

pub returns-clause-short : goal.returns-clause-short
returns-clause-short c = omega (arith, c.in_ok-put_topic.ensures.short, c.put_said.ensures.short)

pub returns-clause-more : goal.returns-clause-more
returns-clause-more c = (_, returns-clause-ok c)
