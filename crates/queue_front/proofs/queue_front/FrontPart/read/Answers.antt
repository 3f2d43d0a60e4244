use Rattle.std.proofs.Common.{refl}
use Rattle.queue_front.proofs.Telling.{reads_hit, reads_miss}
use Rattle.queue_front.proofs.queue_front.FrontPart.read.Goals as goal

pub returns-in-Hit : goal.returns-in-Hit
returns-in-Hit g c =
    let old = c.args.self.now in
    reads_hit old (record { seat = c.ask_hashed.new.seat; jobs = old.jobs; acks = old.acks; last = c.in-Hit.stamp }) c.args.key.now c.in-Hit.stamp c.ask_hashed.new.out refl refl refl c.ask_hashed.ensures.home c.ask_hashed.result c.in-Hit.is c.ask_hashed.ensures.answered

pub returns-in-Miss : goal.returns-in-Miss
returns-in-Miss g c =
    let old = c.args.self.now in
    reads_miss old (record { seat = c.ask_hashed.new.seat; jobs = old.jobs; acks = old.acks; last = c.in-Miss.stamp }) c.args.key.now c.in-Miss.stamp c.ask_hashed.new.out refl refl refl c.ask_hashed.ensures.home c.ask_hashed.result c.in-Miss.is c.ask_hashed.ensures.answered
