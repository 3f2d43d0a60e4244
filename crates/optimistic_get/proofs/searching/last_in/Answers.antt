use Rattle.std.proofs.Common.{rules, None}
use Rattle.optimistic_get.proofs.Entries.{scans_more}
use Rattle.optimistic_get.proofs.searching.last_in.Goals as goal

pub loop-slot-preserved : goal.loop-slot-preserved
loop-slot-preserved g c =
    let reader = g.R.ReaderWords.reader in record {
      scans = scans_more (reader c.args.seat.now) (reader c.loop-slot.seat) (reader c.entry-entry.new.self) (reader c.weigh-best.new.seat) c.args.bucket c.loop-slot.slot c.entry-entry.result c.args.wanted.now.key.now
          None c.args.out.now c.loop-slot.best c.loop-slot.out c.weigh-best.result c.weigh-best.new.out c.loop-slot.invariant.scans c.entry-entry.ensures.event c.weigh-best.ensures.weighs c.loop-slot-test.true;
      low = c.weigh-best.ensures.low;
      home = search rules;
      plan = search rules;
    }
