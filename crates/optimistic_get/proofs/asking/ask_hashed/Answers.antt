use Rattle.std.proofs.Common.{◌∙◌}
use Rattle.optimistic_get.proofs.Repeated.{is_read, fails_again}
use Rattle.optimistic_get.proofs.asking.ask_hashed.Goals as goal

pub returns-in_default : goal.returns-in_default
returns-in_default g c = record {
  answered = is_read (g.R.ReaderWords.reader c.args.seat.now) (g.R.ReaderWords.reader c.loop.seat) (g.R.ReaderWords.reader c.get_hashed.new.seat) _ c.args.tries c.args.key.now c.get_hashed.result c.get_hashed.new.out
      c.loop.invariant.none c.get_hashed.ensures.answers c.in_default.not-Again;
  home = c.get_hashed.ensures.home ∙ c.loop.invariant.home;
}

pub loop-preserved : goal.loop-preserved
loop-preserved g c = record {
  none = fails_again (g.R.ReaderWords.reader c.args.seat.now) (g.R.ReaderWords.reader c.loop.seat) (g.R.ReaderWords.reader c.get_hashed.new.seat) _ c.args.tries c.args.key.now c.get_hashed.result c.get_hashed.new.out _ _
      c.loop.invariant.none c.get_hashed.ensures.answers c.in-Again.is;
  home = c.get_hashed.ensures.home ∙ c.loop.invariant.home;
}
