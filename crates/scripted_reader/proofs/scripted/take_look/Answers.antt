use Rattle.std.proofs.Common.{rules}
use Rattle.scripted_reader.proofs.ScriptKeeps.{looks_at}
use Rattle.scripted_reader.proofs.scripted.take_look.Goals as goal

pub store-requires : goal.store-requires
store-requires g c = (search rules, search rules, looks_at c.args.book.now.key _ _ c.args.seat.now.me _ 0 0 c.requires.may c.requires.time)
