use Rattle.std.proofs.Common.{rules}
use Rattle.scripted_reader.proofs.ScriptKeeps.{plays_at, next_fits_memory}
use Rattle.scripted_reader.proofs.scripted.Stage.play.Goals as goal

pub store-requires : goal.store-requires
store-requires c = (search rules, search rules, plays_at c.args.self.now.book.shared.key _ _ c.args.self.now.seat.me 0 0)

pub apply-requires : goal.apply-requires
apply-requires c =
    let self = c.args.self.now in
    let fits = next_fits_memory self.seat.me.0 self.events.items self.played c.index-event.result.now self.shape self.words.items
    self.script c.requires c.index-event.ensures c.store.ensures.2.1 self.shaped self.same in
    record { some = self.some_words; inside = fits.0; fits = fits.1 }
