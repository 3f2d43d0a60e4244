use Rattle.std.proofs.Common.{◌∙◌, sym, ap}
use Rattle.partition_words.specs.declared.shape.Shape.{Shape}
use Rattle.optimistic_get.proofs.Chains.{searched_one}
use Rattle.optimistic_get.proofs.searching.search.Goals as goal

pub returns-in-Cache-clause-searches : goal.returns-in-Cache-clause-searches
returns-in-Cache-clause-searches g c =
    let reader = g.R.ReaderWords.reader in
    searched_one (reader c.args.seat.now) (reader c.last_in.new.seat) c.args.bucket c.args.wanted.now.key.now c.args.out.now c.last_in.result c.last_in.new.out c.last_in.ensures.scans
    (sym (ap (λ (z : Shape). z.spares) c.shape-shape.ensures.same) ∙ c.shape-shape.ensures.valid.no_spares c.in-Cache.is)
