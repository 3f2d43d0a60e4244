use Rattle.std.proofs.Common.{◌≡◌, sym, ap, ◌∙◌, arith}
use Rattle.mica_words.specs.Hash.{hash_tag, tag_of}
use Rattle.mica_words.proofs.Hashes.{tag_of_hash}
use Rattle.optimistic_get.specs.Search.{by_tag}
use Rattle.optimistic_get.proofs.Loads.{on_none}
use Rattle.optimistic_get.proofs.Entries.{weighs_none}
use Rattle.optimistic_get.proofs.searching.weigh.Goals as goal

pub returns-else-entry_tag-wanted-clause-weighs : goal.returns-else-entry_tag-wanted-clause-weighs
returns-else-entry_tag-wanted-clause-weighs g c =
    let tag : c.args.wanted.now.tag ≡ tag_of (g.R.ReaderWords.reader c.args.seat.now).shape.hashing c.args.wanted.now.key.now =
    c.args.wanted.now.tagged ∙ (ap hash_tag c.requires.hashed ∙ sym (tag_of_hash (g.R.ReaderWords.reader c.args.seat.now).shape.hashing c.args.wanted.now.key.now)) in
    let r = g.R.ReaderWords.reader c.args.seat.now in
    weighs_none r r 0 c.args.entry c.args.wanted.now.key.now c.args.best c.args.out.now (on_none r c.requires.open) (omega arith)
    (by_tag (λ same. c.if-entry_tag-wanted.false (c.entry_tag.ensures ∙ (same ∙ sym tag))))
