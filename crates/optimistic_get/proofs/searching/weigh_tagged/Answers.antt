use Rattle.std.proofs.Common.{◌≡◌, ◌≤◌, ℕ, List, Some, sym, ap, ◌∙◌, subst, arith}
use Rattle.mica_words.specs.Hash.{hash_tag, tag_of}
use Rattle.mica_words.specs.Entry.{entry_offset}
use Rattle.mica_words.specs.Item.{largest_stored_item}
use Rattle.mica_words.proofs.Hashes.{tag_of_hash}
use Rattle.partition_words.specs.declared.shape.Shape.{Shape}
use Rattle.partition_words.specs.Spelt.{ShowsOther, ShowsItem}
use Rattle.optimistic_get.specs.Loading.{loads_in}
use Rattle.optimistic_get.specs.Search.{by_item, by_best, Weighs}
use Rattle.optimistic_get.proofs.Loads.{on_none, on_shape}
use Rattle.optimistic_get.proofs.Entries.{weighs_none, weighs_one}
use Rattle.optimistic_get.proofs.searching.weigh_tagged.Goals as goal

pub returns-then-not-is_later-clause-weighs : goal.returns-then-not-is_later-clause-weighs
returns-then-not-is_later-clause-weighs g c =
    let r = g.R.ReaderWords.reader c.args.seat.now in
    let shows = c.if-not-is_later.ensures in
    weighs_none r r 0 c.args.entry c.args.wanted.now.key.now c.args.best c.args.out.now (on_none r c.requires.open) (omega arith)
    (by_best shows.0 shows.1 (subst (λ (z : ℕ). z ≤ shows.0) c.entry_offset-offset.ensures shows.2))

pub returns-then-look-clause-weighs : goal.returns-then-look-clause-weighs
returns-then-look-clause-weighs g c =
    let reader = g.R.ReaderWords.reader in
    let r = reader c.args.seat.now in
    let q = reader c.look.new.seat in
    let tag : c.args.wanted.now.tag ≡ tag_of q.shape.hashing c.args.wanted.now.key.now =
    c.args.wanted.now.tagged ∙ (ap hash_tag c.requires.hashed ∙ (sym (tag_of_hash r.shape.hashing c.args.wanted.now.key.now)
    ∙ ap (λ (z : Shape). tag_of z.hashing c.args.wanted.now.key.now) (sym (on_shape r q _ c.look.ensures.on)))) in
    let at : c.entry_offset-offset.result ≡ entry_offset c.args.entry = c.entry_offset-offset.ensures in
    subst (λ (z : ℕ). Weighs r c.args.entry c.args.wanted.now.key.now c.args.best c.args.out.now (Some z) c.look.new.out q) (sym at)
    (weighs_one r q c.args.entry c.args.wanted.now.key.now c.args.best c.args.out.now c.look.new.out c.look.ensures.on
    (λ p is. subst (λ (z : ℕ). p ≤ z) at (c.if-not-is_later.ensures p is))
    (c.requires.tagged ∙ tag)
    (subst (λ (z : ℕ). ShowsItem q.shape (loads_in q) z c.args.wanted.now.key.now c.look.new.out) at c.if-look.ensures.shows))

pub returns-else-look-clause-weighs : goal.returns-else-look-clause-weighs
returns-else-look-clause-weighs g c =
    let reader = g.R.ReaderWords.reader in
    let r = reader c.args.seat.now in
    let q = reader c.look.new.seat in
    let shows = c.if-look.ensures.shows in
    let at : c.entry_offset-offset.result ≡ entry_offset c.args.entry = c.entry_offset-offset.ensures in
    subst (λ (z : List ℕ). Weighs r c.args.entry c.args.wanted.now.key.now c.args.best c.args.out.now c.args.best z q) (sym shows.1)
    (weighs_none r q largest_stored_item c.args.entry c.args.wanted.now.key.now c.args.best c.args.out.now c.look.ensures.on (omega arith)
    (by_item (subst (λ (z : ℕ). ShowsOther q.shape (loads_in q) z c.args.wanted.now.key.now) at shows.0)))
