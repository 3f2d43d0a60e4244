use Rattle.chained_index.proofs.Words.{◌≡◌, inl, refl, ◌-◌, rules, ◌∙◌, ap, subst, arith}
use Rattle.chained_index.proofs.Words.{Shape, PutsEntry, PutsLink, entry_in, after, Kept}
use Rattle.chained_index.proofs.Chained.{chained}
use Rattle.chained_index.proofs.Allowed.{may_enter, may_link, still_in}
use Rattle.chained_index.proofs.Calls.{Call, call_at, end_in_chain, end_inside, before_in_chain, used_some, release_room, drop, release}
use Rattle.chained_index.proofs.index.ChainedIndex.remove.Given.{Over}
use Rattle.chained_index.proofs.index.ChainedIndex.remove.Goals.{After-end_of-end, After-put_entry}
use Rattle.chained_index.proofs.index.ChainedIndex.remove.Goals as goal

call : (g : Over) (c : After-end_of-end g) → Call (g.W.OwnerWords.owner c.args.words.now) c.args.self.now c.args.bucket c.end_of-end.result
call g c = call_at _ _ _ _ _ c.end_of-end.ensures.same c.end_of-end.ensures.kept c.requires.index c.requires.bucket c.end_of-end.ensures.end

pub overflow_sub-last : goal.overflow_sub-last
overflow_sub-last g c = let some = used_some _ _ _ _ (call g (goal.at.overflow_sub-last g c).After-end_of-end) c.args.spot c.requires.spot in omega arith

pub read-entry-requires : goal.read-entry-requires
read-entry-requires g c =
    let call = call g (goal.at.read-entry-requires g c).After-end_of-end in
    (grind (arith, c.end_of-end.ensures.same, end_inside _ _ _ _ call), search (rules, used_some))

-- the last entry went into the spot

last : (g : Over) (c : After-put_entry g) → c.read-entry.result ≡ entry_in (g.W.OwnerWords.owner c.args.words.now) c.end_of-end.result.bucket (c.end_of-end.result.used - 1)
last g c = cc

first : (g : Over) (c : After-put_entry g) → g.W.OwnerWords.owner c.put_entry.new.self
    ≡ after (PutsEntry c.args.spot.bucket c.args.spot.slot c.read-entry.result) (g.W.OwnerWords.owner c.args.words.now)
first g c = cc

pub put_entry-requires-2 : goal.put_entry-requires-2
put_entry-requires-2 g c =
    let call = call g (goal.at.put_entry-requires-2 g c).After-end_of-end in
    may_enter _ c.args.bucket c.requires.marked _ (first g (goal.at.put_entry-requires-2 g c).After-put_entry) _ _
    (inl (still_in _ call.v.s _ call.v.main c.requires.marked _ _ _ c.requires.spot.in_bucket _ (end_in_chain _ _ _ _ call)))
    (omega (arith, call.ends.within, used_some _ _ _ _ call c.args.spot c.requires.spot))

pub put_link-requires : goal.put_link-requires
put_link-requires g c =
    let call = call g (goal.at.put_link-requires g c).After-end_of-end in
    let is = first g (goal.at.put_link-requires g c).After-put_entry in
    may_link _ (chained _ (subst Kept is c.put_entry.ensures.kept)) c.args.bucket call.v.main c.requires.marked c.end_of-end.result.bucket (c.end_of-end.result.used - 1) 0
    (omega (arith, call.ends.within, used_some _ _ _ _ call c.args.spot c.requires.spot)) _ (cc (c.put_entry-2.ensures.event, is)) _ _
    (still_in _ call.v.s _ call.v.main c.requires.marked _ _ _ c.requires.spot.in_bucket _ (before_in_chain _ _ _ _ call c.if-end-bucket.true)) (inl refl)

pub give_spare-requires : goal.give_spare-requires
give_spare-requires g c =
    let call = call g (goal.at.give_spare-requires g c).After-end_of-end in
    omega (arith, release_room _ _ _ _ call c.if-end-bucket.true, ap (λ (z : Shape). z.spares) c.requires.index.shape)

-- the last bucket stays
pub returns-else-last-eq0 : goal.returns-else-last-eq0
returns-else-last-eq0 g c =
    let a = (goal.at.returns-else-last-eq0 g c).After-put_entry in
    let left = drop _ _ _ _ (call g (goal.at.returns-else-last-eq0 g c).After-end_of-end) c.args.spot c.requires.spot _ (last g a) c.else-last-eq0.either
    _ c.put_entry-2.ensures.kept (cc (c.put_entry-2.ensures.event, first g a)) in
    record { entries = left.0; index = left.1; kept = c.put_entry-2.ensures.kept; home = cc }

-- the last bucket is released
pub returns-then-end-bucket : goal.returns-then-end-bucket
returns-then-end-bucket g c =
    let call = call g (goal.at.returns-then-end-bucket g c).After-end_of-end in
    let a = (goal.at.returns-then-end-bucket g c).After-put_entry in
    let end = c.end_of-end.result in
    let left = release _ _ _ _ call c.args.spot c.requires.spot _ (last g a) c.if-last-eq0.true c.if-end-bucket.true
    _ c.put_link.ensures.kept (c.put_link.ensures.event ∙ ap (after (PutsLink end.before 0)) (c.put_entry-2.ensures.event ∙ ap (after (PutsEntry end.bucket (end.used - 1) 0)) (first g a))) in
    record { entries = left.0; index = rw c.give_spare.ensures left.1; kept = c.put_link.ensures.kept; home = cc }
