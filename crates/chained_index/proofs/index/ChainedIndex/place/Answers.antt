use Rattle.chained_index.proofs.Words.{◌≡◌, inl, inr, [], ◌∷◌, ◌++◌, sym, arith}
use Rattle.chained_index.proofs.Words.{entry_of, IsIndexOf, Shape, subst}
use Rattle.chained_index.proofs.Allowed.{may_enter, may_link, some_entry}
use Rattle.chained_index.proofs.Calls.{Call, call_at, end_in_chain, lacks, last_free, added, added_behind}
use Rattle.chained_index.proofs.index.ChainedIndex.place.Given.{Over}
use Rattle.chained_index.proofs.index.ChainedIndex.place.Goals.{After-end_of-end, In-Some}
use Rattle.chained_index.proofs.index.ChainedIndex.place.Goals as goal

call : (g : Over) (c : After-end_of-end g) → Call (g.W.OwnerWords.owner c.args.words.now) c.args.self.now c.args.bucket c.end_of-end.result
call g c = call_at _ _ _ _ _ c.end_of-end.ensures.same c.end_of-end.ensures.kept c.requires.index c.requires.bucket c.end_of-end.ensures.end

pub put_entry-requires : goal.put_entry-requires
put_entry-requires g c = may_enter _ c.args.bucket c.requires.marked _ c.end_of-end.ensures.same _ _
    (inl (end_in_chain _ _ _ _ (call g (goal.at.put_entry-requires g c).After-end_of-end))) c.if-end-lt-SLOTS.true

-- the entry went into the last bucket
pub returns-then-end-lt-SLOTS : goal.returns-then-end-lt-SLOTS
returns-then-end-lt-SLOTS g c =
    let left = added _ _ _ _ (call g (goal.at.returns-then-end-lt-SLOTS g c).After-end_of-end) (entry_of c.args.tag c.args.offset)
    (some_entry c.args.tag c.args.offset c.requires.tag) c.if-end-lt-SLOTS.true _ c.put_entry.ensures.kept (cc) in
    record { entries = left.0; index = left.1; kept = c.put_entry.ensures.kept; home = cc }

-- a free spare, the last in the list, is taken

popped : (g : Over) (c : In-Some g) → c.args.self.now.free ≡ c.take_spare.new.self.free ++ c.in-Some.next ∷ []
popped g c = c.in-Some.ensures.taken

pub put_entry-requires-in-Some : goal.put_entry-requires-in-Some
put_entry-requires-in-Some g c =
    let i = (goal.at.put_entry-requires-in-Some g c).In-Some in
    may_enter _ c.args.bucket c.requires.marked _ c.end_of-end.ensures.same _ _ (inr (last_free _ _ _ _ (call g (goal.at.put_entry-requires-in-Some g c).After-end_of-end) _ _ (popped g i))) (omega arith)

pub put_link-requires : goal.put_link-requires
put_link-requires g c =
    let i = (goal.at.put_link-requires g c).In-Some in
    let call = call g (goal.at.put_link-requires g c).After-end_of-end in
    let free = last_free _ _ _ _ call _ _ (popped g i) in
    may_link _ call.v.s c.args.bucket call.v.main c.requires.marked c.in-Some.next 0 c.entry_of-entry.result (omega arith) _ (cc) _ _
    (end_in_chain _ _ _ _ call) (inr (free, (call.v.known.blank c.in-Some.next free).no_link))

pub returns-in-Some : goal.returns-in-Some
returns-in-Some g c =
    let i = (goal.at.returns-in-Some g c).In-Some in
    let left = added_behind _ _ _ _ (call g (goal.at.returns-in-Some g c).After-end_of-end) (entry_of c.args.tag c.args.offset) c.in-Some.next c.take_spare.new.self.free
    (some_entry c.args.tag c.args.offset c.requires.tag) c.if-end-lt-SLOTS.false (popped g i) _ c.put_link.ensures.kept
    (cc (c.put_link.ensures.event, c.put_entry-in-Some.ensures.event, c.end_of-end.ensures.same, c.entry_of-entry.ensures)) in
    let index = subst (λ (z : Shape). IsIndexOf (record { shape = z; free = c.take_spare.new.self.free }) (g.W.OwnerWords.owner c.put_link.new.self)) (sym c.take_spare.ensures.shape) left.1 in
    record { entries = left.0; index = index; kept = c.put_link.ensures.kept; home = cc }

pub returns-in_default-clause-entries : goal.returns-in_default-clause-entries
returns-in_default-clause-entries g c =
    absurd (c.requires.place (lacks _ _ _ _ (call g (goal.at.returns-in_default-clause-entries g c).After-end_of-end) c.if-end-lt-SLOTS.false c.in_default.ensures.taken))

pub returns-in_default-clause-index : goal.returns-in_default-clause-index
returns-in_default-clause-index g c =
    absurd (c.requires.place (lacks _ _ _ _ (call g (goal.at.returns-in_default-clause-index g c).After-end_of-end) c.if-end-lt-SLOTS.false c.in_default.ensures.taken))
