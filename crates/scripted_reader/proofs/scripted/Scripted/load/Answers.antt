use Rattle.partition_words.proofs.Vocabulary.{IsMain, ap, arith, length, subst, sym, ℕ, ◌+◌, ◌∙◌, ◌≡◌}
use Rattle.partition_words.specs.declared.reader.ReaderState.{ReaderState}
use Rattle.partition_words.specs.declared.reading.Plan.{Plan}
use Rattle.partition_words.specs.declared.shape.Shape.{Shape}
use Rattle.scripted_reader.proofs.ScriptKeeps.{more_loads}
use Rattle.scripted_reader.proofs.Cuts.{cut_few, cut_min, cut_rises}
use Rattle.scripted_reader.proofs.scripted.Scripted.load.Given.{Over}
use Rattle.scripted_reader.proofs.scripted.Scripted.load.Goals.{After-next_cut-until, After-take_look}
use Rattle.scripted_reader.proofs.scripted.Scripted.load.Goals as goal
use Rattle.scripted_reader.specs.declared.scripted.Book.{Book}
use Rattle.partition_words.specs.Plan.{cut_at, owner_at}
use Rattle.scripted_reader.specs.Script.{NoneAbove, look_at}

-- how many events are to have been played
until : (g : Over) (c : After-next_cut-until g)
    → c.next_cut-until.result ≡ cut_at c.args.self.now.cuts.items (c.args.self.now.stage.seat.me.0.reader.loads + 1)
until g c =
    let self = c.args.self.now in
    c.next_cut-until.ensures ∙ ap (λ (z : ℕ). cut_at self.cuts.items (z + 1)) self.counted ∙ cut_min self.cuts.items self.stage.seat.me.0.reader.loads

-- what the load makes of the reader, which has one load more
read : (g : Over) (c : After-take_look g)
    → c.take_look.new.seat.me.0.reader ≡ look_at g.K.Looks.look c.play_to.new.self.seat.me.0.owner c.args.self.now.stage.seat.me.0.reader
read g c =
    ap (λ (z : Book). z.reader) c.take_look.ensures.book ∙ ap (look_at g.K.Looks.look c.play_to.new.self.seat.me.0.owner) c.play_to.ensures.reader

loads : (g : Over) (c : After-take_look g) → c.take_look.new.seat.me.0.reader.loads ≡ c.args.self.now.stage.seat.me.0.reader.loads + 1
loads g c =
    ap (λ (z : ReaderState). z.loads) (read g c) ∙ more_loads g.K.Looks.look c.play_to.new.self.seat.me.0.owner c.args.self.now.stage.seat.me.0.reader

pub play_to-requires-clause-later : goal.play_to-requires-clause-later
play_to-requires-clause-later g c =
    let self = c.args.self.now in
    let rise = cut_rises self.cuts.items self.stage.seat.me.0.reader.loads self.rise in
    omega (arith, until g (goal.at.play_to-requires-clause-later g c).After-next_cut-until, self.at)

pub play_to-requires-clause-few : goal.play_to-requires-clause-few
play_to-requires-clause-few g c =
    let self = c.args.self.now in
    omega (arith, c.next_cut-until.ensures, cut_few self.cuts.items (length self.stage.events.items) (self.loads + 1) self.few)

pub take_look-requires-clause-time : goal.take_look-requires-clause-time
take_look-requires-clause-time g c =
    let self = c.args.self.now in
    let e = c.play_to.ensures in
    sym c.play_to.new.self.counted ∙ e.played ∙ until g (goal.at.take_look-requires-clause-time g c).After-next_cut-until
    ∙ (λ i. cut_at ((sym self.planned ∙ ap (λ (z : Plan). z.cuts) (sym e.plan.0)) i) ((ap (λ (z : ReaderState). z.loads + 1) (sym e.reader)) i))

pub invariant_of-self-2-clause-finds : goal.invariant_of-self-2-clause-finds
invariant_of-self-2-clause-finds g c =
    let book = c.take_look.ensures.book in
    let after = (goal.at.invariant_of-self-2-clause-finds g c).After-take_look in
    let one = ap (λ (z : ReaderState). z.loads + 1) c.play_to.ensures.reader ∙ sym (loads g after) in
    ap (λ (z : Book). z.owner) book ∙ c.take_look.ensures.planned ∙ (λ i. owner_at ((ap (λ (z : Book). z.plan) (sym book)) i) (one i))

pub invariant_of-self-2-clause-few : goal.invariant_of-self-2-clause-few
invariant_of-self-2-clause-few g c =
    subst (λ (z : ℕ). NoneAbove z c.args.self.now.cuts.items) (ap (λ (z : _). length z.items) (sym c.play_to.ensures.same.0)) c.args.self.now.few

pub invariant_of-self-2-clause-at : goal.invariant_of-self-2-clause-at
invariant_of-self-2-clause-at g c =
    let at = goal.at.invariant_of-self-2-clause-at g c in
    c.play_to.ensures.played ∙ until g at.After-next_cut-until ∙ ap (cut_at c.args.self.now.cuts.items) (sym (loads g at.After-take_look))

pub invariant_of-self-2-clause-tries : goal.invariant_of-self-2-clause-tries
invariant_of-self-2-clause-tries g c = λ t is.
    let same = ap (λ (z : ReaderState). z.current) (read g (goal.at.invariant_of-self-2-clause-tries g c).After-take_look) in
    let has = c.requires.tries c.play_to.new.self.seat.me.0.owner t (sym same ∙ is) in
    (has.0, subst (λ (z : Shape). IsMain z c.args.bucket) (sym c.play_to.ensures.same.1) has.1)
