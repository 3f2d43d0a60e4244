use Rattle.std.proofs.Common.{◌≡◌, length, map, sym, ap, ◌∙◌, subst, arith}
use Rattle.partition_table.specs.declared.reader.ReaderSeat.{ReaderSeat}
use Rattle.partition_table.specs.Seats.{reader_state, reader_home}
use Rattle.work_desk.specs.Rows.{free_again, handed, AllHanded, MayHand, Returned}
use Rattle.mica_replay.specs.declared.worker.OwnerWork.{OwnerWork}
use Rattle.mica_replay.specs.declared.worker.ReaderWork.{ReaderWork}
use Rattle.mica_replay.specs.declared.duties.ReadTerms.{ReadTerms}
use Rattle.mica_replay.specs.Workers.{IsFedOwner, OwnerFed, IsReadyReader, ReaderRan}
use Rattle.mica_replay.specs.Crew.{Desks, read_terms}
use Rattle.mica_replay.proofs.CrewRounds.{free, may_hand, all_handed, length-handed, freed, each_ran}
use Rattle.mica_replay.proofs.worker.run_all.Given.{Over}
use Rattle.mica_replay.proofs.worker.run_all.Goals.{After-hand_all-2}
use Rattle.mica_replay.proofs.worker.run_all.Goals as goal

-- what an owner, and what a reader does with work that was handed to it
abbrev owner_done : (g : Over) → Unit {0} → OwnerWork g.row.P.Denot → OwnerWork g.row.P.Denot → Type 0
owner_done g _ w v = OwnerFed g.P.Partition.owner g.P.Partition.home w v

abbrev reader_ready : ReadTerms → ReaderWork ReaderSeat → Type 0
reader_ready terms r = IsReadyReader reader_state terms.lines terms.options r

abbrev reader_done : ReadTerms → ReaderWork ReaderSeat → ReaderWork ReaderSeat → Type 0
reader_done terms r t = ReaderRan reader_state reader_home terms.lines terms.options r t

module _ (g : Over) (c : After-hand_all-2 g) where
  abbrev terms : ReadTerms
  terms = read_terms c.args.trace.now c.args.options.now

  readers_handed : c.hand_all.new.givers.items ≡ handed c.args.readers.now.items (free terms (length c.args.readers.now.items))
  readers_handed = c.hand_all.ensures.handed ∙ ap (λ l. handed c.args.readers.now.items l) (ap (λ (d : Desks g.row.P.Denot). d.readers) c.crew.view_is ∙ c.requires.crew.readers)

  owners_handed : c.hand_all-2.new.givers.items ≡ handed c.args.owners.now.items (free (tt {0}) (length c.args.owners.now.items))
  owners_handed = c.hand_all-2.ensures.handed ∙ ap (λ l. handed c.args.owners.now.items l) (ap (λ (d : Desks g.row.P.Denot). d.owners) c.crew.view_is ∙ c.requires.crew.owners)

pub hand_all-requires : goal.hand_all-requires
hand_all-requires g c =
    let terms = read_terms c.args.trace.now c.args.options.now in
    subst (MayHand reader_ready c.args.readers.now.items) (sym (ap (λ (d : Desks g.row.P.Denot). d.readers) c.crew.view_is ∙ c.requires.crew.readers)) (may_hand terms reader_ready c.args.readers.now.items c.requires.readers)

pub hand_all-requires-2 : goal.hand_all-requires-2
hand_all-requires-2 g c =
    subst (MayHand (λ (_ : Unit {0}) w. IsFedOwner w) c.args.owners.now.items) (sym (ap (λ (d : Desks g.row.P.Denot). d.owners) c.crew.view_is ∙ c.requires.crew.owners))
    (may_hand (tt {0}) (λ (_ : Unit {0}) w. IsFedOwner w) c.args.owners.now.items c.requires.owners)

pub take_all_back-requires-clause-room : goal.take_all_back-requires-clause-room
take_all_back-requires-clause-room g c =
    let z = (goal.at.take_all_back-requires-clause-room g c).After-hand_all-2 in
    let long = length-handed (tt {0}) c.args.owners.now.items in
    omega (arith, ap length (owners_handed g z), long, c.hand_all-2.ensures.room, c.args.owners.now.ok)

pub take_all_back-requires-clause-handed : goal.take_all_back-requires-clause-handed
take_all_back-requires-clause-handed g c =
    subst AllHanded (sym (owners_handed g (goal.at.take_all_back-requires-clause-handed g c).After-hand_all-2)) (all_handed (tt {0}) c.args.owners.now.items)

pub take_all_back-requires-2-clause-room : goal.take_all_back-requires-2-clause-room
take_all_back-requires-2-clause-room g c =
    let z = (goal.at.take_all_back-requires-2-clause-room g c).After-hand_all-2 in
    let long = length-handed (terms g z) c.args.readers.now.items in
    omega (arith, ap length (readers_handed g z), long, c.hand_all.ensures.room, c.args.readers.now.ok)

pub take_all_back-requires-2-clause-handed : goal.take_all_back-requires-2-clause-handed
take_all_back-requires-2-clause-handed g c =
    let z = (goal.at.take_all_back-requires-2-clause-handed g c).After-hand_all-2 in
    subst AllHanded (sym (readers_handed g z)) (all_handed (terms g z) c.args.readers.now.items)

pub returns-clause-owners : goal.returns-clause-owners
returns-clause-owners g c =
    each_ran (tt {0}) (owner_done g) c.args.owners.now.items c.take_all_back.new.works.items
    (subst (λ l. Returned (owner_done g) l c.take_all_back.new.works.items) (owners_handed g (goal.at.returns-clause-owners g c).After-hand_all-2) c.take_all_back.ensures.back)

pub returns-clause-readers : goal.returns-clause-readers
returns-clause-readers g c =
    let z = (goal.at.returns-clause-readers g c).After-hand_all-2 in
    each_ran (terms g z) reader_done c.args.readers.now.items c.take_all_back-2.new.works.items
    (subst (λ l. Returned reader_done l c.take_all_back-2.new.works.items) (readers_handed g z) c.take_all_back-2.ensures.back)

pub returns-clause-crew : goal.returns-clause-crew
returns-clause-crew g c =
    let z = (goal.at.returns-clause-crew g c).After-hand_all-2 in
    let owners = c.take_all_back.ensures.free ∙ ap (λ l. map (λ k. free_again k) l) (owners_handed g z) ∙ freed (tt {0}) c.args.owners.now.items ∙ sym c.requires.crew.owners in
    let readers = c.take_all_back-2.ensures.free ∙ ap (λ l. map (λ k. free_again k) l) (readers_handed g z) ∙ freed (terms g z) c.args.readers.now.items ∙ sym c.requires.crew.readers in
    λ i. record { owners = owners i; readers = readers i }
