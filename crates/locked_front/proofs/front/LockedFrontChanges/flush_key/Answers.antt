use Rattle.std.proofs.Common.{◌≡◌, subst, arith}
use Rattle.std.proofs.lemmas.Bool.{eqb-true}
use Rattle.partition_model.specs.Options.{IsPossible}
use Rattle.locked_front.specs.Parts.{LockedView}
use Rattle.locked_front.proofs.MarkBytes.{lies_there}
use Rattle.locked_front.proofs.front.LockedFrontChanges.flush_key.Goals as goal

valid : {kept view : LockedView} → kept ≡ view → IsPossible kept.options → IsPossible view.options
valid is possible = subst (λ (v : LockedView). IsPossible v.options) is possible

pub make_mark-requires : goal.make_mark-requires
make_mark-requires g c = let few = (valid c.self.view_is c.self.invariant.0.valid).partitions.1 in omega (arith, c.requires.low)

pub returns-clause-fits : goal.returns-clause-fits
returns-clause-fits g c = let long = eqb-true _ _ c.make_mark.ensures.mark in (omega arith, omega arith)

pub returns-clause-partition : goal.returns-clause-partition
returns-clause-partition g c =
    (lies_there c.args.self.now.options (valid c.self.view_is c.self.invariant.0.valid) c.make_mark.new.key c.args.partition c.requires.marks c.make_mark.ensures.mark
    c.make_mark.ensures.partition c.requires.low).0

pub returns-clause-bucket : goal.returns-clause-bucket
returns-clause-bucket g c =
    (lies_there c.args.self.now.options (valid c.self.view_is c.self.invariant.0.valid) c.make_mark.new.key c.args.partition c.requires.marks c.make_mark.ensures.mark
    c.make_mark.ensures.partition c.requires.low).1
