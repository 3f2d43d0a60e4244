use Rattle.std.proofs.Common.{◌≡◌, ◌%◌, ℕ, Option, Some, refl, sym, ◌∙◌, subst, arith}
use Rattle.std.specs.Prelude.{IfSome}
use Rattle.mica_words.specs.Packing.{AreBytes}
use Rattle.partition_words.specs.declared.shape.Shape.{Shape}
use Rattle.partition_words.specs.declared.reading.Plan.{Plan}
use Rattle.partition_words.specs.Plan.{FindsLastEpoch, FindsHistory}
use Rattle.partition_words.specs.LiveEntry.{IsLiveItem}
use Rattle.optimistic_get.specs.declared.getting.Got.TheVariants.{Hit, Miss, Again}
use Rattle.optimistic_get.proofs.Answering.{hits, misses, odd_rests, moved_rests, sees_rest}
use Rattle.optimistic_get.proofs.trying.try_get.Goals as goal
use Rattle.optimistic_get.proofs.trying.try_get.Goals.{in_default-via-in-Some+else-is_live, in_default-via-in_default}

pub returns-in-Some-clause-tries : goal.returns-in-Some-clause-tries
returns-in-Some-clause-tries g c =
    let reader = g.R.ReaderWords.reader in
    let wanted = c.args.wanted.now in
    let even : c.first_epoch-first.result % 2 ≡ 0 = omega (arith, c.if-first-eq1.false) in
    let bytes : AreBytes wanted.key.now = wanted.bytes in
    hits (reader c.args.seat.now) (reader c.first_epoch-first.new.self) c.args.bucket c.first_epoch-first.result c.first_epoch-first.ensures.event c.first_epoch-first.ensures.least even wanted.key.now c.search-best.result c.search-best.new.out
    (reader c.search-best.new.seat) (reader c.stamp-stamp.new.self) (reader c.last_epoch-last.new.self) c.search-best.ensures.searches c.stamp-stamp.result c.last_epoch-last.result
    c.stamp-stamp.ensures.event c.stamp-stamp.ensures.seen c.stamp-stamp.ensures.value c.last_epoch-last.ensures.event c.last_epoch-last.ensures.tells
    c.shape.result c.in-Some.offset c.shape.ensures.same c.in-Some.is (c.if-is_live.ensures.0 refl) c.if-last-first.false bytes (sym c.requires.bucket)

pub returns-in_default-clause-tries : goal.returns-in_default-clause-tries
returns-in_default-clause-tries g c =
    let reader = g.R.ReaderWords.reader in
    let wanted = c.args.wanted.now in
    let even : c.first_epoch-first.result % 2 ≡ 0 = omega (arith, c.if-first-eq1.false) in
    let bytes : AreBytes wanted.key.now = wanted.bytes in (
      misses (reader c.args.seat.now) (reader c.first_epoch-first.new.self) c.args.bucket c.first_epoch-first.result c.first_epoch-first.ensures.event c.first_epoch-first.ensures.least even wanted.key.now c.search-best.result c.search-best.new.out
          (reader c.search-best.new.seat) (reader c.stamp-stamp.new.self) (reader c.last_epoch-last.new.self) c.search-best.ensures.searches c.stamp-stamp.result c.last_epoch-last.result
          c.stamp-stamp.ensures.event c.stamp-stamp.ensures.seen c.stamp-stamp.ensures.value c.last_epoch-last.ensures.event c.last_epoch-last.ensures.tells
          (reader c.last_epoch-last.new.self).shape refl
          (elim c.in_default.branch [
            | in_default-via-in-Some+else-is_live w ↦ λ p is live.
                let one : Some w.in-Some.offset ≡ Some p = sym w.in-Some.is ∙ is in
                let same : w.in-Some.offset ≡ p = cc in
                cc (w.if-is_live.ensures.1 (subst (λ (z : Shape × ℕ). IsLiveItem z.0.mode z.0.words c.stamp-stamp.result z.1) (λ i. (sym w.shape.ensures.same i, sym same i)) live))
            | in_default-via-in_default w ↦ λ p is live. cc (sym w.in_default.is ∙ is)
          ])
          c.if-last-first.false bytes (sym c.requires.bucket),
      c.clear-in_default.ensures,
    )

-- where a plan is at rest

pub returns-then-first-eq1-clause-planned : goal.returns-then-first-eq1-clause-planned
returns-then-first-eq1-clause-planned g c =
    let reader = g.R.ReaderWords.reader in
    odd_rests (reader c.args.seat.now) (reader c.first_epoch-first.new.self) c.args.bucket c.first_epoch-first.result c.first_epoch-first.ensures.event c.first_epoch-first.ensures.least
    c.requires.main c.if-first-eq1.true (Again c.first_epoch-first.result c.first_epoch-first.result) (g.R.ReaderWords.plan c.args.seat.now) c.first_epoch-first.ensures.planned

pub returns-then-last-first-clause-planned : goal.returns-then-last-first-clause-planned
returns-then-last-first-clause-planned g c =
    let reader = g.R.ReaderWords.reader in
    let even : c.first_epoch-first.result % 2 ≡ 0 = omega (arith, c.if-first-eq1.false) in
    moved_rests (reader c.args.seat.now) (reader c.first_epoch-first.new.self) c.args.bucket c.first_epoch-first.result c.first_epoch-first.ensures.event c.first_epoch-first.ensures.least even c.args.wanted.now.key.now c.search-best.result c.search-best.new.out
    (reader c.search-best.new.seat) (reader c.stamp-stamp.new.self) (reader c.last_epoch-last.new.self) c.search-best.ensures.searches c.stamp-stamp.result c.last_epoch-last.result
    c.stamp-stamp.ensures.event c.stamp-stamp.ensures.seen c.stamp-stamp.ensures.value c.last_epoch-last.ensures.event c.last_epoch-last.ensures.tells
    c.if-last-first.true (Again c.first_epoch-first.result c.last_epoch-last.result) (g.R.ReaderWords.plan c.args.seat.now) c.first_epoch-first.ensures.planned
    (subst (λ (z : Option Plan). IfSome z (FindsLastEpoch (reader c.stamp-stamp.new.self) c.last_epoch-last.result))
    (c.stamp-stamp.ensures.plan ∙ (c.search-best.ensures.plan ∙ c.first_epoch-first.ensures.plan)) c.last_epoch-last.ensures.planned)

pub returns-in-Some-clause-planned : goal.returns-in-Some-clause-planned
returns-in-Some-clause-planned g c =
    let reader = g.R.ReaderWords.reader in
    let even : c.first_epoch-first.result % 2 ≡ 0 = omega (arith, c.if-first-eq1.false) in
    sees_rest (reader c.args.seat.now) (reader c.first_epoch-first.new.self) c.args.bucket c.first_epoch-first.result c.first_epoch-first.ensures.event c.first_epoch-first.ensures.least even c.args.wanted.now.key.now c.search-best.result c.search-best.new.out
    (reader c.search-best.new.seat) (reader c.stamp-stamp.new.self) (reader c.last_epoch-last.new.self) c.search-best.ensures.searches c.stamp-stamp.result c.last_epoch-last.result
    c.stamp-stamp.ensures.event c.stamp-stamp.ensures.seen c.stamp-stamp.ensures.value c.last_epoch-last.ensures.event c.last_epoch-last.ensures.tells
    (Hit c.stamp-stamp.result) refl (g.R.ReaderWords.plan c.args.seat.now)
    (subst (λ (z : Option Plan). IfSome z (FindsHistory (reader c.search-best.new.seat) (reader c.stamp-stamp.new.self).seen))
    (c.search-best.ensures.plan ∙ c.first_epoch-first.ensures.plan) c.stamp-stamp.ensures.planned)

pub returns-in_default-clause-planned : goal.returns-in_default-clause-planned
returns-in_default-clause-planned g c =
    let reader = g.R.ReaderWords.reader in
    let even : c.first_epoch-first.result % 2 ≡ 0 = omega (arith, c.if-first-eq1.false) in
    sees_rest (reader c.args.seat.now) (reader c.first_epoch-first.new.self) c.args.bucket c.first_epoch-first.result c.first_epoch-first.ensures.event c.first_epoch-first.ensures.least even c.args.wanted.now.key.now c.search-best.result c.search-best.new.out
    (reader c.search-best.new.seat) (reader c.stamp-stamp.new.self) (reader c.last_epoch-last.new.self) c.search-best.ensures.searches c.stamp-stamp.result c.last_epoch-last.result
    c.stamp-stamp.ensures.event c.stamp-stamp.ensures.seen c.stamp-stamp.ensures.value c.last_epoch-last.ensures.event c.last_epoch-last.ensures.tells
    (Miss c.stamp-stamp.result) refl (g.R.ReaderWords.plan c.args.seat.now)
    (subst (λ (z : Option Plan). IfSome z (FindsHistory (reader c.search-best.new.seat) (reader c.stamp-stamp.new.self).seen))
    (c.search-best.ensures.plan ∙ c.first_epoch-first.ensures.plan) c.stamp-stamp.ensures.planned)
