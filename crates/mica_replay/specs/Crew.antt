-- The crew of a trace: a desk for each owner and each reader, free until the end is told there.
use Rattle.std.specs.Prelude.{◌≡◌, ℕ, List, [], replicate, None}
use Rattle.mica_words.specs.declared.hashing.Hashing.TheVariants.{Fnv1a}
use Rattle.partition_model.specs.declared.options.Options.{Options}
use Rattle.partition_model.specs.declared.options.Mode.TheVariants.{Cache}
use Rattle.mica_trace.specs.declared.line.TraceLine.{TraceLine}
use Rattle.partition_table.specs.declared.reader.ReaderSeat.{ReaderSeat}
use Rattle.work_desk.specs.declared.rule.DeskSeatView.{DeskSeatView}
use Rattle.work_desk.specs.Desk.{giver, told}
use Rattle.mica_replay.specs.declared.worker.OwnerWork.{OwnerWork}
use Rattle.mica_replay.specs.declared.worker.ReaderWork.{ReaderWork}
use Rattle.mica_replay.specs.declared.duties.ReadTerms.{ReadTerms}

abbrev pub read_terms : List TraceLine → Options → ReadTerms
read_terms lines options = record { lines = lines; options = options }

abbrev pub no_terms : ReadTerms
no_terms = read_terms [] (record { mode = Cache; partitions = 0; buckets = 0; spares = 0; words = 0; readers = 0; tries = 0; wear = 0; hashing = Fnv1a })

-- what the desks' sides know
pub record Desks (P : Type 0) : Type 0 where
  pub owners : List (DeskSeatView (OwnerWork P) (Unit {0}))
  pub readers : List (DeskSeatView (ReaderWork ReaderSeat) ReadTerms)

module _ {P : Type 0} where
  -- free desks, from the side that hands work over
  pub record IsCrew (owner_count reader_count : ℕ) (lines : List TraceLine) (options : Options) (crew : Desks P) : Type 0 where
    pub owners : crew.owners ≡ replicate owner_count (giver tt None)
    pub readers : crew.readers ≡ replicate reader_count (giver (read_terms lines options) None)

  -- each owner and each reader was told that there is no more work
  pub record IsDismissed (owner_count reader_count : ℕ) (lines : List TraceLine) (options : Options) (crew : Desks P) : Type 0 where
    pub owners : crew.owners ≡ replicate owner_count (told tt)
    pub readers : crew.readers ≡ replicate reader_count (told (read_terms lines options))
