-- What the workers of a round have in hand, and what each makes of it.
use Rattle.std.specs.Prelude.{◌≡◌, ℕ, ◌<◌, ◌≤◌, ◌^◌, List, [], length, true, map, All, slice_index_or, IfSome}
use Rattle.atomic_table.specs.Seated.{TableId}
use Rattle.partition_model.specs.declared.options.Options.{Options}
use Rattle.mica_trace.specs.declared.line.TraceLine.{TraceLine}
use Rattle.partition_words.specs.declared.state.OwnerState.{OwnerState}
use Rattle.partition_words.specs.declared.reader.ReaderState.{ReaderState}
use Rattle.mica_replay.specs.declared.worker.OwnerWork.{OwnerWork}
use Rattle.mica_replay.specs.declared.worker.ReaderWork.{ReaderWork}
use Rattle.mica_replay.specs.LineNumbers.{lines_at, NamesGet}
use Rattle.mica_replay.specs.ReaderGets.{AreSeatsOf, HaveRead}
use Rattle.mica_replay.specs.JobReplies.{RepliesToJobs}
use Rattle.owner_queue.specs.Messages.{has_end}

module _ {P : Type 0} where
  -- an owner with a fresh queue of one sender, for no more jobs than there is room for
  pub record IsFedOwner (w : OwnerWork P) : Type 0 where
    pub one : w.jobs.senders ≡ 1
    pub fresh : w.jobs.taken ≡ []
    pub room : w.jobs.jobs ≤ w.done.spare

  module _ (owner : P → OwnerState) (home : P → TableId) where
    -- an owner that took its queue to the end
    pub record OwnerFed (w v : OwnerWork P) : Type 0 where
      pub worker : v.worker ≡ w.worker
      pub replied : RepliesToJobs (owner w.part) (owner v.part) w.jobs v.jobs w.done v.done
      pub ended : has_end 0 v.jobs.taken ≡ true
      pub at_home : home v.part ≡ home w.part

    abbrev pub OwnersFed : List (OwnerWork P) → List (OwnerWork P) → Type 0
    OwnersFed xs ys = (length ys ≡ length xs) × ((i : ℕ) (d : OwnerWork P) → i < length xs → OwnerFed (slice_index_or xs i d) (slice_index_or ys i d))

module _ {R : Type 0} where
  -- a reader with a seat of each partition and lines to get
  pub record IsReadyReader (reader : R → ReaderState) (trace : List TraceLine) (options : Options) (r : ReaderWork R) : Type 0 where
    pub seats : AreSeatsOf options (map (λ s. reader s) r.seats.items)
    pub named : All (NamesGet trace) r.gets.items
    pub few : length r.gets.items < 2 ^ 32

  module _ (reader : R → ReaderState) (home : R → TableId) (trace : List TraceLine) (options : Options) where
    pub record ReaderRan (r t : ReaderWork R) : Type 0 where
      pub gets : t.gets ≡ r.gets
      pub worker : t.worker ≡ r.worker
      pub at_home : map (λ s. home s) t.seats.items ≡ map (λ s. home s) r.seats.items
      pub found : IfSome t.found (λ found. HaveRead options (lines_at trace r.gets.items) found (map (λ s. reader s) r.seats.items) (map (λ s. reader s) t.seats.items))

    abbrev pub ReadersRan : List (ReaderWork R) → List (ReaderWork R) → Type 0
    ReadersRan xs ys = (length ys ≡ length xs) × ((i : ℕ) (d : ReaderWork R) → i < length xs → ReaderRan (slice_index_or xs i d) (slice_index_or ys i d))
