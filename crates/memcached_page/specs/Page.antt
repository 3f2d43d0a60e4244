-- What a client of memcached may rely on.
--
-- Three other pages say the rest: which bytes are which command (`next_of`), what a command makes of an item (`decide`), and what is told of connections (`Log`). Over
-- sockets nothing is told of them: there tests compare the bytes. No hash, heap, index, stamp or history stands here, and of a log how many words it has.
use Rattle.std.specs.Prelude.{◌≡◌, ◌≤◌, ◌<◌, ◌==◌, ℕ, Bool, true, false, ⊤, List, length, filter, count_by, min, is_some}
use Rattle.std.specs.List.{AllByRecursion}
use Rattle.outside.specs.Faults.{LAST_COUNT}
use Rattle.partition_model.specs.declared.options.Options.{Options}
use Rattle.connections.specs.State.{Entry, turned_away as one_away}
use Rattle.connections.specs.Log.{Log}
use Rattle.memcached_page.specs.Shelf.{Shelf}
use Rattle.memcached_page.specs.Course.{Deed, carried, flushed, went, lost, moved, Done, IsCourse}
use Rattle.memcached_page.specs.Kept.{KeepsItems, RefusesWhereFull}
use Rattle.memcached_page.specs.Talk.{Story, TalksThrough, ClosesForCause, SettlesAll, TellsSeconds}

-- the part of the keys that a deed is done to
abbrev pub part_of : (List ℕ → ℕ) → Deed → ℕ
part_of part (carried second number asked says) = part asked.key
part_of part (flushed own number flush took) = own
part_of part (went second key) = part key
part_of part (lost key) = part key
part_of part (moved key) = part key

-- Commands are carried out and parts flushed for a client; items go, are lost and are moved for none.
abbrev pub is_asked : Deed → Bool
is_asked (carried second number asked says) = true
is_asked (flushed part number flush took) = true
is_asked _ = false

-- one of so many shares did it, and for a client just where one asked for it
pub record IsOwn (shares : ℕ) (done : Done) : Type 0 where
  pub some : done.share < shares
  pub asked : is_some done.client ≡ is_asked done.deed

-- That an answer is no older than all that was told, at whichever share, before it was asked for. Nothing says so yet.
abbrev pub InTime : ℕ → (ℕ → Log) → (ℕ → Story) → Type 0
InTime shares logs stories = ⊤

-- One that came when there were as many connections as may be was turned away, and is no client.
abbrev pub is_turned_away : Entry → Bool
is_turned_away one_away = true
is_turned_away _ = false

-- All clients of all shares are served key by key. For so many connections memory lacked.
pub record ServesKeyByKey (options : Options) (shares lacked : ℕ) (from : ℕ → Shelf) (before logs : ℕ → Log) : Type 0 where
  -- Each key is in a part.
  pub part : List ℕ → ℕ
  pub parted : (key : List ℕ) → part key < options.partitions
  -- All that was done to the keys of a part, by whichever thread, is one course from what it began with: each command was answered by what stood there then. This is left.
  pub courses : ℕ → List Done
  pub left : ℕ → Shelf
  pub one_course : (p : ℕ) → p < options.partitions → IsCourse options.mode (from p) (courses p) (left p)
  -- The thread of each share did these deeds, in order, and they stand in each course in this order. So a client is never shown less than any client of its share was.
  pub stories : ℕ → Story
  pub in_order : (p f : ℕ) → p < options.partitions → f < shares → filter (λ done. done.share == f) (courses p) ≡ filter (λ done. part_of part done.deed == p) (stories f).deeds
  pub no_others : (p : ℕ) → p < options.partitions → AllByRecursion (IsOwn shares) (courses p)
  pub in_time : InTime shares logs stories
  -- What clients do is as it was foretold. At each moment, what was sent to each is due to what it said, byte for byte, by the deeds until then.
  pub foretold : (f : ℕ) → f < shares → (logs f).schedule ≡ (before f).schedule
  pub clients : (f : ℕ) → f < shares → TalksThrough options.partitions (logs f) (stories f)
  -- A connection is closed for a cause only. In the end all that is due was sent to each that takes it.
  pub closes : (f : ℕ) → f < shares → ClosesForCause options.partitions (logs f) (stories f)
  pub settled : (f : ℕ) → f < shares → SettlesAll options.partitions (logs f) (stories f)
  -- the seconds at which commands were carried out
  pub seconds : (f : ℕ) → f < shares → TellsSeconds (logs f) (stories f)
  -- Memory lacked for no more connections than were counted, and so many were turned away.
  pub few : (f : ℕ) → f < shares → min (length (stories f).lacking) LAST_COUNT ≤ lacked
  pub turned_away : ℕ → ℕ
  pub counted : (f : ℕ) → f < shares → turned_away f ≡ count_by is_turned_away (logs f).entries

-- They are served as by memcached: key by key, and what was stored is kept as long as there is room.
pub record ServesAsMemcached (options : Options) (shares lacked : ℕ) (from : ℕ → Shelf) (before logs : ℕ → Log) : Type 0 where
  pub serves : ServesKeyByKey options shares lacked from before logs
  -- A cache loses an item only once its part's log was written round behind it, or newer keys of its class, which may take each other's place, took its own.
  pub class : List ℕ → ℕ
  pub keeps : (p : ℕ) → p < options.partitions → KeepsItems options class (from p) (serves.courses p)
  -- Something finds no room only where its part is full.
  pub refused : (p : ℕ) → p < options.partitions → RefusesWhereFull options (from p) (serves.courses p)
