-- A trace that is cut into batches line by line: each partition has a share of the round under way.
use Rattle.std.specs.Prelude.{◌≡◌, ℕ, ◌+◌, List, [], ◌∷◌, ◌++◌, filter, flat_map}
use Rattle.mica_trace.specs.declared.line.TraceLine.{TraceLine}
use Rattle.batch_packets.specs.declared.batch.Request.{Request}
use Rattle.server_words.specs.declared.ask_options.AskOptions.{AskOptions}
use Rattle.mica_client.specs.declared.share.Share.{Share}
use Rattle.mica_client.specs.Batches.{Group, cut, groups_at, port_of, is_in_partition, batches_with, groups_of_round, rounds_from}

-- the batches of a share when these requests follow
abbrev pub share_with : ℕ → Share → List Request → List Group
share_with per share later = batches_with per share.port share.full.items share.last.items later

-- the share of a partition has what the requests of a round are to it
pub record Holds (options : AskOptions) (round : List Request) (partition : ℕ) (share : Share) : Type 0 where
  pub makes : (later : List Request) → share_with options.per share later
      ≡ groups_at (port_of options partition) (cut options.per [] (filter (is_in_partition options partition) round ++ later))

-- so have the shares of the partitions from this one on
abbrev pub AllHold : AskOptions → List Request → ℕ → List Share → Type 0
AllHold options round partition [] = Unit {0}
AllHold options round partition (share ∷ shares) = Holds options round partition share × AllHold options round (partition + 1) shares

-- these batches, and the shares of the round under way, make all, where the lines from line n on follow
pub record IsCutting (options : AskOptions) (n : ℕ) (later : List TraceLine) (groups : List Group) (shares : List Share) (all : List Group) : Type 0 where
  pub round : List Request
  pub holds : AllHold options round 0 shares
  pub makes : groups ++ flat_map (groups_of_round options) (rounds_from round n later) ≡ all
