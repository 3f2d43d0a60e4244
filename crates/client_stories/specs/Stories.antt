-- What the threads of a server did, and what its clients said.
use Rattle.std.specs.Prelude.{◌≡◌, ◌≤◌, ◌<◌, ◌+◌, ◌^◌, ⊤, ℕ, List, [], ◌∷◌, drop, length, min, slice_get, Some}
use Rattle.std.specs.List.{AllByRecursion}
use Rattle.outside.specs.Faults.{LAST_COUNT}
use Rattle.partition_model.specs.declared.options.Mode.TheVariants.{Store}
use Rattle.partition_model.specs.declared.options.Options.{Options}
use Rattle.memcached_commands.specs.Fit.{IsFitAsked}
use Rattle.memcached_requests.specs.declared.request.Next.{Next}
use Rattle.memcached_requests.specs.Next.{next_of}
use Rattle.memcached_requests.specs.Requests.{asks_in, len_of}
use Rattle.fronts.specs.Answered.{Answered}
use Rattle.fronts.specs.Placed.{Placed}
use Rattle.connections.specs.Log.{Log, received_of}
use Rattle.connection_loop.specs.Given.{Given}
use Rattle.connection_loop.specs.Going.{NeverFall, seconds_of}
use Rattle.connection_loop.specs.Moments.{TalksThrough, IsCaughtUp}
use Rattle.connection_loop.specs.Turns.{TakesTurns}
use Rattle.served.specs.Served.{empty_origin, AnswersLawfully}
use Rattle.memcached_page.specs.Shelf.{empty}
use Rattle.memcached_page.specs.Page.{ServesAsMemcached}

-- The bytes begin with these, one after another.
abbrev pub AreFirst : List ℕ → List Next → Type 0
AreFirst bytes [] = ⊤
AreFirst bytes (next ∷ later) = (next_of bytes ≡ next) × AreFirst (drop (len_of next) bytes) later

-- What bytes ask of keys is fit.
abbrev pub AsksFit : List ℕ → Type 0
AsksFit bytes = (nexts : List Next) → AreFirst bytes nexts → AllByRecursion (λ next. AllByRecursion IsFitAsked (asks_in next)) nexts

abbrev pub AreBytes : List ℕ → Type 0
AreBytes bytes = AllByRecursion (λ b. b < 256) bytes

-- By the grammar it is.
abbrev pub BytesAskFit : Type 0
BytesAskFit = (bytes : List ℕ) → AreBytes bytes → AsksFit bytes

-- A front talked so with the clients of its share, whose log was this one before and that one after. It counted no fewer connections for which memory lacked.
pub record Talked (options : Options) (base most in_all lacked : ℕ) (answers : List Answered) (before after : Log) : Type 0 where
  pub same : after.schedule ≡ before.schedule
  pub given : List Given
  pub lacking : List ℕ
  pub few : min (length lacking) LAST_COUNT ≤ lacked
  pub turns : TakesTurns options base most in_all after.schedule after.script.piece lacking after.entries given answers
  pub through : TalksThrough options base most after.schedule lacking after.entries given
  pub caught_up : IsCaughtUp options base after.schedule after.script.piece after.entries given
  pub seconds : NeverFall (seconds_of options answers)
  -- what its clients ask is fit
  pub fit : (c : ℕ) → AsksFit (received_of c after.entries)

-- Fronts answered lawfully, from where nothing was stored, and each talked so. Then the clients of a store are served as its page says. Numbers of values would end at 62 bits, which no server
-- comes to.
abbrev pub ServesClientsOfStore : Type 0
ServesClientsOfStore = (options : Options) (base most in_all lacked : ℕ) (fronts : List (List Answered)) (runs : ℕ → List Placed) (before logs : ℕ → Log)
    → options.mode ≡ Store → 1 ≤ options.partitions → base + options.wear < 2 ^ 62 → AnswersLawfully options empty_origin fronts runs
    → ((f : ℕ) (own : List Answered) → slice_get fronts f ≡ Some own → Talked options base most in_all lacked own (before f) (logs f))
    → ServesAsMemcached options (length fronts) lacked (λ part. empty) before logs
