-- Why a connection is closed, and what one that is not closed waits for.
use Rattle.std.specs.Prelude.{◌≡◌, ℕ, ◌<◌, ◌⊎◌, true, false, List, [], length}
use Rattle.partition_model.specs.declared.options.Options.{Options}
use Rattle.connections.specs.Connection.{Connection}
use Rattle.fronts.specs.Answered.{Answered}
use Rattle.command_answers.specs.Exchange.{Exchange}
use Rattle.command_answers.specs.Spells.{due_to_all}
use Rattle.connection_loop.specs.Talk.{Talk, IsAllAnswered, has_left}

-- Why a connection may be closed. It stays so whatever its peer does later. It is broken; or all that is due was sent, and the client asked for the end, or
-- sends nothing more and all that it said is answered.
pub data Cause (options : Options) (base : ℕ) (connection : Connection) (sent : List ℕ) (said : List Exchange) (rest : List ℕ) : Type 0 where
  broke : connection.is_broken ≡ true → Cause options base connection sent said rest
  left : sent ≡ due_to_all options base said → has_left said ≡ true → Cause options base connection sent said rest
  ended : sent ≡ due_to_all options base said → connection.has_ended ≡ true → connection.waiting ≡ [] → IsAllAnswered options said rest
      → Cause options base connection sent said rest

-- by what was received, sent and answered
abbrev pub MayClose : Options → ℕ → Connection → List ℕ → List ℕ → List Answered → Type 0
MayClose options base connection received sent answers =
    (talk : Talk options base received sent answers) × Cause options base connection sent talk.said talk.rest

-- What a connection waits for: that its peer takes more of what is due; or that it sends more, where all that is due was sent.
pub data Waits (options : Options) (base : ℕ) (connection : Connection) (sent : List ℕ) (said : List Exchange) (rest : List ℕ) : Type 0 where
  shut : length sent < length (due_to_all options base said) → connection.window ≡ 0 → Waits options base connection sent said rest
  idle : sent ≡ due_to_all options base said → connection.waiting ≡ [] → connection.has_ended ≡ false → IsAllAnswered options said rest
      → Waits options base connection sent said rest

-- Nothing can be done before its peer does something: it is closed, or it is whole and waits.
abbrev pub IsSettled : Options → ℕ → Connection → List ℕ → List ℕ → List Answered → Type 0
IsSettled options base connection received sent answers =
    (connection.is_closed ≡ true)
    ⊎ ((connection.is_broken ≡ false) × (talk : Talk options base received sent answers) × Waits options base connection sent talk.said talk.rest)
