-- How far a front and one of its clients have come in their talk.
use Rattle.std.specs.Prelude.{◌≡◌, ℕ, ◌-◌, ◌≤◌, Bool, true, false, List, ◌++◌, length, drop}
use Rattle.partition_model.specs.declared.options.Options.{Options}
use Rattle.memcached_requests.specs.declared.request.Next.TheVariants.{More}
use Rattle.memcached_requests.specs.Next.{next_of}
use Rattle.fronts.specs.Answered.{Answered}
use Rattle.memcached_stats.specs.Stats.{Told}
use Rattle.command_answers.specs.Exchange.{Exchange, AnswersNext, due_before}
use Rattle.command_answers.specs.Spells.{Spells, MayGoOn, taken_by, due_to_all, answers_to_all}
use Rattle.connection_loop.specs.declared.answer.HowFar.{HowFar}
use Rattle.connection_loop.specs.declared.answer.Said.{Said}
use Rattle.connection_loop.specs.declared.answer.Said.TheVariants.{Nothing, Part, Whole, Last}
use Rattle.connection_loop.specs.declared.answer.Halt.{Halt}
use Rattle.connection_loop.specs.declared.answer.Halt.TheVariants.{Needs, Enough, Leaves}
use Rattle.connection_loop.specs.declared.client.Client.{Client}
use Rattle.connection_loop.specs.Talk.{Talk, has_left}

-- The bytes that are not answered, how many answers were given to the command that they begin with, and how many bytes of what is to be dropped have not
-- come.
pub record Position : Type 0 where
  pub bytes : List ℕ
  pub done : ℕ
  pub dropping : ℕ

-- where all that is to be dropped has come
abbrev pub position_at : List ℕ → ℕ → Position
position_at bytes done = record { bytes = bytes; done = done; dropping = 0 }

-- what bytes begin with, with these answers, where this was told
abbrev pub begun : List ℕ → List Answered → Told → Exchange
begun bytes answers told = record { next = next_of bytes; answers = answers; told = told }

-- What was received is answered up to this position: so much as a whole, and the command that stands there in part. These are all answers that were given, and
-- this is all that is due.
pub record Reaches (options : Options) (base : ℕ) (position : Position) (received : List ℕ) (answers : List Answered) (due : List ℕ) : Type 0 where
  pub whole : List Exchange
  pub part : List Answered
  pub told : Told
  pub spells : Spells options base received whole position.bytes
  pub follows : MayGoOn options whole
  pub begins : AnswersNext options base (next_of position.bytes) part
  pub count : length part ≡ position.done
  pub answered : answers_to_all whole ++ part ≡ answers
  pub due_is : due_to_all options base whole ++ due_before options base (begun position.bytes part told) ≡ due
  pub missing : position.dropping ≡ taken_by whole - length received

-- The client asked for the end, or its line was too long. These bytes are left behind that, no more than so many.
pub record Ends (options : Options) (base most : ℕ) (received : List ℕ) (answers : List Answered) (due : List ℕ) : Type 0 where
  pub said : List Exchange
  pub rest : List ℕ
  pub spells : Spells options base received said rest
  pub left : has_left said ≡ true
  pub answered : answers_to_all said ≡ answers
  pub due_is : due_to_all options base said ≡ due
  pub few : length rest ≤ most

-- Whatever was said before, from this position the talk goes on by these answers to where P holds, and the text that is due to them was appended.
pub record GoesOnTo (options : Options) (base : ℕ) (position : Position) (answers : List Answered) (old new : List ℕ) (P : List ℕ → List Answered → List ℕ → Type 0) : Type 0 where
  pub text : List ℕ
  pub appended : new ≡ old ++ text
  pub on : (received : List ℕ) (given : List Answered) (due : List ℕ) → Reaches options base position received given due
      → P received (given ++ answers) (due ++ text)

-- where the talk is after the command that the bytes begin with
abbrev pub ReachesAfter : Options → ℕ → List ℕ → ℕ → Said → List ℕ → List Answered → List ℕ → Type 0
ReachesAfter options base bytes done Nothing received answers due = Reaches options base (position_at bytes done) received answers due × (next_of bytes ≡ More)
ReachesAfter options base bytes done (Part more) received answers due = Reaches options base (position_at bytes more) received answers due
ReachesAfter options base bytes done (Whole len spoke) received answers due =
    Reaches options base (record { bytes = drop len bytes; done = 0; dropping = len - length bytes }) received answers due
ReachesAfter options base bytes done Last received answers due = Ends options base (length bytes) received answers due

-- how far bytes were answered
abbrev pub position_in : List ℕ → HowFar → Position
position_in bytes far = record { bytes = drop far.taken bytes; done = far.done; dropping = far.dropping }

-- Where the talk is at such a position: behind it stands no whole command; or some may; or nothing more is read.
abbrev pub HaltsAs : Options → ℕ → ℕ → Halt → Position → List ℕ → List Answered → List ℕ → Type 0
HaltsAs options base most Needs position received answers due = Reaches options base position received answers due × (next_of position.bytes ≡ More)
HaltsAs options base most Enough position received answers due = Reaches options base position received answers due
HaltsAs options base most Leaves position received answers due = Ends options base most received answers due

-- what is kept of a client
abbrev pub position_of : Client → Position
position_of client = record { bytes = client.kept; done = client.done; dropping = client.dropping }

abbrev pub leaves : Halt → Bool
leaves Leaves = true
leaves _ = false

-- Where memory lacked: the client said what was answered all the same, and what had been due is. So many bytes are left at most.
pub record Spoke (options : Options) (base most : ℕ) (received : List ℕ) (answers : List Answered) (due : List ℕ) : Type 0 where
  pub talk : Talk options base received due answers
  pub few : length talk.rest ≤ most

-- from this position, whatever was said before
abbrev pub SpokeFrom : Options → ℕ → ℕ → Position → List Answered → Type 0
SpokeFrom options base most position answers =
    (received : List ℕ) (given : List Answered) (due : List ℕ) → Reaches options base position received given due → Spoke options base most received (given ++ answers) due

-- with these bytes behind what was received
abbrev pub SpokeBehind : Options → ℕ → ℕ → Position → List ℕ → List Answered → Type 0
SpokeBehind options base most position more answers =
    (received : List ℕ) (given : List Answered) (due : List ℕ) → Reaches options base position received given due
    → Spoke options base most (received ++ more) (given ++ answers) due
