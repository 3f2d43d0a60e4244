-- What is answered to a command, as a client reads it.
use Rattle.std.specs.Prelude.{◌≡◌, ⊤, ℕ, ◌^◌, ◌<◌, Bool, List, ◌++◌, flat_map}
use Rattle.std.specs.List.{AllByRecursion}
use Rattle.memcached_text.specs.declared.fault.Fault.{Fault}
use Rattle.memcached_text.specs.declared.reply.Reply.{Reply}
use Rattle.memcached_text.specs.Lines.{Lacks}
use Rattle.memcached_text.specs.Replies.{reply_text, fault_text, number_text, stat_text, value_text, FoundValue, IsFound}

-- something that is counted, with its value
pub record Stat : Type 0 where
  pub name : List ℕ
  pub value : List ℕ

-- one line has both, and a space between them
pub record IsStat (stat : Stat) : Type 0 where
  pub no_space : Lacks 32 stat.name
  pub no_feed : Lacks 10 stat.name
  pub value : Lacks 10 stat.value

-- what stands in front of the last line: a value that a get found, or something that is counted
pub data Part : Type 0 where
  value : FoundValue → Part
  stat : Stat → Part

-- the last line, which is all of most answers
pub data Last : Type 0 where
  line : Reply → Last
  refusal : Fault → Last
  number : ℕ → Last

-- what is answered to a command: some parts, and a line behind them
pub record Answer : Type 0 where
  pub parts : List Part
  pub last : Last

-- the text of a part: a value that was found, or a count
abbrev pub part_text : Part → List ℕ
part_text (value found) = value_text found.key found.flags found.value found.unique
part_text (stat counted) = stat_text counted.name counted.value

-- the text of the line behind the parts
abbrev pub last_text : Last → List ℕ
last_text (line reply) = reply_text reply
last_text (refusal fault) = fault_text fault
last_text (number n) = number_text n

-- the text of an answer
abbrev pub answer_text : Answer → List ℕ
answer_text answer = flat_map part_text answer.parts ++ last_text answer.last

abbrev pub IsPart : Bool → Part → Type 0
IsPart asks (value found) = IsFound asks found
IsPart asks (stat counted) = IsStat counted

abbrev pub IsLast : Last → Type 0
IsLast (number n) = n < 2 ^ 64
IsLast _ = ⊤

-- an answer to a command that asks for unique numbers, or does not
pub record IsAnswer (asks : Bool) (answer : Answer) : Type 0 where
  pub parts : AllByRecursion (IsPart asks) answer.parts
  pub last : IsLast answer.last

-- none of all answers begins another: a client finds where the answer to its command ends
abbrev pub IsOneAnswer : Type 0
IsOneAnswer = (asks : Bool) (a b : Answer) (x y : List ℕ) → IsAnswer asks a → IsAnswer asks b
    → answer_text a ++ x ≡ answer_text b ++ y → (answer_text a ≡ answer_text b) × (x ≡ y)
