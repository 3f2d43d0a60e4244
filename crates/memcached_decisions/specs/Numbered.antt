-- Unique numbers and flushes, as functions of a partition's history.
use Rattle.std.specs.Prelude.{ℕ, ◌+◌, ◌^◌, ◌<◌, ◌==◌, List, length, nat_le, min, Option, Some, None, if◌then◌else◌}
use Rattle.mica_words.specs.declared.item.TheConstants.{MAX_STORED_LEN}
use Rattle.memcached_text.specs.Item.{item_text}
use Rattle.partition_model.specs.declared.write.Outcome.{Outcome}
use Rattle.partition_model.specs.Write.{is_accepted}
use Rattle.memcached_commands.specs.declared.ask.Ask.{Ask}
use Rattle.memcached_commands.specs.declared.ask.Says.{Says}
use Rattle.memcached_commands.specs.declared.ask.Says.TheVariants.{Line}
use Rattle.memcached_commands.specs.Answers.{no_room}
use Rattle.memcached_commands.specs.Moments.{found_in}
use Rattle.memcached_commands.specs.declared.moment.Moment.{Moment}
use Rattle.memcached_commands.specs.Changes.{becoming_of}
use Rattle.memcached_commands.specs.Decide as decided
use Rattle.memcached_decisions.specs.declared.order.TheConstants.{LAST_UNIQUE}
use Rattle.fronts.specs.declared.changing.When.{When}
use Rattle.fronts.specs.Changing.{Becoming, stays, becomes, goes}

-- what is asked of a key, and the unique number of the first value that its partition accepts
pub record Order : Type 0 where
  pub ask : Ask
  pub base : ℕ

-- The unique number of the value that is accepted behind so many writes. It would end at the greatest of 62 bits, which no server comes to.
abbrev pub numbered : ℕ → ℕ → ℕ
numbered base written = min (base + written) LAST_UNIQUE

-- When a command is carried out: what is flushed has lower numbers than what came behind it.
abbrev pub moment_at : ℕ → When → Moment
moment_at base when = record {
  second = when.second;
  flushed = if when.flushed == 0 then 0 else numbered base when.flushed;
  unique = numbered base when.written;
  until = when.until;
}

-- what becomes of an item, as what is stored of it
abbrev pub stored_becoming : decided.Becoming → Becoming
stored_becoming decided.stays = stays
stored_becoming (decided.becomes item) = becomes (item_text item)
stored_becoming decided.goes = goes

-- no value is longer than this
abbrev pub value_in : Option (List ℕ) → Option (List ℕ)
value_in None = None
value_in (Some stored) = if nat_le (length stored) MAX_STORED_LEN then Some stored else None

-- What a command makes of what is stored.
abbrev pub becoming_by : Order → When → Option (List ℕ) → Becoming
becoming_by order when stored = stored_becoming (becoming_of (moment_at order.base when) order.ask (value_in stored))

-- What is answered to it: what is decided of what was stored, unless the write of that was refused. Then there was no room.
abbrev pub unless_refused : Ask → Option Outcome → Says → Says
unless_refused ask None says = says
unless_refused ask (Some outcome) says = if is_accepted outcome then says else Line (no_room ask)

-- what is answered to a command, by what was stored at its second and what came of the write
abbrev pub says_by : Order → When → Option (List ℕ) → Option Outcome → Says
says_by order when stored outcome =
    let at = moment_at order.base when in
    unless_refused order.ask outcome (decided.decide at order.ask (found_in at (value_in stored))).says

-- Values that are accepted one behind another have numbers that rise, so a flush parts those before it from those behind it.
abbrev pub NumbersRise : Type 0
NumbersRise = (base earlier later : ℕ) → base + later < 2 ^ 62 → earlier < later → numbered base earlier < numbered base later
