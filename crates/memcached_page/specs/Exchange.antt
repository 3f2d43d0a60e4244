-- What a client said, with the deeds that carried it out, and what is due to it.
use Rattle.std.specs.Prelude.{◌≡◌, ◌==◌, ℕ, suc, Bool, true, false, ⊤, List, [], ◌∷◌, ◌++◌, length, take, nat_le, filter_map, Option, Some, None, if◌then◌else◌}
use Rattle.std.specs.List.{list_all}
use Rattle.memcached_text.specs.declared.reply.Reply.TheVariants.{Done as Okay, NoRoom}
use Rattle.memcached_commands.specs.declared.asks.Asked.{Asked}
use Rattle.memcached_commands.specs.declared.ask.Says.{Says}
use Rattle.memcached_commands.specs.declared.ask.Says.TheVariants.{Line}
use Rattle.memcached_requests.specs.declared.request.Next.{Next}
use Rattle.memcached_requests.specs.declared.request.Style.{Style}
use Rattle.memcached_requests.specs.Requests.{asks_in}
use Rattle.memcached_requests.specs.Replies.{said_text}
use Rattle.memcached_stats.specs.Stats.{Told}
use Rattle.fronts.specs.declared.flushes.Flush.{Flush}
use Rattle.command_answers.specs.AskAnswers.{asks_with}
use Rattle.command_answers.specs.Exchange.{flush_due, is_flush_all, plain_text, style_of}
use Rattle.command_answers.specs.FlushAnswers.{flush_at}
use Rattle.memcached_page.specs.Course.{Deed, carried, flushed, is_no_room}

-- What a client said; the deeds that carried it out so far, in order; what the server told of itself, where that is wanted; and whether memory lacked for it.
pub record Exchange : Type 0 where
  pub next : Next
  pub deeds : List Deed
  pub told : Told
  pub lacked : Bool

-- Carried out

-- there was no room for it
abbrev pub refuses : Deed → Bool
refuses (carried second number asked says) = is_no_room says
refuses _ = false

-- All that is asked of keys, where these were done so far: behind a set for which there was no room, that the old item goes.
abbrev pub asks_to : Next → List Deed → List Asked
asks_to next deeds = asks_with refuses (style_of next) (asks_in next) deeds

-- These carry out the first of what is asked of keys.
abbrev pub CarryAsks : List Asked → List Deed → Type 0
CarryAsks asks [] = ⊤
CarryAsks (asked ∷ asks) (carried second number own says ∷ later) = (own ≡ asked) × CarryAsks asks later
CarryAsks _ _ = ⊥

-- These flush the parts from this one on.
abbrev pub FlushParts : Flush → ℕ → List Deed → Type 0
FlushParts flush part [] = ⊤
FlushParts flush part (flushed own number asked took ∷ later) = (own ≡ part) × (asked ≡ flush) × FlushParts flush (suc part) later
FlushParts flush part _ = ⊥

-- A flush of all is one of each part, all asked for at one second.
abbrev pub CarryOut : Bool → Next → List Deed → Type 0
CarryOut true next deeds = (second : ℕ) × FlushParts (flush_at second (flush_due next)) 0 deeds
CarryOut false next deeds = CarryAsks (asks_to next deeds) deeds

-- whether all of it is carried out
abbrev pub is_done : ℕ → Exchange → Bool
is_done parts e = length e.deeds == (if is_flush_all e.next then parts else length (asks_to e.next e.deeds))

-- Due

-- what was said of a key
abbrev pub said_in : Deed → Option (List ℕ × Says)
said_in (carried second number asked says) = Some (asked.key, says)
said_in _ = None

abbrev pub took : Deed → Bool
took (flushed part number flush accepted) = accepted
took _ = false

-- what is told of each that was said, and whether nothing more is said behind the last
abbrev pub saids_text : Style → Bool → List (List ℕ × Says) → List ℕ
saids_text style done [] = []
saids_text style done (said ∷ []) = said_text style done said.0 said.1
saids_text style done (said ∷ next ∷ later) = said_text style false said.0 said.1 ++ saids_text style done (next ∷ later)

-- of a flush: whether each part took it
abbrev pub flush_text : Style → Bool → List Deed → List ℕ
flush_text style done deeds = if done then said_text style true [] (Line (if list_all took deeds then Okay else NoRoom)) else []

-- Of what asks nothing of keys, and else of what was said of each. Nothing is told of what is asked behind a set, nor is that waited for.
abbrev pub text_for : ℕ → Exchange → List Asked → List ℕ
text_for parts e [] = plain_text parts e.told e.next
text_for parts e (asked ∷ later) =
    saids_text (style_of e.next) (nat_le (length (asked ∷ later)) (length e.deeds)) (take (length (asked ∷ later)) (filter_map said_in e.deeds))

-- What is due to it so far, byte for byte.
abbrev pub due_to : ℕ → Exchange → List ℕ
due_to parts e = if is_flush_all e.next then flush_text (style_of e.next) (is_done parts e) e.deeds else text_for parts e (asks_in e.next)
