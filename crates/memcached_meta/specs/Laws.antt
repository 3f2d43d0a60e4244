-- What a client of meta commands may rely on.
use Rattle.std.specs.Prelude.{◌≡◌, ◌≢◌, ℕ, ◌<◌, true, List, [], ◌++◌, length, Some, None}
use Rattle.memcached_text.specs.declared.fault.Fault.{Fault}
use Rattle.memcached_text.specs.declared.reply.Reply.TheVariants.{NoRoom, NoRoomToCount, Exists, NotFound, NotStored}
use Rattle.memcached_text.specs.declared.lifetime.Lifetime.TheVariants.{Forever}
use Rattle.memcached_text.specs.declared.command.Wants.TheVariants.{Whatever}
use Rattle.memcached_text.specs.declared.command.Direction.TheVariants.{Up}
use Rattle.memcached_commands.specs.declared.ask.Ask.TheVariants as asks
use Rattle.memcached_commands.specs.declared.ask.Says.TheVariants.{Line, Refusal}
use Rattle.memcached_text.specs.Replies.{reply_text, fault_text}
use Rattle.memcached_meta.specs.declared.line.Verb.TheVariants.{Store, Delete, Count}
use Rattle.memcached_meta.specs.declared.next.MetaNext.{MetaNext}
use Rattle.memcached_meta.specs.declared.next.MetaNext.TheVariants.{More}
use Rattle.base64.specs.GeneralPurpose.{IsBytes}
use Rattle.memcached_commands.specs.Keys.{spelled}
use Rattle.memcached_meta.specs.Next.{next_meta}
use Rattle.memcached_meta.specs.Asks.{meta_ask}
use Rattle.memcached_meta.specs.Replies.{status_text, line_text, Manner, meta_text}

-- Without flags a meta command asks what a classic one asks: `ms` as `set` with flags 0 and for ever, `md` as `delete`, `ma` as `incr` by 1. So one decision serves both.
pub record AskAsClassic : Type 0 where
  pub store : (value : List ℕ) → meta_ask Store [] value ≡ asks.Store Whatever 0 Forever value
  pub delete : meta_ask Delete [] [] ≡ asks.Delete None
  pub count : meta_ask Count [] [] ≡ asks.Count Up 1 None None None

-- Whatever the flags, a quiet command tells a refusal, a want of room, another number and what was not there.
pub record IsNeverHidden : Type 0 where
  pub refusal : (m : Manner) (fault : Fault) → meta_text m (Refusal fault) ≡ fault_text fault
  pub no_room : (m : Manner) → meta_text m (Line NoRoom) ≡ reply_text NoRoom
  pub no_count : (m : Manner) → meta_text m (Line NoRoomToCount) ≡ reply_text NoRoomToCount
  pub exists : (m : Manner) → meta_text m (Line Exists) ≡ line_text m.verb m.word m.flags (status_text Exists) 0
  pub not_found : (m : Manner) → meta_text m (Line NotFound) ≡ line_text m.verb m.word m.flags (status_text NotFound) 0
  pub not_stored : (m : Manner) → meta_text m (Line NotStored) ≡ line_text m.verb m.word m.flags (status_text NotStored) 0

-- A key has one spelling in base64.
abbrev pub IsOneSpelling : Type 0
IsOneSpelling = (a b : List ℕ) → IsBytes a → IsBytes b → 0 < length (spelled true a) → spelled true a ≡ spelled true b → a ≡ b

-- What bytes begin with stays so whatever follows. So it does not matter in which pieces they come.
abbrev pub MetaStays : Type 0
MetaStays = (bytes more : List ℕ) (next : MetaNext) → next_meta bytes ≡ Some next → next ≢ More → next_meta (bytes ++ more) ≡ Some next
