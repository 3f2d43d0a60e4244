-- No command is decided to find no room.
use Rattle.std.proofs.Common.{◌≡◌, ℕ, List, false, Option, Some, None, length, nat_lt, ◌+◌, refl}
use Rattle.std.proofs.lemmas.Bool.{cond_both}
use Rattle.memcached_text.specs.declared.limits.TheConstants.{MAX_TEXT_LEN}
use Rattle.memcached_text.specs.declared.command.Wants.{Wants}
use Rattle.memcached_text.specs.declared.command.Wants.TheVariants.{Whatever, Absent, Present, Numbered, AtLeast}
use Rattle.memcached_text.specs.declared.command.Side.{Side}
use Rattle.memcached_text.specs.declared.command.Direction.{Direction}
use Rattle.memcached_text.specs.declared.lifetime.Lifetime.{Lifetime}
use Rattle.memcached_text.specs.declared.item.Item.{Item}
use Rattle.memcached_text.specs.declared.reply.Reply.TheVariants.{Exists, Deleted, Touched}
use Rattle.memcached_text.specs.declared.fault.Fault.TheVariants.{TooLarge}
use Rattle.memcached_commands.specs.declared.moment.Moment.{Moment}
use Rattle.memcached_commands.specs.declared.ask.Ask.{Ask}
use Rattle.memcached_commands.specs.declared.ask.Ask.TheVariants.{Get, GetTouch, Leased, Store, Join, Count, Touch, Delete, Mark, Spoil}
use Rattle.memcached_commands.specs.declared.ask.Initial.{Initial}
use Rattle.memcached_commands.specs.declared.ask.Says.TheVariants.{Line, Refusal, Stores}
use Rattle.memcached_commands.specs.Counting.{number_in}
use Rattle.memcached_commands.specs.Decide.{becomes, goes, Decision, leaves, has_number, if_meant, is_wanted, missed, later_than, stored_over, joined_item, joins, count_from, kept_until, end_by, begun, vivified, outdated, decide}
use Rattle.memcached_page.specs.Course.{is_no_room}

abbrev HasRoom : Decision → Type 0
HasRoom d = is_no_room d.says ≡ false

missed_room : (wants : Wants) (found : Option Item) → is_no_room (Line (missed wants found)) ≡ false
missed_room Whatever found = refl
missed_room Absent found = refl
missed_room Present found = refl
missed_room (Numbered unique) None = refl
missed_room (Numbered unique) (Some item) = refl
missed_room (AtLeast unique) None = refl
missed_room (AtLeast unique) (Some item) = refl

module _ (at : Moment) where
  over_room : (later : Option Item) (flags : ℕ) (lifetime : Lifetime) (value : List ℕ) → HasRoom (stored_over later at flags lifetime value)
  over_room None flags lifetime value = refl
  over_room (Some item) flags lifetime value = refl

  meant_room : (unique : Option ℕ) (item : Item) (d : Decision) → HasRoom d → HasRoom (if_meant unique item d)
  meant_room unique item d room = cond_both (has_number unique item) d (leaves (Line Exists)) HasRoom (λ _. room) (λ _. refl)

  join_room : (side : Side) (more : List ℕ) (item : Item) → HasRoom (joins at side more item)
  join_room side more item =
      cond_both (nat_lt MAX_TEXT_LEN (length item.value + length more)) (leaves (Refusal TooLarge)) (record { becoming = becomes (joined_item at side more item); says = Stores (Some at.unique) })
      HasRoom (λ _. refl) (λ _. refl)

  count_room : (number : Option ℕ) (direction : Direction) (delta : ℕ) (lifetime : Option Lifetime) (item : Item) → HasRoom (count_from number at direction delta lifetime item)
  count_room None direction delta lifetime item = refl
  count_room (Some number) direction delta lifetime item = refl

  begun_room : (initial : Option Initial) → HasRoom (begun at initial)
  begun_room None = refl
  begun_room (Some initial) = refl

  vivified_room : (lifetime : Option Lifetime) → HasRoom (vivified at lifetime)
  vivified_room None = refl
  vivified_room (Some lifetime) = refl

  pub has_room : (ask : Ask) (found : Option Item) → HasRoom (decide at ask found)
  unfolding decide
  has_room Get None = refl
  has_room Get (Some item) = refl
  has_room (GetTouch lifetime) None = refl
  has_room (GetTouch lifetime) (Some item) = refl
  has_room (Leased lease) None = vivified_room lease.vivify
  has_room (Leased lease) (Some item) = refl
  has_room (Store wants flags lifetime value) found =
      cond_both (is_wanted wants found) (stored_over (later_than wants found) at flags lifetime value) (leaves (Line (missed wants found))) HasRoom
      (λ _. over_room (later_than wants found) flags lifetime value) (λ _. missed_room wants found)
  has_room (Join side unique more) None = refl
  has_room (Join side unique more) (Some item) = meant_room unique item (joins at side more item) (join_room side more item)
  has_room (Count direction delta unique lifetime initial) None = begun_room initial
  has_room (Count direction delta unique lifetime initial) (Some item) =
      meant_room unique item (count_from (number_in item.value) at direction delta lifetime item) (count_room (number_in item.value) direction delta lifetime item)
  has_room (Touch lifetime) None = refl
  has_room (Touch lifetime) (Some item) = refl
  has_room (Delete unique) None = refl
  has_room (Delete unique) (Some item) = meant_room unique item (record { becoming = goes; says = Line Deleted }) refl
  has_room (Mark unique lifetime) None = refl
  has_room (Mark unique lifetime) (Some item) = meant_room unique item (record { becoming = kept_until (end_by at lifetime item) (outdated at item); says = Line Touched }) refl
  has_room Spoil found = refl
