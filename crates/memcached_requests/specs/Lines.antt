-- What lines of the text protocol want.
use Rattle.std.specs.Prelude.{◌==◌, ◌||◌, Bool, true, false, length, Option, Some, None, if◌then◌else◌}
use Rattle.memcached_text.specs.declared.command.Command.{Command}
use Rattle.memcached_text.specs.declared.command.Command.TheVariants as commands
use Rattle.memcached_text.specs.declared.reply.Reply.{Reply}
use Rattle.memcached_text.specs.declared.reply.Reply.TheVariants.{End, Version, Done, Noop, LongLine}
use Rattle.memcached_text.specs.declared.next.Next as lines
use Rattle.memcached_text.specs.declared.next.Next.TheVariants as of_lines
use Rattle.memcached_text.specs.Quiet.{is_quiet}
use Rattle.memcached_commands.specs.declared.ask.Says.TheVariants.{Line}
use Rattle.memcached_commands.specs.Asks.{asks_of, wants_numbers}
use Rattle.memcached_requests.specs.declared.request.Request.{Request}
use Rattle.memcached_requests.specs.declared.request.Request.TheVariants.{Keys, Flush, Stats, Said}
use Rattle.memcached_requests.specs.declared.request.Style.{Style}
use Rattle.memcached_requests.specs.declared.request.Style.TheVariants.{Classic}
use Rattle.memcached_requests.specs.declared.request.Next.{Next}
use Rattle.memcached_requests.specs.declared.request.Next.TheVariants.{Whole, More}
use Rattle.memcached_requests.specs.Requests.{refused}

-- what is replied to a command that is carried out by its reply alone; a get may have no keys
abbrev pub plain_reply : Command → Option Reply
plain_reply (commands.Get keys unique lifetime) = if length keys == 0 then Some End else None
plain_reply commands.Version = Some Version
plain_reply (commands.Verbosity quiet) = Some Done
plain_reply commands.Noop = Some Noop
plain_reply commands.Quit = Some Done
plain_reply _ = None

-- what else a command wants
abbrev pub wanted_by : Command → Request
wanted_by (commands.Flush due quiet) = Flush due
wanted_by (commands.Stats topic) = Stats topic
wanted_by command = Keys (asks_of command)

abbrev pub request_by : Option Reply → Command → Request
request_by None command = wanted_by command
request_by (Some reply) command = Said (Line reply)

abbrev pub request_of : Command → Request
request_of command = request_by (plain_reply command) command

abbrev pub is_quit : Command → Bool
is_quit commands.Quit = true
is_quit _ = false

-- how it is replied to: a quit is not
abbrev pub style_of : Command → Style
style_of command = Classic (is_quiet command || is_quit command) (wants_numbers command)

-- What bytes begin with that are no frame.
abbrev pub of_line : lines.Next → Next
of_line (of_lines.Command command len) = Whole (request_of command) (style_of command) len (is_quit command)
of_line (of_lines.Refused fault stale quiet len) = Whole (refused fault stale) (Classic quiet false) len false
of_line of_lines.More = More
of_line of_lines.LongLine = Whole (Said (Line LongLine)) (Classic false false) 0 true
