use Rattle.std.proofs.Common.{Err, inr, codes, refl, subst, map, string_bytes}
use Rattle.served.specs.NetRun.{net_facts}
use Rattle.mica_commands.specs.CommandLine.{command_of, IsValidCommand, IsReadingOf}
use Rattle.mica_cmd.specs.Outside.{source_facts, link_facts}
use Rattle.mica_cmd.specs.declared.status.Status.TheVariants.{Usage}
use Rattle.server_words.specs.Output.{with_line_feed}
use Rattle.mica_cmd.specs.Promises.{usage_promise}
use Rattle.mica_cmd.proofs.Keeping.{keeps_promise}
use Rattle.mica_cmd.proofs.Settled.{settles_usage, given_promise, memory_promise, no_promise}
use Rattle.mica_cmd.proofs.top.mica.Goals as goal

pub replay_command-requires-clause-valid : goal.replay_command-requires-clause-valid
replay_command-requires-clause-valid g c κs within = subst IsValidCommand c.in-Ok-Replay.field-0-is c.in-Ok-Replay.ensures.1

pub serve_command-requires-clause-options : goal.serve_command-requires-clause-options
serve_command-requires-clause-options g c κs within = (subst IsValidCommand c.in-Ok-Serve.field-0-is c.in-Ok-Serve.ensures.1).0

pub serve_command-requires-clause-ports : goal.serve_command-requires-clause-ports
serve_command-requires-clause-ports g c κs within = (subst IsValidCommand c.in-Ok-Serve.field-0-is c.in-Ok-Serve.ensures.1).1

pub returns-in-Ok-Replay : goal.returns-in-Ok-Replay
returns-in-Ok-Replay g c =
    given_promise _ _ _ _ _ _ c.in-Ok-Replay.ensures.0 c.in-Ok-Replay.field-0-is
    (c.replay_command.ensures (net_facts g.N.Net c.args.net.now) (link_facts g.L.Link c.args.link.now))

pub returns-in-Ok-Serve : goal.returns-in-Ok-Serve
returns-in-Ok-Serve g c =
    given_promise _ _ _ _ _ _ c.in-Ok-Serve.ensures.0 c.in-Ok-Serve.field-0-is
    (c.serve_command.ensures (source_facts g.S.Source c.args.source.now) (link_facts g.L.Link c.args.link.now))

pub returns-in-Ok-Gen : goal.returns-in-Ok-Gen
returns-in-Ok-Gen g c =
    given_promise _ _ _ _ _ _ c.in-Ok-Gen.ensures.0 c.in-Ok-Gen.field-0-is
    (c.gen_command.ensures (source_facts g.S.Source c.args.source.now) (net_facts g.N.Net c.args.net.now) c.args.tables.now (link_facts g.L.Link c.args.link.now))

pub returns-in-Ok-Bench : goal.returns-in-Ok-Bench
returns-in-Ok-Bench g c =
    given_promise _ _ _ _ _ _ c.in-Ok-Bench.ensures.0 c.in-Ok-Bench.field-0-is
    (c.bench_command.ensures (source_facts g.S.Source c.args.source.now) (net_facts g.N.Net c.args.net.now) (link_facts g.L.Link c.args.link.now))

pub check_command-requires-clause-valid : goal.check_command-requires-clause-valid
check_command-requires-clause-valid g c = subst IsValidCommand c.in-Ok-Check.field-0-is c.in-Ok-Check.ensures.1

pub exclusive_command-requires-clause-valid : goal.exclusive_command-requires-clause-valid
exclusive_command-requires-clause-valid g c κs within = subst IsValidCommand c.in-Ok-Exclusive.field-0-is c.in-Ok-Exclusive.ensures.1

pub ask_command-requires-clause-valid : goal.ask_command-requires-clause-valid
ask_command-requires-clause-valid g c κs within = subst IsValidCommand c.in-Ok-Ask.field-0-is c.in-Ok-Ask.ensures.1

pub image_command-requires-clause-valid : goal.image_command-requires-clause-valid
image_command-requires-clause-valid g c = (subst IsValidCommand c.in-Ok-Image.field-0-is c.in-Ok-Image.ensures.1).0

pub image_command-requires-clause-mode : goal.image_command-requires-clause-mode
image_command-requires-clause-mode g c = (subst IsValidCommand c.in-Ok-Image.field-0-is c.in-Ok-Image.ensures.1).1

pub returns-in-Ok-Check : goal.returns-in-Ok-Check
returns-in-Ok-Check g c =
    given_promise _ _ _ _ _ _ c.in-Ok-Check.ensures.0 c.in-Ok-Check.field-0-is
    (c.check_command.ensures (net_facts g.N.Net c.args.net.now) c.args.tables.now (link_facts g.L.Link c.args.link.now))

pub returns-in-Ok-Exclusive : goal.returns-in-Ok-Exclusive
returns-in-Ok-Exclusive g c =
    given_promise _ _ _ _ _ _ c.in-Ok-Exclusive.ensures.0 c.in-Ok-Exclusive.field-0-is
    (c.exclusive_command.ensures (net_facts g.N.Net c.args.net.now) c.args.tables.now (link_facts g.L.Link c.args.link.now))

pub returns-in-Ok-Ask : goal.returns-in-Ok-Ask
returns-in-Ok-Ask g c =
    given_promise _ _ _ _ _ _ c.in-Ok-Ask.ensures.0 c.in-Ok-Ask.field-0-is
    (c.ask_command.ensures (net_facts g.N.Net c.args.net.now) c.args.tables.now)

pub returns-in-Ok-Image : goal.returns-in-Ok-Image
returns-in-Ok-Image g c =
    given_promise _ _ _ _ _ _ c.in-Ok-Image.ensures.0 c.in-Ok-Image.field-0-is
    (c.image_command.ensures (net_facts g.N.Net c.args.net.now) c.args.tables.now (link_facts g.L.Link c.args.link.now))

pub returns-in-Ok-Unpack : goal.returns-in-Ok-Unpack
returns-in-Ok-Unpack g c =
    given_promise _ _ _ _ _ _ c.in-Ok-Unpack.ensures.0 c.in-Ok-Unpack.field-0-is
    (c.unpack_command.ensures (net_facts g.N.Net c.args.net.now) c.args.tables.now (link_facts g.L.Link c.args.link.now))

pub returns-in-Err-Usage : goal.returns-in-Err-Usage
returns-in-Err-Usage g c =
    let none = subst (λ e. IsReadingOf (command_of (map string_bytes c.args.words.now)) (Err e)) c.in-Err-Usage.field-0-is c.in-Err-Usage.ensures in
    no_promise _ _ _ _ none (keeps_promise usage_promise settles_usage _ _ _ (inr (Usage, with_line_feed (codes "usage"), refl, c.write_due.ensures)) refl refl refl refl)

pub returns-in-Err-NoMemory : goal.returns-in-Err-NoMemory
returns-in-Err-NoMemory g c = memory_promise _ _ c.requires.net
