use Rattle.std.proofs.Common.{rules, ◌≡◌, ◌+◌, ◌<◌, ℕ, length, vec_len, map, Some, ◌∙◌, subst}
use Rattle.std.specs.Prelude.{IfSome}
use Rattle.std.proofs.lemmas.List.{length-map}
use Rattle.outside.specs.PortStates.{out}
use Rattle.served.specs.Others.{alone}
use Rattle.served.specs.Served.{empty_origin}
use Rattle.served.specs.Ends.{EndFacts, end_facts}
use Rattle.served.specs.NetRun.{NetFacts, net_facts}
use Rattle.served.proofs.PortRuns.{kept_at}
use Rattle.served.proofs.Whole.{out_until, tell_until, keeps, cause, net_kept}
use Rattle.mica_serve.proofs.service.serve_on.Given as given
use Rattle.mica_serve.proofs.service.serve_on.Goals as goal

abbrev facts : (g : given.Over) → g.row.N-End.Denot → EndFacts
facts g = end_facts g.N.End.Datagrams

abbrev net_at : (g : given.Over) → g.row.N.Denot → NetFacts
net_at g = net_facts g.N.Net

pub release_all-requires-clause-ports : goal.release_all-requires-clause-ports
release_all-requires-clause-ports g c _ _ =
    let run = c.bind_and_serve-answer.ensures in
    kept_at c.args.ports.now.port run.olds (map (facts g) c.bind_and_serve-answer.new.ends.items) run.many run.are_new run.keeps

pub release_all-requires-clause-out : goal.release_all-requires-clause-out
release_all-requires-clause-out g c _ _ =
    let run = c.bind_and_serve-answer.ensures in
    let items = c.bind_and_serve-answer.new.ends.items in
    let size : length (map (facts g) items) ≡ vec_len c.bind_and_serve-answer.new.ends = length-map items (facts g) ∙ (search rules) in
    subst (λ (n : ℕ). IfSome (g.N.Net.ports c.bind_and_serve-answer.new.net) (λ all. (i : ℕ) → i < n → all (c.args.ports.now.port + i) ≡ out)) size
    (out_until c.args.ports.now.port run.olds (map (facts g) items) (g.N.Net.ports c.args.net.now) (g.N.Net.ports c.bind_and_serve-answer.new.net) run.many run.bound)

pub release_all-requires-clause-tell : goal.release_all-requires-clause-tell
release_all-requires-clause-tell g c _ _ =
    let run = c.bind_and_serve-answer.ensures in
    tell_until c.args.ports.now.port run.olds (map (facts g) c.bind_and_serve-answer.new.ends.items) (g.N.Net.ports c.args.net.now) (g.N.Net.ports c.bind_and_serve-answer.new.net) run.many run.keeps run.bound

pub returns-clause-cause : goal.returns-clause-cause
returns-clause-cause g c =
    cause alone c.args.options.now c.requires.options.partitions.0 empty_origin c.args.ports.now c.bind_and_serve-answer.new.tables (net_at g c.args.net.now) (net_at g c.bind_and_serve-answer.new.net)
    (net_at g c.release_all.new.net) (map (facts g) c.bind_and_serve-answer.new.ends.items) c.release_all.ensures (Some c.bind_and_serve-answer.result) c.bind_and_serve-answer.ensures

pub returns-clause-kept : goal.returns-clause-kept
returns-clause-kept g c =
    keeps alone c.args.options.now c.requires.options.partitions.0 empty_origin c.args.ports.now c.bind_and_serve-answer.new.tables (net_at g c.args.net.now) (net_at g c.bind_and_serve-answer.new.net)
    (net_at g c.release_all.new.net) (map (facts g) c.bind_and_serve-answer.new.ends.items) c.release_all.ensures (Some c.bind_and_serve-answer.result) c.bind_and_serve-answer.ensures

pub returns-in_err-server-clause-kept : goal.returns-in_err-server-clause-kept
returns-in_err-server-clause-kept g c = net_kept c.args.ports.now (net_at g c.args.net.now) c.requires.unbound

pub returns-in_err-ends-clause-kept : goal.returns-in_err-ends-clause-kept
returns-in_err-ends-clause-kept g c = net_kept c.args.ports.now (net_at g c.args.net.now) c.requires.unbound
