use Rattle.std.proofs.Common.{◌∙◌, inl, Err, refl, sym, subst}
use Rattle.served.specs.Others.{alone}
use Rattle.served.specs.Served.{empty_origin}
use Rattle.served.specs.NetRun.{NetFacts, IsCauseOf, net_facts}
use Rattle.mica_cmd.specs.Promises.{serve_promise}
use Rattle.mica_cmd.proofs.Keeping.{unwritten_promise}
use Rattle.mica_cmd.proofs.Settled.{settles_serve}
use Rattle.mica_cmd.proofs.Ending.{serve_done, serve_stopped}
use Rattle.mica_cmd.proofs.serve_command.serve_command.Given as given
use Rattle.mica_cmd.proofs.serve_command.serve_command.Goals as goal

abbrev net_at : (g : given.Over) → g.row.N.Denot → NetFacts
net_at g = net_facts g.N.Net

pub returns-in-Ok : goal.returns-in-Ok
returns-in-Ok g c = λ source link. serve_done c.args.options.now c.args.ports.now c.in-Ok.totals _ _ _ c.in-Ok.ensures.cause c.in-Ok.ensures.kept refl refl c.print_totals.ensures

pub returns-in-Err-Net : goal.returns-in-Err-Net
returns-in-Err-Net g c = λ source link.
    serve_stopped c.args.options.now c.args.ports.now _ _ _ _ c.in-Err-Net.field-0-is c.in-Err-Net.ensures.cause c.in-Err-Net.ensures.kept refl c.requires.tables refl c.write_due.ensures

pub returns-in-Err-NoMemory : goal.returns-in-Err-NoMemory
returns-in-Err-NoMemory g c =
    let none = subst (λ e. IsCauseOf alone (Err e) c.args.options.now empty_origin c.args.ports.now c.serve.new.tables (net_at g c.args.net.now) (net_at g c.serve.new.net)) c.in-Err-NoMemory.field-0-is c.in-Err-NoMemory.ensures.cause in
    λ source link. unwritten_promise (serve_promise c.args.options.now c.args.ports.now) (settles_serve c.args.options.now c.args.ports.now) _ _ refl refl c.in-Err-NoMemory.ensures.kept (inl (none ∙ sym c.requires.tables)) refl
