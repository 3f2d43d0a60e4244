use Rattle.std.proofs.Common.{◌∙◌, map, string_bytes, ap, sym, option_map}
use Rattle.std.proofs.lemmas.Result.{err_from_is_err_and}
use Rattle.clap.specs.Matches.{first_value, found_of}
use Rattle.mica_commands.specs.declared.command.Command.TheVariants.{Serve}
use Rattle.mica_commands.specs.CommandLine.{serve_names, serve_given, port_options}
use Rattle.option_words.specs.Settings.{◌>>=◌}
use Rattle.option_words.proofs.ReadAs.{read_given}
use Rattle.mica_commands.proofs.CommandLemmas.{read_none}
use Rattle.mica_commands.proofs.ValueLemmas.{serve_valid, ports_valid}
use Rattle.mica_commands.proofs.command.read_serve.Goals as goal

pub returns-in_err-found : goal.returns-in_err-found
returns-in_err-found c =
    let p = err_from_is_err_and c.from_residual.result c.from_residual.ensures.1 in
    rw (p.1, p.2) (read_none _ serve_names (ap (map (λ o. o.now)) c.as_slice.ensures) serve_given (map string_bytes c.args.words.now) _ c.in_err-found.ensures.refused)

pub returns-in_default : goal.returns-in_default
returns-in_default c =
    let texts = first_value (found_of c.in_ok-found.found) in
    read_given _ serve_names (ap (map (λ o. o.now)) c.as_slice.ensures) serve_given (map string_bytes c.args.words.now) (first_value (found_of c.in_ok-found.found)) c.in_ok-found.ensures.given ∙ ap (λ o. o >>= λ options. option_map (λ ports. Serve options ports) (port_options texts)) (sym c.in_default.ensures)

pub returns-in-Some-port_options : goal.returns-in-Some-port_options
returns-in-Some-port_options c =
    let texts = first_value (found_of c.in_ok-found.found) in
    let options = ap (λ o. o >>= λ options. option_map (λ ports. Serve options ports) (port_options texts)) (sym c.in-Some.ensures) in (
      read_given _ serve_names (ap (map (λ o. o.now)) c.as_slice.ensures) serve_given (map string_bytes c.args.words.now) (first_value (found_of c.in_ok-found.found)) c.in_ok-found.ensures.given ∙ (options ∙ ap (option_map (λ ports. Serve c.in-Some.options ports)) (sym c.in-Some-port_options.ensures)),
      (serve_valid texts _ (sym c.in-Some.ensures), ports_valid texts _ (sym c.in-Some-port_options.ensures)),
    )

pub returns : goal.returns
returns c =
    let texts = first_value (found_of c.in_ok-found.found) in
    let options = ap (λ o. o >>= λ options. option_map (λ ports. Serve options ports) (port_options texts)) (sym c.in-Some.ensures) in
    read_given _ serve_names (ap (map (λ o. o.now)) c.as_slice.ensures) serve_given (map string_bytes c.args.words.now) (first_value (found_of c.in_ok-found.found)) c.in_ok-found.ensures.given ∙ (options ∙ ap (option_map (λ ports. Serve c.in-Some.options ports)) (sym c.in-None.ensures))
