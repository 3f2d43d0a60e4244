use Rattle.std.proofs.Common.{◌∙◌, map, string_bytes, ap, sym}
use Rattle.std.proofs.lemmas.Result.{err_from_is_err_and}
use Rattle.clap.specs.Matches.{first_value, found_of}
use Rattle.daemon_words.specs.DaemonWords.{daemon_names, daemon_given, service_of}
use Rattle.option_words.proofs.ReadAs.{read_given}
use Rattle.daemon_words.proofs.DaemonLemmas.{daemon_none, service_valid}
use Rattle.daemon_words.proofs.options.read_daemon.Goals as goal

pub returns-in_err-found : goal.returns-in_err-found
returns-in_err-found c =
    let p = err_from_is_err_and c.from_residual.result c.from_residual.ensures.1 in
    rw (p.1, p.2) (daemon_none c.args.host _ (ap (map (λ o. o.now)) c.as_slice.ensures) (map string_bytes c.args.words.now) _ c.in_err-found.ensures.refused)

pub returns-in-Some : goal.returns-in-Some
returns-in-Some c =
    let texts = first_value (found_of c.in_ok-found.found) in
    let is = sym c.in-Some.ensures in
    let valid = service_valid c.args.host texts (service_of c.in-Some.options) is in (
      read_given _ daemon_names (ap (map (λ o. o.now)) c.as_slice.ensures) (daemon_given c.args.host) (map string_bytes c.args.words.now) texts c.in_ok-found.ensures.given ∙ is,
      valid.0,
      valid.1,
      valid.2,
    )

pub returns : goal.returns
returns c = read_given _ daemon_names (ap (map (λ o. o.now)) c.as_slice.ensures) (daemon_given c.args.host) (map string_bytes c.args.words.now) (first_value (found_of c.in_ok-found.found)) c.in_ok-found.ensures.given ∙ sym c.in-None.ensures
