use Rattle.std.proofs.Common.{map, string_bytes, ap}
use Rattle.std.proofs.lemmas.Result.{err_from_is_err_and}
use Rattle.clap.specs.Matches.{first_value, found_of}
use Rattle.mica_commands.specs.CommandLine.{unpack_names, unpack_given}
use Rattle.option_words.proofs.ReadAs.{read_given}
use Rattle.mica_commands.proofs.CommandLemmas.{read_none}
use Rattle.mica_commands.proofs.command.read_unpack.Goals as goal

pub returns-in_err-matches_of : goal.returns-in_err-matches_of
returns-in_err-matches_of c =
    let p = err_from_is_err_and c.from_residual.result c.from_residual.ensures.1 in
    rw (p.1, p.2) (read_none _ unpack_names (ap (map (λ o. o.now)) c.as_slice.ensures) unpack_given (map string_bytes c.args.words.now) _ c.in_err-matches_of.ensures.refused)

pub returns : goal.returns
returns c = (read_given _ unpack_names (ap (map (λ o. o.now)) c.as_slice.ensures) unpack_given (map string_bytes c.args.words.now) (first_value (found_of c.in_ok-matches_of.field-0)) c.in_ok-matches_of.ensures.given, tt)
