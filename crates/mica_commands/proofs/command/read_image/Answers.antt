use Rattle.std.proofs.Common.{◌∙◌, map, string_bytes, ap, sym, option_map}
use Rattle.std.proofs.lemmas.Result.{err_from_is_err_and}
use Rattle.clap.specs.Matches.{first_value, found_of}
use Rattle.mica_commands.specs.declared.command.Command.TheVariants.{Image}
use Rattle.mica_commands.specs.CommandLine.{image_names, image_given}
use Rattle.option_words.proofs.ReadAs.{read_given}
use Rattle.mica_commands.proofs.CommandLemmas.{read_none}
use Rattle.mica_commands.proofs.ValueLemmas.{image_valid}
use Rattle.mica_commands.proofs.command.read_image.Goals as goal

pub returns-in_err-found : goal.returns-in_err-found
returns-in_err-found c =
    let p = err_from_is_err_and c.from_residual.result c.from_residual.ensures.1 in
    rw (p.1, p.2) (read_none _ image_names (ap (map (λ o. o.now)) c.as_slice.ensures) image_given (map string_bytes c.args.words.now) _ c.in_err-found.ensures.refused)

pub returns-in-Some : goal.returns-in-Some
returns-in-Some c = (
  read_given _ image_names (ap (map (λ o. o.now)) c.as_slice.ensures) image_given (map string_bytes c.args.words.now) (first_value (found_of c.in_ok-found.found)) c.in_ok-found.ensures.given ∙ ap (option_map (λ o. Image o)) (sym c.in-Some.ensures),
  image_valid (first_value (found_of c.in_ok-found.found)) _ (sym c.in-Some.ensures),
)

pub returns : goal.returns
returns c = read_given _ image_names (ap (map (λ o. o.now)) c.as_slice.ensures) image_given (map string_bytes c.args.words.now) (first_value (found_of c.in_ok-found.found)) c.in_ok-found.ensures.given ∙ ap (option_map (λ o. Image o)) (sym c.in-None.ensures)
