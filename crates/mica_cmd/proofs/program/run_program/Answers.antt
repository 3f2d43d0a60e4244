use Rattle.std.proofs.Common.{◌∙◌, ap, drop, string_bytes}
use Rattle.option_words.specs.ProgramWords.{words_of}
use Rattle.mica_cmd.proofs.Exiting.{no_memory_exits, words_exit}
use Rattle.mica_cmd.proofs.program.run_program.Goals as goal

pub returns-in-Ok : goal.returns-in-Ok
returns-in-Ok g c =
    words_exit string_bytes _ c.in-Ok.words.items c.behind_name.result.now c.mica.result c.in-Ok.ensures (c.behind_name.ensures ∙ ap (drop 1) c.as_slice.ensures.value)
    _ _ _ c.exit_code.ensures c.mica.ensures

pub returns-in-Err : goal.returns-in-Err
returns-in-Err g c = no_memory_exits (words_of string_bytes c.args.args) _ _ c.requires.net c.exit_code-in-Err.ensures
