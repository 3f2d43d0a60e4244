-- A file that was cut is none.
use Rattle.std.proofs.Common.{◌≡◌, ℕ, ◌*◌, List, [], ◌∷◌, ◌++◌, length, refl, sym, ap, ◌∙◌, arith}
use Rattle.std.specs.List.{AllByRecursion}
use Rattle.std.proofs.lemmas.List.{length-append, nil_from_length}
use Rattle.saved_items.specs.declared.blocks.TheConstants.{FIRST_SUM}
use Rattle.saved_items.specs.Blocks.{FillsBlock, joined, sum_behind}
use Rattle.saved_items.specs.Reading.{Stream, Stop, AtEnd, head_at, stream_at}
use Rattle.saved_items.specs.Laws.{NoBeginning}
use Rattle.saved_items.proofs.Grows.{longer}
use Rattle.saved_items.proofs.Words.{whole_file}
use Rattle.saved_items.proofs.Readings.{reads_whole, less_behind}

length-joined : (contents : List (List ℕ)) → AllByRecursion FillsBlock contents → length (joined contents) ≡ 65528 * length contents
length-joined [] whole = refl
length-joined (content ∷ contents) whole = omega (arith, length-append content (joined contents), whole.0, length-joined contents whole.1)

pub no_beginning : NoBeginning
no_beginning file more head head' entries entries' is also =
    let first = whole_file FIRST_SUM file (reads_whole file head entries is) in
    let behind = stream_at (sum_behind FIRST_SUM first.contents) more in
    let stops : behind.stop ≡ AtEnd = sym (ap (λ (s : Stream). s.stop) (first.behind more)) ∙ reads_whole (file ++ more) head' entries' also in
    let second = whole_file (sum_behind FIRST_SUM first.contents) more stops in
    let longer_is : stream_at FIRST_SUM (file ++ more) ≡ longer (stream_at FIRST_SUM file) behind.content AtEnd =
    first.behind more ∙ ap (λ (c : List ℕ). let s : Stream = record { content = c ++ behind.content; stop = behind.stop } in s) (sym first.content)
    ∙ ap (λ (stop : Stop). let s : Stream = record { content = (stream_at FIRST_SUM file).content ++ behind.content; stop = stop } in s) stops in
    let less = less_behind (stream_at FIRST_SUM file) behind.content head head' is.rest also.rest entries entries' is.begins is.goes_on (ap head_at (sym longer_is) ∙ also.begins) also.goes_on in
    let count : length behind.content ≡ 65528 * length second.contents = ap length second.content ∙ length-joined second.contents second.whole in
    nil_from_length more (omega (arith, less, count, second.len))
