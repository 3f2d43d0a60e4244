use Rattle.std.proofs.Common.{◌∙◌, sym, arith}
use Rattle.option_words.proofs.NumberLemmas.{number_read, number_refused}
use Rattle.option_words.proofs.values.number_of.Goals as goal

pub returns-in_err-number : goal.returns-in_err-number
returns-in_err-number c = c.from_residual.ensures ∙ sym (number_refused c.args.least c.args.most c.args.text.now c.parse.result (sym c.begins_number.ensures ∙ c.if-not-begins_number.false) c.parse.ensures.value.0 (sym c.in_err-number.ensures.value) (omega arith))

pub returns-then-number-most : goal.returns-then-number-most
returns-then-number-most c = sym (number_read c.args.least c.args.most c.args.text.now c.parse.result c.in_ok-number.number (sym c.begins_number.ensures ∙ c.if-not-begins_number.false) c.parse.ensures.value.0 (sym c.in_ok-number.ensures.value) c.if-least-number.true c.if-number-most.true)
