use Rattle.mica_commands.proofs.Generating.{text_moved}
use Rattle.mica_commands.proofs.generated_text.gen_text.Goals as goal

pub loop-number-preserved : goal.loop-number-preserved
loop-number-preserved c = record {
  place = c.next_draw-draw.ensures.place;
  whole = text_moved c.args.options.now c.loop-number.number c.next_draw-draw.result c.loop-number.text.items c.put_operation.new.text.items c.loop-number-test.true c.next_draw-draw.ensures.draw c.in_ok-put_operation.ensures c.loop-number.invariant.whole;
}
