use Rattle.std.proofs.Common.{◌≡◌, ◌<◌, ◌++◌, ◌∷◌, [], List, ℕ, length, false, Result, Ok, Err, sym, ap, ◌∙◌, arith, append_assoc, take}
use Rattle.std.specs.Prelude.{is_err, OnOk}
use Rattle.mica_trace.specs.TraceGrammar.{line_text, trace_text}
use Rattle.store_image.specs.ImageGrammar.{Pair}
use Rattle.store_image.specs.ImageLines.{put_line, put_lines}
use Rattle.store_image.proofs.PutLines.{line_more, none_wrong, pair_next, left_next}
use Rattle.store_image.proofs.lines.put_image.Goals as goal

done : {T E : Type 0} (result : Result T E) (P : Type 0) → is_err result ≡ false → OnOk result P → P
done (Ok x) P passed is = is
done (Err e) P passed is = absurd (cc)

pub first_pair-requires : goal.first_pair-requires
first_pair-requires c = none_wrong c.args.image.now c.loop.counter (omega arith) c.texts-rest.ensures.image.each c.loop.rest.now c.loop.invariant.left

pub loop-preserved : goal.loop-preserved
loop-preserved c =
    let image = c.args.image.now in
    let i = c.loop.counter in
    let less : i < length image = omega arith in
    let all = c.texts-rest.ensures.image.each in
    let next = sym c.first_pair.ensures.parts.0 ∙ pair_next image i less all c.loop.rest.now c.loop.invariant.left in
    let line : c.put_line.new.out.items ≡ c.loop.out.items ++ (line_text (put_line (record { key = c.first_pair.result.0.now; value = c.first_pair.result.1.now })) ++ 10 ∷ []) = done c.put_line.result _ (sym c.if-is_err.ensures.value) c.put_line.ensures.ok ∙ simp append_assoc in
    record {
      told = line ∙ ap (λ (t : List ℕ). t ++ (line_text (put_line (record { key = c.first_pair.result.0.now; value = c.first_pair.result.1.now })) ++ 10 ∷ [])) c.loop.invariant.told
          ∙ ap (λ (p : Pair). (c.reserve.new.self.items ++ trace_text (put_lines (take i image))) ++ (line_text (put_line p) ++ 10 ∷ [])) next ∙ line_more image i less c.reserve.new.self.items;
      left = sym c.first_pair.ensures.parts.1 ∙ left_next image i less all c.loop.rest.now c.loop.invariant.left;
    }
