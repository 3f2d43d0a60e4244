use Rattle.std.proofs.Common.{◌+◌, ◌-◌, ◌≤◌, ◌++◌, ℕ, ap, ◌∙◌, arith, length, length-append, replicate}
use Rattle.std.proofs.lemmas.List.{length-replicate}
use Rattle.mica_words.specs.declared.item.TheConstants.{MAX_STORED_LEN}
use Rattle.memcached_commands.proofs.SpaceLaws.{spaces_put}
use Rattle.memcached_commands.proofs.next_item.put_spaces.Goals as goal

pub loop-left-preserved : goal.loop-left-preserved
loop-left-preserved c =
    let left = c.loop-left.left in
    let some = c.min-some.result in
    let few : some ≤ 64 = omega (arith, c.min-some.ensures) in
    let fits : some ≤ left = omega (arith, c.min-some.ensures) in
    let whole = ap (λ bytes. bytes ++ replicate (left - some) 32) c.extend.ensures ∙ spaces_put c.loop-left.next some left few fits in
    let new = length-append c.extend.new.self (replicate (left - some) 32) in
    let old = length-append c.loop-left.next (replicate left 32) in
    let lens : length c.extend.new.self + (left - some) ≤ MAX_STORED_LEN = omega (arith, ap length whole, new, old, length-replicate {A = ℕ} (left - some) 32, length-replicate {A = ℕ} left 32, c.loop-left.invariant.1) in
    (whole ∙ c.loop-left.invariant.0, lens)
