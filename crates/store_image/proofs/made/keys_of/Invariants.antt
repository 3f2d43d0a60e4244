use Rattle.std.proofs.Common.{◌≡◌, map, take}
use Rattle.store_image.specs.PutKeys.{put_keys}
use Rattle.store_image.proofs.made.keys_of.Given as goal

abbrev pub invariant-loop-line : goal.invariant-loop-line
invariant-loop-line l = map (λ k. k.now) l.keys.items ≡ put_keys (take l.line-index l.lines)
