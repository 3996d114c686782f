use Rattle.std.proofs.Common.{◌≡◌, map, take}
use Rattle.order_model.specs.Prefixes.{unchosen}
use Rattle.order_model.proofs.prefix.Prefix.none.Given as goal

abbrev pub invariant-loop-lines : goal.invariant-loop-lines
invariant-loop-lines l = l.parts.items ≡ map unchosen (take l.lines-index l.segs)
