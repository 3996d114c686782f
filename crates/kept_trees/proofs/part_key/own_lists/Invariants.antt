use Rattle.std.proofs.Common.{◌≡◌, map, take}
use Rattle.order_model.specs.Problems.{lines_on}
use Rattle.kept_trees.proofs.part_key.own_lists.Given as goal

-- the lists so far
abbrev pub invariant-loop-s : goal.invariant-loop-s
invariant-loop-s l = map (λ lines. lines.items) l.lists.items ≡ map (lines_on l.segs) (take l.s-index l.part)
