use Rattle.std.proofs.Common.{◌≡◌, map, take}
use Rattle.kept_trees.proofs.part_key.own_segs.Given as goal

-- the lists so far
abbrev pub invariant-loop-lines : goal.invariant-loop-lines
invariant-loop-lines l = l.segs.items ≡ map (λ lines. lines.items) (take l.lines-index l.lists)
