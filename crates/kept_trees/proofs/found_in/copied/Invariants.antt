use Rattle.std.proofs.Common.{◌≡◌, take}
use Rattle.kept_trees.proofs.found_in.copied.Given as goal

-- the lists so far
abbrev pub invariant-loop-lines : goal.invariant-loop-lines
invariant-loop-lines l = l.others.items ≡ take l.lines-index l.lists
