use Rattle.std.proofs.Common.{◌≡◌, take}
use Rattle.kept_drawing.proofs.same_courses.are_same_hops.Given as goal

-- the lists are the same so far
abbrev pub invariant-loop-i : goal.invariant-loop-i
invariant-loop-i l = take l.i l.some ≡ take l.i l.other
