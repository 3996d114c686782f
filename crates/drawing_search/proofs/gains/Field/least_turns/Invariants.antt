use Rattle.std.proofs.Common.{◌≡◌, None, fold, get_or, take}
use Rattle.drawing_search.proofs.Common.{directions, number_of, with_first_by, Dir, IsSmallLeast, LeastTurns}
use Rattle.drawing_search.proofs.gains.Field.least_turns.Given as goal

-- the ports so far
abbrev pub invariant-loop-i : goal.invariant-loop-i
invariant-loop-i l = record {
  value : l.least ≡ fold (λ (m : LeastTurns) (d : Dir). with_first_by m d (get_or l.from (number_of d) None) l.to) l.initial.least (take l.i directions);
  small : IsSmallLeast l.least;
}
