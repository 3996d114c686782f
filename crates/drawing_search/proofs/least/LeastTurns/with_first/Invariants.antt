use Rattle.std.proofs.Common.{◌≡◌, None, fold, get_or, take}
use Rattle.drawing_search.proofs.Common.{directions, number_of, with_last_by, Dir, IsSmallLeast, LeastTurns}
use Rattle.drawing_search.proofs.least.LeastTurns.with_first.Given as goal

-- the ports so far
abbrev pub invariant-loop-i : goal.invariant-loop-i
invariant-loop-i l = record {
  value : l.self ≡ fold (λ (m : LeastTurns) (e : Dir). with_last_by m l.first l.here e (get_or l.to (number_of e) None)) l.initial.self (take l.i directions);
  small : IsSmallLeast l.self;
}
