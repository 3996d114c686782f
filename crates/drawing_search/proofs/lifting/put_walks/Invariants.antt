use Rattle.std.proofs.Common.{◌≡◌, drop, fold, length}
use Rattle.drawing_search.specs.Changes.{walked_by, CanWalkEach}
use Rattle.drawing_search.proofs.lifting.put_walks.Given as goal

-- the walks that are left are put on what there is
abbrev pub invariant-loop-s : goal.invariant-loop-s
invariant-loop-s l = record {
  rest : fold walked_by l.sketch (drop (length l.yielded) l.fn.walks.items) ≡ fold walked_by l.initial.sketch l.fn.walks.items;
  can : CanWalkEach l.sketch (drop (length l.yielded) l.fn.walks.items);
}
