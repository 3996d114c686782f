use Rattle.std.proofs.Common.{◌≡◌, take}
use Rattle.kept_walks.proofs.same_graphs.have_same_nodes.Given as goal

-- the graphs are the same at the nodes so far
abbrev pub invariant-loop-n : goal.invariant-loop-n
invariant-loop-n l =
    (take l.n l.some.kinds ≡ take l.n l.other.kinds) × (take l.n l.some.places ≡ take l.n l.other.places) × (take l.n l.some.rounds ≡ take l.n l.other.rounds)
    × (take l.n l.some.joins ≡ take l.n l.other.joins)
