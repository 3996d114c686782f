-- Small cases of the definitions.
use Rattle.std.proofs.Common.{◌≡◌, ℕ, Bool, ℤ, pos, true, false, List, [], ◌∷◌, ◌++◌, length, get_or, replicate, refl}
use Rattle.map_base.specs.declared.ids.NodeId.{NodeId}
use Rattle.graph_core.specs.declared.parts.NodeKind.TheVariants.{Station}
use Rattle.graph_core.specs.declared.parts.GraphParts.{GraphParts}
use Rattle.octi_grid.specs.declared.dir.Dir.TheVariants as dir
use Rattle.octi_grid.specs.declared.point.GridPoint.{GridPoint}
use Rattle.octi_grid.specs.Walks.{PlainWalk}
use Rattle.run_laying.specs.Attempts.{bounds_past, may_move_to, run_of, without_runs, Attempt}
use Rattle.kept_walks.specs.Straightening.{runs_at, single_runs}
use Rattle.kept_walks.specs.Moves.{improved, move_attempts}

abbrev at : ℤ → ℤ → GridPoint
at x y = record { x = x; y = y }

-- three stations in a row, a line over both segments
abbrev row : GraphParts
row = record {
  kinds = Station (record { 0 = 0 }) ∷ Station (record { 0 = 1 }) ∷ Station (record { 0 = 2 }) ∷ [];
  places = replicate 3 (record { x = pos 0; y = pos 0 });
  ends = (record { 0 = 0 }, record { 0 = 1 }) ∷ (record { 0 = 1 }, record { 0 = 2 }) ∷ [];
  lines = replicate 2 (record { 0 = 0 } ∷ []);
  rounds = (record { 0 = 0 } ∷ []) ∷ (record { 0 = 0 } ∷ record { 0 = 1 } ∷ []) ∷ (record { 0 = 1 } ∷ []) ∷ [];
  joins = [] ∷ [] ∷ [] ∷ [];
}

-- the middle one stands two steps north of the others
abbrev bent : List PlainWalk
bent =
    record { start = at (pos 0) (pos 0); steps = replicate 2 dir.NE ++ replicate 14 dir.E }
    ∷ record { start = at (pos 16) (pos 2); steps = replicate 14 dir.E ++ replicate 2 dir.SE } ∷ []

-- each node has an attempt for each direction
attempts : length (move_attempts row) ≡ 24
attempts = refl

-- north by two steps
abbrev node : ℕ → NodeId
node n = record { 0 = n }

abbrev move : ℕ → Attempt
move n = record { nodes = node n ∷ []; dir = dir.N; count = 2; runs = runs_at (node n ∷ []) (single_runs row) }

-- the middle one's come behind the eight of the first node, north first, with both segments, by number
middle : get_or (move_attempts row) 8 (move 0) ≡ move 1
middle = refl

both : runs_at (node 1 ∷ []) (single_runs row) ≡ run_of row (record { 0 = 0 }) ∷ run_of row (record { 0 = 1 }) ∷ []
both = refl

-- whether a node may move to a point
abbrev may : ℕ → GridPoint → Bool
may n p = may_move_to (without_runs row (bounds_past 4 bent) bent (move n)) (node n ∷ []) p

-- the middle node may stand where it is straight, and not beyond the board or on another node
south : may 1 (at (pos 16) (pos 0)) ≡ true
south = refl

far : may 1 (at (pos 16) (pos 7)) ≡ false
far = refl

taken : may 1 (at (pos 32) (pos 0)) ≡ false
taken = refl

-- an end node may not stand on the walk of the other segment
in_the_way : may 0 (at (pos 18) (pos 2)) ≡ false
in_the_way = refl

-- without moves the drawing stays as it is
no_moves : improved row bent 0 ≡ record { walks = bent; made = 0 }
no_moves = refl
