-- The stretch path as a function: the least of all ways that are no longer than there are points.
use Rattle.std.specs.Prelude.{ℕ, nat_eq, zero, suc, ◌+◌, Bool, nat_lt, ◌==◌, ◌||◌, ◌&&◌, if◌then◌else◌, List, [], ◌∷◌, ◌++◌, length, map}
use Rattle.std.specs.List.{flat_map, IsDistinct}
use Rattle.map_base.specs.declared.point.Point.{Point}
use Rattle.least_path.specs.Least.{least_by, is_not_after}
use Rattle.track_net.specs.Nearness.{point_at}
use Rattle.track_net.specs.Nets.{NetParts, IsNet, edges_of_point}
use Rattle.net_paths.specs.Corridors.{edge_cost}
use Rattle.net_paths.specs.Stretches.{IsStretchPath}

-- no step, where the way has arrived
abbrev pub arrived : ℕ → ℕ → List (List ℕ)
arrived a b = if a == b then [] ∷ [] else []

-- the ways of at most that many steps from one net point to another, each as the numbers of its further points
abbrev pub ways : NetParts → ℕ → ℕ → ℕ → List (List ℕ)
ways net zero a b = arrived a b
ways net (suc n) a b = arrived a b ++ flat_map (λ l. map (λ (ls : List ℕ). l ∷ ls) (ways net n l b)) (edges_of_point net a)

-- what a way from a point costs along a corridor
abbrev pub way_cost : ℕ → List Point → NetParts → ℕ → List ℕ → ℕ
way_cost near corridor net a [] = 0
way_cost near corridor net a (l ∷ ls) = edge_cost near corridor (point_at net.points a) (point_at net.points l) + way_cost near corridor net l ls

-- a way of a lesser cost is better, and of those of one cost the first in the order of dictionaries
abbrev pub is_no_worse : ℕ → List Point → NetParts → ℕ → List ℕ → List ℕ → Bool
is_no_worse near corridor net a ls ms =
    nat_lt (way_cost near corridor net a ls) (way_cost near corridor net a ms)
    || ((way_cost near corridor net a ls == way_cost near corridor net a ms) && is_not_after ls ms)

-- the stretch path: the best of all ways from the one point to the other
abbrev pub stretch_path_of : ℕ → List Point → NetParts → ℕ → ℕ → List ℕ
stretch_path_of near corridor net from to = from ∷ least_by (is_no_worse near corridor net from) [] (ways net (length net.points) from to)

-- a stretch path over a net visits no point twice
abbrev pub VisitsOnce : ℕ → List Point → NetParts → ℕ → ℕ → List ℕ → Type 0
VisitsOnce near corridor net from to numbers = IsNet net → IsStretchPath near corridor net from to numbers → IsDistinct nat_eq numbers
