-- The walk along known costs.
use Rattle.std.specs.Prelude.{◌≡◌, ℕ, ◌+◌, ◌≤◌, List, Option, Some}
use Rattle.track_net.specs.Nets.{NetParts, HasEdge}
use Rattle.net_paths.specs.Corridors.{CorridorParts}
use Rattle.net_paths.specs.Stretches.{IsStretchPath}
use Rattle.net_paths.specs.Searching.{cost_along, known_at, IsSearched}

-- two costs are known, and the one is greater than the other by this much
abbrev pub DifferBy : Option ℕ → Option ℕ → ℕ → Type 0
DifferBy greater lesser by = (r : ℕ) × (lesser ≡ Some r) × (greater ≡ Some (by + r))

-- the known costs of two points differ by the cost of the edge from the one to the other
abbrev pub KeepsCost : CorridorParts → NetParts → List (Option ℕ) → ℕ → ℕ → Type 0
KeepsCost corridor net table at next = DifferBy (known_at table at) (known_at table next) (cost_along corridor net.points at next)

-- the least point to which an edge keeps the cost
pub record IsLeastStep (corridor : CorridorParts) (net : NetParts) (table : List (Option ℕ)) (at next : ℕ) : Type 0 where
  pub edge : HasEdge net at next
  pub keeps : KeepsCost corridor net table at next
  pub least : (other : ℕ) → HasEdge net at other → KeepsCost corridor net table at other → next ≤ other

-- where the costs are those of a search, the numbers are the least path
abbrev pub IsWalked : CorridorParts → NetParts → List (Option ℕ) → ℕ → List ℕ → Type 0
IsWalked corridor net table from numbers = (to : ℕ) → IsSearched corridor net from to table → IsStretchPath corridor.near corridor.samples net from to numbers
