-- Chains and rounds, told from the used edges of each point and from which points are nodes.
use Rattle.std.specs.Prelude.{◌≡◌, ◌≢◌, ℕ, zero, suc, ◌<◌, ◌≤◌, Bool, true, false, ◌==◌, not, nat_lt, List, [], ◌∷◌, map, filter, find, length, unwrap_or, slice_index, All, if◌then◌else◌}
use Rattle.std.specs.List.{flat_map}
use Rattle.map_base.specs.declared.point.Point.{Point}
use Rattle.fixed_plane.specs.Plane.{IsInPlane}
use Rattle.track_net.specs.Nearness.{point_at}
use Rattle.way_network.specs.declared.edges.UsedEdge.{UsedEdge}
use Rattle.way_network.specs.Segments.{turns_before, put_in_order, last_of}
use Rattle.way_network.specs.Tables.{row_at}
use Rattle.way_network.specs.Uses.{has_number}

-- from a point the one lies before the other, clockwise from north, as one word
unfoldable pub stands_before : List Point → ℕ → ℕ → ℕ → Bool
stands_before points from a b = turns_before points from a b

-- a point that lies elsewhere than another
pub record IsNeighbour (points : List Point) (p q : ℕ) : Type 0 where
  pub known : q < length points
  pub apart : point_at points q ≢ point_at points p

-- each of these edges of a point leads to a point that lies elsewhere
abbrev pub LeadAway : List Point → ℕ → List UsedEdge → Type 0
LeadAway points p row = All (λ (edge : UsedEdge). IsNeighbour points p edge.to) row

-- where an edge leads
abbrev pub point_of : UsedEdge → ℕ
point_of edge = edge.to

-- where these edges of a point lead, clockwise from north
abbrev pub row_around : List Point → ℕ → List UsedEdge → List ℕ
row_around points p row = put_in_order (stands_before points p) (map point_of row)

-- the edges of a table lead to points of it
abbrev pub AreKnown : List (List UsedEdge) → Type 0
AreKnown rows = All (λ (row : List UsedEdge). All (λ (edge : UsedEdge). edge.to < length rows) row) rows

-- the first of these edges that does not lead back leads on; where there is none one stays
abbrev pub other_in : List UsedEdge → ℕ → ℕ → ℕ
other_in row from here = unwrap_or (find (λ p. not (p == from)) (map point_of row)) here

-- the points of a chain from one point over its edge to another, up to the next node, and no more than that many
abbrev pub walked_on : List (List UsedEdge) → List ℕ → ℕ → ℕ → ℕ → List ℕ
walked_on rows nodes zero from here = here ∷ []
walked_on rows nodes (suc more) from here = here ∷ (if has_number nodes here then [] else walked_on rows nodes more here (other_in (row_at rows here) from here))

-- the chain that begins with these two points, up to the next node
abbrev pub walked_from : List (List UsedEdge) → List ℕ → ℕ → ℕ → List ℕ
walked_from rows nodes from to = from ∷ walked_on rows nodes (length rows) from to

-- a chain ends at a higher point than this
abbrev pub rises_from : ℕ → List ℕ → Bool
rises_from p chain = nat_lt p (last_of chain)

-- the chains that begin at a point and end at a higher one, clockwise from north
abbrev pub row_chains : List Point → List (List UsedEdge) → List ℕ → ℕ → List (List ℕ)
row_chains points rows nodes p = filter (rises_from p) (map (walked_from rows nodes p) (row_around points p (row_at rows p)))

-- those of all nodes, in order
abbrev pub all_chains : List Point → List (List UsedEdge) → List ℕ → List (List ℕ)
all_chains points rows nodes = flat_map (row_chains points rows nodes) nodes

-- each edge leads to a point that lies elsewhere
abbrev pub AllLeadAway : List Point → List (List UsedEdge) → Type 0
AllLeadAway points rows = (p : ℕ) → p < length rows → LeadAway points p (row_at rows p)

-- the used edges of each of these points of the plane, which lead to others of them
pub record AreEdgesOver (points : List Point) (rows : List (List UsedEdge)) : Type 0 where
  pub in_plane : All IsInPlane points
  pub row_each : length rows ≡ length points
  pub known : AreKnown rows
  pub lead_away : AllLeadAway points rows

-- of these numbers none stands before an earlier one
abbrev pub IsInTurn : (ℕ → ℕ → Bool) → List ℕ → Type 0
IsInTurn before [] = Unit {0}
IsInTurn before (a ∷ rest) = All (λ b. before b a ≡ false) rest × IsInTurn before rest

-- the first of these numbers that passes a test, where those from it on pass too, stands between two places
pub record IsBetween (test : ℕ → Bool) (xs : List ℕ) (low high : ℕ) : Type 0 where
  pub rising : low ≤ high
  pub within : high ≤ length xs
  pub fails : (k : ℕ) → k < low → test (slice_index xs k) ≡ false
  pub passes : (k : ℕ) → high ≤ k → k < length xs → test (slice_index xs k) ≡ true
