-- An interchange of six lines on three segments, and the end of one of these.
use Rattle.std.proofs.Common.{◌≡◌, ℕ, pos, true, false, List, [], ◌∷◌, refl}
use Rattle.std.specs.Prelude.{codes}
use Rattle.std.specs.Str.{chars}
use Rattle.map_base.specs.declared.ids.LineId.{LineId}
use Rattle.map_base.specs.declared.ids.NodeId.{NodeId}
use Rattle.map_base.specs.declared.ids.SegId.{SegId}
use Rattle.graph_core.specs.declared.parts.NodeKind.{NodeKind}
use Rattle.graph_core.specs.declared.parts.NodeKind.TheVariants.{Station}
use Rattle.graph_core.specs.declared.parts.GraphParts.{GraphParts}
use Rattle.map_base.specs.declared.point.Point.{Point}
use Rattle.svg_writer.specs.declared.names.Names.{Names}
use Rattle.poster_rules.specs.Stations.{ending, is_interchange, radius_at}

abbrev line : ℕ → LineId
line n = record { 0 = n }

abbrev node : ℕ → NodeId
node n = record { 0 = n }

abbrev seg : ℕ → SegId
seg n = record { 0 = n }

abbrev station : ℕ → NodeKind
station n = Station (record { 0 = n })

abbrev point : Point
point = record { x = pos 0; y = pos 0 }

-- each line is on two of the segments at node 0
abbrev graph : GraphParts
graph = record {
  kinds = station 0 ∷ station 1 ∷ station 2 ∷ station 3 ∷ [];
  places = point ∷ point ∷ point ∷ point ∷ [];
  ends = (node 0, node 1) ∷ (node 0, node 2) ∷ (node 0, node 3) ∷ [];
  lines =
      (line 0 ∷ line 1 ∷ line 2 ∷ line 3 ∷ []) ∷ (line 0 ∷ line 1 ∷ line 4 ∷ line 5 ∷ [])
      ∷ (line 2 ∷ line 3 ∷ line 4 ∷ line 5 ∷ []) ∷ [];
  rounds = (seg 0 ∷ seg 1 ∷ seg 2 ∷ []) ∷ (seg 0 ∷ []) ∷ (seg 1 ∷ []) ∷ (seg 2 ∷ []) ∷ [];
  joins = [] ∷ [] ∷ [] ∷ [] ∷ [];
}

abbrev names : Names
names = record {
  stations = [];
  lines =
      (codes "A", []) ∷ (codes "U6", []) ∷ (codes "3", []) ∷ (codes "Regional", []) ∷ (codes "5", [])
      ∷ (codes "6", []) ∷ [];
}

-- all lines call at node 0; line 2 passes node 1
abbrev callers : List (List LineId)
callers =
    (line 0 ∷ line 1 ∷ line 2 ∷ line 3 ∷ line 4 ∷ line 5 ∷ []) ∷ (line 0 ∷ line 1 ∷ line 3 ∷ []) ∷ [] ∷ [] ∷ []

all_change : is_interchange graph callers 0 ≡ true
all_change = refl

-- 7 for each of four lines, and 7 more
large : radius_at graph callers 0 ≡ 35
large = refl

none_ends : ending names graph callers 0 ≡ []
unfolding chars
none_ends = refl

nobody_changes : is_interchange graph callers 1 ≡ false
nobody_changes = refl

smaller : radius_at graph callers 1 ≡ 31
smaller = refl

-- neither a line that passes nor one with a long name
two_end : ending names graph callers 1 ≡ line 0 ∷ line 1 ∷ []
unfolding chars
two_end = refl
