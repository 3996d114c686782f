-- Small line graphs, with their terms and the costs of their orders worked out by hand.
use Rattle.std.specs.Prelude.{◌≡◌, ℕ, List, [], ◌∷◌, refl, true, false}
use Rattle.map_base.specs.declared.ids.NodeId.{NodeId}
use Rattle.map_base.specs.declared.ids.SegId.{SegId}
use Rattle.map_base.specs.declared.ids.LineId.{LineId}
use Rattle.map_base.specs.declared.weights.Weights.{Weights}
use Rattle.graph_core.specs.declared.parts.NodeKind.TheVariants.{Station, Junction}
use Rattle.graph_core.specs.declared.parts.Join.{Join}
use Rattle.graph_core.specs.declared.parts.GraphParts.{GraphParts}
use Rattle.order_model.specs.declared.term.Term.{Term}
use Rattle.order_model.specs.declared.term.Term.TheVariants.{Side, Link, Apart}
use Rattle.order_terms.specs.Terms.{graph_terms}
use Rattle.order_model.specs.Costs.{cost_of}

abbrev node : ℕ → NodeId
node i = record { 0 = i }

abbrev seg : ℕ → SegId
seg i = record { 0 = i }

abbrev line : ℕ → LineId
line i = record { 0 = i }

abbrev join : ℕ → ℕ → ℕ → Join
join e f l = record { e = seg e; f = seg f; line = line l }

abbrev weights : ℕ → ℕ → ℕ → Weights
weights l s a = record { link = l; split = s; sep = a }

abbrev usual_terms : GraphParts → List Term
usual_terms g = graph_terms g (weights 4 1 3 ∷ weights 12 3 9 ∷ []) (1 ∷ 1 ∷ 1 ∷ [])

-- Three segments at a station, and two lines with all three connections: six Sides, three Links, three Aparts.

abbrev star : GraphParts
star = record {
  kinds = Station (record { 0 = 0 }) ∷ Station (record { 0 = 1 }) ∷ Station (record { 0 = 2 }) ∷ Station (record { 0 = 3 }) ∷ [];
  places = [];
  ends = (node 0, node 1) ∷ (node 0, node 2) ∷ (node 0, node 3) ∷ [];
  lines = (line 0 ∷ line 1 ∷ []) ∷ (line 0 ∷ line 1 ∷ []) ∷ (line 0 ∷ line 1 ∷ []) ∷ [];
  rounds = (seg 0 ∷ seg 1 ∷ seg 2 ∷ []) ∷ (seg 0 ∷ []) ∷ (seg 1 ∷ []) ∷ (seg 2 ∷ []) ∷ [];
  joins = (join 0 1 0 ∷ join 0 1 1 ∷ join 0 2 0 ∷ join 0 2 1 ∷ join 1 2 0 ∷ join 1 2 1 ∷ []) ∷ ([]) ∷ ([]) ∷ ([]) ∷ [];
}

star_terms : usual_terms star
    ≡ Side (seg 0) (line 0) (line 1) 3 ∷ Side (seg 0) (line 1) (line 0) 3
    ∷ Side (seg 1) (line 0) (line 1) 3 ∷ Side (seg 1) (line 1) (line 0) 3
    ∷ Side (seg 2) (line 0) (line 1) 3 ∷ Side (seg 2) (line 1) (line 0) 3
    ∷ Link (seg 0) (seg 1) true (line 0) (line 1) 12 ∷ Link (seg 0) (seg 2) true (line 0) (line 1) 12 ∷ Link (seg 1) (seg 2) true (line 0) (line 1) 12
    ∷ Apart (seg 0) (seg 1) (line 0) (line 1) 9 ∷ Apart (seg 0) (seg 2) (line 0) (line 1) 9 ∷ Apart (seg 1) (seg 2) (line 0) (line 1) 9 ∷ []
star_terms = refl

star_cost : cost_of (usual_terms star) ((line 0 ∷ line 1 ∷ []) ∷ (line 0 ∷ line 1 ∷ []) ∷ (line 1 ∷ line 0 ∷ []) ∷ []) ≡ 21
star_cost = refl

-- Two lines that share three stations and part at both ends so that they needn't cross.
abbrev agreeing : GraphParts
agreeing = record {
  kinds = Station (record { 0 = 0 }) ∷ Station (record { 0 = 1 }) ∷ Station (record { 0 = 2 }) ∷ Station (record { 0 = 3 }) ∷ Station (record { 0 = 4 }) ∷ Station (record { 0 = 5 }) ∷ Station (record { 0 = 6 }) ∷ [];
  places = [];
  ends = (node 0, node 3) ∷ (node 0, node 1) ∷ (node 0, node 4) ∷ (node 1, node 2) ∷ (node 2, node 5) ∷ (node 2, node 6) ∷ [];
  lines = (line 0 ∷ []) ∷ (line 0 ∷ line 1 ∷ []) ∷ (line 1 ∷ []) ∷ (line 0 ∷ line 1 ∷ []) ∷ (line 0 ∷ []) ∷ (line 1 ∷ []) ∷ [];
  rounds = (seg 0 ∷ seg 1 ∷ seg 2 ∷ []) ∷ (seg 3 ∷ seg 1 ∷ []) ∷ (seg 4 ∷ seg 5 ∷ seg 3 ∷ []) ∷ (seg 0 ∷ []) ∷ (seg 2 ∷ []) ∷ (seg 4 ∷ []) ∷ (seg 5 ∷ []) ∷ [];
  joins = (join 0 1 0 ∷ join 1 2 1 ∷ []) ∷ (join 1 3 0 ∷ join 1 3 1 ∷ []) ∷ (join 3 4 0 ∷ join 3 5 1 ∷ []) ∷ ([]) ∷ ([]) ∷ ([]) ∷ ([]) ∷ [];
}

agreeing_cost : cost_of (usual_terms agreeing) ((line 0 ∷ []) ∷ (line 0 ∷ line 1 ∷ []) ∷ (line 1 ∷ []) ∷ (line 0 ∷ line 1 ∷ []) ∷ (line 0 ∷ []) ∷ (line 1 ∷ []) ∷ []) ≡ 0
agreeing_cost = refl

agreeing_turned : cost_of (usual_terms agreeing) ((line 0 ∷ []) ∷ (line 1 ∷ line 0 ∷ []) ∷ (line 1 ∷ []) ∷ (line 1 ∷ line 0 ∷ []) ∷ (line 0 ∷ []) ∷ (line 1 ∷ []) ∷ []) ≡ 6
agreeing_turned = refl

-- The same stations, and lines that have to cross: on the way it costs 1, at an end 5.
abbrev crossing : GraphParts
crossing = record {
  kinds = Station (record { 0 = 0 }) ∷ Station (record { 0 = 1 }) ∷ Station (record { 0 = 2 }) ∷ Station (record { 0 = 3 }) ∷ Station (record { 0 = 4 }) ∷ Station (record { 0 = 5 }) ∷ Station (record { 0 = 6 }) ∷ [];
  places = [];
  ends = (node 0, node 3) ∷ (node 0, node 1) ∷ (node 0, node 4) ∷ (node 1, node 2) ∷ (node 2, node 5) ∷ (node 2, node 6) ∷ [];
  lines = (line 0 ∷ []) ∷ (line 0 ∷ line 1 ∷ []) ∷ (line 1 ∷ []) ∷ (line 0 ∷ line 1 ∷ []) ∷ (line 1 ∷ []) ∷ (line 0 ∷ []) ∷ [];
  rounds = (seg 0 ∷ seg 1 ∷ seg 2 ∷ []) ∷ (seg 3 ∷ seg 1 ∷ []) ∷ (seg 4 ∷ seg 5 ∷ seg 3 ∷ []) ∷ (seg 0 ∷ []) ∷ (seg 2 ∷ []) ∷ (seg 4 ∷ []) ∷ (seg 5 ∷ []) ∷ [];
  joins = (join 0 1 0 ∷ join 1 2 1 ∷ []) ∷ (join 1 3 0 ∷ join 1 3 1 ∷ []) ∷ (join 3 4 1 ∷ join 3 5 0 ∷ []) ∷ ([]) ∷ ([]) ∷ ([]) ∷ ([]) ∷ [];
}

crossing_terms : graph_terms crossing (weights 4 1 3 ∷ weights 1 5 0 ∷ []) (1 ∷ 1 ∷ [])
    ≡ Side (seg 1) (line 0) (line 1) 5 ∷ Link (seg 1) (seg 3) false (line 0) (line 1) 1 ∷ Side (seg 3) (line 1) (line 0) 5 ∷ []
crossing_terms = refl

crossing_cost : cost_of (graph_terms crossing (weights 4 1 3 ∷ weights 1 5 0 ∷ []) (1 ∷ 1 ∷ [])) ((line 0 ∷ []) ∷ (line 0 ∷ line 1 ∷ []) ∷ (line 1 ∷ []) ∷ (line 1 ∷ line 0 ∷ []) ∷ (line 1 ∷ []) ∷ (line 0 ∷ []) ∷ []) ≡ 1
crossing_cost = refl

-- A line that leaves two others: it costs where it stands between them.
abbrev leaving : GraphParts
leaving = record {
  kinds = Station (record { 0 = 0 }) ∷ Station (record { 0 = 1 }) ∷ Station (record { 0 = 2 }) ∷ Station (record { 0 = 3 }) ∷ [];
  places = [];
  ends = (node 0, node 1) ∷ (node 1, node 2) ∷ (node 1, node 3) ∷ [];
  lines = (line 0 ∷ line 1 ∷ line 2 ∷ []) ∷ (line 0 ∷ line 2 ∷ []) ∷ (line 1 ∷ []) ∷ [];
  rounds = (seg 0 ∷ []) ∷ (seg 1 ∷ seg 2 ∷ seg 0 ∷ []) ∷ (seg 1 ∷ []) ∷ (seg 2 ∷ []) ∷ [];
  joins = ([]) ∷ (join 0 1 0 ∷ join 0 1 2 ∷ join 0 2 1 ∷ []) ∷ ([]) ∷ ([]) ∷ [];
}

leaving_between : cost_of (usual_terms leaving) ((line 0 ∷ line 1 ∷ line 2 ∷ []) ∷ (line 0 ∷ line 2 ∷ []) ∷ (line 1 ∷ []) ∷ []) ≡ 12
leaving_between = refl

leaving_outside : cost_of (usual_terms leaving) ((line 0 ∷ line 2 ∷ line 1 ∷ []) ∷ (line 0 ∷ line 2 ∷ []) ∷ (line 1 ∷ []) ∷ []) ≡ 0
leaving_outside = refl

-- Two lines that share one segment and cross at one of its ends, in either order.
abbrev tied : GraphParts
tied = record {
  kinds = Station (record { 0 = 0 }) ∷ Station (record { 0 = 1 }) ∷ Station (record { 0 = 2 }) ∷ Station (record { 0 = 3 }) ∷ Station (record { 0 = 4 }) ∷ Station (record { 0 = 5 }) ∷ [];
  places = [];
  ends = (node 0, node 2) ∷ (node 0, node 1) ∷ (node 0, node 3) ∷ (node 1, node 4) ∷ (node 1, node 5) ∷ [];
  lines = (line 0 ∷ []) ∷ (line 0 ∷ line 1 ∷ []) ∷ (line 1 ∷ []) ∷ (line 1 ∷ []) ∷ (line 0 ∷ []) ∷ [];
  rounds = (seg 0 ∷ seg 1 ∷ seg 2 ∷ []) ∷ (seg 3 ∷ seg 4 ∷ seg 1 ∷ []) ∷ (seg 0 ∷ []) ∷ (seg 2 ∷ []) ∷ (seg 3 ∷ []) ∷ (seg 4 ∷ []) ∷ [];
  joins = (join 0 1 0 ∷ join 1 2 1 ∷ []) ∷ (join 1 3 1 ∷ join 1 4 0 ∷ []) ∷ ([]) ∷ ([]) ∷ ([]) ∷ ([]) ∷ [];
}

tied_one : cost_of (usual_terms tied) ((line 0 ∷ []) ∷ (line 0 ∷ line 1 ∷ []) ∷ (line 1 ∷ []) ∷ (line 1 ∷ []) ∷ (line 0 ∷ []) ∷ []) ≡ 3
tied_one = refl

tied_other : cost_of (usual_terms tied) ((line 0 ∷ []) ∷ (line 1 ∷ line 0 ∷ []) ∷ (line 1 ∷ []) ∷ (line 1 ∷ []) ∷ (line 0 ∷ []) ∷ []) ≡ 3
tied_other = refl

-- Two lines that part at a junction, at the upper end of their segment.
abbrev junction : GraphParts
junction = record {
  kinds = Station (record { 0 = 0 }) ∷ Station (record { 0 = 1 }) ∷ Station (record { 0 = 2 }) ∷ Junction ∷ [];
  places = [];
  ends = (node 0, node 3) ∷ (node 1, node 3) ∷ (node 2, node 3) ∷ [];
  lines = (line 0 ∷ line 1 ∷ []) ∷ (line 0 ∷ []) ∷ (line 1 ∷ []) ∷ [];
  rounds = (seg 0 ∷ []) ∷ (seg 1 ∷ []) ∷ (seg 2 ∷ []) ∷ (seg 2 ∷ seg 1 ∷ seg 0 ∷ []) ∷ [];
  joins = ([]) ∷ ([]) ∷ ([]) ∷ (join 0 1 0 ∷ join 0 2 1 ∷ []) ∷ [];
}

junction_terms : usual_terms junction ≡ Side (seg 0) (line 1) (line 0) 1 ∷ []
junction_terms = refl

junction_cost : cost_of (usual_terms junction) ((line 1 ∷ line 0 ∷ []) ∷ (line 0 ∷ []) ∷ (line 1 ∷ []) ∷ []) ≡ 0
junction_cost = refl

-- The same with one line of greater importance: a term weighs as much as both its lines count.
counted_terms : graph_terms crossing (weights 4 1 3 ∷ weights 1 5 0 ∷ []) (1 ∷ 16 ∷ [])
    ≡ Side (seg 1) (line 0) (line 1) 80 ∷ Link (seg 1) (seg 3) false (line 0) (line 1) 16 ∷ Side (seg 3) (line 1) (line 0) 80 ∷ []
counted_terms = refl

both_counted : graph_terms junction (weights 4 1 3 ∷ weights 12 3 9 ∷ []) (2 ∷ 3 ∷ []) ≡ Side (seg 0) (line 1) (line 0) 6 ∷ []
both_counted = refl
