-- The parts of a graph once more.
use Rattle.std.proofs.Common.{◌≡◌, ◌∙◌, sym, ap, subst, List}
use Rattle.map_base.specs.declared.ids.LineId.{LineId}
use Rattle.map_base.specs.declared.ids.NodeId.{NodeId}
use Rattle.map_base.specs.declared.ids.SegId.{SegId}
use Rattle.map_base.specs.declared.point.Point.{Point}
use Rattle.graph_core.specs.declared.parts.GraphParts.{GraphParts}
use Rattle.graph_core.specs.declared.parts.Join.{Join}
use Rattle.graph_core.specs.declared.parts.NodeKind.{NodeKind}
use Rattle.graph_core.specs.Consistent.{IsConsistent}

abbrev parts_with : List NodeKind → List Point → List (NodeId × NodeId) → List (List LineId) → List (List SegId) → List (List Join) → GraphParts
parts_with kinds places ends lines rounds joins = record { kinds = kinds; places = places; ends = ends; lines = lines; rounds = rounds; joins = joins }

-- the parts of a graph once more fit together
pub fits_again : (g : GraphParts) (kinds : List NodeKind) (places : List Point) (ends : List (NodeId × NodeId)) (lines : List (List LineId)) (rounds : List (List SegId)) (joins : List (List Join)) →
    kinds ≡ g.kinds → places ≡ g.places → ends ≡ g.ends → lines ≡ g.lines → rounds ≡ g.rounds → joins ≡ g.joins → IsConsistent g →
    IsConsistent (record { kinds = kinds; places = places; ends = ends; lines = lines; rounds = rounds; joins = joins })
fits_again g kinds places ends lines rounds joins a b c d e f fits =
    let same : parts_with kinds places ends lines rounds joins ≡ g =
    ap (λ (x : List NodeKind). parts_with x places ends lines rounds joins) a
    ∙ ap (λ (x : List Point). parts_with g.kinds x ends lines rounds joins) b
    ∙ ap (λ (x : List (NodeId × NodeId)). parts_with g.kinds g.places x lines rounds joins) c
    ∙ ap (λ (x : List (List LineId)). parts_with g.kinds g.places g.ends x rounds joins) d
    ∙ ap (λ (x : List (List SegId)). parts_with g.kinds g.places g.ends g.lines x joins) e
    ∙ ap (λ (x : List (List Join)). parts_with g.kinds g.places g.ends g.lines g.rounds x) f in
    subst IsConsistent (sym same) fits
