use Rattle.std.proofs.Common.{◌≡◌, ℕ, ◌+◌, List, Option, unwrap_or, ap, subst, sym}
use Rattle.std.specs.List.{flat_map, range_with_len}
use Rattle.graph_core.specs.declared.parts.NodeKind.{NodeKind}
use Rattle.graph_core.specs.declared.parts.NodeKind.TheVariants.{Junction}
use Rattle.svg_writer.specs.declared.bounds.Bounds.{Bounds}
use Rattle.svg_writer.specs.Picture.{kind_at}
use Rattle.label_place.specs.Grids.{Adds}
use Rattle.label_place.specs.Places.{marker_square}
use Rattle.label_place.specs.Signs.{areas}
use Rattle.label_place.proofs.Growing.{adds_more, adds_none}
use Rattle.label_place.proofs.Stepping.{areas-numbered}
use Rattle.label_place.proofs.filling.put_markers.Goals as goal

pub loop-n-init : goal.loop-n-init
loop-n-init c = adds_none c.args.grid.now c.requires

pub loop-n-preserved : goal.loop-n-preserved
loop-n-preserved c =
    let g = c.args.graph.now in
    let w = c.args.drawing.now.walks in
    let f : ℕ → List Bounds = λ n. marker_square g w n (kind_at g.kinds n) in
    let n = c.loop-n.n in
    let kind : kind_at g.kinds n ≡ c.kind.result = ap (λ (o : Option NodeKind). unwrap_or o Junction) c.kind.ensures in
    adds_more c.args.grid.now c.loop-n.grid c.put_marker.new.grid (areas (flat_map f (range_with_len 0 n))) (areas (f n)) (areas (flat_map f (range_with_len 0 (n + 1)))) (areas-numbered f n) c.loop-n.invariant
    (subst (λ (k : NodeKind). Adds c.loop-n.grid c.put_marker.new.grid (areas (marker_square g w n k))) (sym kind) c.in_ok-put_marker.ensures)
