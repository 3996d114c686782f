use Rattle.std.proofs.Common.{◌≡◌, true, false, ◌+◌, ◌-ℤ◌, ◌++◌, ◌∷◌, [], ℤ, unsigned_abs, w64, to_z, of_z, List, map, drop, sym, ap, ◌∙◌, arith}
use Rattle.std.proofs.lemmas.Int.{ints}
use Rattle.start_positions.specs.declared.placing.Offset.{Offset}
use Rattle.start_positions.specs.Cells.{offset_of}
use Rattle.start_positions.specs.Nodes.{coordinate_at}
use Rattle.start_positions.proofs.CellLemmas.{no_point, offset_more, offset_read}
use Rattle.start_positions.proofs.cells.offsets_of.Goals as goal

pub loop-n-preserved : goal.loop-n-preserved
loop-n-preserved c =
    let ps = c.args.graph.now.places in
    let x : to_z w64 (of_z w64 c.args.extents.least.x) ≡ c.args.extents.least.x = omega (arith, ints, c.requires.extents.near_east) in
    let y : to_z w64 (of_z w64 c.args.extents.least.y) ≡ c.args.extents.least.y = omega (arith, ints, c.requires.extents.near_north) in
    let east : to_z w64 (of_z w64 c.coordinate.result) ≡ c.coordinate.result = omega (arith, ints, c.coordinate.ensures.near) in
    let north : to_z w64 (of_z w64 c.coordinate-in-loop-n.result) ≡ c.coordinate-in-loop-n.result = omega (arith, ints, c.coordinate-in-loop-n.ensures.near) in
    ap (λ (v : List Offset). v ++ map (offset_of ps) (drop (c.loop-n.n + 1) ps))
    (c.in_ok-push.ensures.items
    ∙ ap (λ (o : Offset). c.loop-n.offsets.items ++ o ∷ [])
    (offset_read ps c.loop-n.n c.args.extents c.apart.result c.apart-in-loop-n.result (omega (arith, c.nodes-n-end.ensures.count, c.requires.graph.place_each)) c.requires.extents
    (c.apart.ensures.value ∙ ap (λ (z : ℤ). unsigned_abs (z -ℤ to_z w64 (of_z w64 c.args.extents.least.x))) (east ∙ c.coordinate.ensures.value) ∙ ap (λ (z : ℤ). unsigned_abs (coordinate_at ps c.loop-n.n true -ℤ z)) x)
    (c.apart-in-loop-n.ensures.value ∙ ap (λ (z : ℤ). unsigned_abs (z -ℤ to_z w64 (of_z w64 c.args.extents.least.y))) (north ∙ c.coordinate-in-loop-n.ensures.value) ∙ ap (λ (z : ℤ). unsigned_abs (coordinate_at ps c.loop-n.n false -ℤ z)) y)))
    ∙ sym (offset_more ps c.loop-n.n no_point c.loop-n.offsets.items (omega (arith, c.nodes-n-end.ensures.count, c.requires.graph.place_each))) ∙ c.loop-n.invariant
