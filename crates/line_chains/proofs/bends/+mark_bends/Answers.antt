use Rattle.std.proofs.Common.{◌≡◌, ◌∙◌, ◌+◌, ◌-◌, ◌<◌, true, List, drop, fold, length, take, ap, arith, length-drop, length-set}
use Rattle.std.proofs.lemmas.List.{take_all}
use Rattle.std.proofs.lemmas.List.Elements.{All-drop, All-take}
use Rattle.map_base.specs.declared.ids.NodeId.{NodeId}
use Rattle.line_chains.specs.Bends.{bend_place, bends_of, is_bent, with_corner}
use Rattle.line_chains.proofs.Bending.{corners_made, length-corners, rear_shorter, some_bent}
use Rattle.line_chains.proofs.bends.+mark_bends.Goals as goal

pub mark_bends-requires-2 : goal.mark_bends-requires-2
mark_bends-requires-2 t c =
    let ns = c.args.nodes.now in
    let p = c.in-Some.place in
    let far = length (c.args.graph.now).kinds in (
      omega (arith, rear_shorter ns p c.in-Some.ensures.after (omega (arith, c.in-Some.ensures.before))),
      (
        c.requires.graph,
        (
          All-take (λ (n : NodeId). n.0 < far) (length ns - p) (drop p ns) (All-drop (λ (n : NodeId). n.0 < far) p ns c.requires.nodes),
          ap length c.mark_bends.ensures ∙ length-corners (bends_of (length (take (p + 1) ns)) c.args.graph.now c.args.cell (take (p + 1) ns)) c.raise.new.self ∙ ap length c.raise.ensures ∙ length-set c.args.corners.now _ true ∙ c.requires.each,
        ),
      ),
    )

pub returns : goal.returns
returns t c =
    let g = c.args.graph.now in
    let ns = c.args.nodes.now in
    let p = c.in-Some.place in
    let bent = some_bent (is_bent g c.args.cell ns) (bend_place g ns) p c.bend_place.result c.bend_place.ensures.place c.in-Some.is in
    let rear : take (length ns - p) (drop p ns) ≡ drop p ns = take_all (length ns - p) (drop p ns) (omega (arith, length-drop p ns)) in
    corners_made g c.args.cell ns p c.args.corners.now c.raise.new.self c.mark_bends.new.corners c.mark_bends-2.new.corners bent.0 bent.1 c.raise.ensures
    c.mark_bends.ensures
    (c.mark_bends-2.ensures ∙ ap (λ (v : List NodeId). fold with_corner c.mark_bends.new.corners (bends_of (length v) g c.args.cell v)) rear)
