use Rattle.std.proofs.Common.{◌≡◌, ◌∙◌, ◌<◌, cond, get_or, length, true, ap, subst, refl, arith}
use Rattle.std.proofs.lemmas.Option.{get_or_from_slice_get, slice_get_read}
use Rattle.map_base.specs.declared.ids.NodeId.{NodeId}
use Rattle.graph_core.specs.Round.{ends_at}
use Rattle.octi_grid.specs.Walks.{end_point}
use Rattle.drawing_weights.proofs.DrawnFacts.{leg_in, no_ends, point_by, round_there}
use Rattle.drawing_weights.proofs.points.point_of.Goals as goal

pub bounds-walks-seg : goal.bounds-walks-seg
bounds-walks-seg c =
    let there = round_there c.args.graph.now c.requires.graph c.args.n.0 c.requires.node c.round.result.now c.round.ensures in
    let below = (there.1 0 (record { 0 = 0 }) there.0).0 in
    omega (arith, below, c.requires.drawn.each)

pub ends-requires : goal.ends-requires
ends-requires c =
    let there = round_there c.args.graph.now c.requires.graph c.args.n.0 c.requires.node c.round.result.now c.round.ensures in
    (there.1 0 (record { 0 = 0 }) there.0).0

pub returns : goal.returns
returns c =
    let graph = c.args.graph.now in
    let walks = c.args.walks.now in
    let n = c.args.n.0 in
    let there = round_there graph c.requires.graph n c.requires.node c.round.result.now c.round.ensures in
    let facts = there.1 0 (record { 0 = 0 }) there.0 in
    let e = c.ends.result in
    let w = c.index-walks-seg.result in
    let below : (get_or c.round.result.now 0 (record { 0 = 0 })).0 < length walks = omega (arith, facts.0, c.requires.drawn.each) in
    let walk = slice_get_read walks (length walks) (get_or c.round.result.now 0 (record { 0 = 0 })).0 w refl below c.index-walks-seg.is in
    let at = subst (λ (v : NodeId × NodeId). ends_at n v ≡ true) (get_or_from_slice_get graph.ends (get_or c.round.result.now 0 (record { 0 = 0 })).0 e no_ends c.ends.ensures) facts.1 in
    c.end_at.ensures
    ∙ ap (λ b. cond b w.start (end_point w)) c.eq.ensures
    ∙ point_by graph walks c.requires.drawn n (e, w) (leg_in graph.ends walks (get_or c.round.result.now 0 (record { 0 = 0 })).0 e w c.ends.ensures walk) at
