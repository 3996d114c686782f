use Rattle.std.proofs.Common.{◌≡◌, ◌≤◌, ℤ, List, length, ap, sym, subst, ◌∙◌, w32, to_z, of_z, arith}
use Rattle.std.proofs.lemmas.Int.{ints}
use Rattle.map_base.specs.declared.ids.LineId.{LineId}
use Rattle.map_base.specs.declared.ids.NodeId.{NodeId}
use Rattle.svg_writer.specs.Courses.{order_at, gauge}
use Rattle.svg_writer.specs.Picture.{ends_at, place_in, end_at}
use Rattle.svg_writer.proofs.lines.line_end.Goals as goal

pub end_at-requires : goal.end_at-requires
end_at-requires g c =
    let order = order_at c.args.scene.now.orders.now.lists c.args.s.0 in
    let k : c.in_ok-k.k ≡ gauge (length order) (place_in order c.args.line) =
    c.in_ok-k.ensures.value
    ∙ ap (gauge (length c.order_of-order.result.now)) c.place_in.ensures.place
    ∙ ap (λ (ls : List LineId). gauge (length ls) (place_in ls c.args.line)) c.order_of-order.ensures in
    let kept : to_z w32 (of_z w32 c.in_ok-k.k) ≡ c.in_ok-k.k = omega (arith, ints, c.in_ok-k.ensures.small) in
    let within = subst (λ (ls : List LineId). place_in ls c.args.line ≤ length ls) c.order_of-order.ensures (subst (λ n. n ≤ length c.order_of-order.result.now) c.place_in.ensures.place c.place_in.ensures.within) in
    subst (g.D.Drawn.Reaches c.args.scene.now.drawn.now) (sym (kept ∙ k)) (c.requires c.args.s.0 (place_in order c.args.line) within)

pub returns : goal.returns
returns g c =
    let drawn = g.D.Drawn.courses c.args.scene.now.drawn.now in
    let order = order_at c.args.scene.now.orders.now.lists c.args.s.0 in
    let k : c.in_ok-k.k ≡ gauge (length order) (place_in order c.args.line) =
    c.in_ok-k.ensures.value
    ∙ ap (gauge (length c.order_of-order.result.now)) c.place_in.ensures.place
    ∙ ap (λ (ls : List LineId). gauge (length ls) (place_in ls c.args.line)) c.order_of-order.ensures in
    let kept : to_z w32 (of_z w32 c.in_ok-k.k) ≡ c.in_ok-k.k = omega (arith, ints, c.in_ok-k.ensures.small) in
    c.end_at.ensures
    ∙ ap (λ (z : ℤ). end_at drawn c.args.n c.ends_of.result c.args.s.0 z) kept
    ∙ ap (λ (e : NodeId × NodeId). end_at drawn c.args.n e c.args.s.0 c.in_ok-k.k) c.ends_of.ensures
    ∙ ap (end_at drawn c.args.n (ends_at c.args.scene.now.graph.now.ends c.args.s.0) c.args.s.0) k
