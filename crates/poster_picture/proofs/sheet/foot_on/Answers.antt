use Rattle.std.proofs.Common.{◌≡◌, ℤ, List, length, ap, ◌∙◌, w32, to_z, of_z, arith}
use Rattle.std.proofs.lemmas.Int.{ints}
use Rattle.map_base.specs.declared.ids.LineId.{LineId}
use Rattle.map_base.specs.declared.ids.NodeId.{NodeId}
use Rattle.svg_writer.specs.Courses.{gauge, order_at}
use Rattle.svg_writer.specs.Picture.{place_in}
use Rattle.poster_rules.specs.Posters.{gauge_of}
use Rattle.poster_picture.specs.Sheets.{foot_at, plain}
use Rattle.poster_picture.proofs.sheet.foot_on.Goals as goal

pub returns : goal.returns
returns c =
    let sheet = plain c.args.sheet in
    let order = order_at sheet.orders c.args.s in
    let k : c.in_ok-k.k ≡ gauge (length order) (place_in order c.args.line) =
    c.in_ok-k.ensures.value
    ∙ ap (gauge (length c.order_of-order.result.now)) c.place_in.ensures.place
    ∙ ap (λ (ls : List LineId). gauge (length ls) (place_in ls c.args.line)) c.order_of-order.ensures in
    let kept : to_z w32 (of_z w32 c.in_ok-k.k) ≡ c.in_ok-k.k = omega (arith, ints, c.in_ok-k.ensures.small) in
    c.foot_at.ensures
    ∙ ap (λ (z : ℤ). foot_at sheet c.ends_of.result.0.0 c.args.n.0 c.args.s z) (kept ∙ k)
    ∙ ap (λ (e : NodeId × NodeId). foot_at sheet e.0.0 c.args.n.0 c.args.s (gauge_of sheet c.args.s c.args.line)) c.ends_of.ensures
