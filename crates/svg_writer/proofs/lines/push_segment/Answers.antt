use Rattle.std.proofs.Common.{List, ◌++◌, length, string_bytes, ◌<◌, subst, ap, sym, ◌∙◌, append-nil, arith}
use Rattle.std.proofs.lemmas.List.{at_drop_all}
use Rattle.map_base.specs.declared.ids.LineId.{LineId}
use Rattle.svg_writer.specs.Elements.{texts}
use Rattle.svg_writer.specs.Picture.{line_elements}
use Rattle.svg_writer.specs.Courses.{order_at, gauge}
use Rattle.svg_writer.proofs.Written.{line_more}
use Rattle.svg_writer.proofs.lines.push_segment.Goals as goal

pub loop-i-init : goal.loop-i-init
loop-i-init g c =
    let walk = g.D.Drawn.courses c.args.scene.now.drawn.now in
    ap (λ (order : List LineId). string_bytes c.args.text.now ++ texts c.args.scene.now.style (line_elements c.args.scene.now.names.now walk c.args.s (length order) 0 order)) c.order_of-order.ensures

pub loop-i-preserved : goal.loop-i-preserved
loop-i-preserved g c =
    let order = c.order_of-order.result.now in
    line_more c.args.scene.now.style c.args.scene.now.names.now (g.D.Drawn.courses c.args.scene.now.drawn.now) c.args.s (length order) c.loop-i.i order (string_bytes c.loop-i.text) (string_bytes c.push_line.new.text) _
    c.loop-i-test.true c.in_ok-push_line.ensures c.loop-i.invariant

pub returns : goal.returns
returns g c =
    let order = c.order_of-order.result.now in
    let walk = g.D.Drawn.courses c.args.scene.now.drawn.now in
    sym (append-nil (string_bytes c.loop-i.text))
    ∙ sym (at_drop_all (λ (ls : List LineId). string_bytes c.loop-i.text ++ texts c.args.scene.now.style (line_elements c.args.scene.now.names.now walk c.args.s (length order) c.loop-i.i ls)) order c.loop-i.i (omega arith))
    ∙ c.loop-i.invariant

pub push_line-requires-clause-reach : goal.push_line-requires-clause-reach
push_line-requires-clause-reach g c =
    let orders = c.args.scene.now.orders.now.lists in
    let reaches = g.D.Drawn.Reaches c.args.scene.now.drawn.now in
    let low : c.loop-i.i < length (order_at orders c.args.s) = subst (λ (order : List LineId). c.loop-i.i < length order) c.order_of-order.ensures c.loop-i-test.true in
    subst (λ (order : List LineId). reaches (gauge (length order) c.loop-i.i)) (sym c.order_of-order.ensures) (c.requires c.args.s c.loop-i.i (omega (arith, low)))
