use Rattle.std.proofs.Common.{List, ◌++◌, length, string_bytes, ap, sym, ◌∙◌, append-nil, arith}
use Rattle.std.proofs.lemmas.List.{at_drop_all}
use Rattle.map_base.specs.declared.ids.LineId.{LineId}
use Rattle.poster_rules.specs.Elements.{texts}
use Rattle.poster_rules.specs.Posters.{line_elements}
use Rattle.poster_picture.specs.Sheets.{plain}
use Rattle.poster_picture.proofs.Lining.{line_more}
use Rattle.poster_picture.proofs.lines.push_segment.Goals as goal

pub loop-i-init : goal.loop-i-init
loop-i-init c =
    ap (λ (order : List LineId). string_bytes c.args.text.now ++ texts (line_elements (plain c.args.sheet) c.args.s (length order) 0 order)) c.order_of-order.ensures

pub loop-i-preserved : goal.loop-i-preserved
loop-i-preserved c =
    let order = c.order_of-order.result.now in
    line_more (plain c.args.sheet) c.args.s (length order) c.loop-i.i order (string_bytes c.loop-i.text) (string_bytes c.push_line.new.text) _ c.loop-i-test.true c.in_ok-push_line.ensures c.loop-i.invariant

pub returns : goal.returns
returns c =
    let order = c.order_of-order.result.now in
    sym (append-nil (string_bytes c.loop-i.text))
    ∙ sym (at_drop_all (λ (ls : List LineId). string_bytes c.loop-i.text ++ texts (line_elements (plain c.args.sheet) c.args.s (length order) c.loop-i.i ls)) order c.loop-i.i (omega arith))
    ∙ c.loop-i.invariant
