use Rattle.std.proofs.Common.{◌≤◌, ◌<◌, [], length, arith, ◌∙◌}
use Rattle.std.proofs.lemmas.List.{take_more, take_all}
use Rattle.std.proofs.lemmas.Option.{get_or_from_slice_get}
use Rattle.order_terms.proofs.graph_terms.all_lines.Goals as goal

pub loop-s-preserved : goal.loop-s-preserved
loop-s-preserved c =
    let below : c.loop-s.s < length c.args.graph.now.lines = omega (arith, c.requires.lines_each) in
    let more = take_more c.args.graph.now.lines c.loop-s.s [] below in
    let is = get_or_from_slice_get c.args.graph.now.lines c.loop-s.s c.lines.result.now [] c.lines.ensures in
    cc (more, is, c.in_ok-lines.ensures, c.in_ok-push.ensures.items)

pub returns : goal.returns
returns c =
    let all : length c.args.graph.now.lines ≤ c.loop-s.s = omega (arith, c.requires.lines_each) in
    c.loop-s.invariant ∙ take_all c.loop-s.s c.args.graph.now.lines all
