use Rattle.std.proofs.Common.{true, false, sym, ◌∙◌}
use Rattle.order_model.specs.Places.{has_line}
use Rattle.order_untangle.proofs.ReadLemmas.{all_at, all_parted, parts_passed}
use Rattle.order_untangle.proofs.held_lines.group_parts.Goals as goal

pub line_parts-requires-clause-among : goal.line_parts-requires-clause-among
line_parts-requires-clause-among c = all_at (has_line c.args.lines.now) c.args.group.now c.loop-line.line-index _ c.loop-line-test.true c.requires.among

pub loop-line-preserved : goal.loop-line-preserved
loop-line-preserved c = λ w is.
    c.loop-line.invariant w is
    ∙ parts_passed c.args.most w c.args.lines.now c.args.group.now c.loop-line.line-index _ c.as_slice.result.now c.line_parts.result true c.loop-line-test.true
    (c.as_slice.ensures.value ∙ c.in_ok-marks.ensures) (c.line_parts.ensures w is) c.if-not-line_parts.false

pub returns-then-not-line_parts : goal.returns-then-not-line_parts
returns-then-not-line_parts c = λ w is.
    sym (c.loop-line.invariant w is
    ∙ parts_passed c.args.most w c.args.lines.now c.args.group.now c.loop-line.line-index _ c.as_slice.result.now c.line_parts.result false c.loop-line-test.true
    (c.as_slice.ensures.value ∙ c.in_ok-marks.ensures) (c.line_parts.ensures w is) c.if-not-line_parts.true)

pub returns : goal.returns
returns c = λ w is. sym (c.loop-line.invariant w is ∙ all_parted c.args.most w c.args.lines.now c.args.group.now c.loop-line.line-index c.loop-line-test.false)
