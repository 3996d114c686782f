use Rattle.std.proofs.Common.{[], ap, arith, length}
use Rattle.order_model.specs.Problems.{lines_on}
use Rattle.prefix_bounds.proofs.Filled.{line_more}
use Rattle.prefix_bounds.proofs.bounds.place_lines.Goals as goal

pub loop-line-preserved : goal.loop-line-preserved
loop-line-preserved c = (
  line_more c.args.bounds.now c.loop-line.bounds c.place_left.new.bounds c.args.seg (lines_on c.args.prefix.now.placed c.args.seg) c.placed-line-items.result.now c.loop-line.line-index _
      c.placed-line-items.ensures (c.requires.rising c.args.seg.0 [] c.requires.known) (c.requires.fits.lines c.args.seg.0 c.requires.known) (omega (arith, c.requires.well.each, c.requires.known))
      (omega (arith, c.loop-line-test.true, ap length c.placed-line-items.ensures)) c.loop-line.invariant.0 c.place_left.ensures.state,
  c.place_left.ensures.well,
)
