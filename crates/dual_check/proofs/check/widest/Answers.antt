use Rattle.std.proofs.Common.{◌≡◌, ap, length, max, arith, get_or}
use Rattle.map_base.specs.declared.ids.SegId.{SegId}
use Rattle.order_model.specs.Problems.{lines_on}
use Rattle.dual_shares.proofs.Terms.{lines_read}
use Rattle.dual_check.proofs.Pairs.{width_more, narrow_more}
use Rattle.dual_check.proofs.check.widest.Goals as goal

pub loop-s-preserved : goal.loop-s-preserved
loop-s-preserved c =
    let s : SegId = get_or c.args.part.now c.loop-s.s-index (record { 0 = 0 }) in
    let lines =
    lines_read c.args.problem.now.segs c.segs-segs.result.now s c.index-segs-s.result c.as_slice.result.now (c.requires c.loop-s.s-index (record { 0 = 0 }) c.loop-s-test.true) c.segs-segs.ensures.lists c.index-segs-s.is
    c.as_slice.ensures in
    let is : c.max-width.result ≡ max c.loop-s.width (length (lines_on c.args.problem.now.segs s)) = omega (arith, c.max-width.ensures, ap length lines) in
    record {
      most = width_more c.args.problem.now.segs c.args.part.now c.loop-s.s-index (record { 0 = 0 }) c.loop-s.width c.max-width.result c.loop-s-test.true is c.loop-s.invariant.most;
      narrow = narrow_more c.args.problem.now.segs c.args.part.now c.loop-s.s-index (record { 0 = 0 }) c.loop-s.width c.max-width.result c.loop-s-test.true is c.loop-s.invariant.narrow;
    }
