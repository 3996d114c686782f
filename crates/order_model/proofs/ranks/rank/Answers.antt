use Rattle.std.proofs.Common.{◌<◌, ℕ, ◌+◌, ◌-◌, ◌/◌, length, arith}
use Rattle.order_model.proofs.PlaceLemmas.{rank_from, rank_before}
use Rattle.order_model.proofs.ranks.rank.Goals as goal

pub loop-high-preserved-then-lines-middle : goal.loop-high-preserved-then-lines-middle
loop-high-preserved-then-lines-middle c =
    let middle : ℕ = c.loop-high.low + (c.loop-high.high - c.loop-high.low) / 2 in
    let below : middle < length c.args.lines.now = omega (arith, c.loop-high.invariant.order, c.loop-high.invariant.within, c.loop-high-test.true) in record {
      order = omega (arith, c.loop-high.invariant.order, c.loop-high-test.true);
      within = c.loop-high.invariant.within;
      least = λ on. rank_from c.args.lines.now c.args.line middle c.requires.rising on below c.if-lines-middle.true;
      most = c.loop-high.invariant.most;
    }

pub loop-high-preserved : goal.loop-high-preserved
loop-high-preserved c =
    let middle : ℕ = c.loop-high.low + (c.loop-high.high - c.loop-high.low) / 2 in
    let below : middle < length c.args.lines.now = omega (arith, c.loop-high.invariant.order, c.loop-high.invariant.within, c.loop-high-test.true) in record {
      order = omega (arith, c.loop-high.invariant.order, c.loop-high-test.true);
      within = omega (arith, below);
      least = c.loop-high.invariant.least;
      most = λ on. rank_before c.args.lines.now c.args.line middle c.requires.rising on below c.if-lines-middle.false;
    }
