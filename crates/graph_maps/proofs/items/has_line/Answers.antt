use Rattle.std.proofs.Common.{ℕ, ◌<◌, ◌+◌, ◌-◌, ◌/◌, length, sym, arith}
use Rattle.graph_maps.proofs.ItemLemmas.{line_nowhere, up_to, from_on}
use Rattle.graph_maps.proofs.items.has_line.Goals as goal

pub loop-low-preserved-then-lines-middle-2 : goal.loop-low-preserved-then-lines-middle-2
loop-low-preserved-then-lines-middle-2 c =
    let m : ℕ = c.loop-low.low + (c.loop-low.high - c.loop-low.low) / 2 in
    let within : m < length c.args.lines.now = omega (arith, c.loop-low.invariant.within, c.loop-low-test.true) in
    record {
      within = c.loop-low.invariant.within;
      below = λ k h. up_to c.args.lines.now c.args.line _ m c.requires within c.if-lines-middle-2.true k h;
      above = c.loop-low.invariant.above;
    }

pub loop-low-preserved : goal.loop-low-preserved
loop-low-preserved c =
    let m : ℕ = c.loop-low.low + (c.loop-low.high - c.loop-low.low) / 2 in
    let within : m < length c.args.lines.now = omega (arith, c.loop-low.invariant.within, c.loop-low-test.true) in
    record {
      within = omega (arith, within);
      below = c.loop-low.invariant.below;
      above = λ k up h. from_on c.args.lines.now c.args.line _ m c.requires within c.if-lines-middle.false c.if-lines-middle-2.false k up h;
    }

pub returns : goal.returns
returns c = sym (line_nowhere c.args.lines.now c.args.line c.loop-low.low c.loop-low.high c.loop-low-test.false c.loop-low.invariant.below c.loop-low.invariant.above)
