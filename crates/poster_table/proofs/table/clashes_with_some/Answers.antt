use Rattle.std.proofs.Common.{sym, ◌∙◌, arith}
use Rattle.poster_plan.specs.Things.{clash}
use Rattle.poster_table.proofs.Finding.{any_here, any_none, any_past}
use Rattle.poster_table.proofs.table.clashes_with_some.Goals as goal

pub loop-other-preserved : goal.loop-other-preserved
loop-other-preserved c = any_past (clash c.args.thing) c.args.things.now c.loop-other.other-index _ c.loop-other-test.true (sym c.clash.ensures ∙ c.if-clash.false) c.loop-other.invariant

pub returns-then-clash : goal.returns-then-clash
returns-then-clash c = any_here (clash c.args.thing) c.args.things.now c.loop-other.other-index _ c.loop-other-test.true (sym c.clash.ensures ∙ c.if-clash.true)

pub returns : goal.returns
returns c = any_none (clash c.args.thing) c.args.things.now c.loop-other.other-index (omega arith) c.loop-other.invariant
