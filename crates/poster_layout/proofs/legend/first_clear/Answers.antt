use Rattle.std.proofs.Common.{ap, sym, ◌∙◌, arith}
use Rattle.std.specs.List.{find}
use Rattle.std.proofs.lemmas.List.{at_drop_all}
use Rattle.poster_plan.specs.Legends.{is_clear_of_all}
use Rattle.poster_layout.specs.Extents.{is_clear_at}
use Rattle.poster_table.proofs.Finding.{find_here, find_past}
use Rattle.poster_layout.proofs.legend.first_clear.Goals as goal

pub legend_shape-requires-clause-start : goal.legend_shape-requires-clause-start
legend_shape-requires-clause-start c = c.requires.corners c.loop-corner.corner-index _ c.loop-corner-test.true

pub loop-corner-preserved : goal.loop-corner-preserved
loop-corner-preserved c =
    find_past (is_clear_at c.args.pitch c.args.plan.now c.args.printed.now c.args.width c.args.height) c.args.corners.now c.loop-corner.corner-index _ c.loop-corner-test.true
    (sym (c.is_clear_of_all.ensures ∙ ap (is_clear_of_all c.args.pitch c.args.plan.now c.args.printed.now) c.legend_shape.ensures) ∙ c.if-is_clear_of_all.false)
    ∙ c.loop-corner.invariant

pub returns-then-is_clear_of_all-clause-value : goal.returns-then-is_clear_of_all-clause-value
returns-then-is_clear_of_all-clause-value c =
    sym (find_here (is_clear_at c.args.pitch c.args.plan.now c.args.printed.now c.args.width c.args.height) c.args.corners.now c.loop-corner.corner-index _ c.loop-corner-test.true
    (sym (c.is_clear_of_all.ensures ∙ ap (is_clear_of_all c.args.pitch c.args.plan.now c.args.printed.now) c.legend_shape.ensures) ∙ c.if-is_clear_of_all.true))
    ∙ c.loop-corner.invariant

pub returns-then-is_clear_of_all-clause-near : goal.returns-then-is_clear_of_all-clause-near
returns-then-is_clear_of_all-clause-near c = c.requires.corners c.loop-corner.corner-index _ c.loop-corner-test.true

pub returns-clause-value : goal.returns-clause-value
returns-clause-value c =
    sym (at_drop_all (find (is_clear_at c.args.pitch c.args.plan.now c.args.printed.now c.args.width c.args.height)) c.args.corners.now c.loop-corner.corner-index (omega arith))
    ∙ c.loop-corner.invariant
