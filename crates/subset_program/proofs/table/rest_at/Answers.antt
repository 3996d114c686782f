use Rattle.std.proofs.Common.{◌<◌, ◌∙◌, arith, Some}
use Rattle.subset_program.specs.PlainRows.{plain_rows}
use Rattle.subset_program.proofs.Walking.{rest_at_end, rest_by_choice}
use Rattle.subset_program.proofs.table.rest_at.Goals as goal

pub returns-then-free-rows : goal.returns-then-free-rows
returns-then-free-rows c = rest_at_end (plain_rows c.args.rows.now) c.args.set (Some c.args.last) c.args.free c.requires.free c.if-free-rows.true

pub returns : goal.returns
returns c =
    let below : c.args.free < c.args.rows.now.count = omega (arith, c.requires.free.most, c.if-free-rows.false) in
    c.least_choice.ensures ∙ rest_by_choice (plain_rows c.args.rows.now) c.requires.rows c.args.set (Some c.args.last) c.args.free c.requires.free below
