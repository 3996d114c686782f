use Rattle.std.proofs.Common.{arith}
use Rattle.map_edits.proofs.LineLemmas.{last_line, first_line}
use Rattle.map_edits.proofs.script.first_line.Goals as goal

pub returns-then-end-script-clause-lines : goal.returns-then-end-script-clause-lines
returns-then-end-script-clause-lines c =
    last_line c.args.script.now c.split_at.result.0.now c.split_at.result.1.now c.place_of-end.result c.requires c.place_of-end.ensures.place (omega arith) (cc) (cc)

pub returns-clause-lines : goal.returns-clause-lines
returns-clause-lines c =
    first_line c.args.script.now c.split_at-2.result.0.now c.without_return.result.now c.split_at-2.result.1.now c.split_at-3.result.1.now c.place_of-end.result
    (omega arith) c.place_of-end.ensures.place (cc) (cc) (cc) (cc)
