use Rattle.std.proofs.Common.{sym, arith}
use Rattle.decimal_text.proofs.Words.{no_first_line, first_line_by}
use Rattle.decimal_text.proofs.lines.first_line.Goals as goal

pub returns-then-end-text : goal.returns-then-end-text
returns-then-end-text c = sym (no_first_line c.args.text.now (cc))

pub returns : goal.returns
returns c = sym (first_line_by c.args.text.now c.split_at.result.0.now c.split_at.result.1.now c.split_at-2.result.1.now c.place_of-end.result (cc) (omega arith) (cc) (cc) (cc))
