use Rattle.std.proofs.Common.{arith}
use Rattle.poster_graph.proofs.Flags.{keep_flag, set_flag}
use Rattle.poster_graph.proofs.shown.show_line.Goals as goal

pub returns-then-line-flags-clause-flagged : goal.returns-then-line-flags-clause-flagged
returns-then-line-flags-clause-flagged c = λ n low. keep_flag c.args.flags.now c.args.line n (omega arith) low

pub returns-clause-flagged : goal.returns-clause-flagged
returns-clause-flagged c = λ n low. set_flag c.args.flags.now c.args.line n (omega arith)
