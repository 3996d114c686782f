use Rattle.poster_graph.proofs.Flags.{keep_flag_if, set_flag_if}
use Rattle.poster_graph.proofs.texts.note_second.Goals as goal

pub returns-then-not-same-clause-flagged : goal.returns-then-not-same-clause-flagged
returns-then-not-same-clause-flagged c = λ k. keep_flag_if c.args.seconds.now c.args.n.0 k c.args.same c.if-not-same.true

pub returns-clause-flagged : goal.returns-clause-flagged
returns-clause-flagged c = λ k. set_flag_if c.args.seconds.now c.args.n.0 k c.args.same c.requires c.if-not-same.false
