use Rattle.std.proofs.Common.{◌≡◌, ◌-◌, ◌++◌}
use Rattle.trial_feed.specs.Lattice.{line_count}
use Rattle.trial_feed.specs.Lines.{lines, lines_drawn, stops_of}
use Rattle.trial_feed.proofs.walks.lines_of.Given as goal

abbrev pub invariant-loop-number : goal.invariant-loop-number
invariant-loop-number l = stops_of l.lines.items ++ lines_drawn (line_count l.fn.trial - l._number) l.side l.draws.state ≡ lines l.fn.trial
