use Rattle.std.proofs.Common.{◌≡◌, ◌++◌, drop}
use Rattle.trial_feed.specs.Lines.{stops_of}
use Rattle.trial_feed.specs.Folder.{lines_from}
use Rattle.trial_feed.proofs.folder.calls_table.Given as goal

abbrev pub invariant-loop-number : goal.invariant-loop-number
invariant-loop-number l = l.text.items ++ lines_from l.number (stops_of (drop l.number l.lines)) ≡ l.initial.text.items ++ lines_from 0 (stops_of l.lines)
