use Rattle.std.proofs.Common.{◌≡◌, ◌++◌}
use Rattle.trial_feed.specs.Folder.{row_north}
use Rattle.trial_feed.proofs.folder.push_row_north.Given as goal

abbrev pub invariant-loop-east : goal.invariant-loop-east
invariant-loop-east l = l.text.items ≡ l.initial.text.items ++ row_north l.north l.east
