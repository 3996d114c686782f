use Rattle.std.proofs.Common.{◌≡◌, ◌+◌, ◌++◌}
use Rattle.trial_feed.specs.Folder.{joined, row_north}
use Rattle.trial_feed.proofs.folder.stops_table.Given as goal

abbrev pub invariant-loop-north : goal.invariant-loop-north
invariant-loop-north l = l.text.items ≡ l.initial.text.items ++ joined (λ north. row_north north (l.side + 1)) l.north
