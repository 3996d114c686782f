use Rattle.std.proofs.Common.{◌≡◌, ◌++◌}
use Rattle.trial_feed.specs.Folder.{joined}
use Rattle.trial_feed.specs.Rows.{route}
use Rattle.trial_feed.proofs.folder.routes_table.Given as goal

abbrev pub invariant-loop-number : goal.invariant-loop-number
invariant-loop-number l = l.text.items ≡ l.initial.text.items ++ joined route l.number
