use Rattle.std.proofs.Common.{◌≡◌, ◌+◌, ◌++◌, drop}
use Rattle.trial_feed.specs.Folder.{calls_from}
use Rattle.trial_feed.proofs.folder.push_calls.Given as goal

abbrev pub invariant-loop-place : goal.invariant-loop-place
invariant-loop-place l = l.text.items ++ calls_from l.number (l.place + 1) (drop l.place l.stops) ≡ l.initial.text.items ++ calls_from l.number 1 l.stops
