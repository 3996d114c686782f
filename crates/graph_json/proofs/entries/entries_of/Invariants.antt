use Rattle.std.proofs.Common.{◌≡◌, map, drop}
use Rattle.serde_json.specs.View.{view}
use Rattle.graph_json.specs.Outcome.{each_or_first}
use Rattle.graph_json.proofs.Lists.{prefixed}
use Rattle.graph_json.proofs.entries.entries_of.Given as goal

-- what is read and what is left are the whole
abbrev pub invariant-loop-i : goal.invariant-loop-i
invariant-loop-i g l =
    prefixed l.entries.items (each_or_first g.T.Entry.entry l.i (map view (drop l.i l.values))) ≡ each_or_first g.T.Entry.entry 0 (map view l.values)
