use Rattle.std.proofs.Common.{◌≡◌, drop}
use Rattle.graph_json.specs.References.{rises_from, rises, is_before}
use Rattle.graph_json.proofs.references.joins_rise.Given as goal

-- what is left tells what the whole does
abbrev pub invariant-loop-join : goal.invariant-loop-join
invariant-loop-join l = rises_from is_before l.last (drop l.join-index l.later) ≡ rises is_before l.joins
