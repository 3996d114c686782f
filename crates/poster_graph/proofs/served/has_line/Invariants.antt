use Rattle.std.proofs.Common.{◌≡◌, ◌==◌, false, take}
use Rattle.std.specs.List.{list_any}
use Rattle.map_base.specs.declared.ids.LineId.{LineId}
use Rattle.poster_graph.proofs.served.has_line.Given as goal

-- none of the lines so far is it
abbrev pub invariant-loop-other : goal.invariant-loop-other
invariant-loop-other l = list_any (λ (a : LineId). a.0 == l.line.0) (take l.other-index l.lines) ≡ false
