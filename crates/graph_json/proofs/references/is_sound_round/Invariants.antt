use Rattle.std.proofs.Common.{◌≡◌, ◌+◌, ◌≤◌, length, drop}
use Rattle.std.specs.List.{list_all}
use Rattle.graph_core.specs.Round.{segments_at, segments_from}
use Rattle.graph_json.specs.References.{has_seg}
use Rattle.graph_json.proofs.references.is_sound_round.Given as goal

-- what is found and what is left are the whole
abbrev pub invariant-loop-s : goal.invariant-loop-s
invariant-loop-s l =
    (l.found + length (segments_from l.s l.n (drop l.s l.ends)) ≡ length (segments_at l.n l.ends))
    × (list_all (has_seg l.round) (segments_from l.s l.n (drop l.s l.ends)) ≡ list_all (has_seg l.round) (segments_at l.n l.ends))
    × (l.found ≤ l.s)
