use Rattle.std.proofs.Common.{◌≡◌, map, take}
use Rattle.map_edits.specs.Effects.{line_id}
use Rattle.map_edits.proofs.feed_ids.ids_of_lines.Given as goal

-- the ids of those that were seen
abbrev pub invariant-loop-line : goal.invariant-loop-line
invariant-loop-line l = l.ids ≡ map line_id (take l.line-index l.lines)
