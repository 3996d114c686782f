use Rattle.std.proofs.Common.{◌≡◌, map, drop}
use Rattle.map_edits.specs.Effects.{line_id, lines_after}
use Rattle.map_edits.proofs.changed_lines.change_lines_by.Given as goal

-- the ids stay, and the edits that are left make of what there is what all of them make
abbrev pub invariant-loop-edit : goal.invariant-loop-edit
invariant-loop-edit l = record {
  same_ids : l.ids ≡ map line_id l.lines.items;
  done : lines_after (drop l.edit-index l.edits) l.lines.items ≡ lines_after l.edits l.fn.lines.items;
}
