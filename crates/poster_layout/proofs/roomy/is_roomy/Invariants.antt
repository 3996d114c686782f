use Rattle.std.proofs.Common.{◌≡◌, ◌++◌, drop, map}
use Rattle.poster_plan.specs.Pitches.{is_roomy, mark_thing, none_clash, piece_thing}
use Rattle.poster_table.specs.Tables.{IsTable}
use Rattle.poster_layout.proofs.roomy.is_roomy.Given as goal

-- nothing clashes in the table, and what is left decides
abbrev pub invariant-loop-mark : goal.invariant-loop-mark
invariant-loop-mark l = record {
  table : IsTable l.table;
  left : none_clash l.table.things.items (map (mark_thing l.pitch) (drop l.mark-index l.marks) ++ map (piece_thing l.pitch) l.pieces) ≡ is_roomy l.pitch l.fn.plan;
}

abbrev pub invariant-loop-piece : goal.invariant-loop-piece
invariant-loop-piece l = record {
  table : IsTable l.table;
  left : none_clash l.table.things.items (map (piece_thing l.pitch) (drop l.piece-index l.pieces)) ≡ is_roomy l.pitch l.fn.plan;
}
