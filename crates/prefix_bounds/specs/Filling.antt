-- A part with the lines of a prefix placed, segment by segment.
use Rattle.std.specs.Prelude.{List, slice_set, if◌then◌else◌}
use Rattle.map_base.specs.declared.ids.SegId.{SegId}
use Rattle.map_base.specs.declared.ids.LineId.{LineId}
use Rattle.order_model.specs.Prefixes.{is_left, with_line}
use Rattle.part_bounds.specs.PartStates.{PartState, with_placed}

-- the part with these placed lines on a segment
abbrev pub filled : PartState → SegId → List LineId → PartState
filled b s lines = with_placed b (slice_set b.placed s.0 lines)

-- the placed lines of a segment once a line is placed, unless it is
abbrev pub with_left : List LineId → List LineId → LineId → List LineId
with_left lines placed a = if is_left lines placed a then with_line lines placed a else placed
