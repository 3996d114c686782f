-- Groups of lines that can stand before the other lines of their segment.
use Rattle.std.specs.Prelude.{◌≡◌, true, false, List}
use Rattle.map_base.specs.declared.ids.SegId.{SegId}
use Rattle.map_base.specs.declared.ids.LineId.{LineId}
use Rattle.order_model.specs.declared.problem.ProblemParts.{ProblemParts}
use Rattle.order_model.specs.Problems.{lines_on}
use Rattle.order_model.specs.Places.{has_line}
use Rattle.order_rules.specs.Dividing.{most_apart, can_part}

-- each line of the segment that some line of the group can't stand before is of the group
abbrev pub IsClosed : ProblemParts → SegId → List LineId → Type 0
IsClosed p e group = (a b : LineId) → has_line group a ≡ true → has_line (lines_on p.segs e) b ≡ true
    → can_part (most_apart p.segs p.terms e) p.terms e a b ≡ false → has_line group b ≡ true

-- each line of the one is a line of the other
abbrev pub IsWithin : List LineId → List LineId → Type 0
IsWithin group other = (a : LineId) → has_line group a ≡ true → has_line other a ≡ true
