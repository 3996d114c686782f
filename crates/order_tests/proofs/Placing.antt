-- Lines that are placed next.
use Rattle.std.proofs.Common.{◌≡◌, true, List}
use Rattle.std.specs.List.{Contains}
use Rattle.map_base.specs.declared.ids.LineId.{LineId}
use Rattle.order_model.specs.Places.{has_line}
use Rattle.order_model.specs.Prefixes.{is_left, is_unplaced}
use Rattle.order_model.proofs.Lines.{both_true}
use Rattle.order_tests.proofs.Checked.{has_contains}

-- a line that is left stands on the segment
pub left_on : (lines placed : List LineId) (a : LineId) → is_left lines placed a ≡ true → Contains lines a
left_on lines placed a h = has_contains lines a (both_true (has_line lines a) (is_unplaced placed a) h).0
