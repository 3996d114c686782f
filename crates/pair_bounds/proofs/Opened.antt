-- Where a pair is open.
use Rattle.std.proofs.Common.{◌≡◌, Bool, true, false, not, ◌&&◌, ◌||◌, refl, List}
use Rattle.map_base.specs.declared.ids.SegId.{SegId}
use Rattle.map_base.specs.declared.ids.LineId.{LineId}
use Rattle.order_model.specs.Problems.{lines_on}
use Rattle.order_model.specs.Places.{has_line}
use Rattle.order_model.specs.Prefixes.{is_placed, is_left}
use Rattle.order_bound.specs.declared.pairs.Pair.{Pair}
use Rattle.order_bound.specs.Pairs.{is_open_on}

-- a pair is open where both its lines are left
pub left_both : (segs placed : List (List LineId)) (p : Pair) (s : SegId)
    → is_open_on segs placed p s ≡ (is_left (lines_on segs s) (lines_on placed s) p.lesser && is_left (lines_on segs s) (lines_on placed s) p.greater)
left_both segs placed p s = by_tests (has_line (lines_on segs s) p.lesser) (has_line (lines_on segs s) p.greater) (is_placed (lines_on placed s) p.lesser) (is_placed (lines_on placed s) p.greater)
  where
    by_tests : (a b c d : Bool) → ((a && b) && not (c || d)) ≡ ((a && not c) && (b && not d))
    by_tests true true true d = refl
    by_tests true true false true = refl
    by_tests true true false false = refl
    by_tests true false true d = refl
    by_tests true false false d = refl
    by_tests false b c d = refl
