-- What a walk over a tree tells.
use Rattle.std.specs.Prelude.{◌≡◌, Bool, true, false, ◌&&◌, nat_lt, List, length, ◌++◌, Option, Some, None}
use Rattle.map_base.specs.declared.ids.SegId.{SegId}
use Rattle.map_base.specs.declared.ids.LineId.{LineId}
use Rattle.order_model.specs.Problems.{lines_on}
use Rattle.order_model.specs.PartTerms.{is_in}
use Rattle.order_bound.specs.Accepting.{are_those_left}
use Rattle.order_model.specs.Questions.{Question}

-- yes where no node fails; else the lines on the way to the first that fails stand after those before
abbrev pub IsWalked : Option (List LineId) → List LineId → List LineId → Bool → Type 0
IsWalked outcome before after true = (outcome ≡ None) × (after ≡ before)
IsWalked outcome before after false = (lines : List LineId) × (outcome ≡ Some lines) × (after ≡ before ++ lines)

-- the test of a Split speaks of the lines of its children
abbrev pub split_test : Question → List (List LineId) → SegId → List LineId → Bool
split_test q placed s these = is_in q.part s && (nat_lt 0 (length these) && are_those_left (lines_on q.segs s) (lines_on placed s) these)
