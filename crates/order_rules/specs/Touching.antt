-- What a rule leaves as it was.
use Rattle.std.specs.Prelude.{◌≡◌, ℕ, ◌==◌, Bool, false, ◌||◌, length}
use Rattle.map_base.specs.declared.ids.SegId.{SegId}
use Rattle.map_base.specs.declared.ids.LineId.{LineId}
use Rattle.order_values.specs.declared.rule.Rule.{Rule}
use Rattle.order_values.specs.declared.rule.Rule.TheVariants.{Merge, Divide}
use Rattle.order_model.specs.declared.problem.ProblemParts.{ProblemParts}
use Rattle.order_model.specs.Problems.{lines_on}
use Rattle.order_rules.specs.Untangling.{after_rule, merge_of, divide_of}

-- a rule touches a segment: the two of a merge, the one that is divided and the new one
abbrev pub touches : ProblemParts → Rule → ℕ → Bool
touches p (Merge into from flip) s = s == into.0 || s == from.0
touches p (Divide seg first) s = s == seg.0 || s == length p.segs

-- segments that the rule does not touch keep their lines, and what can be done at them is what could be done before
pub record IsLocal (p : ProblemParts) (r : Rule) : Type 0 where
  pub lines : (e : SegId) → touches p r e.0 ≡ false → lines_on (after_rule p r).segs e ≡ lines_on p.segs e
  pub merges : (e f : SegId) → touches p r e.0 ≡ false → touches p r f.0 ≡ false → merge_of (after_rule p r) e f ≡ merge_of p e f
  pub divides : (e : SegId) (a : LineId) → touches p r e.0 ≡ false → divide_of (after_rule p r) e a ≡ divide_of p e a
