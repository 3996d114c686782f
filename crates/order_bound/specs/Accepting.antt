-- Which trees show that no completion of a prefix costs less than a target.
use Rattle.std.specs.Prelude.{ℕ, ℤ, pos, int_le, nat_lt, Bool, true, false, ◌&&◌, ◌||◌, List, [], ◌∷◌, length, if◌then◌else◌, Option, Some, None}
use Rattle.std.specs.List.{list_all}
use Rattle.map_base.specs.declared.ids.SegId.{SegId}
use Rattle.map_base.specs.declared.ids.LineId.{LineId}
use Rattle.order_model.specs.declared.term.Term.{Term}
use Rattle.order_model.specs.Problems.{lines_on}
use Rattle.order_model.specs.Prefixes.{is_placed, is_left}
use Rattle.order_model.specs.PartTerms.{is_in}
use Rattle.order_model.specs.Completions.{placed_more}
use Rattle.order_model.specs.Questions.{Question}
use Rattle.order_proof.specs.Plain.{PlainTree, split, close, Cases, no_case, case_of}
use Rattle.order_proof.specs.Trees.{is_among, lines_of}
use Rattle.order_bound.specs.Values.{value}

-- there is a value, and it is at least the target
abbrev pub reaches : ℕ → Option ℤ → Bool
reaches target None = false
reaches target (Some v) = int_le (pos target) v

-- a Close holds where its prices are allowed, and their value is at least the target
abbrev pub is_closed : Question → List (List LineId) → List (ℕ × ℤ) → Bool
is_closed q placed prices = reaches q.target (value q.segs q.part q.terms placed prices)

-- these are exactly the lines of a segment that are not placed
abbrev pub are_those_left : List LineId → List LineId → List LineId → Bool
are_those_left lines placed these = list_all (is_left lines placed) these && list_all (λ b. is_placed placed b || is_among these b) lines

-- a Split holds where its segment is of the part, and its lines are exactly those that are not placed, one at least
abbrev pub is_split : Question → List (List LineId) → SegId → List LineId → Bool
is_split q placed s these =
    is_in q.part s && (nat_lt 0 (length these) && are_those_left (lines_on q.segs s) (lines_on placed s) these)

-- a tree is accepted for a prefix where each of its nodes holds for the prefix with the lines on the way to it
abbrev mutual
  pub accepts : Question → List (List LineId) → PlainTree → Bool
  accepts q placed (split s cases) = is_split q placed s (lines_of cases) && accepts_cases q placed s cases
  accepts q placed (close prices) = is_closed q placed prices

  pub accepts_cases : Question → List (List LineId) → SegId → Cases → Bool
  accepts_cases q placed s no_case = true
  accepts_cases q placed s (case_of a tree rest) = accepts q (placed_more q.segs placed s a) tree && accepts_cases q placed s rest

-- one line more on the way
abbrev pub after_line : LineId → Option (List LineId) → Option (List LineId)
after_line a None = None
after_line a (Some way) = Some (a ∷ way)

-- the first of two, where there is one
abbrev pub first_of : Option (List LineId) → Option (List LineId) → Option (List LineId)
first_of None other = other
first_of (Some way) other = Some way

-- the lines on the way to the first node, in the order of the text, that does not hold
abbrev mutual
  pub failing : Question → List (List LineId) → PlainTree → Option (List LineId)
  failing q placed (split s cases) = if is_split q placed s (lines_of cases) then failing_case q placed s cases else Some []
  failing q placed (close prices) = if is_closed q placed prices then None else Some []

  pub failing_case : Question → List (List LineId) → SegId → Cases → Option (List LineId)
  failing_case q placed s no_case = None
  failing_case q placed s (case_of a tree rest) =
      first_of (after_line a (failing q (placed_more q.segs placed s a) tree)) (failing_case q placed s rest)
