-- What is read of one segment: its lines and the terms on it.
use Rattle.std.specs.Prelude.{ℕ, zero, suc, ◌+◌, ◌==◌, Bool, true, false, ◌&&◌, ◌||◌, not, Option, Some, None, List, [], ◌∷◌, length, map, filter, replicate, if◌then◌else◌, slice_set, Vec}
use Rattle.std.specs.Global.{Global}
use Rattle.std.specs.List.{list_all}
use Rattle.map_base.specs.declared.ids.SegId.{SegId}
use Rattle.map_base.specs.declared.ids.LineId.{LineId}
use Rattle.order_model.specs.declared.term.Term.{Term}
use Rattle.order_model.specs.declared.problem.ProblemParts.{ProblemParts}
use Rattle.order_model.specs.Problems.{lines_on}
use Rattle.order_rules.specs.PairWeights.{is_apart, is_on, is_of_lines, weight_where, all_pairs, most_over_pairs}
use Rattle.order_rules.specs.Merging.{same_lines, have_flip, outweighs}
use Rattle.order_rules.specs.Dividing.{are_none, others, is_group, can_part, is_with, grown, closure}

-- the terms of a line
abbrev pub row_of : LineId → List Term → List Term
row_of a terms = filter (is_with (a ∷ [])) terms

-- two segments have equal lines and Links between them that all have this flip; `here` are the terms on the second
abbrev pub shares_by : List Term → List LineId → List LineId → SegId → SegId → Bool → Bool
shares_by here into_lines lines into from flip = not (into.0 == from.0) && same_lines into_lines lines && have_flip into from flip here

-- a segment with these lines and terms can take its order from another one
abbrev pub merges_by : List Term → List LineId → List LineId → SegId → SegId → Bool → Bool
merges_by here into_lines lines into from flip = shares_by here into_lines lines into from flip && all_pairs (outweighs into from here) lines

-- the greatest weight that the Aparts of two of these lines have together
abbrev pub most_by_lines : List Term → SegId → List LineId → ℕ
most_by_lines here e lines = most_over_pairs (λ a b. weight_where (λ t. is_apart t && is_on e t && is_of_lines a b t) here) lines

-- a group of these lines can stand before the others
abbrev pub divides_by : List Term → SegId → List LineId → List LineId → Bool
divides_by here e lines group =
    is_group lines group && list_all (λ a. list_all (can_part (most_by_lines here e lines) here e a) (others lines group)) group

-- line b is held by line a: it is a, or a can't stand before it
abbrev pub is_held_by : ℕ → List Term → SegId → LineId → LineId → Bool
is_held_by most here e b a = a.0 == b.0 || not (can_part most here e a b)

-- for each line, by place, which lines hold it
abbrev pub held_rows : ℕ → List Term → SegId → List LineId → List (List Bool)
held_rows most here e lines = map (λ b. map (is_held_by most here e b) lines) lines

-- tables as they lie in memory
abbrev pub rows_of : List (Vec Bool Global) → List (List Bool)
rows_of rows = map (λ (v : Vec Bool Global). v.items) rows

-- one of the marked places has an answer
abbrev pub any_marked : List Bool → List Bool → Bool
any_marked [] row = false
any_marked (m ∷ marks) [] = false
any_marked (m ∷ marks) (b ∷ row) = (m && b) || any_marked marks row

-- the marks of the lines that marked lines hold
abbrev pub next_marks : List (List Bool) → List Bool → List Bool
next_marks rows marks = map (any_marked marks) rows

-- marks grown so often
abbrev pub grown_marks : List (List Bool) → ℕ → List Bool → List Bool
grown_marks rows zero marks = marks
grown_marks rows (suc n) marks = grown_marks rows n (next_marks rows marks)

-- the lines whose places are marked
abbrev pub marked : List Bool → List LineId → List LineId
marked [] lines = []
marked (m ∷ marks) [] = []
marked (m ∷ marks) (a ∷ lines) = if m then a ∷ marked marks lines else marked marks lines

-- a group, where it is not all lines
abbrev pub group_if : List LineId → List LineId → Option (List LineId)
group_if lines group = if are_none (others lines group) then None else Some group

-- the closure of a line, where it is not all lines; by the terms of a segment
abbrev pub group_by : List Term → SegId → List LineId → LineId → Option (List LineId)
group_by here e lines a = group_if lines (grown (most_by_lines here e lines) here e lines (length lines) (a ∷ []))

-- the closure of a line of a segment of a problem, where it is not all lines
abbrev pub group_of : ProblemParts → SegId → LineId → Option (List LineId)
group_of p e a = group_if (lines_on p.segs e) (closure p e a)

-- the first that one of these lines has
abbrev pub first_group : (LineId → Option (List LineId)) → List LineId → Option (List LineId)
first_group f [] = None
first_group f (a ∷ lines) = elim (f a) as (λ _. Option (List LineId)) [ None ↦ first_group f lines | Some group ↦ Some group ]

-- the closure of the line at a place, by rows of which lines hold which, where it is not all lines
abbrev pub closure_at : List (List Bool) → List LineId → ℕ → List LineId
closure_at rows lines i = marked (grown_marks rows (length lines) (slice_set (replicate (length lines) false) i true)) lines

abbrev pub place_group : List (List Bool) → List LineId → ℕ → Option (List LineId)
place_group rows lines i = group_if lines (closure_at rows lines i)

-- the first that one of so many places has, from k on
abbrev pub first_at : (ℕ → Option (List LineId)) → ℕ → ℕ → Option (List LineId)
first_at f zero k = None
first_at f (suc n) k = elim (f k) as (λ _. Option (List LineId)) [ None ↦ first_at f n (k + 1) | Some group ↦ Some group ]

-- the flip with which a segment with these lines and terms can take its order from another one
abbrev pub flip_by : List Term → List LineId → List LineId → SegId → SegId → Option Bool
flip_by here into_lines lines into from =
    if merges_by here into_lines lines into from false
    then Some false
    else if merges_by here into_lines lines into from true then Some true else None

-- the first of these lines alone, where it is not all of them
abbrev pub first_alone : List LineId → Option (List LineId)
first_alone [] = None
first_alone (a ∷ []) = None
first_alone (a ∷ b ∷ lines) = Some (a ∷ [])
