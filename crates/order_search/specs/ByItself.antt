-- A part of a problem by itself: its segments and its terms have numbers of their own, from 0 on, in their order.
use Rattle.std.specs.Prelude.{ℕ, ℤ, ◌+◌, ◌==◌, List, [], ◌∷◌, map, if◌then◌else◌, slice_index_or}
use Rattle.map_base.specs.declared.ids.SegId.{SegId}
use Rattle.order_model.specs.declared.term.Term.{Term}
use Rattle.order_model.specs.declared.term.Term.TheVariants.{Side, Link, Apart}
use Rattle.order_model.specs.declared.problem.ProblemParts.{ProblemParts}
use Rattle.order_model.specs.Problems.{lines_on}
use Rattle.order_model.specs.PartTerms.{part_terms, plain_terms}
use Rattle.order_proof.specs.Plain.{PlainTree, split, close, Cases, no_case, case_of}

-- the place of a number among these
abbrev pub place_among : List ℕ → ℕ → ℕ
place_among [] n = 0
place_among (m ∷ numbers) n = if m == n then 0 else 1 + place_among numbers n

-- the numbers of segments
abbrev pub seg_numbers : List SegId → List ℕ
seg_numbers part = map (λ (s : SegId). s.0) part

-- the place of a segment in its part
abbrev pub place_in : List SegId → SegId → ℕ
place_in part s = place_among (seg_numbers part) s.0

-- a segment of the part, numbered by its place there
abbrev pub seg_in : List SegId → SegId → SegId
seg_in part s = record { 0 = place_in part s }

-- a term of the part, with segments numbered from 0 within the part
abbrev pub term_in : List SegId → Term → Term
term_in part (Side seg first second w) = Side (seg_in part seg) first second w
term_in part (Link seg other flip a b w) = Link (seg_in part seg) (seg_in part other) flip a b w
term_in part (Apart seg other a b w) = Apart (seg_in part seg) (seg_in part other) a b w

-- a part as a problem by itself: its lists of lines and its terms in order, with segments numbered from 0 within the part
abbrev pub by_itself : ProblemParts → List SegId → ProblemParts
by_itself p part = record {
  segs = map (lines_on p.segs) part;
  terms = map (term_in part) (plain_terms (part_terms p.terms part));
}

-- as many segments as these, numbered from k on
abbrev pub numbered_like : ℕ → List SegId → List SegId
numbered_like k [] = []
numbered_like k (s ∷ part) = record { 0 = k } ∷ numbered_like (k + 1) part

-- the segments of a part by itself: 0, 1 and so on
abbrev pub own_segments : List SegId → List SegId
own_segments part = numbered_like 0 part

-- Trees with other numbers.

-- prices of terms with other numbers
abbrev pub prices_by : (ℕ → ℕ) → List (ℕ × ℤ) → List (ℕ × ℤ)
prices_by number prices = map (λ (q : ℕ × ℤ). (number q.0, q.1)) prices

-- a tree whose segments and terms have other numbers
abbrev mutual
  pub tree_by : (SegId → SegId) → (ℕ → ℕ) → PlainTree → PlainTree
  tree_by seg number (split s cases) = split (seg s) (cases_by seg number cases)
  tree_by seg number (close prices) = close (prices_by number prices)

  pub cases_by : (SegId → SegId) → (ℕ → ℕ) → Cases → Cases
  cases_by seg number no_case = no_case
  cases_by seg number (case_of a tree rest) = case_of a (tree_by seg number tree) (cases_by seg number rest)

-- the segment at a place of the part
abbrev pub seg_from : List SegId → SegId → SegId
seg_from part s = slice_index_or part s.0 (record { 0 = 0 })

-- the number at a place of these
abbrev pub number_from : List ℕ → ℕ → ℕ
number_from numbers k = slice_index_or numbers k 0

-- a tree of a part by itself, with the numbers that its segments and its terms have in the problem
abbrev pub renumbered : List SegId → List ℕ → PlainTree → PlainTree
renumbered part numbers tree = tree_by (seg_from part) (number_from numbers) tree

-- a tree of the problem's part, with the numbers that its segments and its terms have in the part by itself
abbrev pub own_tree : List SegId → List ℕ → PlainTree → PlainTree
own_tree part numbers tree = tree_by (seg_in part) (place_among numbers) tree
