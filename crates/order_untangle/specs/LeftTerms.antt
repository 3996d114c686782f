-- The terms that are left while a problem is untangled, and the numbers of those on each segment.
use Rattle.std.specs.Prelude.{◌≡◌, ℕ, ◌+◌, ◌<◌, ◌≤◌, ◌==◌, Bool, false, Option, Some, None, List, [], ◌∷◌, length, map, sum_by, if◌then◌else◌, slice_set, slice_index_or}
use Rattle.std.specs.List.{AllByRecursion}
use Rattle.map_base.specs.declared.ids.SegId.{SegId}
use Rattle.map_base.specs.declared.ids.LineId.{LineId}
use Rattle.order_model.specs.declared.term.Term.{Term}
use Rattle.order_model.specs.Costs.{seg_of, other_of}
use Rattle.order_model.specs.Parts.{is_between}
use Rattle.order_model.specs.PartTerms.{with_number}
use Rattle.order_rules.specs.PairWeights.{is_on}
use Rattle.order_rules.specs.Merging.{turned, moved}
use Rattle.order_rules.specs.Dividing.{is_across, sent}

-- so many segments, and the terms that are left, in their order
pub record Listing : Type 0 where
  pub count : ℕ
  pub terms : List Term

-- these are the terms on a segment, in any order: whatever is summed over them is summed over the terms on the segment
pub record AreTermsOn (s : SegId) (terms here : List Term) : Type 0 where
  pub sums : (g : Term → ℕ) → sum_by g here ≡ sum_by (λ t. if is_on s t then g t else 0) terms
  pub few : length here ≤ 4000000

-- the terms in cells, some of which are empty
abbrev pub left : List (Option Term) → List Term
left [] = []
left (None ∷ cells) = left cells
left (Some t ∷ cells) = t ∷ left cells

-- the cell has a term that stands on the segment
abbrev pub holds_on : SegId → Option Term → Bool
holds_on s None = false
holds_on s (Some t) = is_on s t

-- the cell with a number, an empty one past the end
abbrev pub cell_at : List (Option Term) → ℕ → Option Term
cell_at cells n = slice_index_or cells n None

-- the terms in the cells with these numbers
abbrev pub live : List (Option Term) → List ℕ → List Term
live cells numbers = left (map (cell_at cells) numbers)

-- a sum over cells with their numbers, from k on
abbrev pub cells_sum : (ℕ → Option Term → ℕ) → ℕ → List (Option Term) → ℕ
cells_sum h k [] = 0
cells_sum h k (c ∷ cells) = h k c + cells_sum h (k + 1) cells

-- the numbers of a segment's terms, each once, and of some cells that are empty: whatever is summed over the cells with
-- these numbers is summed over those that hold a term of the segment
pub record AreOf (cells : List (Option Term)) (s : SegId) (numbers : List ℕ) : Type 0 where
  pub sums : (h : ℕ → Option Term → ℕ) → ((n : ℕ) → h n None ≡ 0)
      → sum_by (λ n. h n (cell_at cells n)) numbers ≡ cells_sum (λ n c. if holds_on s c then h n c else 0) 0 cells

-- the segments of a term are among so many, and the lesser one stands first
pub record IsFit (n : ℕ) (t : Term) : Type 0 where
  pub lesser_first : turned t ≡ t
  pub seg_known : (seg_of t).0 < n
  pub other_known : (other_of t).0 < n

-- the segments of the term of a cell, where it is not empty, are among so many, and the lesser one stands first
abbrev pub IsFitCell : ℕ → Option Term → Type 0
IsFitCell n None = Unit {0}
IsFitCell n (Some t) = IsFit n t

-- each segment has the numbers of its terms
pub record AreListed (cells : List (Option Term)) (on : List (List ℕ)) : Type 0 where
  pub few : length cells ≤ 4000000
  pub fit : AllByRecursion (IsFitCell (length on)) cells
  pub each : (s : SegId) → AreOf cells s (slice_index_or on s.0 [])

-- cells of which those with these numbers are changed, one by one
abbrev pub changed : (Option Term → Option Term) → List (Option Term) → List ℕ → List (Option Term)
changed f cells [] = cells
changed f cells (n ∷ numbers) = changed f (slice_set cells n (f (cell_at cells n))) numbers

-- what becomes of a cell in a merge
abbrev pub merged_cell : SegId → SegId → Bool → Option Term → Option Term
merged_cell e f flip None = None
merged_cell e f flip (Some t) = if is_between t e.0 f.0 then None else Some (moved e f flip t)

-- what becomes of a cell in a division
abbrev pub divided_cell : SegId → SegId → List LineId → List LineId → Option Term → Option Term
divided_cell e new group rest None = None
divided_cell e new group rest (Some t) = if is_across e group rest t then None else Some (sent e new rest t)

-- the segments of a term get one more number
abbrev pub with_ends : Term → ℕ → List (List ℕ) → List (List ℕ)
with_ends t n on =
    if (other_of t).0 == (seg_of t).0
    then with_number (seg_of t).0 n on
    else with_number (other_of t).0 n (with_number (seg_of t).0 n on)
