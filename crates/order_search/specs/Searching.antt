-- A search under way.
use Rattle.std.specs.Prelude.{◌≡◌, ℕ, ◌+◌, ◌<◌, ◌≤◌, ◌^◌, List, [], ◌++◌, length, take, drop, slice_index_or, All, Some, None}
use Rattle.std.specs.List.{AllByRecursion}
use Rattle.map_base.specs.declared.ids.SegId.{SegId}
use Rattle.map_base.specs.declared.ids.LineId.{LineId}
use Rattle.graph_core.specs.Consistent.{AreRising}
use Rattle.order_model.specs.declared.term.Term.{Term}
use Rattle.order_model.specs.declared.problem.ProblemParts.{ProblemParts}
use Rattle.order_model.specs.Problems.{IsTerm}
use Rattle.order_model.specs.Parts.{IsRisingPart}
use Rattle.order_model.specs.PartTerms.{part_terms}
use Rattle.part_bounds.specs.PartStates.{PartState, IsWell}
use Rattle.order_search.specs.declared.child.Child.{Child}
use Rattle.order_search.specs.declared.search_state.Search.{Search}
use Rattle.order_search.specs.declared.found.SearchFault.{SearchFault}
use Rattle.order_search.specs.declared.found.SearchFault.TheVariants as fault
use Rattle.order_model.specs.Prefixes.{none_placed}
use Rattle.order_model.specs.Completions.{placed_more}
use Rattle.order_search.specs.Left.{first_open}
use Rattle.order_search.specs.Children.{lines_in}
use Rattle.order_search.specs.LiveTrees.{BoundedPart, Best, number_order, GrownTree, GrownCases, grow_cases, live_at}
use Rattle.order_search.specs.Bounded.{bounded_part}
use Rattle.order_search.specs.Pricing.{unpriced}

-- the part of a state
abbrev pub part_of : PartState → BoundedPart
part_of b = bounded_part b.segs b.part b.terms

-- the best so far of a search
abbrev pub best_of : Search → Best
best_of search = record { cost = search.cost; lists = search.lists.items }

-- the tree that is due for the prefix of a search, yet without prices
abbrev pub due : Search → GrownTree
due search = live_at (unpriced (part_of search.bounds)) search.bounds.placed (best_of search)

-- the segment at a place of the part
abbrev pub seg_at : ℕ → Search → SegId
seg_at at search = slice_index_or search.bounds.part at (record { 0 = 0 })

-- the tree that is due for the prefix with one line more on the segment at a place
abbrev pub due_case : ℕ → LineId → Search → GrownTree
due_case at line search =
    live_at (unpriced (part_of search.bounds)) (placed_more search.bounds.segs search.bounds.placed (seg_at at search) line) (best_of search)

-- the cases that are due for the children from `start` on, by the segment at a place
abbrev pub due_cases : ℕ → ℕ → Search → GrownCases
due_cases at start search =
    grow_cases (live_at (unpriced (part_of search.bounds))) (unpriced (part_of search.bounds)) search.bounds.placed (seg_at at search)
    (lines_in (drop start search.children.items)) (best_of search)

-- the first so many of them
abbrev pub due_upto : ℕ → ℕ → ℕ → Search → GrownCases
due_upto at start count search =
    grow_cases (live_at (unpriced (part_of search.bounds))) (unpriced (part_of search.bounds)) search.bounds.placed (seg_at at search)
    (take count (lines_in (drop start search.children.items))) (best_of search)

-- the part is one of the problem's, with its terms
pub record IsOfProblem (problem : ProblemParts) (b : PartState) : Type 0 where
  pub terms : b.terms ≡ part_terms problem.terms b.part
  pub fits : All (IsTerm b.segs) problem.terms
  pub rises : IsRisingPart b.part

-- each of these children has the bound of the prefix in which its line is placed next on a segment
abbrev pub AreBounded : PartState → SegId → List Child → Type 0
AreBounded b s children = AllByRecursion (λ (c : Child). c.bound ≡ (part_of b).bound (placed_more b.segs b.placed s c.line)) children

-- the search has a prefix of its part, and has not met more branch nodes than it may
pub record IsUnderWay (search : Search) : Type 0 where
  pub segs : search.problem.now.segs ≡ search.bounds.segs
  pub part : search.part.now ≡ search.bounds.part
  pub problem : IsOfProblem search.problem.now search.bounds
  pub rising : All AreRising search.bounds.segs
  pub known : All (λ (s : SegId). s.0 < length search.bounds.segs) search.bounds.part
  pub well : IsWell search.bounds.segs search.bounds.placed
  pub within : search.spent ≤ search.budget
  pub budget : search.budget + 1 < 2 ^ 32

-- the search of a part has begun: nothing is chosen, and the number order is the best so far
pub record IsBegun (segs : List (List LineId)) (part : List SegId) (terms : List (ℕ × Term)) (budget : ℕ) (search : Search) : Type 0 where
  pub under_way : IsUnderWay search
  pub bounds : search.bounds ≡ record { segs = segs; part = part; terms = terms; placed = none_placed segs }
  pub root : search.root_bound ≡ (part_of search.bounds).bound search.bounds.placed
  pub best : best_of search ≡ number_order (bounded_part segs part terms)
  pub spent : search.spent ≡ 0
  pub given : search.budget ≡ budget
  pub children : search.children.items ≡ []

-- no line is left on the first so many segments of the part
abbrev pub AreShut : ℕ → Search → Type 0
AreShut at search = first_open search.bounds.segs (take at search.bounds.part) search.bounds.placed ≡ None

-- a line is left on the segment at a place of the part, and none on those before it
pub record IsOpenAt (at : ℕ) (search : Search) : Type 0 where
  pub within : at < length search.bounds.part
  pub shut : AreShut at search
  pub first : first_open search.bounds.segs search.bounds.part search.bounds.placed ≡ Some (seg_at at search)

-- the search has the same prefix, budget and waiting children as before
pub record IsKept (old new : Search) : Type 0 where
  pub under_way : IsUnderWay new
  pub bounds : new.bounds ≡ old.bounds
  pub budget : new.budget ≡ old.budget
  pub children : new.children.items ≡ old.children.items

-- the search has these children more, behind those that wait
pub record HasChildren (old new : Search) (more : List Child) : Type 0 where
  pub under_way : IsUnderWay new
  pub bounds : new.bounds ≡ old.bounds
  pub budget : new.budget ≡ old.budget
  pub spent : new.spent ≡ old.spent
  pub found : best_of new ≡ best_of old
  pub children : new.children.items ≡ old.children.items ++ more

-- and it has met leaves after which this is the best so far, and so many branch nodes
pub record HasGrown (old new : Search) (best : Best) (branches : ℕ) : Type 0 where
  pub kept : IsKept old new
  pub found : best_of new ≡ best
  pub spent : new.spent ≡ old.spent + branches

-- the search stops for want of memory, or since so many branch nodes are more than the budget
abbrev pub IsStop : ℕ → ℕ → SearchFault → Type 0
IsStop budget branches (fault.Spent n) = (budget < branches) × (n ≡ budget + 1)
IsStop budget branches (fault.TooDeep l) = ⊥
IsStop budget branches fault.NoMemory = Unit {0}
