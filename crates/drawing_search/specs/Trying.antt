-- A search under way.
use Rattle.std.specs.Prelude.{◌≡◌, ℕ, ◌<◌, Bool, true, false, List, length, Option, Some, None, slice_index_or}
use Rattle.std.specs.List.{filter_map}
use Rattle.graph_core.specs.declared.parts.GraphParts.{GraphParts}
use Rattle.octi_grid.specs.Walks.{PlainWalk}
use Rattle.walk_search.specs.Routes.{if_within}
use Rattle.line_chains.specs.declared.chain.Chain.{Chain}
use Rattle.run_laying.specs.Laying.{board_under, laid_along, run_walk, Sketch}
use Rattle.run_laying.specs.Sketches.{is_standing}

-- the walks of a sketch
abbrev pub walks_of : Sketch → List PlainWalk
walks_of k = filter_map (λ w. w) k.walks

-- all nodes stand, and all segments have walks
pub record IsWhole (k : Sketch) : Type 0 where
  pub nodes : (n : ℕ) → n < length k.stand → is_standing k n ≡ true
  pub walks : (i : ℕ) → i < length k.walks → (w : PlainWalk) × (slice_index_or k.walks i None ≡ Some w)

-- a run is laid by a walk that costs at most so much, if it can be
abbrev pub laid_within : GraphParts → ℕ → Chain → Sketch → Option Sketch
laid_within graph most c k = laid_along graph c k (if_within most (run_walk graph (board_under k) c))

-- a run was laid, or nothing has changed
abbrev pub IsLaid : Option Sketch → Sketch → Sketch → Bool → Type 0
IsLaid laid old new true = laid ≡ Some new
IsLaid laid old new false = (laid ≡ None) × (new ≡ old)
