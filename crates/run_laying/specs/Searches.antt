-- Local search: passes over attempts, each of which is made where it makes the drawing lighter.
use Rattle.std.specs.Prelude.{ℕ, zero, suc, ◌+◌, ◌*◌, ◌==◌, nat_le, min, List, [], ◌∷◌, map, fold, if◌then◌else◌, Option, Some, None}
use Rattle.std.specs.List.{flat_map, range_with_len}
use Rattle.map_base.specs.declared.ids.NodeId.{NodeId}
use Rattle.graph_core.specs.declared.parts.GraphParts.{GraphParts}
use Rattle.line_chains.specs.declared.chain.Chain.{Chain}
use Rattle.octi_grid.specs.declared.dir.Dir.{Dir}
use Rattle.octi_grid.specs.declared.dir.Dir.TheVariants as dir
use Rattle.octi_grid.specs.Walks.{PlainWalk}
use Rattle.walk_search.specs.Routes.{directions}
use Rattle.drawing_weights.specs.Scales.{weight_by, Scale}
use Rattle.run_laying.specs.Attempts.{bounds_past, improving, Attempt}

-- ---- attempts by vectors

-- a run is laid anew, and no node moves
abbrev pub attempts_alone : Chain → Attempt
attempts_alone c = record { nodes = []; dir = dir.N; count = 0; runs = c ∷ [] }

-- nodes move by so many steps in each direction
abbrev pub attempts_of_length : List NodeId → List Chain → ℕ → List Attempt
attempts_of_length nodes runs count = map (λ d. record { nodes = nodes; dir = d; count = count; runs = runs }) directions

-- nodes move by vectors of so many lengths, 2, 4 and so on, each in the directions clockwise from north
abbrev pub attempts_by : ℕ → List NodeId → List Chain → List Attempt
attempts_by lengths nodes runs = flat_map (λ k. attempts_of_length nodes runs (2 * (k + 1))) (range_with_len 0 lengths)

-- ---- passes

-- the walks after attempts, and how many of them were made
pub record Found : Type 0 where
  pub walks : List PlainWalk
  pub made : ℕ

-- an attempt is made, if it gave walks
abbrev pub found_with : Found → Option (List PlainWalk) → Found
found_with f None = f
found_with f (Some walks) = record { walks = walks; made = f.made + 1 }

-- an attempt is made where it makes the drawing lighter, if not so many were made before
abbrev pub after_attempt : (List PlainWalk → Attempt → Option (List PlainWalk)) → ℕ → Found → Attempt → Found
after_attempt try most f a = if nat_le most f.made then f else found_with f (try f.walks a)

-- a pass over all attempts, of which at most so many are made
abbrev pub after_pass : (List PlainWalk → Attempt → Option (List PlainWalk)) → List Attempt → ℕ → Found → Found
after_pass try attempts most f = fold (after_attempt try most) f attempts

-- the next passes, unless this one made nothing
abbrev pub unless_same : Found → Found → (Found → Found) → Found
unless_same old new next = if new.made == old.made then old else next new

-- Passes follow each other until one makes nothing. In each at most `at_once` attempts are made, and `most` in all; each
-- but the last one makes one at least, so as many passes are enough.
abbrev pub after_passes : (List PlainWalk → Attempt → Option (List PlainWalk)) → List Attempt → ℕ → ℕ → ℕ → Found → Found
after_passes try attempts at_once most zero f = f
after_passes try attempts at_once most (suc passes) f =
    unless_same f (after_pass try attempts (min most (f.made + at_once)) f) (after_passes try attempts at_once most passes)

-- what comes of a drawing, weighed by a scale, on a board that reaches so many steps past it
abbrev pub searched : GraphParts → Scale → ℕ → List Attempt → ℕ → ℕ → List PlainWalk → Found
searched graph scale margin attempts at_once most walks =
    after_passes (improving graph (bounds_past margin walks) (weight_by scale graph walks)) attempts at_once most most (record { walks = walks; made = 0 })
