-- What straightening and moves promise comes of what a search does.
use Rattle.std.proofs.Common.{◌≡◌, ◌∙◌, ap, subst, refl, ℕ, zero, suc, ◌+◌, ◌*◌, ◌<◌, ◌≤◌, Bool, true, cond, List, length, get_or, ◌⊎◌, false, inl, inr, Option, None, arith}
use Rattle.std.specs.Prelude.{All}
use Rattle.std.specs.List.{list_all, range_with_len, sum_by}
use Rattle.std.proofs.lemmas.List.Sums.{sum_by-cons}
use Rattle.graph_core.specs.declared.parts.GraphParts.{GraphParts}
use Rattle.graph_core.specs.Consistent.{IsConsistent}
use Rattle.line_chains.specs.Bends.{corners_of}
use Rattle.line_chains.specs.Chains.{chains_of}
use Rattle.octi_grid.specs.Walks.{points_of, PlainWalk}
use Rattle.octi_grid.proofs.Members.{all_at, all_from}
use Rattle.grid_board.specs.Points.{are_near, is_near}
use Rattle.segment_router.proofs.Places.{in_at}
use Rattle.drawing_weights.specs.Scales.{node_weight_by, turns_over, walk_weight_by, weight_by, Scale}
use Rattle.drawing_weights.specs.Weights.{point_of, square_apart}
use Rattle.drawing_weights.proofs.Spans.{within_near}
use Rattle.run_laying.specs.Attempts.{bounds_past, improving, Attempt}
use Rattle.run_laying.specs.Searches.{after_passes, Found}
use Rattle.drawing_search.specs.declared.searching.Searched.{Searched}
use Rattle.drawing_search.specs.Searched.{IsSearched}
use Rattle.drawing_search.proofs.RunReads.{near_more}
use Rattle.kept_walks.specs.Groups.{AreRunsOf}
use Rattle.kept_walks.specs.Lighter.{IsMadeLighter}
use Rattle.kept_walks.specs.Moves.{move_attempts, moves_scale, IsImproved}
use Rattle.kept_walks.specs.Straightening.{straight_attempts, straight_scale, IsStraightened}
use Rattle.kept_walks.proofs.ChainRuns.{chain_run}
use Rattle.kept_walks.proofs.Ending.{ended}
use Rattle.kept_walks.proofs.Fitting.{all_of}

-- walks that lie near the origin lie near it by a wider measure
pub farther : (few most : ℕ) → few ≤ most → (walks : List PlainWalk) → are_near few walks ≡ true → are_near most walks ≡ true
farther few most h walks e =
    all_from (λ (w : PlainWalk). list_all (is_near most) (points_of w)) walks
    (λ w m. all_from (is_near most) (points_of w) (λ p k. near_more few most h p (all_at (is_near few) (points_of w) p (all_at (λ (x : PlainWalk). list_all (is_near few) (points_of x)) walks w e m) k)))

-- chains between the corners are runs of the graph
pub chains_are_runs : (graph : GraphParts) → IsConsistent graph → (cell : ℕ) → AreRunsOf graph (chains_of graph (corners_of graph cell))
chains_are_runs graph fit cell = λ i d h. chain_run graph fit cell (get_or (chains_of graph (corners_of graph cell)) i d) (in_at (chains_of graph (corners_of graph cell)) i d h)

-- ---- scales by which each drawing of a graph weighs the same

abbrev AreAlike : GraphParts → Scale → Scale → Type 0
AreAlike graph one other = (first walks : List PlainWalk) → weight_by one graph first walks ≡ weight_by other graph first walks

sums_alike : (f g : ℕ → ℕ) (a k : ℕ) → ((n : ℕ) → n < a + k → f n ≡ g n) → sum_by f (range_with_len a k) ≡ sum_by g (range_with_len a k)
sums_alike f g a zero same = refl
sums_alike f g a (suc k) same =
    let rest = sums_alike f g (a + 1) k (λ n h. same n (omega (arith, h))) in
    omega (arith, sum_by-cons f a (range_with_len (a + 1) k), sum_by-cons g a (range_with_len (a + 1) k), same a (omega arith), rest)

-- where the distances of the same nodes of the graph count
held_alike : (graph : GraphParts) (scale : Scale) (held : ℕ → Bool) → ((n : ℕ) → n < length graph.kinds → held n ≡ scale.is_held n)
    → AreAlike graph (record scale { is_held = held }) scale
held_alike graph scale held same first walks =
    ap (λ k. sum_by (walk_weight_by scale) walks + k)
    (sums_alike (node_weight_by (record scale { is_held = held }) graph first walks) (node_weight_by scale graph first walks) 0 (length graph.kinds)
    (λ n h. ap (λ b. scale.overs * turns_over graph walks n + cond b (scale.aparts * square_apart (point_of graph first n) (point_of graph walks n)) 0) (same n (omega (arith, h)))))

-- ---- what a search comes to

module _ (graph : GraphParts) (margin : ℕ) (attempts : List Attempt) (at_once most : ℕ) (first : List PlainWalk) (s : Searched) where
  abbrev try : (List PlainWalk → ℕ) → List PlainWalk → Attempt → Option (List PlainWalk)
  try weigh = improving graph (bounds_past margin first) weigh

  abbrev found_by : (List PlainWalk → ℕ) → Found
  found_by weigh = after_passes (try weigh) attempts at_once most most (record { walks = first; made = 0 })

  abbrev IsAtTheEnd : (List PlainWalk → ℕ) → Type 0
  IsAtTheEnd weigh = (s.made ≡ most) ⊎ All (λ (a : Attempt). try weigh s.drawing.walks a ≡ None) attempts

  to_the_end : (weigh : List PlainWalk → ℕ) → (0 < most → 0 < at_once) → s.drawing.walks ≡ (found_by weigh).walks → s.made ≡ (found_by weigh).made → IsAtTheEnd weigh
  to_the_end weigh some drawing made = elim (ended (try weigh) attempts at_once most some most (record { walks = first; made = 0 }) (omega arith) (omega arith)) [
    | inl full ↦ inl (made ∙ full)
    | inr none ↦ inr (all_of (λ (a : Attempt). try weigh s.drawing.walks a ≡ None) attempts (λ a i. ap (λ (ws : List PlainWalk). try weigh ws a) drawing ∙ none a i))
  ]

  lighter_by : (one other : Scale) → (0 < most → 0 < at_once) → AreAlike graph one other → IsSearched graph one margin attempts at_once most first s → IsMadeLighter graph other margin attempts at_once most first s
  lighter_by one other some alike h = record {
    drawing = subst (λ (weigh : List PlainWalk → ℕ). s.drawing.walks ≡ (found_by weigh).walks) same h.drawing;
    made = subst (λ (weigh : List PlainWalk → ℕ). s.made ≡ (found_by weigh).made) same h.made;
    before = h.before ∙ alike first first;
    after = h.after ∙ alike first s.drawing.walks;
    legal = h.on_board.drawn.legal;
    each = h.on_board.drawn.each;
    near = λ far close. within_near far margin first close s.drawing.walks h.on_board.within;
    no_heavier = h.no_heavier;
    to_the_end = subst IsAtTheEnd same (to_the_end (weight_by one graph first) some h.drawing h.made);
  }
    where
      same : weight_by one graph first ≡ weight_by other graph first
      same = λ i walks. alike first walks i

-- straightening is this, where all attempts may be made in one pass
pub straightened_of : (graph : GraphParts) (cell most : ℕ) (first : List PlainWalk) (attempts : List Attempt) (s : Searched) → attempts ≡ straight_attempts graph (corners_of graph cell)
    → IsSearched graph (straight_scale (corners_of graph cell)) 20 attempts most most first s → IsStraightened graph cell most first s
straightened_of graph cell most first attempts s are found =
    let scale : Scale = straight_scale (corners_of graph cell) in
    lighter_by graph 20 (straight_attempts graph (corners_of graph cell)) most most first s scale scale (λ some. some) (λ one walks. refl)
    (subst (λ (v : List Attempt). IsSearched graph scale 20 v most most first s) are found)

-- so are moves, where each begins a pass anew
abbrev pub held_scale : List Bool → Scale
held_scale held = record moves_scale { is_held = λ n. get_or held n false }

pub improved_of : (graph : GraphParts) (moves : ℕ) (first : List PlainWalk) (held : List Bool) (attempts : List Attempt) (s : Searched) → attempts ≡ move_attempts graph
    → ((n : ℕ) → n < length graph.kinds → get_or held n false ≡ true) → IsSearched graph (held_scale held) 4 attempts 1 moves first s → IsImproved graph first moves s
improved_of graph moves first held attempts s are all found =
    lighter_by graph 4 (move_attempts graph) 1 moves first s (held_scale held) moves_scale (λ some. omega arith) (held_alike graph moves_scale (λ n. get_or held n false) all)
    (subst (λ (v : List Attempt). IsSearched graph (held_scale held) 4 v 1 moves first s) are found)
