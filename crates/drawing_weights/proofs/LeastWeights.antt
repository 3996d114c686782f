-- A walk costs at least what it costs to come over, and its turns; one without turns goes in one direction.
use Rattle.std.proofs.Common.{◌≡◌, ◌∙◌, ℕ, suc, ◌+◌, ◌-◌, ◌≤◌, ◌%◌, min, List, [], ◌∷◌, length, replicate, sym, ap, refl, arith}
use Rattle.octi_grid.specs.declared.dir.Dir.{Dir}
use Rattle.octi_grid.specs.declared.point.GridPoint.{GridPoint}
use Rattle.octi_grid.specs.Ways.{after, number_of, step_from}
use Rattle.octi_grid.specs.Costs.{turn_between, way_cost}
use Rattle.octi_grid.proofs.CostLemmas.{number_small}
use Rattle.octi_grid.proofs.RunLemmas.{same_direction}
use Rattle.walk_search.specs.Reaching.{reach_of}
use Rattle.walk_search.proofs.LeastReach.{reach_step}
use Rattle.drawing_weights.specs.Weights.{turns_of}

-- a walk costs what it costs at least to come over, and its turns
pub reach_turns : (a b : GridPoint) (ds : List Dir) → reach_of a (after b ds) + turns_of ds ≤ reach_of a b + way_cost ds
reach_turns a b [] = omega arith
reach_turns a b (d ∷ []) = omega (arith, reach_step a b d)
reach_turns a b (d ∷ e ∷ ds) = omega (arith, reach_step a b d, reach_turns a (step_from b d) (e ∷ ds))

-- a way without turns goes in one direction
no_turn : (a b : ℕ) → a ≤ 7 → b ≤ 7 → min ((b + 8 - a) % 8) ((a + 8 - b) % 8) ≡ 0 → a ≡ b
no_turn a b h k e = omega arith

one_way : (d e : Dir) → turn_between d e ≡ 0 → d ≡ e
one_way d e h = same_direction d e (no_turn (number_of d) (number_of e) (number_small d) (number_small e) h)

pub all_one_way : (d : Dir) (ds : List Dir) → turns_of (d ∷ ds) ≡ 0 → d ∷ ds ≡ replicate (suc (length ds)) d
all_one_way d [] h = refl
all_one_way d (e ∷ ds) h =
    let same : d ≡ e = one_way d e (omega (arith, h)) in
    ap (λ (v : List Dir). d ∷ v) (all_one_way e ds (omega (arith, h)) ∙ ap (λ (v : Dir). replicate (suc (length ds)) v) (sym same))
