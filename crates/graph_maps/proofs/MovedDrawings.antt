-- Drawings after moves.
use Rattle.std.proofs.Common.{◌≡◌, ◌∙◌, ap, subst, ◌⊎◌, ℕ}
use Rattle.std.specs.Prelude.{List}
use Rattle.map_base.specs.Settings.{Choices}
use Rattle.kept_trees.specs.declared.plan.SearchPlan.{SearchPlan}
use Rattle.octi_grid.specs.Walks.{PlainWalk}
use Rattle.octi_grid.specs.declared.drawing.Drawing.{Drawing}
use Rattle.graph_core.specs.declared.parts.GraphParts.{GraphParts}
use Rattle.kept_walks.specs.Moves.{NoMoveImproves}
use Rattle.graph_maps.specs.declared.improvement.Improvement.{Improvement}
use Rattle.graph_maps.specs.Problems.{Drawn}
use Rattle.graph_maps.specs.Subjects.{Subject}
use Rattle.graph_maps.specs.declared.best_orders.BestOrders.{BestOrders}
use Rattle.graph_maps.specs.declared.made.Made.{Made}
use Rattle.graph_maps.specs.Making.{bytes_of}
use Rattle.graph_maps.specs.Moving.{after_moves, improvement_of, walks_after}
use Rattle.graph_maps.specs.Solving.{SolvedPart}
use Rattle.graph_maps.specs.Stages.{map_by, IsDrawing, IsMoved, IsWritten}
use Rattle.graph_maps.specs.Wholes.{IsWhole}

-- a drawing that was moved twice is whole where it was before
pub whole_moved : (plan : SearchPlan) (importance : List ℕ) (choices : Choices) (drawn : Drawn)
    (parts : List SolvedPart) (first moves : ℕ) → IsWhole plan importance choices drawn parts
    → IsDrawing drawn.graph (after_moves moves (after_moves first drawn)).walks
    → IsWhole plan importance choices (after_moves moves (after_moves first drawn)) parts
whole_moved plan importance choices drawn parts first moves whole drawing = record {
  each = drawing.each;
  legal = drawing.legal;
  counted = whole.counted;
  defined = whole.defined;
  fits = whole.fits;
  solved = whole.solved;
  ordered = whole.ordered;
  shown = whole.shown;
}

-- a drawing that was moved twice and then written
pub written_by : (subject : Subject) (graph : GraphParts) (walks : List PlainWalk) (best : BestOrders) (first moves : ℕ)
    (once twice : Drawing × Improvement) (map : Made) → IsMoved first graph walks once
    → IsMoved moves graph once.0.walks twice → bytes_of map ≡ map_by subject graph twice.0.walks best
    → IsWritten subject graph walks best first moves (record { map = map; improvement = twice.1 })
written_by subject graph walks best first moves once twice map one two made =
    let start : List PlainWalk = walks_after first graph walks in
    let last : twice.0.walks ≡ walks_after moves graph start = two.drawn ∙ ap (walks_after moves graph) one.drawn in
    record {
      map = made ∙ ap (λ (ws : List PlainWalk). map_by subject graph ws best) last;
      drawing = subst (IsDrawing graph) last two.drawing;
      improvement = two.improvement ∙ ap (improvement_of moves graph) one.drawn;
      no_heavier = two.no_heavier;
      to_the_end = subst (λ (ws : List PlainWalk). (twice.1.made ≡ moves) ⊎ NoMoveImproves graph start ws) last
          (subst (λ (ws : List PlainWalk). (twice.1.made ≡ moves) ⊎ NoMoveImproves graph ws twice.0.walks) one.drawn
          two.to_the_end);
    }
