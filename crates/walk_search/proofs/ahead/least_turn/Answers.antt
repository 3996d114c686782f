use Rattle.std.proofs.Common.{sym, ◌∙◌, ap, ap₂, ℕ, cond, min, Some}
use Rattle.octi_grid.specs.declared.dir.Dir.{Dir}
use Rattle.octi_grid.specs.Costs.{turn_between}
use Rattle.walk_search.specs.Routes.{allows}
use Rattle.walk_search.proofs.TurnsDue.{least_more}
use Rattle.walk_search.proofs.ahead.least_turn.Goals as goal

pub loop-number-preserved : goal.loop-number-preserved
loop-number-preserved c = record {
  least =
      c.min-least.ensures
      ∙ ap₂ (λ (k m : ℕ). min k m) c.loop-number.invariant.least
      (c.turn_of_port.ensures ∙ ap (λ (d : Dir). cond (allows c.args.ports (Some d)) (turn_between d c.args.to) 4) c.direction.ensures)
      ∙ sym (least_more c.args.ports c.args.to c.loop-number.number);
}
