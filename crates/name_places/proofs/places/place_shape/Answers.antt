use Rattle.std.proofs.Common.{◌≡◌, sym, subst, ap, ◌∙◌, arith}
use Rattle.eight_sides.specs.declared.interval.Interval.{Interval}
use Rattle.eight_sides.specs.declared.shape.Shape.{Shape}
use Rattle.poster_plan.specs.declared.place.Turn.{Turn}
use Rattle.poster_plan.specs.Places.{place_shape, shape_of, turn_at}
use Rattle.name_places.specs.Near.{IsNearShape}
use Rattle.name_places.proofs.Nearness.{place_near}
use Rattle.name_places.proofs.places.place_shape.Goals as goal

pub returns-clause-value : goal.returns-clause-value
returns-clause-value c =
    c.shape_of.ensures
    ∙ ap (λ (t : Turn). shape_of t c.sides.result.0 c.sides.result.1) c.turn_at.ensures
    ∙ ap (λ (q : Interval × Interval). shape_of (turn_at c.args.place) q.0 q.1) c.sides.ensures.value

pub returns-clause-near : goal.returns-clause-near
returns-clause-near c =
    let value : c.shape_of.result ≡ place_shape c.args.sign c.args.step c.args.place =
    c.shape_of.ensures
    ∙ ap (λ (t : Turn). shape_of t c.sides.result.0 c.sides.result.1) c.turn_at.ensures
    ∙ ap (λ (q : Interval × Interval). shape_of (turn_at c.args.place) q.0 q.1) c.sides.ensures.value in
    subst IsNearShape (sym value) (place_near c.args.sign c.args.step c.args.place c.requires.near (omega arith) c.requires.few)
