use Rattle.std.proofs.Common.{ap, ◌∙◌}
use Rattle.poster_plan.specs.declared.sign.Sign.{Sign}
use Rattle.poster_plan.specs.Places.{place_shape}
use Rattle.poster_plan.specs.Placing.{is_clear}
use Rattle.poster_layout.proofs.room.Room.is_free.Goals as goal

pub returns : goal.returns
returns c =
    let room = c.args.self.now in
    c.is_clear.ensures
    ∙ ap (is_clear room.pitch room.plan.now room.printed.items c.args.step c.args.mark.now.node.0)
    (c.place_shape-shape.ensures.value ∙ ap (λ (s : Sign). place_shape s c.args.step c.args.place) c.sign_of.ensures.value)
