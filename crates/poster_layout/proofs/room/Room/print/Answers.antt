use Rattle.std.proofs.Common.{◌++◌, ◌∷◌, [], ap, refl, ◌∙◌}
use Rattle.eight_sides.specs.declared.shape.Shape.{Shape}
use Rattle.poster_plan.specs.declared.things.Kin.TheVariants.{Nobody}
use Rattle.poster_plan.specs.declared.things.Thing.{Thing}
use Rattle.poster_plan.specs.declared.plan.Mark.{Mark}
use Rattle.poster_plan.specs.declared.sign.Sign.{Sign}
use Rattle.poster_plan.specs.Places.{place_shape}
use Rattle.poster_plan.specs.Signs.{sign_of}
use Rattle.poster_layout.proofs.Placed.{room_printed}
use Rattle.poster_layout.proofs.Corners.{near_short}
use Rattle.poster_layout.proofs.room.Room.print.Goals as goal

pub returns : goal.returns
returns c =
    let room = c.args.self.now in
    let shape = c.place_shape-shape.ensures.value ∙ ap (λ (s : Sign). place_shape s c.args.step c.args.place) c.sign_of-sign.ensures.value ∙ ap (λ (m : Mark). place_shape (sign_of room.pitch m) c.args.step c.args.place) c.mark_numbered.ensures in
    room_printed room _ (record { mark = c.args.i; step = c.args.step; place = c.args.place }) c.requires refl refl refl c.in_ok-put.ensures.table
    (c.in_ok-put.ensures.things ∙ ap (λ (s : Shape). room.taken.things.items ++ (let t : Thing = record { shape = s; kin = Nobody } in t) ∷ []) shape) c.in_ok-push.ensures.items

pub put-requires-clause-thing : goal.put-requires-clause-thing
put-requires-clause-thing c = near_short c.place_shape-shape.result c.place_shape-shape.ensures.near
