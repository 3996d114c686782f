use Rattle.std.proofs.Common.{◌≡◌, ◌||◌, true, false, ap, sym, ◌∙◌, refl}
use Rattle.std.specs.List.{list_any}
use Rattle.poster_plan.specs.Things.{clash}
use Rattle.poster_plan.specs.Placing.{is_beside, meets_other, meets_printed}
use Rattle.poster_layout.specs.Rooms.{own}
use Rattle.poster_layout.proofs.Rooming.{clear_as, not_clear, taken_is}
use Rattle.poster_layout.proofs.Corners.{near_short}
use Rattle.poster_layout.proofs.room.Room.is_clear.Goals as goal

pub returns-then-clashes : goal.returns-then-clashes
returns-then-clashes c =
    let room = c.args.self.now in
    let u = room.pitch in
    let plan = room.plan.now in
    let printed = room.printed.items in
    let met : (meets_other u plan c.args.node c.args.shape || meets_printed u plan printed c.args.shape) ≡ true =
    sym (taken_is u plan printed c.args.node c.args.shape) ∙ ap (list_any (clash (own c.args.node c.args.shape))) (sym c.requires.room.takes) ∙ sym c.clashes.ensures ∙ c.if-clashes.true in
    not_clear (meets_other u plan c.args.node c.args.shape) (meets_printed u plan printed c.args.shape) (is_beside u plan c.args.step c.args.shape) met

pub returns : goal.returns
returns c =
    let room = c.args.self.now in
    let u = room.pitch in
    let plan = room.plan.now in
    let printed = room.printed.items in
    let free : (meets_other u plan c.args.node c.args.shape || meets_printed u plan printed c.args.shape) ≡ false =
    sym (taken_is u plan printed c.args.node c.args.shape) ∙ ap (list_any (clash (own c.args.node c.args.shape))) (sym c.requires.room.takes) ∙ sym c.clashes.ensures ∙ c.if-clashes.false in
    c.is_beside.ensures c.args.node c.args.shape refl ∙ clear_as (meets_other u plan c.args.node c.args.shape) (meets_printed u plan printed c.args.shape) (is_beside u plan c.args.step c.args.shape) free

pub clashes-requires-clause-thing : goal.clashes-requires-clause-thing
clashes-requires-clause-thing c = near_short c.args.shape c.requires.shape

pub is_beside-requires-clause-name : goal.is_beside-requires-clause-name
is_beside-requires-clause-name c = near_short c.args.shape c.requires.shape
