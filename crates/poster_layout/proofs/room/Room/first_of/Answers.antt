use Rattle.std.proofs.Common.{sym, ◌∙◌, arith}
use Rattle.std.specs.List.{find}
use Rattle.std.proofs.lemmas.List.{at_drop_all}
use Rattle.poster_layout.specs.Rooms.{is_free_at}
use Rattle.poster_table.proofs.Finding.{find_past, find_here}
use Rattle.poster_layout.proofs.room.Room.first_of.Goals as goal

pub loop-place-preserved : goal.loop-place-preserved
loop-place-preserved c =
    let room = c.args.self.now in
    find_past (is_free_at room.pitch room.plan.now room.printed.items c.args.step c.args.mark.now) c.args.places.now c.loop-place.place-index _ c.loop-place-test.true (sym c.is_free.ensures ∙ c.if-is_free.false) ∙ c.loop-place.invariant

pub returns-then-is_free : goal.returns-then-is_free
returns-then-is_free c =
    let room = c.args.self.now in
    sym (find_here (is_free_at room.pitch room.plan.now room.printed.items c.args.step c.args.mark.now) c.args.places.now c.loop-place.place-index _ c.loop-place-test.true (sym c.is_free.ensures ∙ c.if-is_free.true)) ∙ c.loop-place.invariant

pub returns : goal.returns
returns c =
    let room = c.args.self.now in
    sym (at_drop_all (find (is_free_at room.pitch room.plan.now room.printed.items c.args.step c.args.mark.now)) c.args.places.now c.loop-place.place-index (omega arith)) ∙ c.loop-place.invariant
