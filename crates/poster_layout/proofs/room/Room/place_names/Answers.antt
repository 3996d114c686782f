use Rattle.std.proofs.Common.{ℕ, List, refl, ap, ◌∙◌, arith}
use Rattle.std.proofs.lemmas.List.{take_all}
use Rattle.poster_plan.specs.Placing.{place_names, Placing}
use Rattle.poster_layout.proofs.Placed.{next_placed, room_as, room_kept, room_then}
use Rattle.poster_layout.specs.Rooms.{placing_of}
use Rattle.poster_layout.proofs.room.Room.place_names.Goals as goal

pub loop-i-preserved : goal.loop-i-preserved
loop-i-preserved c =
    let old = c.args.self.now in
    let mid = c.loop-i.self in
    let new = c.place_next.new.self in
    record {
      room = room_then old mid new mid.printed.items new.printed.items c.loop-i.invariant.room c.in_ok-place_next.ensures.room;
      placed = next_placed old mid new c.args.step c.args.marks.now c.loop-i.i-index 0 _ c.loop-i.left.items c.place_next.new.left.items c.loop-i-test.true refl c.loop-i.invariant.room c.loop-i.invariant.placed c.in_ok-place_next.ensures.placed;
    }

pub returns-clause-room : goal.returns-clause-room
returns-clause-room c =
    let old = c.args.self.now in
    room_as old c.loop-i.self c.loop-i.self.printed.items _ (ap (λ (p : Placing). p.printed) (c.loop-i.invariant.placed ∙ ap (λ (ms : List ℕ). place_names old.pitch old.plan.now c.args.step ms old.printed.items) (take_all c.loop-i.i-index c.args.marks.now (omega arith)))) c.loop-i.invariant.room

pub returns-clause-left : goal.returns-clause-left
returns-clause-left c =
    let old = c.args.self.now in
    ap (λ (p : Placing). p.left) (c.loop-i.invariant.placed ∙ ap (λ (ms : List ℕ). place_names old.pitch old.plan.now c.args.step ms old.printed.items) (take_all c.loop-i.i-index c.args.marks.now (omega arith)))

pub loop-i-init : goal.loop-i-init
loop-i-init c = record { room = room_kept c.args.self.now c.requires; placed = ap (λ (ks : List ℕ). placing_of c.args.self.now ks) c.new-left.ensures.items }

pub place_next-requires : goal.place_next-requires
place_next-requires c = c.loop-i.invariant.room.room
