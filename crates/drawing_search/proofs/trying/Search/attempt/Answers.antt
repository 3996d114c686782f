use Rattle.std.proofs.Common.{sym, ◌∙◌, ap, subst, ℕ, Option, ◌+◌, arith, Some, None}
use Rattle.drawing_search.proofs.Common.{scale_of, AreAllLaid}
use Rattle.drawing_search.proofs.AttemptReads.{can_weigh, read_can, read_failed, read_heavy, read_laying, read_liftable, read_made, read_no_room, read_there}
use Rattle.drawing_search.proofs.trying.Search.attempt.Goals as goal

pub has_room-requires : goal.has_room-requires
has_room-requires c =
    let can = can_weigh c.args.field c.requires.field c.args.group.now c.args.lifted.now c.args.vector c.args.self.now.sketch c.args.self.now.weight c.requires.off c.as_slice-moved.result.now c.as_slice-runs.result.now c.as_slice-least.result.now c.as_slice-moved.ensures.value c.as_slice-runs.ensures c.as_slice-least.ensures.value in
    record { near = can.near; count = c.requires.count }

pub returns-then-not-has_room-clause-attempted : goal.returns-then-not-has_room-clause-attempted
returns-then-not-has_room-clause-attempted c =
    read_no_room c.args.field c.requires.field c.args.group.now c.args.lifted.now c.args.vector c.args.self.now.sketch c.args.self.now.weight c.requires.off c.as_slice-moved.result.now c.as_slice-runs.result.now c.as_slice-least.result.now c.as_slice-moved.ensures.value c.as_slice-runs.ensures c.as_slice-least.ensures.value (sym c.has_room.ensures ∙ c.if-not-has_room.true)

pub aparts_after-aparts-requires : goal.aparts_after-aparts-requires
aparts_after-aparts-requires c =
    let room = sym c.has_room.ensures ∙ c.if-not-has_room.false in
    let can = can_weigh c.args.field c.requires.field c.args.group.now c.args.lifted.now c.args.vector c.args.self.now.sketch c.args.self.now.weight c.requires.off c.as_slice-moved.result.now c.as_slice-runs.result.now c.as_slice-least.result.now c.as_slice-moved.ensures.value c.as_slice-runs.ensures c.as_slice-least.ensures.value in
    record { field = c.requires.field; nodes = can.nodes; few = can.few; near = can.near; count = c.requires.count; there = read_there c.args.field c.requires.field c.args.group.now c.args.lifted.now c.args.vector c.args.self.now.sketch c.args.self.now.weight c.requires.off c.as_slice-moved.result.now c.as_slice-runs.result.now c.as_slice-least.result.now c.as_slice-moved.ensures.value c.as_slice-runs.ensures c.as_slice-least.ensures.value room }

pub overflow_add-base : goal.overflow_add-base
overflow_add-base c = omega (arith, c.aparts_after-aparts.ensures.small, c.requires.off.lifted.light, c.requires.off.settled.weight_is, c.requires.off.settled.small)

pub least_gains-ahead-requires : goal.least_gains-ahead-requires
least_gains-ahead-requires c =
    let can = can_weigh c.args.field c.requires.field c.args.group.now c.args.lifted.now c.args.vector c.args.self.now.sketch c.args.self.now.weight c.requires.off c.as_slice-moved.result.now c.as_slice-runs.result.now c.as_slice-least.result.now c.as_slice-moved.ensures.value c.as_slice-runs.ensures c.as_slice-least.ensures.value in
    record { near = can.near; count = c.requires.count; from = can.from; to = can.to; each = can.each; small = can.small }

pub returns-then-at_least-self-clause-attempted : goal.returns-then-at_least-self-clause-attempted
returns-then-at_least-self-clause-attempted c =
    let room = sym c.has_room.ensures ∙ c.if-not-has_room.false in
    let base_is = ap (λ n. c.args.lifted.now.rest + n) c.aparts_after-aparts.ensures.weight in
    read_heavy c.args.field c.requires.field c.args.group.now c.args.lifted.now c.args.vector c.args.self.now.sketch c.args.self.now.weight c.requires.off c.as_slice-moved.result.now c.as_slice-runs.result.now c.as_slice-least.result.now c.as_slice-moved.ensures.value c.as_slice-runs.ensures c.as_slice-least.ensures.value room (c.args.lifted.now.rest + c.aparts_after-aparts.result) c.least_gains-ahead.result base_is c.least_gains-ahead.ensures (omega (arith, c.saturating_add-at_least.ensures, c.if-at_least-self.true))

pub stand_moved-requires : goal.stand_moved-requires
stand_moved-requires c =
    let room = sym c.has_room.ensures ∙ c.if-not-has_room.false in
    let can = can_weigh c.args.field c.requires.field c.args.group.now c.args.lifted.now c.args.vector c.args.self.now.sketch c.args.self.now.weight c.requires.off c.as_slice-moved.result.now c.as_slice-runs.result.now c.as_slice-least.result.now c.as_slice-moved.ensures.value c.as_slice-runs.ensures c.as_slice-least.ensures.value in
    record { near = can.near; count = c.requires.count; can = read_can c.args.field c.requires.field c.args.group.now c.args.lifted.now c.args.vector c.args.self.now.sketch c.args.self.now.weight c.requires.off c.as_slice-moved.result.now c.as_slice-runs.result.now c.as_slice-least.result.now c.as_slice-moved.ensures.value c.as_slice-runs.ensures c.as_slice-least.ensures.value room }

pub lay_all-requires : goal.lay_all-requires
lay_all-requires c =
    let room = sym c.has_room.ensures ∙ c.if-not-has_room.false in
    let base_is = ap (λ n. c.args.lifted.now.rest + n) c.aparts_after-aparts.ensures.weight in
    let can = can_weigh c.args.field c.requires.field c.args.group.now c.args.lifted.now c.args.vector c.args.self.now.sketch c.args.self.now.weight c.requires.off c.as_slice-moved.result.now c.as_slice-runs.result.now c.as_slice-least.result.now c.as_slice-moved.ensures.value c.as_slice-runs.ensures c.as_slice-least.ensures.value in
    let ready = read_laying c.args.field c.requires.field c.args.group.now c.args.lifted.now c.args.vector c.args.self.now.sketch c.args.self.now.weight c.requires.off c.as_slice-moved.result.now c.as_slice-runs.result.now c.as_slice-least.result.now c.as_slice-moved.ensures.value c.as_slice-runs.ensures c.as_slice-least.ensures.value room (c.args.lifted.now.rest + c.aparts_after-aparts.result) c.least_gains-ahead.result base_is c.least_gains-ahead.ensures c.stand_moved.new.self.sketch c.stand_moved.ensures.sketch
    (omega (arith, c.saturating_add-at_least.ensures, c.if-at_least-self.false)) in
    record {
      field = c.requires.field;
      runs = ready.layable;
      base = ready.weight;
      each = can.each;
      bounds = ready.bounds;
      small = can.small;
      ahead = ready.ahead;
      less = omega (arith, ready.less, c.stand_moved.ensures.weight);
      weight = omega (arith, c.stand_moved.ensures.weight, c.requires.off.settled.small);
    }

pub lift_moved-requires : goal.lift_moved-requires
lift_moved-requires c =
    let f = c.args.field in
    let room = sym c.has_room.ensures ∙ c.if-not-has_room.false in
    let laid = subst (λ w. AreAllLaid (scale_of f.by) f.graph.now f.first.now w c.as_slice-runs.result.now c.stand_moved.new.self.sketch c.lay_all.new.self.sketch None) c.stand_moved.ensures.weight
    (subst (λ (o : Option ℕ). AreAllLaid (scale_of f.by) f.graph.now f.first.now c.stand_moved.new.self.weight c.as_slice-runs.result.now c.stand_moved.new.self.sketch c.lay_all.new.self.sketch o) c.in-None.is c.in_ok-lay_all.ensures.laid) in
    read_liftable c.args.field c.requires.field c.args.group.now c.args.lifted.now c.args.vector c.args.self.now.sketch c.args.self.now.weight c.requires.off c.as_slice-moved.result.now c.as_slice-runs.result.now c.as_slice-least.result.now c.as_slice-moved.ensures.value c.as_slice-runs.ensures c.as_slice-least.ensures.value room c.stand_moved.new.self.sketch c.stand_moved.ensures.sketch c.lay_all.new.self.sketch laid

pub returns-in-None-clause-attempted : goal.returns-in-None-clause-attempted
returns-in-None-clause-attempted c =
    let f = c.args.field in
    let room = sym c.has_room.ensures ∙ c.if-not-has_room.false in
    let laid = subst (λ w. AreAllLaid (scale_of f.by) f.graph.now f.first.now w c.as_slice-runs.result.now c.stand_moved.new.self.sketch c.lay_all.new.self.sketch None) c.stand_moved.ensures.weight
    (subst (λ (o : Option ℕ). AreAllLaid (scale_of f.by) f.graph.now f.first.now c.stand_moved.new.self.weight c.as_slice-runs.result.now c.stand_moved.new.self.sketch c.lay_all.new.self.sketch o) c.in-None.is c.in_ok-lay_all.ensures.laid) in
    read_failed c.args.field c.requires.field c.args.group.now c.args.lifted.now c.args.vector c.args.self.now.sketch c.args.self.now.weight c.requires.off c.as_slice-moved.result.now c.as_slice-runs.result.now c.as_slice-least.result.now c.as_slice-moved.ensures.value c.as_slice-runs.ensures c.as_slice-least.ensures.value room c.stand_moved.new.self.sketch c.stand_moved.ensures.sketch c.lay_all.new.self.sketch laid c.lift_moved.new.self.sketch c.lift_moved.ensures.sketch

pub returns-in-Some-clause-attempted : goal.returns-in-Some-clause-attempted
returns-in-Some-clause-attempted c =
    let f = c.args.field in
    let room = sym c.has_room.ensures ∙ c.if-not-has_room.false in
    let laid = subst (λ w. AreAllLaid (scale_of f.by) f.graph.now f.first.now w c.as_slice-runs.result.now c.stand_moved.new.self.sketch c.lay_all.new.self.sketch (Some c.in-Some.weight)) c.stand_moved.ensures.weight
    (subst (λ (o : Option ℕ). AreAllLaid (scale_of f.by) f.graph.now f.first.now c.stand_moved.new.self.weight c.as_slice-runs.result.now c.stand_moved.new.self.sketch c.lay_all.new.self.sketch o) c.in-Some.is c.in_ok-lay_all.ensures.laid) in
    read_made c.args.field c.requires.field c.args.group.now c.args.lifted.now c.args.vector c.args.self.now.sketch c.args.self.now.weight c.requires.off c.as_slice-moved.result.now c.as_slice-runs.result.now c.as_slice-least.result.now c.as_slice-moved.ensures.value c.as_slice-runs.ensures c.as_slice-least.ensures.value room c.stand_moved.new.self.sketch c.stand_moved.ensures.sketch c.lay_all.new.self.sketch c.in-Some.weight laid
