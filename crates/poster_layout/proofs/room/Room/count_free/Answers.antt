use Rattle.std.proofs.Common.{◌+◌, Bool, cond, ap, ◌∙◌, arith}
use Rattle.poster_plan.specs.declared.layout.Step.TheVariants.{Full}
use Rattle.poster_layout.specs.Rooms.{is_free_at}
use Rattle.poster_layout.proofs.Counting.{free_more}
use Rattle.poster_layout.proofs.room.Room.count_free.Goals as goal

pub loop-place-preserved : goal.loop-place-preserved
loop-place-preserved c =
    let room = c.args.self.now in
    record {
      value = free_more (is_free_at room.pitch room.plan.now room.printed.items Full c.args.mark.now) c.args.places.now c.loop-place.place-index _ c.loop-place.count c.counted-count.result c.loop-place-test.true c.loop-place.invariant.value
          (c.counted-count.ensures.value ∙ ap (λ (b : Bool). c.loop-place.count + cond b 1 0) c.is_free.ensures);
      small = omega arith;
    }
