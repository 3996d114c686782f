use Rattle.std.proofs.Common.{List, [], ◌∷◌, ◌++◌, map, take, ap, sym, ◌∙◌, arith}
use Rattle.std.proofs.lemmas.List.{map_more, take_all}
use Rattle.poster_plan.specs.declared.plan.Mark.{Mark}
use Rattle.poster_plan.specs.declared.things.Thing.{Thing}
use Rattle.poster_layout.specs.Rooms.{ground_thing}
use Rattle.poster_layout.proofs.room.ground_table.Goals as goal

pub loop-mark-preserved : goal.loop-mark-preserved
loop-mark-preserved c =
    let thing = ground_thing c.args.pitch in
    let i = c.loop-mark.mark-index in
    record {
      table = c.in_ok-put.ensures.table;
      things = c.in_ok-put.ensures.things
          ∙ ap (λ (ts : List Thing). ts ++ c.ground_thing.result ∷ []) c.loop-mark.invariant.things
          ∙ ap (λ (t : Thing). map thing (take i c.args.marks.now) ++ t ∷ []) c.ground_thing.ensures.value
          ∙ ap (λ (m : Mark). map thing (take i c.args.marks.now) ++ thing m ∷ []) c.mark-item.is
          ∙ sym (map_more thing c.args.marks.now i c.mark-item.result c.loop-mark-test.true);
    }

pub returns-clause-things : goal.returns-clause-things
returns-clause-things c = c.loop-mark.invariant.things ∙ ap (map (ground_thing c.args.pitch)) (take_all c.loop-mark.mark-index c.args.marks.now (omega arith))
