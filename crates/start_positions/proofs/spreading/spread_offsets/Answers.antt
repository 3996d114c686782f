use Rattle.std.proofs.Common.{◌+◌, ◌++◌, ◌∷◌, [], List, map, drop, ap, ◌∙◌}
use Rattle.start_positions.specs.declared.placing.Offset.{Offset}
use Rattle.start_positions.specs.declared.spreading.Place.{Place}
use Rattle.start_positions.specs.Spreads.{spread_place}
use Rattle.start_positions.proofs.SpreadLemmas.{map_more}
use Rattle.start_positions.proofs.spreading.spread_offsets.Goals as goal

abbrev no_place : Place
no_place = record { at = record { east = 0; north = 0 }; even = record { east = 0; north = 0 } }

pub loop-place-preserved : goal.loop-place-preserved
loop-place-preserved c =
    let places = c.args.places.now in
    let f = spread_place c.args.percent in
    let i = c.loop-place.place-index in
    let done = c.loop-place.offsets.items in
    ap (λ (os : List Offset). os ++ map f (drop (i + 1) places)) (c.in_ok-push.ensures.items ∙ ap (λ (o : Offset). done ++ o ∷ []) c.spread_place.ensures)
    ∙ map_more f places i no_place done c.loop-place-test.true
    ∙ c.loop-place.invariant
