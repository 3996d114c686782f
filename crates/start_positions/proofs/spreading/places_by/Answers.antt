use Rattle.std.proofs.Common.{◌+◌, ◌++◌, ◌∷◌, [], List, true, false, map, drop, get_or, ap, ◌∙◌, arith}
use Rattle.start_positions.specs.declared.placing.Offset.{Offset}
use Rattle.start_positions.specs.declared.spreading.Place.{Place}
use Rattle.start_positions.specs.Spreads.{place_among}
use Rattle.start_positions.proofs.SpreadLemmas.{along_few, along_here, map_more, place_anyhow}
use Rattle.start_positions.proofs.spreading.places_by.Goals as goal

abbrev no_offset : Offset
no_offset = record { east = 0; north = 0 }

pub place_by-requires-clause-few_easts : goal.place_by-requires-clause-few_easts
place_by-requires-clause-few_easts c = omega (arith, along_few c.args.offsets.now true c.args.easts.now c.requires.easts, c.requires.few)

pub place_by-requires-clause-few_norths : goal.place_by-requires-clause-few_norths
place_by-requires-clause-few_norths c = omega (arith, along_few c.args.offsets.now false c.args.norths.now c.requires.norths, c.requires.few)

pub place_by-requires-clause-east : goal.place_by-requires-clause-east
place_by-requires-clause-east c = along_here c.args.offsets.now true c.args.easts.now c.loop-offset.offset-index no_offset c.requires.easts c.loop-offset-test.true

pub place_by-requires-clause-north : goal.place_by-requires-clause-north
place_by-requires-clause-north c = along_here c.args.offsets.now false c.args.norths.now c.loop-offset.offset-index no_offset c.requires.norths c.loop-offset-test.true

pub loop-offset-preserved : goal.loop-offset-preserved
loop-offset-preserved c =
    let offsets = c.args.offsets.now in
    let f = place_among c.args.extents.width c.args.extents.height offsets in
    let i = c.loop-offset.offset-index in
    let done = c.loop-offset.places.items in
    ap (λ (ps : List Place). ps ++ map f (drop (i + 1) offsets))
    (c.in_ok-push.ensures.items
    ∙ ap (λ (p : Place). done ++ p ∷ [])
    (c.place_by.ensures
    ∙ place_anyhow c.args.extents.width c.args.extents.height offsets c.args.easts.now c.args.norths.now (get_or offsets i no_offset) c.requires.easts c.requires.norths))
    ∙ map_more f offsets i no_offset done c.loop-offset-test.true
    ∙ c.loop-offset.invariant
