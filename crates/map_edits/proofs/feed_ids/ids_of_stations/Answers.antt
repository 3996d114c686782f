use Rattle.std.proofs.Common.{◌≡◌, ◌∙◌, ℕ, List, [], ◌∷◌, ◌++◌, ap, arith, map, take}
use Rattle.std.proofs.lemmas.List.{take_all}
use Rattle.table_rows.specs.Ids.{is_among}
use Rattle.map_edits.specs.Effects.{station_id}
use Rattle.map_edits.proofs.IdLemmas.{new_id, ids_more}
use Rattle.map_edits.proofs.feed_ids.ids_of_stations.Goals as goal

pub note_new-requires : goal.note_new-requires
note_new-requires c =
    let station = c.station-item.result in
    let id : c.as_bytes.result.now ≡ station.id = cc in
    ap (λ (i : List ℕ). is_among i c.loop-station.ids) id
    ∙ ap (is_among station.id) c.loop-station.invariant
    ∙ ap (λ x. is_among x.id (map station_id (take c.loop-station.station-index c.args.stations.now))) c.station-item.is
    ∙ new_id station_id c.args.stations.now c.loop-station.station-index station c.requires (omega arith)

pub loop-station-preserved : goal.loop-station-preserved
loop-station-preserved c =
    let station = c.station-item.result in
    let id : c.as_bytes.result.now ≡ station.id = cc in
    ids_more station_id c.args.stations.now c.loop-station.station-index station c.loop-station.ids c.note_new.new.ids (omega arith) c.station-item.is c.loop-station.invariant
    (c.in_ok-note_new.ensures ∙ ap (λ (i : List ℕ). c.loop-station.ids ++ i ∷ []) id)

pub returns : goal.returns
returns c = c.loop-station.invariant ∙ ap (map station_id) (take_all c.loop-station.station-index c.args.stations.now (omega arith))
