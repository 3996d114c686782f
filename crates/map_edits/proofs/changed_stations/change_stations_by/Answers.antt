use Rattle.std.proofs.Common.{map, sym, ap, ◌∙◌, arith}
use Rattle.std.proofs.lemmas.List.{drop_all}
use Rattle.map_edits.specs.Effects.{station_id, stations_after}
use Rattle.map_edits.proofs.EffectLemmas.{stations_more, station_ids_by}
use Rattle.map_edits.proofs.changed_stations.change_stations_by.Goals as goal

pub loop-edit-preserved : goal.loop-edit-preserved
loop-edit-preserved c =
    let edit = c.edit-item.result in
    let done = c.in_ok-change_stations.ensures in
    record {
      same_ids = c.loop-edit.invariant.same_ids ∙ sym (station_ids_by edit c.loop-edit.stations.items) ∙ ap (map station_id) (sym done);
      done = stations_more c.args.edits.now c.loop-edit.edit-index edit c.loop-edit.stations.items c.change_stations.new.stations.items _ (omega arith) c.edit-item.is done c.loop-edit.invariant.done;
    }

pub returns : goal.returns
returns c =
    sym (ap (λ es. stations_after es c.loop-edit.stations.items) (drop_all c.loop-edit.edit-index c.args.edits.now (omega arith))) ∙ c.loop-edit.invariant.done
