use Rattle.std.proofs.Common.{◌≡◌, ◌<◌, ◌∙◌, [], None, List, length, get_or, option_to_list, ap, arith}
use Rattle.std.proofs.lemmas.List.{get_or_default}
use Rattle.map_base.specs.declared.ids.StationId.{StationId}
use Rattle.table_rows.specs.Firsts.{firsts_behind}
use Rattle.gtfs_tables.specs.Patterns.{trip_pattern, is_same_pattern}
use Rattle.gtfs_tables.proofs.PatternLemmas.{seen_more}
use Rattle.gtfs_tables.proofs.patterns.patterns_of.Goals as goal

pub loop-trip-preserved : goal.loop-trip-preserved
loop-trip-preserved c =
    let lines = c.args.lines.now in
    let stations = c.args.stations.now in
    let shapes = c.args.shapes.now in
    let trip = c.loop-trip.trip in
    let a : trip < length lines = omega arith in
    let b : trip < length stations = omega (arith, c.requires.stations) in
    let d : trip < length shapes = omega (arith, c.requires.shapes) in
    let served : c.as_slice.result.now ≡ get_or stations trip [] =
    c.as_slice.ensures ∙ c.index-stations-trip.is ∙ get_or_default stations trip c.index-stations-trip.result [] b in
    c.in_ok-note_some.ensures
    ∙ ap (λ pattern. firsts_behind is_same_pattern c.loop-trip.seen (option_to_list pattern)) c.in_ok-key.ensures
    ∙ ap (λ (s : List StationId). firsts_behind is_same_pattern c.loop-trip.seen (option_to_list (trip_pattern (get_or lines trip None) s (get_or shapes trip None)))) served
    ∙ seen_more trip lines stations shapes c.loop-trip.seen a b d c.loop-trip.invariant
