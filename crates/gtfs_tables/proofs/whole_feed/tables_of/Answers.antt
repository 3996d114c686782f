use Rattle.std.proofs.Common.{◌≡◌, ◌∙◌, length, ap, sym, subst}
use Rattle.transit_feed.specs.Feeds.{Feed, IsFeed}
use Rattle.gtfs_tables.specs.Feed.{feed_of}
use Rattle.gtfs_tables.specs.Patterns.{patterns_of}
use Rattle.gtfs_tables.proofs.GoodPatterns.{is_feed}
use Rattle.gtfs_tables.proofs.whole_feed.tables_of.Goals as goal

pub patterns_of-requires-clause-stations : goal.patterns_of-requires-clause-stations
patterns_of-requires-clause-stations c =
    c.requires.served.as_many ∙ sym c.requires.trips.as_many_lines ∙ ap length (sym c.as_slice-lines.ensures)

pub patterns_of-requires-clause-shapes : goal.patterns_of-requires-clause-shapes
patterns_of-requires-clause-shapes c =
    ap length c.as_slice-of_trips.ensures ∙ c.requires.shapes.as_many ∙ sym c.requires.trips.as_many_lines ∙ ap length (sym c.as_slice-lines.ensures)

pub invariant_of-result : goal.invariant_of-result
invariant_of-result c =
    let made : Feed = record {
      stations = c.into_vec.result.items;
      lines = c.into_vec-2.result.items;
      patterns = c.in_ok-patterns.patterns.items;
      shapes = c.into_vec-3.result.items;
    } in
    let patterns : c.in_ok-patterns.patterns.items ≡ patterns_of c.args.trips.now.lines c.args.stations.now c.args.shapes.of_trips =
    c.in_ok-patterns.ensures
    ∙ ap (λ lines. patterns_of lines c.args.stations.now c.as_slice-of_trips.result.now) c.as_slice-lines.ensures
    ∙ ap (λ shapes. patterns_of c.args.trips.now.lines c.args.stations.now shapes) c.as_slice-of_trips.ensures in
    let same : made ≡ feed_of c.args.routes c.args.stops c.args.trips.now c.args.shapes c.args.stations.now =
    λ i. record { stations = c.into_vec.ensures i; lines = c.into_vec-2.ensures i; patterns = patterns i; shapes = c.into_vec-3.ensures i } in
    subst IsFeed (sym same)
    (is_feed c.args.routes c.args.stops c.args.trips.now c.args.shapes c.args.stations.now c.requires.routes c.requires.stops c.requires.trips c.requires.shapes c.requires.served)
