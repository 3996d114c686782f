use Rattle.std.proofs.Common.{ap, ◌∙◌}
use Rattle.map_edits.specs.Effects.{stations_after, lines_after}
use Rattle.map_edits.proofs.MadeLemmas.{parts_fit}
use Rattle.map_edits.proofs.effects.changed_tables.Goals as goal

pub invariant_of-result : goal.invariant_of-result
invariant_of-result c =
    let edits = c.args.edits.now in
    let feed = c.tables.inside in
    parts_fit edits (record { stations = feed.stations.items; lines = feed.lines.items; patterns = feed.patterns.items; shapes = feed.shapes.items })
    c.in_ok-stations.stations.items c.in_ok-lines.lines.items c.in_ok-patterns.patterns.items c.in_ok-shapes.shapes.items
    (c.in_ok-stations.ensures ∙ ap (stations_after edits) c.as_slice.ensures.value)
    (c.in_ok-lines.ensures ∙ ap (lines_after edits) c.as_slice-2.ensures.value)
    (c.in_ok-patterns.ensures ∙ c.as_slice-3.ensures.value) (c.in_ok-shapes.ensures ∙ c.as_slice-4.ensures.value) c.requires c.tables.invariant
