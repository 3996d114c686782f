use Rattle.std.proofs.lemmas.List.Elements.{All-contains_itself}
use Rattle.std.proofs.lemmas.Result.{err_from_is_err_and}
use Rattle.map_faults.specs.Faults.{of_limit}
use Rattle.graph_maps.specs.declared.improvement.ImprovedMap.{ImprovedMap}
use Rattle.graph_maps.specs.Making.{plan_of}
use Rattle.graph_maps.specs.Improving.{ImprovedBytes, improved_map}
use Rattle.graph_maps.proofs.MadeLemmas.{not_drawn}
use Rattle.graph_maps.proofs.KeepLemmas.{nothing_finished}
use Rattle.map_engine.specs.Tables.{subject_of}
use Rattle.map_engine.specs.Making.{drawn_outcome}
use Rattle.map_engine.proofs.FeedMaps.{not_built}
use Rattle.map_engine.proofs.making.make_improved.Goals as goal

pub returns-in_err-graph-clause-outcome : goal.returns-in_err-graph-clause-outcome
returns-in_err-graph-clause-outcome g c =
    let feed = c.args.tables.now in
    let choices = c.args.settings.now in
    let method = c.args.method.now in
    let stop = c.in_err-graph.field-0.0 in
    let same = err_from_is_err_and c.from_residual.result c.from_residual.ensures.1 in
    rw (same.1, same.2) (not_drawn ImprovedBytes (improved_map (subject_of feed choices) c.args.moves) choices method
    (drawn_outcome feed choices method) (of_limit stop)
    (not_built feed choices method stop c.in_err-graph.ensures.cause))

pub returns-in_err-graph-clause-kept : goal.returns-in_err-graph-clause-kept
returns-in_err-graph-clause-kept g c = All-contains_itself c.args.kept.now

pub returns-in_err-graph-clause-finished : goal.returns-in_err-graph-clause-finished
returns-in_err-graph-clause-finished g c =
    let feed = c.args.tables.now in
    let choices = c.args.settings.now in
    let method = c.args.method.now in
    let stop = c.in_err-graph.field-0.0 in
    let same = err_from_is_err_and c.from_residual.result c.from_residual.ensures.1 in
    rw (same.1, same.2) (nothing_finished ImprovedMap (plan_of choices method)
    (drawn_outcome feed choices method) c.args.kept.now (of_limit stop)
    (not_built feed choices method stop c.in_err-graph.ensures.cause))
