use Rattle.std.proofs.lemmas.Result.{err_from_is_err_and}
use Rattle.graph_maps.specs.declared.improvement.ImprovedMap.{ImprovedMap}
use Rattle.graph_maps.specs.declared.made.Made.{Made}
use Rattle.graph_maps.specs.Improving.{improved_bytes}
use Rattle.graph_maps.proofs.MadeLemmas.{made_of_none, none_of_none}
use Rattle.graph_maps.proofs.KeepLemmas.{same_held}
use Rattle.map_engine.specs.Tables.{subject_of}
use Rattle.map_engine.specs.Making.{solved_outcome}
use Rattle.map_engine.specs.Keeping.{finished_parts}
use Rattle.map_engine.proofs.making.make_again.Goals as goal

pub returns-in_err-improved-clause-outcome : goal.returns-in_err-improved-clause-outcome
returns-in_err-improved-clause-outcome g c =
    let same = err_from_is_err_and c.from_residual.result c.from_residual.ensures.1 in
    rw (same.1, same.2) (none_of_none (subject_of c.args.tables.now c.args.settings.now)
    (solved_outcome c.args.tables.now c.args.settings.now c.args.method.now)
    c.in_err-improved.field-0.0 c.in_err-improved.ensures.outcome)

pub returns-in_err-improved-clause-finished : goal.returns-in_err-improved-clause-finished
returns-in_err-improved-clause-finished g c =
    let e = c.in_err-improved.field-0.0 in
    let parts = finished_parts c.args.tables.now c.args.settings.now c.args.method.now in
    let same = err_from_is_err_and c.from_residual.result c.from_residual.ensures.1 in
    rw (same.1, same.2) (same_held ImprovedMap Made e parts c.make_improved.new.kept c.in_err-improved.ensures.finished)

pub returns-clause-outcome : goal.returns-clause-outcome
returns-clause-outcome g c = made_of_none (subject_of c.args.tables.now c.args.settings.now)
    (solved_outcome c.args.tables.now c.args.settings.now c.args.method.now)
    (improved_bytes c.in_ok-improved.improved) c.in_ok-improved.ensures.outcome

pub returns-clause-made : goal.returns-clause-made
returns-clause-made g c = c.in_ok-improved.ensures.improved.made
