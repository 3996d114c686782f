use Rattle.std.proofs.lemmas.Result.{err_from_is_err_and}
use Rattle.graph_maps.specs.Subjects.{told_by}
use Rattle.graph_maps.specs.declared.improvement.ImprovedMap.{ImprovedMap}
use Rattle.graph_maps.specs.declared.made.Made.{Made}
use Rattle.graph_maps.specs.Making.{solved_on}
use Rattle.graph_maps.specs.Keeping.{finished_on}
use Rattle.graph_maps.specs.Improving.{improved_bytes}
use Rattle.graph_maps.proofs.MadeLemmas.{made_of_none, none_of_none}
use Rattle.graph_maps.proofs.KeepLemmas.{same_held}
use Rattle.graph_maps.proofs.making.make_from.Goals as goal

pub returns-in_err-improved-clause-outcome : goal.returns-in_err-improved-clause-outcome
returns-in_err-improved-clause-outcome g c =
    let same = err_from_is_err_and c.from_residual.result c.from_residual.ensures.1 in
    rw (same.1, same.2) (none_of_none (told_by c.args.names.now c.args.importance.now)
    (solved_on c.args.importance.now c.args.settings.now c.args.method.now c.args.graph.now) c.in_err-improved.field-0.0
    c.in_err-improved.ensures.outcome)

pub returns-in_err-improved-clause-finished : goal.returns-in_err-improved-clause-finished
returns-in_err-improved-clause-finished g c =
    let e = c.in_err-improved.field-0.0 in
    let parts = finished_on c.args.importance.now c.args.settings.now c.args.method.now c.args.graph.now in
    let same = err_from_is_err_and c.from_residual.result c.from_residual.ensures.1 in
    rw (same.1, same.2) (same_held ImprovedMap Made e parts c.make_improved_from.new.kept
    c.in_err-improved.ensures.finished)

pub returns-clause-outcome : goal.returns-clause-outcome
returns-clause-outcome g c = made_of_none (told_by c.args.names.now c.args.importance.now)
    (solved_on c.args.importance.now c.args.settings.now c.args.method.now c.args.graph.now)
    (improved_bytes c.in_ok-improved.improved) c.in_ok-improved.ensures.outcome

pub returns-clause-made : goal.returns-clause-made
returns-clause-made g c = c.in_ok-improved.ensures.improved.made
