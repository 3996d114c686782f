use Rattle.std.proofs.Common.{◌∙◌, Ok, ap, sym}
use Rattle.std.proofs.lemmas.Result.{err_from_is_err_and}
use Rattle.command_paths.specs.Paths.{paths_by}
use Rattle.graph_maps.specs.Improving.{improved_bytes}
use Rattle.map_engine.specs.Improving.{improve_outcome}
use Rattle.map_commands.specs.ImproveWorks.{improved_at}
use Rattle.map_commands.proofs.ImproveLemmas.{improved_refused}
use Rattle.map_commands.proofs.improve_command.improved_of.Goals as goal

pub returns-in_err-improved-clause-given : goal.returns-in_err-improved-clause-given
returns-in_err-improved-clause-given g c =
    let loaded = c.args.loaded.now in
    improved_refused (paths_by c.args.map_files.now) (improve_outcome loaded.tables loaded.settings loaded.method c.args.moves) c.in_err-improved.field-0.0 c.from_residual.result
    (err_from_is_err_and c.from_residual.result c.from_residual.ensures.1) c.in_err-improved.ensures.outcome

pub returns-clause-given : goal.returns-clause-given
returns-clause-given g c =
    ap (improved_at (paths_by c.args.map_files.now)) c.in_ok-improved.ensures.outcome ∙ ap Ok (sym c.in_ok-write_improved.ensures)

pub returns-clause-improved : goal.returns-clause-improved
returns-clause-improved g c = (improved_bytes c.in_ok-improved.improved, c.in_ok-improved.ensures.outcome, c.in_ok-improved.ensures.improved, c.in_ok-write_improved.ensures)
