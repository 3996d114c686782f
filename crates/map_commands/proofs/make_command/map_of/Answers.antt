use Rattle.std.proofs.lemmas.Result.{err_from_is_err_and}
use Rattle.command_paths.specs.Paths.{new_paths_by}
use Rattle.map_commands.proofs.MakeLemmas.{graph_stops}
use Rattle.map_commands.proofs.make_command.map_of.Goals as goal

pub returns-in_err-graph-clause-given : goal.returns-in_err-graph-clause-given
returns-in_err-graph-clause-given g c =
    let same = err_from_is_err_and c.from_residual.result c.from_residual.ensures.1 in
    rw (same.1, same.2) (graph_stops (new_paths_by c.args.new_files.now) c.args.loaded.now c.in_err-graph.field-0.0 c.in_err-graph.ensures.cause)
