use Rattle.std.proofs.Common.{List}
use Rattle.std.proofs.lemmas.Result.{err_from_is_err_and}
use Rattle.files_door.specs.Fault.{Rose}
use Rattle.line_graph.specs.Outcome.{graph_outcome}
use Rattle.command_run.specs.declared.output.Output.{Output}
use Rattle.command_run.specs.Work.{ends}
use Rattle.command_inputs.specs.declared.loaded.Loaded.{Loaded}
use Rattle.command_inputs.specs.Inputs.{input_at, inputs_by}
use Rattle.table_commands.specs.TableWorks.{drawn}
use Rattle.command_inputs.specs.Loading.{load_work}
use Rattle.run_status.proofs.FollowLemmas.{follows_refused, follows_value}
use Rattle.table_commands.proofs.GraphLemmas.{are_of_graph}
use Rattle.table_commands.proofs.graph_command.print_line_graph.Goals as goal

pub returns-in_err-loaded-clause-follows : goal.returns-in_err-loaded-clause-follows
returns-in_err-loaded-clause-follows g c =
    let told = g.F.Files.told c.args.files.now in
    let paths = input_at (inputs_by c.args.inputs.now) in
    let rose = Rose (g.F.Files.faults c.args.files.now) (g.F.Files.faults c.load.new.files) in
    follows_refused told paths rose (λ (l : Loaded). l) (λ (o : List Output). o) (load_work (inputs_by c.args.inputs.now).chosen) (λ l. ends (drawn l.tables (graph_outcome l.settings.near l.tables))) c.in_err-loaded.field-0.0 c.from_residual.result
    (err_from_is_err_and c.from_residual.result c.from_residual.ensures.1) c.in_err-loaded.ensures.follows

pub returns-clause-follows : goal.returns-clause-follows
returns-clause-follows g c =
    let told = g.F.Files.told c.args.files.now in
    let paths = input_at (inputs_by c.args.inputs.now) in
    let rose = Rose (g.F.Files.faults c.args.files.now) (g.F.Files.faults c.load.new.files) in
    follows_value told paths rose (λ (l : Loaded). l) (λ (o : List Output). o) (load_work (inputs_by c.args.inputs.now).chosen) (λ l. drawn l.tables (graph_outcome l.settings.near l.tables)) c.in_ok-loaded.loaded c.draw.result
    c.in_ok-loaded.ensures.follows c.draw.ensures.given

pub returns-clause-keeps : goal.returns-clause-keeps
returns-clause-keeps g c =
    are_of_graph (g.F.Files.told c.args.files.now) (inputs_by c.args.inputs.now) (Rose (g.F.Files.faults c.args.files.now) (g.F.Files.faults c.load.new.files))
    c.in_ok-loaded.loaded c.draw.result c.in_ok-loaded.ensures.follows c.draw.ensures.tells
