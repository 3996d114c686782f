use Rattle.std.proofs.lemmas.Result.{err_from_is_err_and}
use Rattle.files_door.specs.Fault.{Rose}
use Rattle.graph_json.specs.declared.imported.Imported.{Imported}
use Rattle.command_run.specs.Work.{ends}
use Rattle.command_inputs.specs.Inputs.{input_at, inputs_by}
use Rattle.command_inputs.specs.Loading.{file_work}
use Rattle.command_inputs.proofs.FileLemmas.{bytes_in}
use Rattle.run_status.specs.declared.input.Input.TheVariants as input
use Rattle.run_status.proofs.FollowLemmas.{follows_refused, follows_value}
use Rattle.map_commands.specs.ImportWorks.{graph_in}
use Rattle.map_commands.proofs.import_command.graph_file.Goals as goal

pub returns-in_err-bytes-clause-follows : goal.returns-in_err-bytes-clause-follows
returns-in_err-bytes-clause-follows g c =
    follows_refused (g.F.Files.told c.args.files.now) (input_at (inputs_by c.args.inputs.now))
    (Rose (g.F.Files.faults c.args.files.now) (g.F.Files.faults c.read_file.new.files))
    bytes_in (λ (r : Imported). r) (file_work input.Graph) (λ f. ends (graph_in f))
    c.in_err-bytes.field-0.0 c.from_residual.result
    (err_from_is_err_and c.from_residual.result c.from_residual.ensures.1) c.in_err-bytes.ensures.follows

pub returns-clause-follows : goal.returns-clause-follows
returns-clause-follows g c =
    follows_value (g.F.Files.told c.args.files.now) (input_at (inputs_by c.args.inputs.now))
    (Rose (g.F.Files.faults c.args.files.now) (g.F.Files.faults c.read_file.new.files))
    bytes_in (λ (r : Imported). r) (file_work input.Graph) graph_in c.in_ok-bytes.bytes c.graph_in.result
    c.in_ok-bytes.ensures.follows c.graph_in.ensures.given
