use Rattle.std.proofs.Common.{ℕ, Vec, option_map}
use Rattle.std.specs.Global.{Global}
use Rattle.files_door.specs.Fault.{Rose}
use Rattle.graph_maps.specs.Checking.{checked_bytes}
use Rattle.run_status.specs.declared.input.Input.TheVariants as input
use Rattle.command_inputs.specs.Inputs.{input_at, inputs_by}
use Rattle.map_commands.specs.MapWorks.{certificate_checked}
use Rattle.command_inputs.specs.Loading.{file_work}
use Rattle.run_status.proofs.FollowLemmas.{follows_value}
use Rattle.map_commands.proofs.check_command.read_certificate.Goals as goal

pub returns-clause-follows : goal.returns-clause-follows
returns-clause-follows g c =
    let told = g.F.Files.told c.args.files.now in
    let paths = input_at (inputs_by c.args.inputs.now) in
    let rose = Rose (g.F.Files.faults c.args.files.now) (g.F.Files.faults c.read_file.new.files) in
    follows_value told paths rose (λ bytes. option_map (λ (v : Vec ℕ Global). v.items) bytes) checked_bytes (file_work input.Certificate)
    (λ file. certificate_checked c.args.loaded.now c.args.graph.now file) c.in_ok-bytes.bytes c.check_certificate.result
    c.in_ok-bytes.ensures.follows c.check_certificate.ensures.given
