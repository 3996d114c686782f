use Rattle.std.proofs.Common.{ℕ, Vec, option_map}
use Rattle.std.specs.declared.alloc.Global.{Global}
use Rattle.files_door.specs.Fault.{Rose}
use Rattle.run_status.specs.declared.input.Input.TheVariants as input
use Rattle.command_inputs.specs.declared.loaded.Loaded.{Loaded}
use Rattle.command_inputs.specs.Inputs.{input_at, inputs_by}
use Rattle.command_inputs.specs.Loading.{file_work, changed_in}
use Rattle.run_status.proofs.FollowLemmas.{follows_value}
use Rattle.command_inputs.proofs.edits.edits_file.Goals as goal

pub returns-clause-follows : goal.returns-clause-follows
returns-clause-follows g c =
    let told = g.F.Files.told c.args.files.now in
    let paths = input_at (inputs_by c.args.inputs.now) in
    let rose = Rose (g.F.Files.faults c.args.files.now) (g.F.Files.faults c.read_file.new.files) in
    follows_value told paths rose (λ bytes. option_map (λ (v : Vec ℕ Global). v.items) bytes) (λ (l : Loaded). l) (file_work input.Edits)
    (λ file. changed_in c.args.loaded file) c.in_ok-bytes.bytes c.changed_in.result
    c.in_ok-bytes.ensures.follows c.changed_in.ensures
