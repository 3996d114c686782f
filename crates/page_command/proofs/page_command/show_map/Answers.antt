use Rattle.std.proofs.Common.{ℕ, List, Vec, option_map}
use Rattle.std.specs.declared.alloc.Global.{Global}
use Rattle.files_door.specs.Fault.{Rose}
use Rattle.command_run.specs.declared.output.Output.{Output}
use Rattle.run_status.specs.declared.input.Input.TheVariants as input
use Rattle.run_status.proofs.FollowLemmas.{follows_value}
use Rattle.command_inputs.specs.Inputs.{input_at, inputs_by}
use Rattle.command_inputs.specs.Loading.{file_work}
use Rattle.page_command.specs.PageWorks.{page_at}
use Rattle.page_command.proofs.page_command.show_map.Goals as goal

pub returns : goal.returns
returns g c =
    let told = g.F.Files.told c.args.files.now in
    let paths = input_at (inputs_by c.args.inputs.now) in
    let rose = Rose (g.F.Files.faults c.args.files.now) (g.F.Files.faults c.read_file.new.files) in
    record {
      follows = follows_value told paths rose (λ bytes. option_map (λ (v : Vec ℕ Global). v.items) bytes) (λ (o : List Output). o) (file_work input.Picture)
          (λ file. page_at c.args.page.now file) c.in_ok-bytes.bytes c.page_at.result
          c.in_ok-bytes.ensures.follows c.page_at.ensures;
    }
