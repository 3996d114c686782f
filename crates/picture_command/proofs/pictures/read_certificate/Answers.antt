use Rattle.std.proofs.Common.{ℕ, Vec, option_map, List}
use Rattle.std.specs.Global.{Global}
use Rattle.files_door.specs.Fault.{Rose}
use Rattle.command_run.specs.declared.output.Output.{Output}
use Rattle.run_status.specs.declared.input.Input.TheVariants as input
use Rattle.run_status.proofs.FollowLemmas.{follows_value}
use Rattle.command_inputs.specs.Inputs.{input_at, inputs_by}
use Rattle.command_inputs.specs.Loading.{file_work}
use Rattle.picture_command.specs.PictureWorks.{picture_at}
use Rattle.picture_command.proofs.PictureLemmas.{picture_lies}
use Rattle.picture_command.proofs.pictures.read_certificate.Goals as goal

pub returns-clause-follows : goal.returns-clause-follows
returns-clause-follows g c =
    let told = g.F.Files.told c.args.files.now in
    let paths = input_at (inputs_by c.args.inputs.now) in
    let rose = Rose (g.F.Files.faults c.args.files.now) (g.F.Files.faults c.read_file.new.files) in
    follows_value told paths rose (λ bytes. option_map (λ (v : Vec ℕ Global). v.items) bytes) (λ (o : List Output). o) (file_work input.Certificate)
    (λ file. picture_at c.args.kind c.args.map.now c.args.loaded.now c.args.graph.now.graph file) c.in_ok-bytes.bytes c.picture_at.result
    c.in_ok-bytes.ensures.follows c.picture_at.ensures.given

pub returns-clause-labelled : goal.returns-clause-labelled
returns-clause-labelled g c =
    picture_lies c.args.kind (g.F.Files.told c.args.files.now) (inputs_by c.args.inputs.now) c.args.map.now c.args.loaded.now
    (option_map (λ (v : Vec ℕ Global). v.items) c.in_ok-bytes.bytes) c.picture_at.result c.in_ok-bytes.ensures.given c.picture_at.ensures.labelled
