use Rattle.std.proofs.Common.{ℕ, Vec, option_map}
use Rattle.std.specs.declared.alloc.Global.{Global}
use Rattle.map_method.specs.declared.map_settings.MapSettings.{MapSettings}
use Rattle.files_door.specs.Fault.{Rose}
use Rattle.run_status.specs.declared.input.Input.TheVariants as input
use Rattle.command_inputs.specs.Inputs.{input_at, inputs_by}
use Rattle.command_inputs.specs.Loading.{file_work, settings_in}
use Rattle.run_status.proofs.FollowLemmas.{follows_value}
use Rattle.command_inputs.proofs.settings.settings_file.Goals as goal

pub returns-clause-follows : goal.returns-clause-follows
returns-clause-follows g c =
    let told = g.F.Files.told c.args.files.now in
    let paths = input_at (inputs_by c.args.inputs.now) in
    let rose = Rose (g.F.Files.faults c.args.files.now) (g.F.Files.faults c.read_file.new.files) in
    follows_value told paths rose (λ bytes. option_map (λ (v : Vec ℕ Global). v.items) bytes) (λ (s : MapSettings). s) (file_work input.Settings)
    (λ file. settings_in c.args.inputs.now.options.defaults (inputs_by c.args.inputs.now).chosen.sets file) c.in_ok-bytes.bytes c.settings_in.result
    c.in_ok-bytes.ensures.follows c.settings_in.ensures
