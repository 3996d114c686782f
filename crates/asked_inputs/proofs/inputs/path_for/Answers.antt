use Rattle.std.proofs.Common.{◌∙◌, ap}
use Rattle.std.proofs.lemmas.Result.{IfOk-weaker}
use Rattle.command_inputs.specs.Inputs.{InputPaths, input_at}
use Rattle.asked_inputs.proofs.inputs.path_for.Goals as goal

pub returns : goal.returns
returns c = IfOk-weaker c.path_of.result _ _ (λ path is. is ∙ ap (λ (p : InputPaths). input_at p c.args.input) c.inputs_of.ensures) c.path_of.ensures
