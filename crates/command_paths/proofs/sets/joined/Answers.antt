use Rattle.std.proofs.Common.{codes}
use Rattle.command_paths.proofs.StepLemmas.{stripped}
use Rattle.command_paths.proofs.sets.joined.Goals as goal

pub returns : goal.returns
returns c = stripped c.strip_prefix.result (codes "--set=") c.args.word.now c.strip_prefix.ensures.cases
