use Rattle.net_paths.proofs.Visiting.{path-once}
use Rattle.net_paths.proofs.once.stretch_path_visits_once.Goals as goal

pub returns : goal.returns
returns c = path-once
