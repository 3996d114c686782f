use Rattle.std.proofs.Common.{length}
use Rattle.label_place.proofs.Clear.{kept}
use Rattle.label_place.proofs.laws.names_keep_clear.Goals as goal

pub returns-clause-apart : goal.returns-clause-apart
returns-clause-apart c = λ names graph walks. (kept names graph walks (length graph.kinds)).apart

pub returns-clause-clear : goal.returns-clause-clear
returns-clause-clear c = λ names graph walks. (kept names graph walks (length graph.kinds)).clear
