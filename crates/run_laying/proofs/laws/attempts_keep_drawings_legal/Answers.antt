use Rattle.run_laying.proofs.Kept.{kept_legal}
use Rattle.run_laying.proofs.laws.attempts_keep_drawings_legal.Goals as goal

pub returns : goal.returns
returns c = λ graph fit bounds walks new a on_board fits made. kept_legal graph fit bounds walks on_board a fits new made
