use Rattle.files_door.specs.Fault.{Rose}
use Rattle.map_run.proofs.EndingLemmas.{told_answer}
use Rattle.map_run.proofs.laws.told_files_decide_the_answer.Goals as goal

pub returns : goal.returns
returns c = λ asked files before now answer is. told_answer asked files (Rose before now) answer is
