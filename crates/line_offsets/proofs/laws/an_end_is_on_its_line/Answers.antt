use Rattle.line_offsets.specs.Shifts.{foot_of}
use Rattle.line_offsets.proofs.Meeting.{on_line, foot_on_line}
use Rattle.line_offsets.proofs.laws.an_end_is_on_its_line.Goals as goal

pub returns : goal.returns
returns c = λ d p k. on_line d p k (foot_of d) (foot_on_line d)
