use Rattle.line_offsets.specs.Shifts.{turn_of}
use Rattle.line_offsets.proofs.Meeting.{turns_both, on_line, only_corner}
use Rattle.line_offsets.proofs.laws.a_corner_is_where_both_lines_meet.Goals as goal

pub returns : goal.returns
returns c = λ d e p k apart.
    let both = turns_both d e apart in
    (on_line d p k (turn_of d e) both.0, on_line e p k (turn_of d e) both.1, λ at one other. only_corner d e p k at apart one other)
