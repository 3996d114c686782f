use Rattle.geo_lines.proofs.Steps.{apart_at}
use Rattle.geo_lines.proofs.path.piece_at.Goals as goal

pub shift_of-requires-clause-apart : goal.shift_of-requires-clause-apart
shift_of-requires-clause-apart c = apart_at c.args.points.now c.args.i c.requires.course.apart c.requires.piece
