use Rattle.std.proofs.Common.{arith}
use Rattle.gtfs_fields.proofs.Cuts.{length-cut}
use Rattle.gtfs_fields.proofs.pieces.Pieces.len.Goals as goal

pub returns : goal.returns
returns c = rw (← c.self.view_is, length-cut) (omega arith)
