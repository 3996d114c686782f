use Rattle.std.proofs.Common.{arith}
use Rattle.gtfs_fields.proofs.Cuts.{length-cut}
use Rattle.gtfs_fields.proofs.rows.Rows.len.Goals as goal

pub returns : goal.returns
returns c = rw (← c.self.view_is, length-cut) (omega arith)
