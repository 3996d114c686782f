use Rattle.std.proofs.Common.{◌+◌, arith, refl}
use Rattle.sequence_tables.proofs.PlaceRunLemmas.{longer_run}
use Rattle.sequence_tables.proofs.places.longer.Goals as goal

pub returns : goal.returns
returns c = longer_run c.args.run.first c.args.run.count (c.args.run.count + 1) c.args.place refl (omega arith)
