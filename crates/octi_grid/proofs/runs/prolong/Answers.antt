use Rattle.std.proofs.Common.{arith}
use Rattle.octi_grid.proofs.RunLemmas.{prolonged_at}
use Rattle.octi_grid.proofs.runs.prolong.Goals as goal

pub returns : goal.returns
returns c = prolonged_at c.args.runs.now.items _ c.index_mut.result.now (omega (arith, c.args.runs.now.ok.0)) c.index_mut.ensures.value
