use Rattle.std.proofs.Common.{◌∙◌, ap, sym}
use Rattle.octi_grid.specs.Walks.{start_port}
use Rattle.octi_grid.proofs.RunLemmas.{first_of-steps, runs-some}
use Rattle.octi_grid.proofs.walk.Walk.start_port.Goals as goal

pub returns : goal.returns
returns c =
    ap start_port (sym c.self.view_is)
    ∙ first_of-steps c.self.inside.held.items c.index.result.now c.self.invariant.0 (runs-some c.self.inside.held.items c.self.invariant.1.some) c.index.ensures
