use Rattle.std.proofs.Common.{◌-◌, ◌<◌, length, Some, ◌∙◌, ap, sym, arith}
use Rattle.std.specs.Prelude.{option_map}
use Rattle.octi_grid.specs.declared.dir.Dir.{Dir}
use Rattle.octi_grid.specs.Ways.{reverse_of}
use Rattle.octi_grid.specs.Walks.{end_port}
use Rattle.octi_grid.proofs.RunLemmas.{last_of-steps, runs-some}
use Rattle.octi_grid.proofs.walk.Walk.end_port.Goals as goal

pub returns : goal.returns
returns c =
    let some : 0 < length c.self.inside.held.items = runs-some c.self.inside.held.items c.self.invariant.1.some in
    ap end_port (sym c.self.view_is)
    ∙ ap (option_map reverse_of)
    (last_of-steps c.self.inside.held.items (c.len.result - 1) c.index.result.now c.self.invariant.0 (omega (arith, c.self.inside.held.ok.0)) c.index.ensures)
    ∙ ap (λ (d : Dir). Some d) (sym c.reverse.ensures)
