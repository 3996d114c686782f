use Rattle.std.proofs.Common.{◌∙◌, ℕ, drop, get_or, map, arith}
use Rattle.map_base.specs.declared.ids.NodeId.{NodeId}
use Rattle.line_chains.specs.Bends.{off_of, place_of}
use Rattle.line_chains.proofs.Farthest.{scan, scan_over, scanned_all}
use Rattle.line_chains.proofs.bends.farthest.Goals as goal

pub returns : goal.returns
returns c =
    let none : NodeId = record { 0 = 0 } in
    let inner = c.args.inner.now in
    let f : NodeId → ℕ = λ n. off_of c.args.a c.args.b (place_of c.args.graph.now n) in
    scan_over f inner c.loop-i.i c.loop-i.best (scan (0, f (get_or inner 0 none)) 1 (map f (drop 1 inner))) (omega arith) c.loop-i.invariant ∙ scanned_all f inner none c.requires.some
