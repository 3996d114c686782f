use Rattle.std.proofs.Common.{sym, ◌∙◌, subst, ℕ, ◌<◌, List, [], length, All, arith}
use Rattle.way_network.specs.declared.edges.UsedEdge.{UsedEdge}
use Rattle.way_network.proofs.Walking.{walk_step, other_in_known}
use Rattle.way_network.proofs.chains.chain_from.Goals as goal

pub loop-preserved : goal.loop-preserved
loop-preserved c =
    let rows : List (List UsedEdge) = c.args.table.now in
    let n : ℕ = length rows in
    let row : List UsedEdge = c.row.result.now in
    let known : All (λ (edge : UsedEdge). edge.to < n) row = subst (λ (r : List UsedEdge). All (λ (edge : UsedEdge). edge.to < n) r) (sym c.row.ensures.value) (c.requires.known c.loop.here [] c.loop.invariant.here) in
    record {
      whole = walk_step rows c.args.nodes.now.nodes n c.loop.counter c.loop.last c.loop.here c.other_end-next.result row c.loop.chain.items c.push-in-loop.new.self.items _ (omega (arith, c.len-end.ensures))
          c.in_ok-push-2.ensures.items (sym c.is_node.ensures ∙ c.if-is_node.false) c.row.ensures.value c.other_end-next.ensures c.loop.invariant.whole;
      here = subst (λ (p : ℕ). p < n) (sym c.other_end-next.ensures) (other_in_known n row c.loop.last c.loop.here known c.loop.invariant.here);
    }
