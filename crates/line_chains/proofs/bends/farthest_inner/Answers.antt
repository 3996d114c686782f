use Rattle.std.proofs.Common.{◌≡◌, ◌+◌, ◌<◌, length, rules, subst, sym}
use Rattle.line_chains.specs.Bends.{first_place, greatest, offs_of}
use Rattle.line_chains.proofs.Bending.{offs_below}
use Rattle.line_chains.proofs.bends.farthest_inner.Goals as goal

pub returns-clause-within : goal.returns-clause-within
returns-clause-within c =
    let g = c.args.graph.now in
    let ns = c.args.nodes.now in
    let place : c.farthest.result.0 ≡ first_place (greatest (offs_of g ns)) (offs_of g ns) = search rules in
    subst (λ k. k + 2 < length ns) (sym place) (offs_below g ns c.requires.long)
