use Rattle.std.proofs.Common.{◌∙◌, ◌++◌, ap, arith, List, ℕ}
use Rattle.way_network.specs.declared.way.Way.{Way}
use Rattle.way_network.specs.Uses.{uses_along, uses_of_way}
use Rattle.way_network.proofs.UseLemmas.{pushed_way}
use Rattle.way_network.proofs.edge_use.uses_of.Goals as goal

pub loop-way-preserved : goal.loop-way-preserved
loop-way-preserved c =
    pushed_way c.args.ways.now c.loop-way.way-index c.way-item.result c.loop-way.uses.items c.push_along.new.uses.items (omega (arith, c.loop-way-test.true)) c.loop-way.invariant
    (c.in_ok-push_along.ensures
    ∙ ap (λ (points : List ℕ). c.loop-way.uses.items ++ uses_along c.way-item.result.line.0 points) c.as_slice.ensures
    ∙ ap (λ (w : Way). c.loop-way.uses.items ++ uses_of_way w) c.way-item.is)
