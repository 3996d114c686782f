use Rattle.std.proofs.Common.{sym, arith}
use Rattle.graph_maps.proofs.ItemLemmas.{other_lengths}
use Rattle.graph_maps.proofs.items.are_same_pairs.Goals as goal

pub returns-then-some-others : goal.returns-then-some-others
returns-then-some-others c = sym (other_lengths c.args.some.now c.args.others.now (λ e. omega (arith, e, c.if-some-others.true)))
