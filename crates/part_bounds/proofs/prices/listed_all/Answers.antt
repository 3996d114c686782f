use Rattle.std.proofs.Common.{refl, get_or, ◌∙◌, rules, to_z, of_z, w64}
use Rattle.std.proofs.lemmas.Int.{to_z-of_z}
use Rattle.pair_bounds.specs.PriceNotes.{price_noted}
use Rattle.part_bounds.proofs.NotedPairs.{listed_more}
use Rattle.part_bounds.proofs.prices.listed_all.Goals as goal

pub loop-n-preserved : goal.loop-n-preserved
loop-n-preserved c =
    listed_more (price_noted c.args.noted.now.prices.items) c.args.numbers.now c.loop-n.n-index (get_or c.args.numbers.now c.loop-n.n-index 0) c.loop-n.list.items c.push_price.new.list.items (to_z w64 (of_z w64 c.of.result))
    c.loop-n-test.true refl (to_z-of_z w64 c.of.result (search rules) ∙ c.of.ensures) c.loop-n.invariant c.in_ok-push_price.ensures
