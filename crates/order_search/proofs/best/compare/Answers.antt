use Rattle.std.proofs.Common.{refl, ap, List}
use Rattle.map_base.specs.declared.ids.LineId.{LineId}
use Rattle.order_search.specs.LiveTrees.{Best}
use Rattle.order_search.proofs.Leaves.{leaf_kept, leaf_taken}
use Rattle.order_search.proofs.best.compare.Goals as goal

pub returns-in_ok-search-clause-best : goal.returns-in_ok-search-clause-best
returns-in_ok-search-clause-best c =
    let u = c.requires.under_way in
    let made : List (List LineId) → Best = λ l. record { cost = c.args.cost; lists = l } in
    leaf_taken c.args.search.now _ c.args.cost u
    (record {
      under_way = record { segs = u.segs; part = u.part; problem = u.problem; rising = u.rising; known = u.known; well = u.well; within = u.within; budget = u.budget };
      bounds = refl;
      budget = refl;
      children = refl;
    })
    refl c.requires.complete c.requires.cost c.if-cost-search.true (ap made c.in_ok-search.ensures)

pub returns-else-cost-search-clause-best : goal.returns-else-cost-search-clause-best
returns-else-cost-search-clause-best c = leaf_kept c.args.search.now c.args.cost c.requires.under_way c.requires.complete c.requires.cost c.if-cost-search.false
