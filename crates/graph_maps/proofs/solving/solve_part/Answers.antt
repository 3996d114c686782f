use Rattle.std.proofs.Common.{List, All, Contains, subst, sym, ◌<◌, ℕ}
use Rattle.std.proofs.lemmas.List.Elements.{All-contains_itself}
use Rattle.map_base.specs.declared.ids.SegId.{SegId}
use Rattle.order_model.specs.Costs.{AreOrders}
use Rattle.kept_trees.proofs.PutOrders.{length-orders, orders_put}
use Rattle.kept_trees.proofs.HeldLists.{added_is_in}
use Rattle.kept_trees.specs.OwnTrees.{HeldPart, held_as}
use Rattle.graph_maps.proofs.KeepLemmas.{all_stay}
use Rattle.graph_maps.proofs.SolveLemmas.{found_more}
use Rattle.graph_maps.proofs.solving.solve_part.Goals as goal

pub take_found-requires-clause-known : goal.take_found-requires-clause-known
take_found-requires-clause-known g c = subst (λ (n : ℕ). All (λ (s : SegId). s.0 < n) c.args.part.now)
    (sym (length-orders c.args.problem.now.segs c.args.solution.now.orders.items c.requires.orders)) c.requires.known

pub returns-in_ok-take_found-in-Ok-clause-more : goal.returns-in_ok-take_found-in-Ok-clause-more
returns-in_ok-take_found-in-Ok-clause-more g c =
    let found = c.in-Ok.ensures.found in
    found_more c.args.plan c.args.problem.now c.args.part.now c.in-Ok.found c.args.solution.now c.take_found.new.solution found
    c.in_ok-take_found-in-Ok.ensures.orders c.in_ok-take_found-in-Ok.ensures.parts

pub returns-in_ok-take_found-in-Ok-clause-orders : goal.returns-in_ok-take_found-in-Ok-clause-orders
returns-in_ok-take_found-in-Ok-clause-orders g c =
    subst (AreOrders c.args.problem.now.segs) (sym c.in_ok-take_found-in-Ok.ensures.orders)
    (orders_put c.args.problem.now.segs c.args.solution.now.orders.items c.args.part.now c.in-Ok.found.orders.lists c.requires.orders c.in-Ok.ensures.found.attained.orders)

pub returns-in_ok-take_found-in-Ok-clause-held : goal.returns-in_ok-take_found-in-Ok-clause-held
returns-in_ok-take_found-in-Ok-clause-held g c =
    let own : HeldPart = held_as c.args.plan c.args.problem.now c.args.part.now in
    subst (λ (held : List HeldPart). Contains held own) (sym c.in-Ok.ensures.held) (added_is_in c.args.kept.now own)

pub returns-in_ok-take_found-in-Ok-clause-kept : goal.returns-in_ok-take_found-in-Ok-clause-kept
returns-in_ok-take_found-in-Ok-clause-kept g c =
    subst (λ (held : List HeldPart). All (Contains held) c.args.kept.now) (sym c.in-Ok.ensures.held) (all_stay c.args.kept.now (held_as c.args.plan c.args.problem.now c.args.part.now))

pub returns-in_err-take_found-in-Ok-clause-kept : goal.returns-in_err-take_found-in-Ok-clause-kept
returns-in_err-take_found-in-Ok-clause-kept g c =
    subst (λ (held : List HeldPart). All (Contains held) c.args.kept.now) (sym c.in-Ok.ensures.held) (all_stay c.args.kept.now (held_as c.args.plan c.args.problem.now c.args.part.now))

pub returns-in-Err-clause-kept : goal.returns-in-Err-clause-kept
returns-in-Err-clause-kept g c =
    subst (λ (held : List HeldPart). All (Contains held) c.args.kept.now) (sym c.in-Err.ensures.refused) (All-contains_itself c.args.kept.now)
