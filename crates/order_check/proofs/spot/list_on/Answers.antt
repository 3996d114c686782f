use Rattle.std.proofs.Common.{◌∙◌, ◌++◌, cond, ◌∷◌, [], ap}
use Rattle.order_check.specs.declared.spot.Spot.{Spot}
use Rattle.order_check.specs.declared.spot.SpotTerm.{SpotTerm}
use Rattle.order_check.specs.Spots.{is_spot, listed, term_lists}
use Rattle.order_check.proofs.SpotLists.{on_two_lines}
use Rattle.order_check.proofs.spot.list_on.Goals as goal

pub returns-clause-listed : goal.returns-clause-listed
returns-clause-listed c = λ u.
    (let second : Spot = record { seg = c.args.seg; apart = c.args.apart; line = c.args.b } in
    let own : SpotTerm = record { place = c.args.place; other = c.args.a } in
    c.in_ok-list_at-2.ensures.listed u ∙ ap (λ l. l ++ cond (is_spot second u) (own ∷ []) []) (c.in_ok-list_at.ensures.listed u)
    ∙ on_two_lines c.args.seg c.args.apart c.args.a c.args.b c.args.place u (listed c.args.table.now.spots.keys (term_lists c.args.table.now.lists.items) u) c.requires.differ)
