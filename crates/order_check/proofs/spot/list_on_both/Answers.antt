use mathlib.Core.Bool.{beq}
use Rattle.std.proofs.Common.{◌∙◌, ◌++◌, ◌==◌, ◌&&◌, cond, ◌∷◌, [], Bool, ap}
use Rattle.order_check.specs.declared.spot.SpotTerm.{SpotTerm}
use Rattle.order_check.specs.Spots.{is_either, listed, pair_term, term_lists}
use Rattle.order_check.proofs.SpotLists.{on_two_segments}
use Rattle.order_check.proofs.spot.list_on_both.Goals as goal

pub returns-clause-listed : goal.returns-clause-listed
returns-clause-listed c = λ u.
    (let e : Bool = beq c.args.apart u.apart && is_either c.args.a c.args.b u.line in
    let t : SpotTerm = pair_term c.args.place c.args.a c.args.b u in
    c.in_ok-list_on-2.ensures.listed u ∙ ap (λ l. l ++ cond ((c.args.other.0 == u.seg.0) && e) (t ∷ []) []) (c.in_ok-list_on.ensures.listed u)
    ∙ on_two_segments c.args.seg c.args.other e t u (listed c.args.table.now.spots.keys (term_lists c.args.table.now.lists.items) u) c.requires.two)
