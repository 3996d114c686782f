use Rattle.std.proofs.Common.{◌≡◌, ◌∙◌, ℕ, List}
use Rattle.std.specs.List.{sum_by}
use Rattle.map_base.specs.declared.ids.LineId.{LineId}
use Rattle.order_model.specs.declared.term.Term.{Term}
use Rattle.order_model.specs.Places.{ArePlaces, AreShort, cost_by, tables_of}
use Rattle.order_model.proofs.PlaceCosts.{orders_have_tables, costs_same, short_problem}
use Rattle.order_model.proofs.table_costs.cost_by_tables.Goals as goal

pub returns : goal.returns
returns c =
    let segs : List (List LineId) = c.args.problem.now.segs in
    let lists : List (List LineId) = c.args.orders.now.lists in
    let terms : List Term = c.args.problem.now.terms in
    let tables : List (List ℕ) = tables_of c.in_ok-places.places.items in
    let short : AreShort segs = short_problem c.args.problem.now c.segs-segs.ensures.fits in
    let made : ArePlaces segs lists tables = rw c.segs-segs.ensures.lists at rw c.as_slice.ensures at c.in_ok-places.ensures in
    let total : c.total_cost.result ≡ sum_by (cost_by segs tables) terms =
    rw c.segs-segs.ensures.lists at rw c.terms-terms.ensures.list at rw c.as_slice-2.ensures.value at c.total_cost.ensures in
    total ∙ costs_same segs lists tables (orders_have_tables segs lists tables c.segs-segs.ensures.fits.rising short c.requires made) terms c.segs-segs.ensures.fits.terms
