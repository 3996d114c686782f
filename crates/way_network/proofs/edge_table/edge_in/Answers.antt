use Rattle.std.proofs.Common.{rules}
use Rattle.std.proofs.lemmas.List.Sorted.{answers_always}
use Rattle.way_network.proofs.RowSearch.{edge_found, edge_missing}
use Rattle.way_network.proofs.edge_table.edge_in.Goals as goal

pub returns-in-Ok : goal.returns-in-Ok
returns-in-Ok c =
    edge_found c.args.row.now c.args.q c.in-Ok.place c.index-row-place.result c.requires c.in-Ok.ensures.bound c.index-row-place.is
    (c.in-Ok.ensures.position (λ edge. edge.to) (answers_always _ _ _ (λ f a r g called. search rules)))

pub returns-in-Err : goal.returns-in-Err
returns-in-Err c =
    edge_missing c.args.row.now c.args.q c.in-Err.field-0 c.requires
    (c.in-Err.ensures.position (λ edge. edge.to) (answers_always _ _ _ (λ f a r g called. search rules)))
