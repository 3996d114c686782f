use Rattle.std.proofs.Common.{◌≡◌, refl, true, [], ◌∷◌, ◌++◌}
use Rattle.graph_json.proofs.ColumnLemmas.{with_node}
use Rattle.graph_json.proofs.columns.Columns.add_node.Goals as goal

pub returns : goal.returns
returns c =
    let old = c.args.self.now in
    let node = c.args.node in
    let names : c.push.new.self.items ≡ old.names.items ++ node.name ∷ [] = c.in_ok-push.ensures.items in
    let places : c.push-2.new.self.items ≡ old.places.items ++ node.place ∷ [] = c.in_ok-push-2.ensures.items in
    let rounds : c.push-3.new.self.items ≡ old.rounds.items ++ node.round ∷ [] = c.in_ok-push-3.ensures.items in
    let joins : c.push-4.new.self.items ≡ old.joins.items ++ node.joins ∷ [] = c.in_ok-push-4.ensures.items in
    let are_nodes : c.push-5.new.self.items ≡ old.are_nodes.items ++ true ∷ [] = c.in_ok-push-5.ensures.items in
    with_node old _ node (names, places, rounds, joins, are_nodes, refl, refl)
