use Rattle.std.proofs.Common.{◌≡◌, refl, false, [], ◌∷◌, ◌++◌}
use Rattle.graph_json.proofs.ColumnLemmas.{with_segment}
use Rattle.graph_json.proofs.columns.Columns.add_segment.Goals as goal

pub returns : goal.returns
returns c =
    let old = c.args.self.now in
    let segment = c.args.segment in
    let ends : c.push.new.self.items ≡ old.ends.items ++ segment.ends ∷ [] = c.in_ok-push.ensures.items in
    let lines : c.push-2.new.self.items ≡ old.lines.items ++ segment.lines ∷ [] = c.in_ok-push-2.ensures.items in
    let are_nodes : c.push-3.new.self.items ≡ old.are_nodes.items ++ false ∷ [] = c.in_ok-push-3.ensures.items in
    with_segment old _ segment (ends, lines, are_nodes, refl, refl, refl, refl)
