use Rattle.std.proofs.Common.{List, ℕ, [], ◌∷◌, ◌++◌, ap, sym, ◌∙◌}
use Rattle.std.proofs.lemmas.List.{map-append}
use Rattle.std.specs.Borrow.{Bor}
use Rattle.graph_core.specs.declared.parts.NodeKind.{NodeKind}
use Rattle.name_widths.specs.Votes.{texts_of}
use Rattle.poster_rules.specs.Texts.{node_names}
use Rattle.poster_graph.proofs.texts.put_name.Goals as goal

pub returns-in_ok-push-in-Station : goal.returns-in_ok-push-in-Station
returns-in_ok-push-in-Station c =
    let old = c.args.all.now.items in
    ap texts_of c.in_ok-push-in-Station.ensures.items
    ∙ map-append (λ (t : Bor (List ℕ)). t.now) old (c.station_name.result ∷ [])
    ∙ ap (λ (bytes : List ℕ). texts_of old ++ bytes ∷ []) c.station_name.ensures
    ∙ sym (ap (λ (k : NodeKind). texts_of old ++ node_names c.args.names.now k) c.in-Station.is)
