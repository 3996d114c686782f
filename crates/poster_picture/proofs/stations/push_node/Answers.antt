use Rattle.std.proofs.Common.{◌≡◌, ◌++◌, Option, OnOk, unwrap_or, string_bytes, subst, sym, ap}
use Rattle.graph_core.specs.declared.parts.NodeKind.{NodeKind}
use Rattle.graph_core.specs.declared.parts.NodeKind.TheVariants.{Junction}
use Rattle.poster_rules.specs.Elements.{texts}
use Rattle.poster_rules.specs.Posters.{station_elements}
use Rattle.poster_picture.specs.Sheets.{plain}
use Rattle.poster_picture.proofs.stations.push_node.Goals as goal

pub returns : goal.returns
returns c =
    subst (λ (k : NodeKind). OnOk c.push_kind.result (string_bytes c.push_kind.new.text ≡ string_bytes c.args.text.now ++ texts (station_elements (plain c.args.sheet) c.args.n.0 k)))
    (sym (ap (λ (o : Option NodeKind). unwrap_or o Junction) c.kind.ensures)) c.push_kind.ensures
