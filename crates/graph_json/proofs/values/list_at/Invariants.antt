use Rattle.std.proofs.Common.{◌≡◌, map, drop}
use Rattle.serde_json.specs.View.{view}
use Rattle.graph_json.specs.Forms.{of_each}
use Rattle.graph_json.proofs.Lists.{behind}
use Rattle.graph_json.proofs.values.list_at.Given as goal

-- what is read and what is left are the whole
abbrev pub invariant-loop-item : goal.invariant-loop-item
invariant-loop-item g l =
    behind l.list.items (of_each g.T.Form.form (map view (drop l.item-index l.items))) ≡ of_each g.T.Form.form (map view l.items)
