use Rattle.std.proofs.Common.{◌≡◌, map}
use Rattle.graph_json.specs.declared.forms.LineForm.{LineForm}
use Rattle.graph_json.proofs.reading.named.Given as goal

abbrev pub invariant-loop-line : goal.invariant-loop-line
invariant-loop-line l =
    (l.names.items ≡ map (λ (x : LineForm). (x.name, x.colour)) l.yielded) × (l.importance.items ≡ map (λ (x : LineForm). x.importance) l.yielded)
