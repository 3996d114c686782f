use Rattle.std.proofs.Common.{ℕ, List, Option, Some, ap, ◌∙◌}
use Rattle.map_base.specs.declared.ids.LineId.{LineId}
use Rattle.poster_rules.specs.Texts.{name_width, width_with}
use Rattle.poster_graph.proofs.plans.name_width.Goals as goal

pub returns-in-None : goal.returns-in-None
returns-in-None c = ap (name_width c.args.served.names.now c.args.served.graph.now c.args.served.callers.now c.args.n.0) c.in-None.ensures

pub returns-in_ok-width-in-Some : goal.returns-in_ok-width-in-Some
returns-in_ok-width-in-Some c =
    let names = c.args.served.names.now in
    ap (λ (w : ℕ). let o : Option ℕ = Some w in o)
    (c.in_ok-width-in-Some.ensures ∙ ap (λ (ls : List LineId). width_with names ls c.in-Some.text.now) (c.as_slice.ensures.value ∙ c.in_ok-lines-in-Some.ensures))
    ∙ ap (name_width names c.args.served.graph.now c.args.served.callers.now c.args.n.0) c.in-Some.ensures
