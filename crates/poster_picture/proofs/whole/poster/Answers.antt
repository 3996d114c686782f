use Rattle.std.proofs.Common.{ℕ, List, length, ap, ◌∙◌}
use Rattle.poster_plan.specs.declared.plan.Plan.{Plan}
use Rattle.poster_plan.specs.declared.layout.Printed.{Printed}
use Rattle.poster_plan.specs.Legends.{legend_of}
use Rattle.poster_plan.specs.Pitches.{pitch_of}
use Rattle.poster_plan.specs.Placing.{printed_names}
use Rattle.poster_rules.specs.Elements.{texts}
use Rattle.poster_rules.specs.Plans.{lines_shown, widest}
use Rattle.poster_rules.specs.Posters.{elements_with, Sheet}
use Rattle.poster_picture.proofs.whole.poster.Goals as goal

pub returns : goal.returns
returns c =
    let names = c.args.names.now in
    let graph = c.args.graph.now in
    let lines = lines_shown (length names.lines) graph in
    let sheet : ℕ → Sheet = λ u. record { names = names; graph = graph; walks = c.args.drawing.now.walks; orders = c.args.orders.now.lists; callers = c.args.callers.now; pitch = u } in
    let at : Plan → ℕ → List Printed → List ℕ = λ plan u printed. texts (elements_with (sheet u) plan printed lines (legend_of u plan printed (length lines) (widest names lines))) in
    let plan = c.in_ok-plan.plan in
    c.in_ok-text.ensures
    ∙ ap (at plan c.in_ok-layout.layout.pitch) (c.as_slice.ensures ∙ c.in_ok-layout.ensures.printed)
    ∙ ap (λ (u : ℕ). at plan u (printed_names (pitch_of plan) plan)) c.in_ok-layout.ensures.pitch
    ∙ ap (λ (p : Plan). at p (pitch_of p) (printed_names (pitch_of p) p)) c.in_ok-plan.ensures
