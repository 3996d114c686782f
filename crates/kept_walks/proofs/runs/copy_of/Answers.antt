use Rattle.std.proofs.Common.{◌≡◌, ◌∙◌, ap, rules, List}
use Rattle.line_chains.specs.declared.chain.Chain.{Chain}
use Rattle.line_chains.specs.declared.chain.ChainStep.{ChainStep}
use Rattle.kept_walks.proofs.runs.copy_of.Goals as goal

pub returns : goal.returns
returns c =
    let copied : c.in_ok-steps.steps.items ≡ c.as_slice.result.now = search rules in
    ap (λ (ts : List ChainStep). (let x : Chain = record { from = c.args.run.now.from; steps = ts } in x)) (c.of.ensures ∙ copied ∙ c.as_slice.ensures)
