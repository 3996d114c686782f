use Rattle.std.proofs.Common.{◌≡◌, ◌∙◌, sym, ap, suc, ◌-◌, List, length, arith}
use Rattle.line_chains.specs.declared.chain.ChainStep.{ChainStep}
use Rattle.line_chains.specs.Chains.{end_after}
use Rattle.line_chains.proofs.Walking.{end_is, end_none}
use Rattle.line_chains.proofs.chain.Chain.end.Goals as goal

pub returns-then-count-eq0 : goal.returns-then-count-eq0
returns-then-count-eq0 c =
    let chain = c.args.self.now in
    sym (end_none chain.from chain.steps (sym (ap length c.as_slice-steps.ensures) ∙ c.if-count-eq0.true))

pub returns : goal.returns
returns c =
    let chain = c.args.self.now in
    let ts = c.as_slice-steps.result.now in
    let count : length ts ≡ suc (length ts - 1) = omega (arith, c.if-count-eq0.false) in
    sym (ap (λ (us : List ChainStep). end_after chain.from us) (sym c.as_slice-steps.ensures) ∙ end_is chain.from ts (length ts - 1) _ count)
