use Rattle.std.proofs.Common.{◌≡◌, ◌∙◌, sym, ap, ap₂, List, [], ◌∷◌, ◌++◌}
use Rattle.map_base.specs.declared.ids.NodeId.{NodeId}
use Rattle.line_chains.specs.declared.chain.Chain.{Chain}
use Rattle.line_chains.specs.declared.chain.ChainStep.{ChainStep}
use Rattle.line_chains.specs.Chains.{ends_of}
use Rattle.segment_router.proofs.OrderLemmas.{read_at}
use Rattle.kept_walks.proofs.runs.run_of.Goals as goal

abbrev no_ends : NodeId × NodeId
no_ends = (record { 0 = 0 }, record { 0 = 0 })

pub returns : goal.returns
returns c =
    let g = c.args.graph.now in
    let step : NodeId → ChainStep = λ n. record { seg = c.args.s; to = n } in
    let e : ends_of g c.args.s ≡ c.ends.result = read_at g.ends c.args.s.0 c.ends.result no_ends c.ends.ensures in
    let steps = c.of.ensures ∙ c.in_ok-push.ensures.items ∙ ap (λ (ts : List ChainStep). ts ++ step c.ends.result.1 ∷ []) c.new-steps.ensures.items in
    ap₂ (λ (n : NodeId) (ts : List ChainStep). (let x : Chain = record { from = n; steps = ts } in x)) (ap (λ (v : NodeId × NodeId). v.0) (sym e))
    (steps ∙ ap (λ (v : NodeId × NodeId). step v.1 ∷ []) (sym e))
