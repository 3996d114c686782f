use Rattle.std.proofs.Common.{◌≡◌, ◌<◌, length, sym, subst, ◌∙◌}
use Rattle.order_model.specs.PartTerms.{part_terms}
use Rattle.part_bounds.specs.PartStates.{PartState, settled_at}
use Rattle.part_bounds.proofs.KeptUp.{list_here, list_known, list_few, list_sum}
use Rattle.part_bounds.proofs.part_bounds.PartBounds.settled_on.Goals as goal

pub settled_on-requires-clause-here : goal.settled_on-requires-clause-here
settled_on-requires-clause-here c =
    let known = subst (λ (b : PartState). c.args.seg.0 < length b.segs) (sym c.self.view_is) c.requires in
    list_here c.self.inside.problem.now.segs c.self.inside.prefix.placed c.args.seg (part_terms c.self.inside.problem.now.terms c.self.inside.part.now) c.self.inside.aparts c.self.invariant.settled known

pub settled_on-requires-clause-known : goal.settled_on-requires-clause-known
settled_on-requires-clause-known c =
    let known = subst (λ (b : PartState). c.args.seg.0 < length b.segs) (sym c.self.view_is) c.requires in
    list_known c.self.inside.problem.now.segs c.self.inside.prefix.placed c.args.seg (part_terms c.self.inside.problem.now.terms c.self.inside.part.now) c.self.inside.aparts c.self.invariant.settled known c.self.invariant.known_terms

pub settled_on-requires-clause-few : goal.settled_on-requires-clause-few
settled_on-requires-clause-few c =
    let known = subst (λ (b : PartState). c.args.seg.0 < length b.segs) (sym c.self.view_is) c.requires in
    list_few c.self.inside.problem.now.segs c.self.inside.prefix.placed c.args.seg (part_terms c.self.inside.problem.now.terms c.self.inside.part.now) c.self.inside.aparts c.self.invariant.settled known c.self.invariant.few_terms

pub returns : goal.returns
returns c =
    let known = subst (λ (b : PartState). c.args.seg.0 < length b.segs) (sym c.self.view_is) c.requires in
    subst (λ (b : PartState). c.settled_on.result ≡ settled_at b c.args.seg) c.self.view_is
    (c.settled_on.ensures.value ∙ list_sum c.self.inside.problem.now.segs c.self.inside.prefix.placed c.args.seg (part_terms c.self.inside.problem.now.terms c.self.inside.part.now) c.self.inside.aparts c.self.invariant.settled known)
