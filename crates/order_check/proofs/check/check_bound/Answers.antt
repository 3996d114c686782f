use Rattle.std.proofs.Common.{◌≡◌, ◌∙◌, List, map, ap, subst, sym, arith}
use Rattle.map_base.specs.declared.ids.SegId.{SegId}
use Rattle.order_model.specs.declared.problem.ProblemParts.{ProblemParts}
use Rattle.order_model.specs.Problems.{IsProblem}
use Rattle.order_model.specs.Gathering.{part_lists}
use Rattle.order_model.specs.Parts.{AreParts}
use Rattle.order_proof.specs.Plain.{PlainPart, PlainProof, ProofFields, plain_part, plain_proof}
use Rattle.order_check.specs.Verdict.{bound_refusal, first_part, targets}
use Rattle.order_check.proofs.Verdicts.{bound_by, bound_of, targets_few}
use Rattle.order_check.proofs.check.check_bound.Goals as goal

pub target_sum-requires : goal.target_sum-requires
target_sum-requires c =
    let last : ProblemParts = c.in_ok-last.last in
    let fits : IsProblem last = subst IsProblem c.last.view_is c.last.invariant in
    let classes = subst (AreParts last.segs last.terms) (sym (ap part_lists c.as_slice-2.ensures.value)) c.in_ok-parts.ensures.classes in
    targets_few last (part_lists c.as_slice-2.result.now) (map plain_part c.as_slice-proofs.result.now) fits classes c.in_ok-check_parts.ensures.accepted

pub returns-clause-bound : goal.returns-clause-bound
returns-clause-bound c =
    let p : ProblemParts = c.args.problem in
    let last : ProblemParts = c.in_ok-last.last in
    let proof : PlainProof = plain_proof c.args.proof.now in
    let parts : List (List SegId) = part_lists c.as_slice-2.result.now in
    let proofs : List PlainPart = map plain_part c.as_slice-proofs.result.now in
    let same : proofs ≡ proof.parts = ap (map plain_part) (c.as_slice-proofs.ensures ∙ ap (λ (f : ProofFields). f.parts) c.proof.view_is) in
    let by : first_part last.segs last.terms 0 parts proofs ≡ bound_refusal p proof =
    bound_by p last c.as_slice.result.now parts proofs proof (c.as_slice.ensures ∙ ap (λ (f : ProofFields). f.rules) c.proof.view_is) c.in_ok-last.ensures.last
    (ap part_lists c.as_slice-2.ensures.value ∙ c.in_ok-parts.ensures.list) same c.in_ok-last.ensures.accepted in
    let bound = bound_of p proof c.after_rules.ensures.problem (sym by ∙ c.in_ok-check_parts.ensures.accepted) in
    λ orders are. omega (arith, bound orders are, c.target_sum.ensures, ap targets same)
