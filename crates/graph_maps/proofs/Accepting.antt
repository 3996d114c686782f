-- The proof by the solved parts of an untangled problem is accepted.
use Rattle.std.proofs.Common.{◌≡◌, ◌∙◌, ap, sym, subst, refl, ℕ, ◌+◌, ◌==◌, Bool, true, cond, List, [], ◌∷◌, map, arith, eq-eqb, Option, Some, None}
use Rattle.std.specs.List.{AllByRecursion}
use Rattle.std.proofs.lemmas.Bool.{and_from}
use Rattle.std.proofs.lemmas.List.Sums.{sum_by-cons}
use Rattle.map_base.specs.declared.ids.SegId.{SegId}
use Rattle.map_base.specs.declared.ids.LineId.{LineId}
use Rattle.kept_trees.specs.declared.plan.SearchPlan.{SearchPlan}
use Rattle.order_model.specs.declared.problem.ProblemParts.{ProblemParts}
use Rattle.order_values.specs.declared.rule.Rule.{Rule}
use Rattle.order_model.specs.Problems.{IsProblem}
use Rattle.order_model.specs.Costs.{cost_of}
use Rattle.order_model.specs.PartTerms.{part_terms}
use Rattle.order_proof.specs.Plain.{PlainPart}
use Rattle.order_rules.specs.Untangling.{after_rules}
use Rattle.order_model.specs.Questions.{question}
use Rattle.order_check.specs.declared.refusal.ProofItem.{ProofItem}
use Rattle.order_check.specs.declared.refusal.ProofItem.TheVariants as item
use Rattle.order_check.specs.Verdict.{are_same, failing, first_item, tree_refusal, part_refusal, first_part, targets, total_refusal, rule_refusal, bound_refusal, verdict}
use Rattle.order_check.proofs.RuleTurns.{none_refused}
use Rattle.graph_maps.specs.Problems.{untangling_rules, untangled_problem}
use Rattle.graph_maps.specs.Solving.{SolvedPart, parts_in}
use Rattle.graph_maps.specs.Certificates.{proof_part, proof_of}
use Rattle.graph_maps.specs.Stages.{IsShown}
use Rattle.graph_maps.proofs.PartOrders.{segs_of, target_sum}
use Rattle.graph_maps.proofs.UntangledLemmas.{rules_apply, last_is}

same_segments : (part : List SegId) → are_same part part ≡ true
same_segments [] = refl
same_segments (s ∷ part) = and_from (s.0 == s.0) (are_same part part) (eq-eqb s.0 s.0 refl) (same_segments part)

part_accepted : (plan : SearchPlan) (p : ProblemParts) (k : ℕ) (s : SolvedPart) → IsShown plan p s
    → part_refusal p.segs p.terms k s.segs (proof_part s) ≡ None
part_accepted plan p k s shown =
    ap (λ (b : Bool). cond b (tree_refusal k (failing (question p.segs s.segs (part_terms p.terms s.segs) s.target) s.tree)) (Some (item.Part k [])))
    (same_segments s.segs) ∙ ap (tree_refusal k) shown.accepted

parts_accepted : (plan : SearchPlan) (p : ProblemParts) (k : ℕ) (done : List SolvedPart)
    → AllByRecursion (IsShown plan p) done → first_part p.segs p.terms k (map segs_of done) (map proof_part done) ≡ None
parts_accepted plan p k [] shown = refl
parts_accepted plan p k (s ∷ done) shown =
    ap (λ (o : Option ProofItem). first_item o (first_part p.segs p.terms (k + 1) (map segs_of done) (map proof_part done)))
    (part_accepted plan p k s shown.0) ∙ parts_accepted plan p (k + 1) done shown.1

pub targets_are : (parts : List SolvedPart) → targets (map proof_part parts) ≡ target_sum parts
targets_are [] = refl
targets_are (s ∷ parts) =
    let rest = targets_are parts in
    omega (
      arith,
      rest,
      sum_by-cons (λ (q : PlainPart). q.target) (proof_part s) (map proof_part parts),
      sum_by-cons (λ (t : SolvedPart). t.target) s parts,
    )

-- with the rules that untangle the problem, no rule and no part is refused
pub bound_none : (plan : SearchPlan) (p : ProblemParts) (done : List SolvedPart) → IsProblem p
    → map segs_of done ≡ parts_in (untangled_problem p) → AllByRecursion (IsShown plan (untangled_problem p)) done
    → bound_refusal p (proof_of p done) ≡ None
bound_none plan p done is segs shown =
    let rules : List Rule = untangling_rules p in
    let proofs : List PlainPart = map proof_part done in
    let u : ProblemParts = untangled_problem p in
    let last : ProblemParts = after_rules p rules in
    let here : first_part u.segs u.terms 0 (parts_in u) proofs ≡ None =
    subst (λ (ps : List (List SegId)). first_part u.segs u.terms 0 ps proofs ≡ None) segs (parts_accepted plan u 0 done shown) in
    let parts : first_part last.segs last.terms 0 (parts_in last) proofs ≡ None =
    subst (λ (q : ProblemParts). first_part q.segs q.terms 0 (parts_in q) proofs ≡ None) (last_is p is) here in
    ap (λ (o : Option ProofItem). first_item o (first_part last.segs last.terms 0 (parts_in last) proofs))
    (ap rule_refusal (none_refused 0 p rules (rules_apply p is))) ∙ parts

-- nor is the total, where orders cost what the targets sum to
pub verdict_none : (plan : SearchPlan) (p : ProblemParts) (orders : List (List LineId)) (done : List SolvedPart)
    → IsProblem p → map segs_of done ≡ parts_in (untangled_problem p)
    → AllByRecursion (IsShown plan (untangled_problem p)) done → cost_of p.terms orders ≡ target_sum done
    → verdict p orders (proof_of p done) ≡ None
verdict_none plan p orders done is segs shown costs =
    let proofs : List PlainPart = map proof_part done in
    let cost : ℕ = cost_of p.terms orders in
    ap (λ (o : Option ProofItem). first_item o (total_refusal proofs cost)) (bound_none plan p done is segs shown)
    ∙ ap (λ (b : Bool). cond b None (Some item.Total)) (eq-eqb (targets proofs) cost (targets_are done ∙ sym costs))
