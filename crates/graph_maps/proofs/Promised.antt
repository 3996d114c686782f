-- The check says yes to a drawing with its solved parts.
use Rattle.std.proofs.Common.{◌≡◌, ◌∙◌, ap, sym, subst, refl, ℕ, ◌+◌, ◌==◌, ◌&&◌, Bool, true, cond, List, [], ◌∷◌, length, map, get_or, option_map, arith, eq-eqb, Option, Some, None, Result, Ok}
use Rattle.std.specs.List.{All, list_all}
use Rattle.std.specs.List.Sorted.{IsPermutation}
use Rattle.std.proofs.lemmas.Bool.{and_from}
use Rattle.std.proofs.lemmas.List.{get_or_default}
use Rattle.std.proofs.lemmas.List.Sorted.{length_permutation, All-permutation}
use Rattle.std.proofs.lemmas.List.Elements.{All-head, All-tail}
use Rattle.map_base.specs.declared.ids.SegId.{SegId}
use Rattle.map_base.specs.declared.ids.LineId.{LineId}
use Rattle.map_base.specs.declared.limit.Limit.{Limit}
use Rattle.map_base.specs.Settings.{Choices}
use Rattle.map_method.specs.Methods.{MethodChoices}
use Rattle.graph_maps.specs.Subjects.{Subject}
use Rattle.graph_core.specs.declared.parts.GraphParts.{GraphParts}
use Rattle.octi_grid.specs.Legal.{first_illegal, legal}
use Rattle.map_method.specs.declared.claim.Claim.{Claim}
use Rattle.map_method.specs.declared.claim.Claim.TheVariants.{Best, Bound}
use Rattle.kept_trees.specs.declared.plan.SearchPlan.{SearchPlan}
use Rattle.order_check.specs.LowerBounds.{IsLowerBound}
use Rattle.order_model.specs.declared.problem.ProblemParts.{ProblemParts}
use Rattle.order_model.specs.Places.{has_line}
use Rattle.order_model.specs.Problems.{IsProblem}
use Rattle.order_model.specs.Costs.{cost_of, AreOrders}
use Rattle.svg_writer.specs.Picture.{picture_text}
use Rattle.cert_file.specs.Plain.{PlainCertificate}
use Rattle.map_faults.specs.declared.fault.CheckItem.{CheckItem}
use Rattle.map_faults.specs.declared.fault.CheckItem.TheVariants as item
use Rattle.graph_maps.specs.declared.checked.Proved.{Proved}
use Rattle.graph_maps.specs.Problems.{Drawn, drawn_on, problem_of, problem_within, untangled_problem}
use Rattle.graph_maps.specs.Solving.{SolvedPart, solve_outcome, parts_in, orders_by}
use Rattle.graph_maps.specs.Lifted.{lifted_by}
use Rattle.graph_maps.specs.Certificates.{line_count, weighty_lines, certificate_of}
use Rattle.graph_maps.specs.Making.{map_of, plan_of}
use Rattle.graph_maps.specs.Promises.{IsClaimed, ShowsCertified, ShowsGraph}
use Rattle.graph_maps.specs.Checking.{PlainChecked, walk_refused, refused_unless, unless_refused, graph_item, importance_item, walk_item, order_item, cost_item, proof_item, are_same_pairs, is_order, first_disorder, first_difference, accepted_orders, pictured, proved_by, check_on}
use Rattle.graph_maps.specs.Wholes.{IsWhole}
use Rattle.graph_maps.specs.declared.best_orders.BestOrders.{BestOrders}
use Rattle.graph_maps.specs.Stages.{AreBestBy}
use Rattle.graph_maps.proofs.DrawingLemmas.{problem_there}
use Rattle.graph_maps.proofs.ItemLemmas.{has_at}
use Rattle.graph_maps.proofs.PartOrders.{segs_of, segs_are, target_sum, bound_is, cost_is}
use Rattle.graph_maps.proofs.UntangledLemmas.{untangled_fits, lifted_are, lifted_cost, bound_kept}
use Rattle.graph_maps.proofs.Shown.{certified_shows}
use Rattle.graph_maps.proofs.Accepting.{bound_none, targets_are, verdict_none}

same_pairs : (pairs : List (LineId × ℕ)) → are_same_pairs pairs pairs ≡ true
same_pairs [] = refl
same_pairs (p ∷ pairs) = and_from (p.0.0 == p.0.0 && p.1 == p.1) (are_same_pairs pairs pairs)
    (and_from (p.0.0 == p.0.0) (p.1 == p.1) (eq-eqb p.0.0 p.0.0 refl) (eq-eqb p.1 p.1 refl)) (same_pairs pairs)

same_bytes : (bytes : List ℕ) → first_difference bytes bytes ≡ None
same_bytes [] = refl
same_bytes (x ∷ xs) =
    ap (λ (b : Bool). cond b (option_map (λ (at : ℕ). 1 + at) (first_difference xs xs)) (Some 0)) (eq-eqb x x refl)
    ∙ ap (option_map (λ (at : ℕ). 1 + at)) (same_bytes xs)

-- a permutation of the lines of a segment is an order of it

all_pass : (test : LineId → Bool) (lines : List LineId) → All (λ (a : LineId). test a ≡ true) lines
    → list_all test lines ≡ true
all_pass test [] all = refl
all_pass test (a ∷ lines) all =
    and_from (test a) (list_all test lines) (All-head (λ (b : LineId). test b ≡ true) a lines all)
    (all_pass test lines (All-tail (λ (b : LineId). test b ≡ true) a lines all))

own_lines : (lines : List LineId) → All (λ (a : LineId). has_line lines a ≡ true) lines
own_lines lines k d below = has_at lines k (get_or lines k d) below
    (ap (λ (a : LineId). a.0) (get_or_default lines k (get_or lines k d) d below))

is_order_of : (lines order : List LineId) → IsPermutation lines order → is_order lines order ≡ true
is_order_of lines order moved = and_from (length order == length lines) (list_all (has_line lines) order)
    (eq-eqb (length order) (length lines) (length_permutation lines order moved))
    (all_pass (has_line lines) order (All-permutation (λ (a : LineId). has_line lines a ≡ true) lines order moved
    (own_lines lines)))

abbrev seg_numbered : ℕ → SegId
seg_numbered n = record { 0 = n }

none_disordered : (k : ℕ) (segs orders : List (List LineId)) → AreOrders segs orders
    → first_disorder k segs orders ≡ None
none_disordered k [] orders are = refl
none_disordered k (lines ∷ segs) [] are = absurd are
none_disordered k (lines ∷ segs) (order ∷ orders) are =
    ap (λ (b : Bool). cond b (first_disorder (k + 1) segs orders) (Some (seg_numbered k)))
    (is_order_of lines order are.0) ∙ none_disordered (k + 1) segs orders are.1

held : (holds : Bool) (i : CheckItem) → holds ≡ true → refused_unless holds i ≡ None
held holds i h = ap (λ (b : Bool). cond b None (Some i)) h

pub segs_same : (plan : SearchPlan) (importance : List ℕ) (choices : Choices) (drawn : Drawn) (parts : List SolvedPart)
    → IsWhole plan importance choices drawn parts → drawn.problem.segs ≡ drawn.graph.lines
segs_same plan importance choices drawn parts whole = ap (λ (p : ProblemParts). p.segs) whole.defined

-- where best orders are claimed and cost the bound, what is claimed holds
claimed_is : (claim : Claim) (proved : Proved) → (claim ≡ Best → proved.cost ≡ proved.bound) → IsClaimed claim proved
claimed_is Best proved h = sym (h refl)
claimed_is Bound proved h = tt

module _ (plan : SearchPlan) (subject : Subject) (choices : Choices) (drawn : Drawn) (parts : List SolvedPart)
    (whole : IsWhole plan subject.importance choices drawn parts) where
  abbrev p : ProblemParts
  p = drawn.problem

  abbrev u : ProblemParts
  u = untangled_problem p

  -- the orders of the problem by the solved parts of the untangled problem
  abbrev orders : List (List LineId)
  orders = lifted_by p parts

  abbrev c : PlainCertificate
  c = certificate_of subject.importance drawn parts

  fits : IsProblem u
  fits = untangled_fits p whole.fits

  segs : map segs_of parts ≡ parts_in u
  segs = segs_are plan u parts whole.solved

  pub ordered : AreOrders drawn.graph.lines orders
  ordered = subst (λ (lists : List (List LineId)). AreOrders lists orders)
      (segs_same plan subject.importance choices drawn parts whole)
      (lifted_are p whole.fits (orders_by u parts) whole.ordered)

  -- the bound is what the targets sum to
  bound : IsLowerBound p.segs p.terms (proved_by c).bound
  bound = subst (IsLowerBound p.segs p.terms) (sym (targets_are parts))
      (bound_kept p whole.fits (target_sum parts) (bound_is plan u fits parts segs whole.shown))

  best_cost : plan.claim ≡ Best → cost_of p.terms orders ≡ target_sum parts
  best_cost best =
      lifted_cost p whole.fits (orders_by u parts) whole.ordered ∙ cost_is plan u fits parts segs whole.shown best

  -- the map shows the line graph, with the walks and the orders of its certificate
  pub shows_certified : ShowsCertified subject choices plan.claim drawn.graph c (map_of subject drawn parts).svg
      (proved_by c)
  shows_certified = record {
    shown = record { each = whole.each; legal = whole.legal; ordered = ordered; picture = refl };
    bounded = record {
      costs = ap (λ (q : ProblemParts). cost_of q.terms orders) (sym whole.defined);
      bound = subst (λ (lists : List (List LineId)). IsLowerBound lists
          (problem_of subject.importance choices drawn.graph).terms (proved_by c).bound)
          (segs_same plan subject.importance choices drawn parts whole)
          (subst (λ (q : ProblemParts). IsLowerBound p.segs q.terms (proved_by c).bound) whole.defined bound);
    };
    claimed = claimed_is plan.claim (proved_by c) (λ best. best_cost best ∙ sym (targets_are parts));
  }

  pub shows_graph : ShowsGraph subject choices plan.claim drawn.graph (map_of subject drawn parts).svg (proved_by c)
  shows_graph = certified_shows subject choices plan.claim drawn.graph c (map_of subject drawn parts).svg (proved_by c)
      shows_certified

  -- no item of its proof is refused
  proof_holds : (claim : Claim) → plan.claim ≡ claim → proof_item claim p c.orders c.proof ≡ None
  proof_holds Best is =
      ap (option_map item.Proof) (verdict_none plan p orders parts whole.fits segs whole.shown (best_cost is))
  proof_holds Bound is = ap (option_map item.Proof) (bound_none plan p parts whole.fits segs whole.shown)

  -- and the check says yes to it
  pub accepts_map : first_illegal drawn.graph drawn.walks ≡ None
      → check_on subject choices plan.claim drawn.graph (map_of subject drawn parts).svg (Ok c) ≡ Ok (proved_by c)
  accepts_map none_illegal =
      let graph : GraphParts = drawn.graph in
      let claim : Claim = plan.claim in
      let importance : List ℕ = subject.importance in
      let svg : List ℕ = picture_text subject.names graph drawn.walks orders in
      let due : PlainChecked = record { proved = proved_by c; svg = svg } in
      let by_terms = accepted_orders claim c due (problem_within importance choices graph) in
      let by_orders = unless_refused (order_item graph c) by_terms in
      let by_walks = unless_refused (walk_item graph c) by_orders in
      let by_importance = unless_refused (importance_item importance graph c) by_walks in
      let counts : graph_item importance graph c ≡ None =
      held _ item.Graph (and_from (c.nodes == length graph.kinds && c.segs == length graph.ends)
      (c.lines == line_count importance graph)
      (and_from (c.nodes == length graph.kinds) (c.segs == length graph.ends) (eq-eqb c.nodes c.nodes refl)
      (eq-eqb c.segs c.segs refl)) (eq-eqb c.lines c.lines refl)) in
      let pairs : importance_item importance graph c
      ≡ None = held _ item.Importance (same_pairs (weighty_lines importance graph)) in
      let walks : walk_item graph c ≡ None = ap (option_map walk_refused) none_illegal in
      let in_order : order_item graph c ≡ None = ap (option_map item.Order)
      (none_disordered 0 graph.lines orders ordered) in
      let cost : cost_item p c.orders c.cost ≡ None = held _ item.Cost (eq-eqb c.cost c.cost refl) in
      let proof : proof_item claim p c.orders c.proof ≡ None = proof_holds claim refl in
      ap (λ (o : Option CheckItem). pictured svg (unless_refused o by_importance)) counts
      ∙ ap (λ (o : Option CheckItem). pictured svg (unless_refused o by_walks)) pairs
      ∙ ap (λ (o : Option CheckItem). pictured svg (unless_refused o by_orders)) walks
      ∙ ap (λ (o : Option CheckItem). pictured svg (unless_refused o by_terms)) in_order
      ∙ ap (λ (r : Result ProblemParts Limit). pictured svg (accepted_orders claim c due r)) whole.counted
      ∙ ap (λ (o : Option CheckItem). pictured svg
      (unless_refused o (unless_refused (proof_item claim p c.orders c.proof) (Ok due)))) cost
      ∙ ap (λ (o : Option CheckItem). pictured svg (unless_refused o (Ok due))) proof
      ∙ ap (λ (o : Option ℕ). unless_refused (option_map item.Picture o) (Ok (proved_by c))) (same_bytes svg)

-- what is drawn and solved is whole
pub whole_is : (importance : List ℕ) (choices : Choices) (method : MethodChoices) (graph : GraphParts) (drawn : Drawn)
    (best : BestOrders) (parts : List SolvedPart)
    → drawn_on importance choices method graph ≡ Ok drawn → length drawn.walks ≡ length drawn.graph.ends
    → legal drawn.graph drawn.walks ≡ true → drawn.problem ≡ problem_of importance choices drawn.graph
    → IsProblem drawn.problem → solve_outcome (plan_of choices method) (untangled_problem drawn.problem) ≡ Ok parts
    → AreBestBy (plan_of choices method) drawn.problem parts best
    → IsWhole (plan_of choices method) importance choices drawn parts
whole_is importance choices method graph drawn best parts is each is_legal defined fits is_solved found = record {
  each = each;
  legal = is_legal;
  counted = problem_there importance choices method graph drawn is;
  defined = defined;
  fits = fits;
  solved = is_solved;
  ordered = found.ordered;
  shown = found.shown;
}
