-- The map of a drawing with line orders is that of the solved parts of its untangled problem.
use Rattle.std.proofs.Common.{◌≡◌, ◌∙◌, ap, sym, subst, ℕ, List, length, Result, Ok, Err}
use Rattle.std.specs.List.{AllByRecursion}
use Rattle.map_base.specs.declared.ids.LineId.{LineId}
use Rattle.map_base.specs.Settings.{Choices}
use Rattle.map_method.specs.Methods.{MethodChoices}
use Rattle.graph_core.specs.declared.parts.GraphParts.{GraphParts}
use Rattle.octi_grid.specs.Walks.{PlainWalk}
use Rattle.graph_maps.specs.Subjects.{Subject}
use Rattle.order_values.specs.declared.rule.Rule.{Rule}
use Rattle.kept_trees.specs.declared.plan.SearchPlan.{SearchPlan}
use Rattle.order_model.specs.declared.problem.ProblemParts.{ProblemParts}
use Rattle.order_model.specs.Problems.{IsProblem}
use Rattle.order_model.specs.Costs.{cost_of, AreOrders}
use Rattle.order_proof.specs.Plain.{PlainPart, PlainProof, plain_proof}
use Rattle.order_rules.specs.Lifting.{lifted_all}
use Rattle.svg_writer.specs.Picture.{picture_text}
use Rattle.cert_file.specs.Text.{certificate_text}
use Rattle.graph_maps.specs.declared.best_orders.BestOrders.{BestOrders}
use Rattle.map_faults.specs.declared.fault.MakeFault.{MakeFault}
use Rattle.graph_maps.specs.declared.improvement.Improvement.{Improvement}
use Rattle.graph_maps.specs.declared.improvement.ImprovedMap.{ImprovedMap}
use Rattle.map_faults.specs.declared.fault.MakeFault.TheVariants as fault
use Rattle.graph_maps.specs.declared.solution.Solution.{Solution}
use Rattle.graph_maps.specs.Problems.{Drawn, untangling_rules, untangled_problem}
use Rattle.graph_maps.specs.Moving.{after_moves, improvement_of}
use Rattle.graph_maps.specs.Solving.{SolvedPart, solve_outcome, orders_by}
use Rattle.graph_maps.specs.Lifted.{lifted_by}
use Rattle.graph_maps.specs.Certificates.{line_count, weighty_lines}
use Rattle.graph_maps.specs.Making.{MapBytes, SolvedMap, bytes_of, if_solved, map_of, plan_of, solved_map, solved_of, solved_with, HasCause}
use Rattle.graph_maps.specs.Improving.{ImprovedBytes, improved_bytes, improved_map}
use Rattle.graph_maps.specs.Stages.{map_by, plain_parts, AreBestBy, IsSolution, IsShown, IsWritten}
use Rattle.graph_maps.proofs.UntangledLemmas.{lifted_cost}

abbrev made_proof : List Rule → List PlainPart → PlainProof
made_proof rs ps = record { rules = rs; parts = ps }

-- what was found for the untangled problem, lifted, is what comes of the problem
pub best_by : (plan : SearchPlan) (p u : ProblemParts) (rules : List Rule) (s : Solution) (best : BestOrders)
    (parts : List SolvedPart) → IsProblem p → u ≡ untangled_problem p → rules ≡ untangling_rules p
    → AreOrders u.segs s.orders.items → IsSolution plan u parts s → best.orders.lists ≡ lifted_all rules s.orders.items
    → best.cost ≡ cost_of u.terms s.orders.items
    → plain_proof best.proof ≡ record { rules = rules; parts = plain_parts s } → AreBestBy plan p parts best
best_by plan p u rules s best parts is last through are solution orders cost proof =
    let ordered = subst (λ (q : ProblemParts). AreOrders q.segs (orders_by q parts)) last
    (subst (AreOrders u.segs) solution.orders are) in
    record {
      orders = orders ∙ ap (λ (rs : List Rule). lifted_all rs s.orders.items) through
          ∙ ap (lifted_all (untangling_rules p)) solution.orders
          ∙ ap (λ (q : ProblemParts). lifted_all (untangling_rules p) (orders_by q parts)) last;
      cost = cost ∙ ap (cost_of u.terms) solution.orders
          ∙ ap (λ (q : ProblemParts). cost_of q.terms (orders_by q parts)) last
          ∙ sym (lifted_cost p is (orders_by (untangled_problem p) parts) ordered);
      proof = proof ∙ ap (λ (rs : List Rule). made_proof rs (plain_parts s)) through
          ∙ ap (made_proof (untangling_rules p)) solution.proofs;
      trees = solution.trees;
      ordered = ordered;
      shown = subst (λ (q : ProblemParts). AllByRecursion (IsShown plan q) parts) last solution.shown;
    }

-- a map by what its certificate has of orders and proof
abbrev map_with : Subject → GraphParts → List PlainWalk → List (List LineId) → ℕ → PlainProof → MapBytes
map_with subject graph walks orders cost proof = record {
  svg = picture_text subject.names graph walks orders;
  certificate = certificate_text (record {
    nodes = length graph.kinds;
    segs = length graph.ends;
    lines = line_count subject.importance graph;
    importance = weighty_lines subject.importance graph;
    walks = walks;
    orders = orders;
    cost = cost;
    proof = proof;
  });
}

pub map_is : (plan : SearchPlan) (subject : Subject) (drawn : Drawn) (best : BestOrders) (parts : List SolvedPart)
    → AreBestBy plan drawn.problem parts best → map_by subject drawn.graph drawn.walks best ≡ map_of subject drawn parts
map_is plan subject drawn best parts is =
    let p : ProblemParts = drawn.problem in
    ap (λ (orders : List (List LineId)). map_with subject drawn.graph drawn.walks orders best.cost
    (plain_proof best.proof)) is.orders
    ∙ ap (λ (cost : ℕ). map_with subject drawn.graph drawn.walks (lifted_by p parts) cost (plain_proof best.proof))
    is.cost
    ∙ ap (map_with subject drawn.graph drawn.walks (lifted_by p parts) (cost_of p.terms (lifted_by p parts))) is.proof

-- where the drawing and the parts are there, so is the drawing after its moves, with its line orders
pub solved_is : (choices : Choices) (method : MethodChoices) (outcome : Result Drawn MakeFault) (drawn : Drawn)
    (parts : List SolvedPart) → outcome ≡ Ok drawn
    → solve_outcome (plan_of choices method) (untangled_problem drawn.problem) ≡ Ok parts
    → solved_of choices method outcome ≡ Ok (record { drawn = after_moves method.moves drawn; parts = parts })
solved_is choices method outcome drawn parts is solved = ap (solved_of choices method) is
    ∙ ap (solved_with method.moves drawn) solved

-- a map and what moves made of its drawing
abbrev of_two : MapBytes → Improvement → Result ImprovedBytes MakeFault
of_two map improvement = Ok (record { map = map; improvement = improvement })

-- and the improved map is that of the drawing after more moves
pub outcome_is : (subject : Subject) (choices : Choices) (method : MethodChoices) (outcome : Result Drawn MakeFault)
    (drawn : Drawn) (best : BestOrders) (parts : List SolvedPart) (moves : ℕ) (improved : ImprovedMap)
    → outcome ≡ Ok drawn → solve_outcome (plan_of choices method) (untangled_problem drawn.problem) ≡ Ok parts
    → AreBestBy (plan_of choices method) drawn.problem parts best
    → IsWritten subject drawn.graph drawn.walks best method.moves moves improved
    → if_solved (improved_map subject moves) (solved_of choices method outcome) ≡ Ok (improved_bytes improved)
outcome_is subject choices method outcome drawn best parts moves improved is solved best_is written =
    let first : Drawn = after_moves method.moves drawn in
    let last : Drawn = after_moves moves first in
    ap (if_solved (improved_map subject moves)) (solved_is choices method outcome drawn parts is solved)
    ∙ ap (λ (m : MapBytes). of_two m (improvement_of moves drawn.graph first.walks))
    (sym (map_is (plan_of choices method) subject last best parts best_is) ∙ sym written.map)
    ∙ ap (of_two (bytes_of improved.map)) (sym written.improvement)

-- a drawing that is refused refuses all that is made of it
pub not_drawn : (A : Type 0) (makes : SolvedMap → A) (choices : Choices) (method : MethodChoices)
    (outcome : Result Drawn MakeFault) (e : MakeFault) → HasCause outcome e
    → HasCause (if_solved makes (solved_of choices method outcome)) e
not_drawn A makes choices method outcome fault.NoMemory h = tt
not_drawn A makes choices method outcome e h = ap
    (λ (o : Result Drawn MakeFault). if_solved makes (solved_of choices method o)) h

-- and so do parts that are
pub not_solved : (A : Type 0) (makes : SolvedMap → A) (choices : Choices) (method : MethodChoices)
    (outcome : Result Drawn MakeFault) (drawn : Drawn) (e : MakeFault) → outcome ≡ Ok drawn
    → HasCause (solve_outcome (plan_of choices method) (untangled_problem drawn.problem)) e
    → HasCause (if_solved makes (solved_of choices method outcome)) e
not_solved A makes choices method outcome drawn e is h = by_fault e h
  where
    refused : (f : MakeFault) → solve_outcome (plan_of choices method) (untangled_problem drawn.problem) ≡ Err f
        → if_solved makes (solved_of choices method outcome) ≡ Err f
    refused f i = ap (λ (o : Result Drawn MakeFault). if_solved makes (solved_of choices method o)) is
        ∙ ap (λ (o : Result (List SolvedPart) MakeFault). if_solved makes (solved_with method.moves drawn o)) i

    by_fault : (f : MakeFault) → HasCause (solve_outcome (plan_of choices method) (untangled_problem drawn.problem)) f
        → HasCause (if_solved makes (solved_of choices method outcome)) f
    by_fault fault.NoMemory i = tt
    by_fault f i = refused f i

-- no moves are added: the map is the one that is made
pub made_of_none : (subject : Subject) (o : Result SolvedMap MakeFault) (improved : ImprovedBytes)
    → if_solved (improved_map subject 0) o ≡ Ok improved → if_solved (solved_map subject) o ≡ Ok improved.map
made_of_none subject (Ok solved) improved h =
    let same : improved_map subject 0 solved ≡ improved = cc in
    ap (λ (x : ImprovedBytes). Ok x.map) same
made_of_none subject (Err stop) improved h = cc

pub none_of_none : (subject : Subject) (o : Result SolvedMap MakeFault) (e : MakeFault)
    → HasCause (if_solved (improved_map subject 0) o) e → HasCause (if_solved (solved_map subject) o) e
none_of_none subject o e h = by_fault e h
  where
    by_solved : (q : Result SolvedMap MakeFault) (f : MakeFault) → if_solved (improved_map subject 0) q ≡ Err f
        → if_solved (solved_map subject) q ≡ Err f
    by_solved (Ok solved) f i = cc
    by_solved (Err stop) f i =
        let same : stop ≡ f = cc in
        ap Err same

    by_fault : (f : MakeFault) → HasCause (if_solved (improved_map subject 0) o) f
        → HasCause (if_solved (solved_map subject) o) f
    by_fault fault.NoMemory i = tt
    by_fault f i = by_solved o f i

-- moves that follow the routes are those that are added to a drawing without moves
pub made_alike : (subject : Subject) (choices : Choices) (method : MethodChoices) (outcome : Result Drawn MakeFault)
    (moves : ℕ) (improved : ImprovedBytes)
    → if_solved (improved_map subject moves) (solved_of choices (record method { moves = 0 }) outcome) ≡ Ok improved
    → if_solved (solved_map subject) (solved_of choices (record method { moves = moves }) outcome) ≡ Ok improved.map
made_alike subject choices method outcome moves improved h = by_drawn outcome h
  where
    by_parts : (drawn : Drawn) (o : Result (List SolvedPart) MakeFault)
        → if_solved (improved_map subject moves) (solved_with 0 drawn o) ≡ Ok improved
        → if_solved (solved_map subject) (solved_with moves drawn o) ≡ Ok improved.map
    by_parts drawn (Ok parts) i =
        let same : improved_map subject moves (record { drawn = after_moves 0 drawn; parts = parts }) ≡ improved = cc in
        ap (λ (x : ImprovedBytes). Ok x.map) same
    by_parts drawn (Err stop) i = cc

    by_drawn : (o : Result Drawn MakeFault)
        → if_solved (improved_map subject moves) (solved_of choices (record method { moves = 0 }) o) ≡ Ok improved
        → if_solved (solved_map subject) (solved_of choices (record method { moves = moves }) o) ≡ Ok improved.map
    by_drawn (Ok drawn) i = by_parts drawn (solve_outcome (plan_of choices method) (untangled_problem drawn.problem)) i
    by_drawn (Err stop) i = cc
