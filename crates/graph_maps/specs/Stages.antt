-- What stands between the steps of making a map.
use Rattle.std.specs.Prelude.{◌≡◌, ◌≤◌, ◌+◌, ◌⊎◌, ℕ, true, All, None, List, [], ◌∷◌, ◌++◌, length, map, drop, Result, Ok, Err}
use Rattle.std.specs.List.{AllByRecursion}
use Rattle.map_base.specs.declared.ids.SegId.{SegId}
use Rattle.map_method.specs.declared.claim.Claim.{Claim}
use Rattle.map_method.specs.declared.claim.Claim.TheVariants.{Best, Bound}
use Rattle.kept_trees.specs.declared.plan.SearchPlan.{SearchPlan}
use Rattle.order_model.specs.declared.problem.ProblemParts.{ProblemParts}
use Rattle.graph_maps.specs.Subjects.{Subject}
use Rattle.graph_core.specs.declared.parts.GraphParts.{GraphParts}
use Rattle.graph_core.specs.Consistent.{IsConsistent}
use Rattle.octi_grid.specs.declared.drawing.Drawing.{Drawing}
use Rattle.octi_grid.specs.Walks.{IsWalk, PlainWalk}
use Rattle.octi_grid.specs.Legal.{first_illegal, legal}
use Rattle.grid_board.specs.Points.{are_near}
use Rattle.kept_walks.specs.Moves.{NoMoveImproves}
use Rattle.order_model.specs.Costs.{cost_of, AreOrders}
use Rattle.svg_writer.specs.Picture.{picture_text}
use Rattle.cert_file.specs.Plain.{PlainCertificate}
use Rattle.cert_file.specs.Text.{certificate_text}
use Rattle.order_proof.specs.Plain.{PlainPart, plain_part, plain_proof}
use Rattle.order_proof.specs.Trees.{IsPartTree}
use Rattle.order_check.specs.Verdict.{failing}
use Rattle.order_model.specs.Questions.{question}
use Rattle.order_model.specs.PartTerms.{part_terms}
use Rattle.order_search.specs.Finding.{with_lists, IsLeast, AreAttained}
use Rattle.order_search.specs.FoundParts.{part_in}
use Rattle.graph_maps.specs.declared.best_orders.BestOrders.{BestOrders}
use Rattle.graph_maps.specs.declared.improvement.Improvement.{Improvement}
use Rattle.graph_maps.specs.declared.improvement.ImprovedMap.{ImprovedMap}
use Rattle.graph_maps.specs.declared.solution.Solution.{Solution}
use Rattle.map_faults.specs.declared.fault.MakeFault.{MakeFault}
use Rattle.graph_maps.specs.Problems.{Drawn, untangled_problem}
use Rattle.graph_maps.specs.Moving.{improvement_of, walks_after}
use Rattle.kept_trees.specs.Results.{PartResult, part_outcome}
use Rattle.graph_maps.specs.Solving.{SolvedPart, solved, with_solved, solved_first, orders_by, solve_from, solve_outcome, parts_in}
use Rattle.graph_maps.specs.Lifted.{lifted_by}
use Rattle.graph_maps.specs.Certificates.{proof_part, proof_of, line_count, weighty_lines}
use Rattle.graph_maps.specs.Making.{bytes_of, HasCause, MapBytes}

-- a line graph with its drawing and its problem
abbrev pub drawn_of : GraphParts → Drawing × ProblemParts → Drawn
drawn_of graph d = record { graph = graph; walks = d.0.walks; problem = d.1 }

-- walks are a legal drawing, with a walk for each segment, of a line graph that fits together
pub record IsDrawing (graph : GraphParts) (walks : List PlainWalk) : Type 0 where
  pub fits : IsConsistent graph
  pub are_walks : All IsWalk walks
  pub each : length walks ≡ length graph.ends
  pub legal : legal graph walks ≡ true
  pub first : first_illegal graph walks ≡ None

-- A drawing came of these walks by at most so many moves. It is legal, at most four steps farther from the origin and
-- no heavier, and all moves were made, or none makes it lighter.
pub record IsMoved (moves : ℕ) (graph : GraphParts) (walks : List PlainWalk)
    (moved : Drawing × Improvement) : Type 0 where
  pub drawn : moved.0.walks ≡ walks_after moves graph walks
  pub drawing : IsDrawing graph moved.0.walks
  pub near : (most : ℕ) → are_near most walks ≡ true → are_near (most + 4) moved.0.walks ≡ true
  pub improvement : moved.1 ≡ improvement_of moves graph walks
  pub no_heavier : moved.1.after ≤ moved.1.before
  pub to_the_end : (moved.1.made ≡ moves) ⊎ NoMoveImproves graph walks moved.0.walks

-- the parts of a proof without where they lie in memory
abbrev pub plain_parts : Solution → List PlainPart
plain_parts s = map plain_part s.parts.items

-- where best orders are claimed, they cost the target
abbrev pub CostClaimed : Claim → ℕ → ℕ → Type 0
CostClaimed Best target cost = cost ≡ target
CostClaimed Bound target cost = Unit {0}

-- What a search finds of a part shows its target, which no orders of the part cost less than; the orders that are found
-- cost something, and the target where best orders are claimed.
pub record IsShown (plan : SearchPlan) (p : ProblemParts) (s : SolvedPart) : Type 0 where
  pub bound : IsLeast (part_in p s.segs) s.target
  pub cost : ℕ
  pub attained : AreAttained (part_in p s.segs) s.lists cost
  pub claimed : CostClaimed plan.claim s.target cost
  pub accepted : failing (question p.segs s.segs (part_terms p.terms s.segs) s.target) s.tree ≡ None

-- the trees of solved parts are trees that a proof may have
abbrev pub HaveProofTrees : List SolvedPart → Type 0
HaveProofTrees parts = AllByRecursion (λ (q : PlainPart). IsPartTree q.tree) (map proof_part parts)

-- orders and proofs by solved parts, with trees that a proof may have
pub record IsSolution (plan : SearchPlan) (p : ProblemParts) (parts : List SolvedPart) (s : Solution) : Type 0 where
  pub orders : s.orders.items ≡ orders_by p parts
  pub proofs : plain_parts s ≡ map proof_part parts
  pub trees : HaveProofTrees parts
  pub shown : AllByRecursion (IsShown plan p) parts

-- what was solved is what comes by definition, unless memory ran out
abbrev pub Solves : SearchPlan → ProblemParts → Result Solution MakeFault → Result (List SolvedPart) MakeFault → Type 0
Solves plan p (Ok s) outcome = (parts : List SolvedPart) × (outcome ≡ Ok parts) × IsSolution plan p parts s
Solves plan p (Err e) outcome = HasCause outcome e

-- line orders of a problem, what they cost and their proof, by the solved parts of its untangled problem
pub record AreBestBy (plan : SearchPlan) (p : ProblemParts) (parts : List SolvedPart) (best : BestOrders) : Type 0 where
  pub orders : best.orders.lists ≡ lifted_by p parts
  pub cost : best.cost ≡ cost_of p.terms (lifted_by p parts)
  pub proof : plain_proof best.proof ≡ proof_of p parts
  pub trees : HaveProofTrees parts
  pub ordered : AreOrders (untangled_problem p).segs (orders_by (untangled_problem p) parts)
  pub shown : AllByRecursion (IsShown plan (untangled_problem p)) parts

-- what was found is what comes of the untangled problem by definition, unless memory ran out
abbrev pub Finds : SearchPlan → ProblemParts → Result BestOrders MakeFault → Result (List SolvedPart) MakeFault → Type 0
Finds plan p (Ok best) outcome = (parts : List SolvedPart) × (outcome ≡ Ok parts) × AreBestBy plan p parts best
Finds plan p (Err e) outcome = HasCause outcome e

-- one part more is solved, by what its search finds
pub record IsMore (plan : SearchPlan) (p : ProblemParts) (part : List SegId) (before after : Solution) : Type 0 where
  pub found : PartResult
  pub outcome : part_outcome plan p part ≡ Ok found
  pub tree : IsPartTree found.tree
  pub shown : IsShown plan p (solved part found)
  pub orders : after.orders.items ≡ with_lists part found.lists before.orders.items
  pub proofs : plain_parts after ≡ plain_parts before ++ proof_part (solved part found) ∷ []

-- part k is not solved, for the reason that comes by definition; want of memory is free
abbrev pub IsUnsolved : SearchPlan → ProblemParts → ℕ → List SegId → MakeFault → Type 0
IsUnsolved plan p k part stop = HasCause (solved_first k part (part_outcome plan p part) (Ok [])) stop

-- the certificate of a drawing with these line orders
abbrev pub certificate_by : List ℕ → GraphParts → List PlainWalk → BestOrders → PlainCertificate
certificate_by importance graph walks best = record {
  nodes = length graph.kinds;
  segs = length graph.ends;
  lines = line_count importance graph;
  importance = weighty_lines importance graph;
  walks = walks;
  orders = best.orders.lists;
  cost = best.cost;
  proof = plain_proof best.proof;
}

-- the map and the certificate of a drawing with these line orders
abbrev pub map_by : Subject → GraphParts → List PlainWalk → BestOrders → MapBytes
map_by subject graph walks best = record {
  svg = picture_text subject.names graph walks best.orders.lists;
  certificate = certificate_text (certificate_by subject.importance graph walks best);
}

-- a drawing that was moved twice, and then written with these line orders
pub record IsWritten (subject : Subject) (graph : GraphParts) (walks : List PlainWalk) (best : BestOrders)
    (first moves : ℕ) (improved : ImprovedMap) : Type 0 where
  pub map : bytes_of improved.map ≡ map_by subject graph (walks_after moves graph (walks_after first graph walks)) best
  pub drawing : IsDrawing graph (walks_after moves graph (walks_after first graph walks))
  pub improvement : improved.improvement ≡ improvement_of moves graph (walks_after first graph walks)
  pub no_heavier : improved.improvement.after ≤ improved.improvement.before
  pub to_the_end : (improved.improvement.made ≡ moves)
      ⊎ NoMoveImproves graph (walks_after first graph walks) (walks_after moves graph (walks_after first graph walks))

-- solved parts before what comes of those after them
abbrev pub prepended : List SolvedPart → Result (List SolvedPart) MakeFault → Result (List SolvedPart) MakeFault
prepended [] outcome = outcome
prepended (s ∷ done) outcome = with_solved s (prepended done outcome)

-- the first k parts are solved, so that the outcome of all is theirs before that of the others
pub record AreSolved (plan : SearchPlan) (p : ProblemParts) (k : ℕ) (s : Solution) : Type 0 where
  pub done : List SolvedPart
  pub ahead : solve_outcome plan p ≡ prepended done (solve_from plan p k (drop k (parts_in p)))
  pub solution : IsSolution plan p done s
