-- Of a graph that is read again the map is made that is made of the graph.
use Rattle.std.proofs.Common.{◌≡◌, ◌∙◌, ap, refl, sym, subst, ℕ, ◌<◌, ◌≤◌, nat_le, Bool, true, false, cond, List, [], length, map, get_or, arith, inl, inr}
use Rattle.std.specs.Prelude.{All, Result, Ok, Err}
use Rattle.std.specs.List.{AllByRecursion as ByRecursion, range_with_len}
use Rattle.std.proofs.lemmas.Bool.{cases_lt, leb-true}
use Rattle.std.proofs.lemmas.List.Elements.{All-contains, All-from_recursion, recursion_from_All}
use Rattle.std.proofs.lemmas.Option.{unwrap_or-slice_get}
use Rattle.std.proofs.lemmas.List.{get_or_past}
use Rattle.map_base.specs.declared.ids.LineId.{LineId}
use Rattle.map_base.specs.declared.ids.SegId.{SegId}
use Rattle.map_base.specs.declared.limit.Limit.{Limit}
use Rattle.map_base.specs.declared.limit.LimitKind.TheVariants.{Terms}
use Rattle.map_base.specs.declared.weights.Weights.{Weights}
use Rattle.map_base.specs.Limits.{limit_of}
use Rattle.map_base.specs.Settings.{AreLight, Choices, IsImportance}
use Rattle.kept_trees.specs.declared.plan.SearchPlan.{SearchPlan}
use Rattle.map_faults.specs.declared.fault.MakeFault.{MakeFault}
use Rattle.map_method.specs.Methods.{MethodChoices}
use Rattle.graph_core.specs.declared.parts.GraphParts.{GraphParts}
use Rattle.graph_core.specs.declared.parts.Join.{Join}
use Rattle.graph_core.specs.declared.parts.NodeKind.{NodeKind}
use Rattle.graph_core.specs.declared.parts.NodeKind.TheVariants.{Station, Junction}
use Rattle.graph_core.specs.Consistent.{lines_at, IsConsistent, IsJoin}
use Rattle.octi_grid.specs.Walks.{PlainWalk}
use Rattle.segment_router.specs.declared.fault.RouteFault.{RouteFault}
use Rattle.kept_walks.specs.Drawings.{drawing_outcome}
use Rattle.order_model.specs.declared.problem.ProblemParts.{ProblemParts}
use Rattle.order_model.specs.Problems.{IsProblem}
use Rattle.order_model.specs.Costs.{cost_of}
use Rattle.order_terms.specs.Terms.{graph_terms, weights_at, HaveImportance}
use Rattle.order_terms.specs.Limits.{graph_problem}
use Rattle.order_terms.proofs.GraphProblem.{problem_of_graph}
use Rattle.svg_writer.specs.declared.names.Names.{Names}
use Rattle.svg_writer.specs.Picture.{joins_at}
use Rattle.cert_file.specs.Plain.{PlainCertificate}
use Rattle.cert_file.specs.Text.{certificate_text}
use Rattle.graph_json.specs.Again.{name_and_colour, node_name, read_again}
use Rattle.graph_json.specs.Limits.{names_in}
use Rattle.graph_json.specs.References.{kinds_from}
use Rattle.graph_json.specs.Written.{lines_listed}
use Rattle.graph_maps.specs.Certificates.{certificate_of, proof_of}
use Rattle.graph_maps.specs.Lifted.{lifted_by}
use Rattle.graph_maps.specs.Making.{if_solved, made_on, map_of, plan_of, solved_map, solved_of, solved_with, MapBytes}
use Rattle.graph_maps.specs.Moving.{after_moves, walks_after}
use Rattle.graph_maps.specs.Problems.{drawing_plan, drawn_with, routed_by, untangled_problem, Drawn}
use Rattle.graph_maps.specs.Solving.{solve_outcome, SolvedPart}
use Rattle.graph_maps.specs.Subjects.{told_by, Subject}
use Rattle.export_command.specs.Exchanged.{made_of, AreAlike}
use Rattle.export_command.proofs.Certificates.{same_count, same_weighty}
use Rattle.export_command.proofs.NodeKinds.{count_again, same_kind, IsSameKind}
use Rattle.export_command.proofs.Routes.{with_kinds}
use Rattle.export_command.proofs.Straight.{same_drawing, same_walks}
use Rattle.export_command.proofs.Numbers.{AreBelow, each_listed, few_listed, importance_up_to, length_up_to, names_up_to, same_colour, same_importance, same_name}
use Rattle.export_command.proofs.Orders.{lifted_orders, orders_below}
use Rattle.export_command.proofs.Pictures.{at_list, same_picture}
use Rattle.export_command.proofs.Terms.{same_problem}

-- the weights at nodes of one kind are the same
weights_of : (ws : List Weights) (old new : Names) (a b : NodeKind) → IsSameKind old new a b
    → weights_at ws b ≡ weights_at ws a
weights_of ws old new (Station s) (Station t) is = refl
weights_of ws old new (Station s) Junction is = absurd is
weights_of ws old new Junction (Station t) is = absurd is
weights_of ws old new Junction Junction is = refl

module _ (g : GraphParts) (names : Names) (importance : List ℕ) (fit : IsConsistent g)
    (have : HaveImportance importance g.lines) where
  abbrev n : ℕ
  n = lines_listed g.lines

  abbrev stations : List (List ℕ)
  stations = names_in (map (node_name names) g.kinds)

  abbrev kinds : List NodeKind
  kinds = kinds_from 0 (map (node_name names) g.kinds)

  abbrev new_names : Names
  new_names = names_up_to stations names n

  abbrev new : List ℕ
  new = importance_up_to importance n

  abbrev h : GraphParts
  h = with_kinds kinds g

  abbrev Low : LineId → Type 0
  Low l = l.0 < n

  count : length kinds ≡ length g.kinds
  count = count_again names g.kinds

  kind : (k : ℕ) → IsSameKind names new_names (get_or g.kinds k Junction) (get_or kinds k Junction)
  kind k = same_kind names (map (name_and_colour names) (range_with_len 0 n)) g.kinds k

  below : AreBelow n g.lines
  below = each_listed g.lines

  few : n ≤ length importance
  few =
      let Has : LineId → Type 0 = λ l. l.0 < length importance in
      few_listed (length importance) g.lines
      (recursion_from_All (ByRecursion Has) g.lines
      (λ k d b. recursion_from_All Has (get_or g.lines k d) (λ i e c. (have k d b i e c).0)))

  agree : (l d e : ℕ) → l < n → get_or new l d ≡ get_or importance l e
  agree l d e b = same_importance importance n l d e b few

  have_new : HaveImportance new g.lines
  have_new k d b i e c =
      let l : ℕ = (get_or (get_or g.lines k d) i e).0 in
      let low : l < n =
      All-from_recursion Low (get_or g.lines k d) (All-from_recursion (ByRecursion Low) g.lines below k d b) i e c in
      (omega (arith, low, length_up_to importance n), subst IsImportance (sym (agree l 0 0 low)) (have k d b i e c).1)

  abbrev LowJoin : Join → Type 0
  LowJoin j = j.line.0 < n

  low_join : (round : List SegId) (j : Join) → IsJoin g.lines round j → LowJoin j
  low_join round j is =
      All-contains Low (lines_at g.lines j.e) j.line
      (All-from_recursion Low (lines_at g.lines j.e) (at_list Low g.lines below j.e.0)) is.on_lesser

  joined : (k : ℕ) → ByRecursion LowJoin (joins_at g.joins k)
  joined k =
      subst (ByRecursion LowJoin) (sym (unwrap_or-slice_get g.joins k []))
      (elim (cases_lt k (length g.joins)) [
        | inl there ↦ recursion_from_All LowJoin (get_or g.joins k [])
            (λ i d b. low_join (get_or g.rounds k []) (get_or (get_or g.joins k []) i d) (fit.joins k there i d b))
        | inr past ↦ subst (ByRecursion LowJoin) (sym (get_or_past g.joins k [] past)) tt
      ])

  module _ (choices other : Choices) (method : MethodChoices) (alike : AreAlike choices other)
      (light : All AreLight choices.weights) where
    abbrev before : Subject
    before = told_by names importance

    abbrev after : Subject
    after = told_by new_names new

    abbrev plan_with : ℕ → SearchPlan
    plan_with budget = record { search = method.search; claim = method.claim; budget = budget }

    abbrev plan : SearchPlan
    plan = plan_of choices method

    -- the problem, where there are not too many terms
    abbrev problem : ProblemParts
    problem = record { segs = g.lines; terms = graph_terms g choices.weights importance }

    problem_same : graph_problem h other.weights new ≡ graph_problem g choices.weights importance
    problem_same =
        ap (λ (ws : List Weights). graph_problem h ws new) (sym alike.weights)
        ∙ same_problem new importance
        (λ l b. let within : l < n = omega (arith, b, length_up_to importance n) in agree l 0 0 within)
        g fit kinds count choices.weights light have_new
        (λ k. weights_of choices.weights names new_names (get_or g.kinds k Junction) (get_or kinds k Junction) (kind k))

    abbrev drawn : GraphParts → List PlainWalk → Drawn
    drawn graph walks = record { graph = graph; walks = walks; problem = problem }

    abbrev made : MapBytes → Result MapBytes MakeFault
    made bytes = Ok bytes

    module _ (parts : List SolvedPart) (low : AreBelow n (lifted_by problem parts)) where
      abbrev certificate_with : List PlainWalk → ℕ → ℕ → List (LineId × ℕ) → PlainCertificate
      certificate_with walks nodes lines weighty = record {
        nodes = nodes;
        segs = length g.ends;
        lines = lines;
        importance = weighty;
        walks = walks;
        orders = lifted_by problem parts;
        cost = cost_of problem.terms (lifted_by problem parts);
        proof = proof_of problem parts;
      }

      certificate_same : (walks : List PlainWalk)
          → certificate_of new (drawn h walks) parts ≡ certificate_of importance (drawn g walks) parts
      certificate_same walks = λ i. certificate_with walks (count i)
          (same_count g n below new importance (length_up_to importance n) few (λ l b. agree l 1 1 b) i)
          (same_weighty g n below new importance (length_up_to importance n) few (λ l b. agree l 1 1 b) i)

      abbrev bytes_with : List ℕ → PlainCertificate → MapBytes
      bytes_with svg certificate = record { svg = svg; certificate = certificate_text certificate }

      map_same : (walks : List PlainWalk) → map_of after (drawn h walks) parts ≡ map_of before (drawn g walks) parts
      map_same walks = λ i. bytes_with
          (same_picture g kinds count names new_names n kind
          (λ l b. same_name stations names n l b) (λ l b. same_colour stations names n l b) joined
          walks (lifted_by problem parts) low i) (certificate_same walks i)

      moved_same : (walks : List PlainWalk) → map_of after (after_moves method.moves (drawn h walks)) parts
          ≡ map_of before (after_moves method.moves (drawn g walks)) parts
      moved_same walks =
          ap (λ (w : List PlainWalk). map_of after (drawn h w) parts) (same_walks g kinds count method.moves walks)
          ∙ map_same (walks_after method.moves g walks)

    solved_same : IsProblem problem → (walks : List PlainWalk) (s : Result (List SolvedPart) MakeFault)
        → solve_outcome plan (untangled_problem problem) ≡ s
        → if_solved (solved_map after) (solved_with method.moves (drawn h walks) s)
        ≡ if_solved (solved_map before) (solved_with method.moves (drawn g walks) s)
    solved_same is walks (Ok parts) found =
        ap made (moved_same parts
        (orders_below n problem.segs (lifted_by problem parts) (lifted_orders problem is plan parts found) below) walks)
    solved_same is walks (Err stop) found = refl

    problem_solved : (walks : List PlainWalk)
        → if_solved (solved_map after) (solved_of other method (drawn_with h walks (graph_problem g choices.weights importance)))
        ≡ if_solved (solved_map before) (solved_of choices method (drawn_with g walks (graph_problem g choices.weights importance)))
    problem_solved walks = by (nat_le (length problem.terms) 4000000) refl
      where
        by : (b : Bool) → nat_le (length problem.terms) 4000000 ≡ b
            → if_solved (solved_map after) (solved_of other method (drawn_with h walks (cond b (Ok problem) (Err (limit_of Terms)))))
            ≡ if_solved (solved_map before) (solved_of choices method (drawn_with g walks (cond b (Ok problem) (Err (limit_of Terms)))))
        by true within =
            ap (λ (budget : ℕ). if_solved (solved_map after)
            (solved_with method.moves (drawn h walks) (solve_outcome (plan_with budget) (untangled_problem problem))))
            (sym alike.budget)
            ∙ solved_same
            (problem_of_graph g fit choices.weights importance light have (leb-true (length problem.terms) 4000000 within))
            walks (solve_outcome plan (untangled_problem problem)) refl
        by false over = refl

    routed_same : (o : Result (List PlainWalk) RouteFault)
        → if_solved (solved_map after) (solved_of other method (routed_by new other h o))
        ≡ if_solved (solved_map before) (solved_of choices method (routed_by importance choices g o))
    routed_same (Ok walks) =
        ap (λ (q : Result ProblemParts Limit). if_solved (solved_map after) (solved_of other method (drawn_with h walks q)))
        problem_same
        ∙ problem_solved walks
    routed_same (Err stop) = refl

    -- what is made of the graph that is read again
    pub made_again : made_of other method (read_again g names importance) ≡ made_on before choices method g
    made_again =
        ap (λ (o : Result (List PlainWalk) RouteFault). if_solved (solved_map after) (solved_of other method (routed_by new other h o)))
        (same_drawing g kinds count (drawing_plan other method)
        ∙ ap (λ (cell : ℕ). drawing_outcome g (record (drawing_plan choices method) { cell = cell })) (sym alike.cell))
        ∙ routed_same (drawing_outcome g (drawing_plan choices method))
