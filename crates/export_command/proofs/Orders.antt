-- The line orders that a map has are orders of the lines of its segments.
use Rattle.std.proofs.Common.{◌≡◌, refl, sym, subst, ℕ, ◌+◌, ◌<◌, nat_le, Bool, true, false, cond, List, [], ◌∷◌, length, map, arith}
use Rattle.std.specs.Prelude.{All, Result, Ok, Err, sum_by}
use Rattle.std.specs.List.{AllByRecursion as ByRecursion}
use Rattle.std.proofs.lemmas.List.Elements.{All-from_recursion, recursion_from_All}
use Rattle.std.proofs.lemmas.List.Sorted.{All-permutation}
use Rattle.map_base.specs.declared.ids.LineId.{LineId}
use Rattle.map_base.specs.declared.ids.SegId.{SegId}
use Rattle.map_base.specs.declared.limit.LimitKind.TheVariants.{Places}
use Rattle.map_base.specs.Limits.{limit_of}
use Rattle.map_faults.specs.declared.fault.MakeFault.{MakeFault}
use Rattle.map_method.specs.declared.claim.Claim.{Claim}
use Rattle.map_method.specs.declared.claim.Claim.TheVariants.{Best, Bound}
use Rattle.order_model.specs.declared.problem.ProblemParts.{ProblemParts}
use Rattle.order_model.specs.Costs.{AreOrders}
use Rattle.order_model.specs.Parts.{IsRisingPart}
use Rattle.order_model.specs.Problems.{choices, lines_on, IsProblem}
use Rattle.order_model.proofs.OneParts.{problem_parts_are}
use Rattle.order_rules.specs.Untangling.{after_rules, untangling}
use Rattle.order_rules.proofs.RuleLaws.{all_orders, all_problem}
use Rattle.order_rules.proofs.UntanglingLaws.{untangled_ends, Ends}
use Rattle.order_search.specs.declared.found.SearchFault.{SearchFault}
use Rattle.order_search.specs.declared.found.SearchFault.TheVariants as search
use Rattle.order_search.specs.ByItself.{by_itself}
use Rattle.order_search.specs.Finding.{places_of, with_lists}
use Rattle.order_search.specs.FoundParts.{part_in}
use Rattle.order_search.specs.LiveTrees.{live_tree}
use Rattle.order_search.proofs.Shows.{attained}
use Rattle.dual_ascent.proofs.Meeting.{number_orders, set_orders}
use Rattle.kept_trees.specs.declared.plan.SearchPlan.{SearchPlan}
use Rattle.kept_trees.specs.Results.{by_live, dual_outcome, dual_part, is_dual, live_outcome, part_outcome, PartResult}
use Rattle.kept_trees.proofs.PutOrders.{orders_put}
use Rattle.graph_maps.specs.Lifted.{lifted_by}
use Rattle.graph_maps.specs.Problems.{untangled_problem, untangling_rules}
use Rattle.graph_maps.specs.Solving.{orders_by, parts_in, solve_from, solve_outcome, solved, solved_first, with_parts, SolvedPart}
use Rattle.export_command.proofs.DualOrders.{found_are_orders}
use Rattle.export_command.proofs.Numbers.{AreBelow}

-- orders of a part by itself, put in place
put : (segs : List (List LineId)) (part : List SegId) (lists orders : List (List LineId))
    → AreOrders (map (lines_on segs) part) lists → AreOrders segs orders → AreOrders segs (with_lists part lists orders)
put segs [] lists orders are all = all
put segs (s ∷ part) [] orders are all = all
put segs (s ∷ part) (order ∷ lists) orders are all =
    set_orders segs (with_lists part lists orders) s.0 order (put segs part lists orders are.1 all) are.0

-- ---- a part

module _ (p : ProblemParts) (fit : IsProblem p) (part : List SegId)
    (known : All (λ (s : SegId). s.0 < length p.segs) part) (rising : IsRisingPart part) where
  same_result : (x y : PartResult) → ◌≡◌ {A = Result PartResult SearchFault} (Ok x) (Ok y) → x ≡ y
  same_result x y e = cc

  -- the lists of a part, over any orders, are orders
  abbrev ArePut : PartResult → Type 0
  ArePut r = (orders : List (List LineId)) → AreOrders p.segs orders → AreOrders p.segs (with_lists part r.lists orders)

  live_put : ArePut (by_live (live_tree (part_in p part)))
  live_put orders are =
      orders_put p.segs orders part (live_tree (part_in p part)).best.lists are
      (attained p.segs p.terms part fit.rising fit.terms rising known).orders

  dual_put : (budget : ℕ) → ArePut (dual_part budget p part)
  dual_put budget orders are =
      put p.segs part (dual_part budget p part).lists orders (found_are_orders (by_itself p part) budget) are

  of_live : (budget : ℕ) (r : PartResult) → live_outcome budget p part ≡ Ok r → ArePut r
  of_live budget r is = by (nat_le (places_of p.segs part) 2048) (nat_le grown.branches budget) is
    where
      grown : PartResult
      grown = by_live (live_tree (part_in p part))

      by : (shallow few : Bool)
          → cond shallow (cond few (Ok grown) (Err (search.Spent (budget + 1)))) (Err (search.TooDeep (limit_of Places))) ≡ Ok r
          → ArePut r
      by true true e = let same : grown ≡ r = cc in subst ArePut same live_put
      by true false e = absurd cc
      by false few e = absurd cc

  of_dual : (claim : Claim) (budget : ℕ) (own r : PartResult) → ArePut own → dual_outcome claim budget own ≡ Ok r
      → ArePut r
  of_dual Best budget own r put is = by own.complete is
    where
      by : (b : Bool) → cond b (Ok own) (Err (search.Spent (budget + 1))) ≡ Ok r → ArePut r
      by true e = let same : own ≡ r = cc in subst ArePut same put
      by false e = absurd cc
  of_dual Bound budget own r put is =
      subst ArePut (same_result (cond own.complete own (record own { branches = budget })) r is) (by own.complete)
    where
      by : (b : Bool) → ArePut (cond b own (record own { branches = budget }))
      by true = put
      by false = put

  of_outcome : (plan : SearchPlan) (r : PartResult) → part_outcome plan p part ≡ Ok r → ArePut r
  of_outcome plan r is = by (is_dual plan.search p part) is
    where
      by : (b : Bool)
          → cond b (dual_outcome plan.claim plan.budget (dual_part plan.budget p part)) (live_outcome plan.budget p part) ≡ Ok r
          → ArePut r
      by true e = of_dual plan.claim plan.budget (dual_part plan.budget p part) r (dual_put plan.budget) e
      by false e = of_live plan.budget r e

-- ---- all parts

-- what a search needs of a part
abbrev IsPart : ProblemParts → List SegId → Type 0
IsPart p part = All (λ (s : SegId). s.0 < length p.segs) part × IsRisingPart part

all_put : (plan : SearchPlan) (p : ProblemParts) → IsProblem p → (k : ℕ) (parts : List (List SegId))
    → ByRecursion (IsPart p) parts → (done : List SolvedPart) → solve_from plan p k parts ≡ Ok done
    → (orders : List (List LineId)) → AreOrders p.segs orders → AreOrders p.segs (with_parts done orders)
all_put plan p fit k [] are done is orders all =
    let none : [] ≡ done = cc in
    subst (λ (ds : List SolvedPart). AreOrders p.segs (with_parts ds orders)) none all
all_put plan p fit k (part ∷ parts) are done is orders all =
    by (part_outcome plan p part) refl (solve_from plan p (k + 1) parts)
    (λ later e. all_put plan p fit (k + 1) parts are.1 later e) is
  where
    by : (o : Result PartResult SearchFault) → part_outcome plan p part ≡ o → (rest : Result (List SolvedPart) MakeFault)
        → ((later : List SolvedPart) → rest ≡ Ok later → (os : List (List LineId)) → AreOrders p.segs os
        → AreOrders p.segs (with_parts later os))
        → solved_first k part o rest ≡ Ok done → AreOrders p.segs (with_parts done orders)
    by (Ok r) found (Ok later) more e =
        let same : solved part r ∷ later ≡ done = cc in
        subst (λ (ds : List SolvedPart). AreOrders p.segs (with_parts ds orders)) same
        (more later refl (with_lists part r.lists orders) (of_outcome p fit part are.0.0 are.0.1 plan r found orders all))
    by (Ok r) found (Err stop) more e = absurd cc
    by (Err why) found rest more e = absurd cc

are_parts : (p : ProblemParts) → IsProblem p → ByRecursion (IsPart p) (parts_in p)
are_parts p fit =
    let parts = problem_parts_are p.segs p.terms fit.terms in
    recursion_from_All (IsPart p) (parts_in p) (λ k d h. (λ i s below. (parts.wide k d h i s below).0, parts.rising k d h))

-- the orders of solved parts
solved_orders : (plan : SearchPlan) (p : ProblemParts) → IsProblem p → (done : List SolvedPart)
    → solve_outcome plan p ≡ Ok done → AreOrders p.segs (orders_by p done)
solved_orders plan p fit done is =
    all_put plan p fit 0 (parts_in p) (are_parts p fit) done is p.segs (number_orders p.segs)

-- ---- the problem

module _ (p : ProblemParts) (fit : IsProblem p) where
  ends : Ends p (untangling p)
  ends = untangled_ends (sum_by choices p.segs) p fit (omega arith)

  pub lifted_orders : (plan : SearchPlan) (done : List SolvedPart) → solve_outcome plan (untangled_problem p) ≡ Ok done
      → AreOrders p.segs (lifted_by p done)
  lifted_orders plan done is =
      let rules = untangling_rules p in
      let u : ProblemParts = after_rules p rules in
      let there : IsProblem u = all_problem p rules fit ends.apply in
      let orders : AreOrders (untangled_problem p).segs (orders_by (untangled_problem p) done) =
      solved_orders plan (untangled_problem p) (subst IsProblem (sym ends.last) there) done is in
      all_orders p rules (orders_by (untangled_problem p) done) fit ends.apply
      (subst (λ (q : ProblemParts). AreOrders q.segs (orders_by (untangled_problem p) done)) ends.last orders)

-- ---- their lines

-- lines of orders are below what all lines of the segments are below
pub orders_below : (most : ℕ) (segs orders : List (List LineId)) → AreOrders segs orders → AreBelow most segs
    → AreBelow most orders
orders_below most [] [] are all = tt
orders_below most [] (order ∷ orders) are all = absurd are
orders_below most (lines ∷ segs) [] are all = absurd are
orders_below most (lines ∷ segs) (order ∷ orders) are all =
    let Low : LineId → Type 0 = λ l. l.0 < most in (
      recursion_from_All Low order (All-permutation Low lines order are.0 (All-from_recursion Low lines all.0)),
      orders_below most segs orders are.1 all.1,
    )
