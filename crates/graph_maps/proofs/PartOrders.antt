-- The orders of solved parts: on each part those that were found, so that all together cost the sum of the least costs.
use Rattle.std.proofs.Common.{◌≡◌, ◌≢◌, ◌∙◌, ap, sym, subst, refl, ℕ, suc, ◌+◌, ◌<◌, ◌≤◌, ◌==◌, ◌||◌, Bool, true, false, true≢false, List, [], ◌∷◌, length, map, get_or, set, get_or-set_same, get_or-set_other, sum_by, arith, eqb-true, eq-eqb, Result, Ok, Err, IsTrue}
use Rattle.std.specs.List.{All, AllByRecursion, Contains}
use Rattle.std.proofs.lemmas.List.Sums.{sum_by-cons}
use Rattle.std.proofs.lemmas.List.Elements.{All-contains}
use Rattle.map_base.specs.declared.ids.SegId.{SegId}
use Rattle.map_base.specs.declared.ids.LineId.{LineId}
use Rattle.order_model.specs.declared.term.Term.{Term}
use Rattle.map_method.specs.declared.claim.Claim.{Claim}
use Rattle.map_method.specs.declared.claim.Claim.TheVariants.{Best}
use Rattle.order_model.specs.declared.problem.ProblemParts.{ProblemParts}
use Rattle.order_model.specs.Problems.{lines_on, IsProblem}
use Rattle.order_model.specs.Costs.{cost_of, AreOrders}
use Rattle.order_model.specs.Parts.{AreParts, is_wide}
use Rattle.order_model.specs.PartTerms.{is_in, part_terms, plain_terms}
use Rattle.order_model.proofs.Shares.{ShareNone, AreApartParts, parts_apart, part_cost, contains_in}
use Rattle.order_model.proofs.KeptTerms.{plain_kept}
use Rattle.order_model.proofs.OneParts.{problem_parts_are}
use Rattle.order_search.specs.Finding.{with_lists}
use Rattle.map_faults.specs.declared.fault.MakeFault.{MakeFault}
use Rattle.order_check.specs.LowerBounds.{IsLowerBound}
use Rattle.order_search.specs.declared.found.SearchFault.{SearchFault}
use Rattle.kept_trees.specs.declared.plan.SearchPlan.{SearchPlan}
use Rattle.kept_trees.specs.Results.{PartResult, part_outcome}
use Rattle.graph_maps.specs.Solving.{SolvedPart, solved, solved_first, with_parts, solve_from, solve_outcome, parts_in, orders_by}
use Rattle.graph_maps.specs.Stages.{CostClaimed, IsShown}
use Rattle.kept_trees.proofs.PutOrders.{length-with_lists}
use Rattle.graph_maps.proofs.CostParts.{cost_shared, same_cost}

-- a segment that is not of the part keeps its lines
away : (part : List SegId) (lists orders : List (List LineId)) (u : SegId) → is_in part u ≡ false → lines_on (with_lists part lists orders) u ≡ lines_on orders u
away [] lists orders u h = refl
away (s ∷ part) [] orders u h = refl
away (s ∷ part) (order ∷ lists) orders u h = by_test (s.0 == u.0) refl h (λ i. away part lists orders u i)
  where
    by_test : (b : Bool) → (s.0 == u.0) ≡ b → (b || is_in part u) ≡ false → (is_in part u ≡ false → lines_on (with_lists part lists orders) u ≡ lines_on orders u)
        → lines_on (set (with_lists part lists orders) s.0 order) u ≡ lines_on orders u
    by_test true e i rest = absurd (true≢false i)
    by_test false e i rest =
        let other : u.0 ≢ s.0 = λ (same : u.0 ≡ s.0). true≢false (sym (eq-eqb s.0 u.0 (sym same)) ∙ e) in
        get_or-set_other (with_lists part lists orders) s.0 u.0 order [] other ∙ rest i

-- a segment of the part gets its list, whatever it had
inside : (part : List SegId) (lists some others : List (List LineId)) (u : SegId) → length lists ≡ length part → is_in part u ≡ true → u.0 < length some → u.0 < length others
    → lines_on (with_lists part lists some) u ≡ lines_on (with_lists part lists others) u
inside [] lists some others u each h below within = absurd (true≢false (sym h))
inside (s ∷ part) [] some others u each h below within = absurd (omega (arith, each))
inside (s ∷ part) (order ∷ lists) some others u each h below within =
    by_test (s.0 == u.0) refl h (λ i. inside part lists some others u (omega (arith, each)) i below within)
  where
    put_on : (orders : List (List LineId)) → s.0 ≡ u.0 → u.0 < length orders → get_or (set (with_lists part lists orders) s.0 order) u.0 [] ≡ order
    put_on orders same known =
        subst (λ (n : ℕ). get_or (set (with_lists part lists orders) s.0 order) n [] ≡ order) same
        (get_or-set_same (with_lists part lists orders) s.0 order [] (omega (arith, same, known, length-with_lists part lists orders)))

    by_test : (b : Bool) → (s.0 == u.0) ≡ b → (b || is_in part u) ≡ true
        → (is_in part u ≡ true → lines_on (with_lists part lists some) u ≡ lines_on (with_lists part lists others) u)
        → lines_on (set (with_lists part lists some) s.0 order) u ≡ lines_on (set (with_lists part lists others) s.0 order) u
    by_test true e i rest =
        let same : s.0 ≡ u.0 = eqb-true s.0 u.0 e in
        put_on some same below ∙ sym (put_on others same within)
    by_test false e i rest =
        let other : u.0 ≢ s.0 = λ (same : u.0 ≡ s.0). true≢false (sym (eq-eqb s.0 u.0 (sym same)) ∙ e) in
        get_or-set_other (with_lists part lists some) s.0 u.0 order [] other ∙ rest i
        ∙ sym (get_or-set_other (with_lists part lists others) s.0 u.0 order [] other)

abbrev pub segs_of : SolvedPart → List SegId
segs_of s = s.segs

all_away : (parts : List SolvedPart) (orders : List (List LineId)) (u : SegId) → AllByRecursion (λ (s : SolvedPart). is_in s.segs u ≡ false) parts
    → lines_on (with_parts parts orders) u ≡ lines_on orders u
all_away [] orders u h = refl
all_away (s ∷ parts) orders u h = all_away parts (with_lists s.segs s.lists orders) u h.1 ∙ away s.segs s.lists orders u h.0

none_has : (p : List SegId) (parts : List SolvedPart) (u : SegId) → AllByRecursion (ShareNone p) (map segs_of parts) → is_in p u ≡ true
    → AllByRecursion (λ (s : SolvedPart). is_in s.segs u ≡ false) parts
none_has p [] u h i = tt
none_has p (s ∷ parts) u h i = (h.0 u i, none_has p parts u h.1 i)

-- what is known of a solved part
record IsWorth (segs : List (List LineId)) (terms : List Term) (s : SolvedPart) : Type 0 where
  each : length s.lists ≡ length s.segs
  known : All (λ (u : SegId). u.0 < length segs) s.segs
  costs : part_cost terms (with_lists s.segs s.lists segs) s.segs ≡ s.target

-- the orders of solved parts cost their targets
targets_are : (segs : List (List LineId)) (terms : List Term) (parts : List SolvedPart) (orders : List (List LineId)) → length orders ≡ length segs
    → AreApartParts (map segs_of parts) → AllByRecursion (IsWorth segs terms) parts
    → sum_by (part_cost terms (with_parts parts orders)) (map segs_of parts) ≡ sum_by (λ (s : SolvedPart). s.target) parts
targets_are segs terms [] orders same apart worth = refl
targets_are segs terms (s ∷ parts) orders same apart worth =
    let final : List (List LineId) = with_parts (s ∷ parts) orders in
    let rest = targets_are segs terms parts (with_lists s.segs s.lists orders) (length-with_lists s.segs s.lists orders ∙ same) apart.1 worth.1 in
    let here : part_cost terms final s.segs ≡ s.target = same_cost s.segs terms final (with_lists s.segs s.lists segs)
    (λ u i.
    let below : u.0 < length segs = All-contains (λ (v : SegId). v.0 < length segs) s.segs u worth.0.known (contains_in s.segs u i) in
    all_away parts (with_lists s.segs s.lists orders) u (none_has s.segs parts u apart.0 i)
    ∙ inside s.segs s.lists orders segs u worth.0.each i (omega (arith, below, same)) below) ∙ worth.0.costs in
    omega (arith, rest, here, sum_by-cons (part_cost terms final) s.segs (map segs_of parts), sum_by-cons (λ (t : SolvedPart). t.target) s parts)

-- All parts of a problem that are solved in turn.

solved_segs : (plan : SearchPlan) (p : ProblemParts) (k : ℕ) (parts : List (List SegId)) (done : List SolvedPart)
    → solve_from plan p k parts ≡ Ok done → map segs_of done ≡ parts
solved_segs plan p k [] done h =
    let none : done ≡ [] = cc in
    ap (map segs_of) none
solved_segs plan p k (part ∷ parts) done h =
    by (part_outcome plan p part) (solve_from plan p (k + 1) parts) h (λ later i. solved_segs plan p (k + 1) parts later i)
  where
    by : (o : Result PartResult SearchFault) (rest : Result (List SolvedPart) MakeFault)
        → solved_first k part o rest ≡ Ok done
        → ((later : List SolvedPart) → rest ≡ Ok later → map segs_of later ≡ parts) → map segs_of done ≡ part ∷ parts
    by (Ok r) (Ok later) e more =
        let same : solved part r ∷ later ≡ done = cc in
        ap (map segs_of) (sym same) ∙ ap (λ (ps : List (List SegId)). part ∷ ps) (more later refl)
    by (Ok r) (Err stop) e more = absurd cc
    by (Err why) rest e more = absurd cc

pub segs_are : (plan : SearchPlan) (p : ProblemParts) (parts : List SolvedPart)
    → solve_outcome plan p ≡ Ok parts → map segs_of parts ≡ parts_in p
segs_are plan p parts h = solved_segs plan p 0 (parts_in p) parts h

-- the targets of solved parts
abbrev pub target_sum : List SolvedPart → ℕ
target_sum parts = sum_by (λ (s : SolvedPart). s.target) parts

module _ (plan : SearchPlan) (p : ProblemParts) (fits : IsProblem p) (done : List SolvedPart)
    (segs : map segs_of done ≡ parts_in p) (shown : AllByRecursion (IsShown plan p) done) where
  parts_ok : AreParts p.segs p.terms (parts_in p)
  parts_ok = problem_parts_are p.segs p.terms fits.terms

  known_part : (part : List SegId) → Contains (parts_in p) part → All (λ (u : SegId). u.0 < length p.segs) part
  known_part part there =
      λ k d below. (All-contains (All (λ s. (s.0 < length p.segs) × IsTrue (is_wide p.segs s.0))) (parts_in p) part parts_ok.wide there k d below).0

  -- No orders cost less than the targets sum to.

  least_each : (others : List (List LineId)) (some : List SolvedPart) → AreOrders p.segs others
      → AllByRecursion (IsShown plan p) some → target_sum some ≤ sum_by (part_cost p.terms others) (map segs_of some)
  least_each others [] are all = omega arith
  least_each others (s ∷ some) are all =
      let rest = least_each others some are all.1 in
      let here = all.0.bound others are in
      let same : cost_of (plain_terms (part_terms p.terms s.segs)) others ≡ part_cost p.terms others s.segs =
      ap (λ (ts : List Term). cost_of ts others) (plain_kept s.segs p.terms) in
      omega (
        arith,
        rest,
        here,
        same,
        sum_by-cons (λ (t : SolvedPart). t.target) s some,
        sum_by-cons (part_cost p.terms others) s.segs (map segs_of some),
      )

  pub bound_is : IsLowerBound p.segs p.terms (target_sum done)
  bound_is others are =
      let all : sum_by (part_cost p.terms others) (map segs_of done) ≡ sum_by (part_cost p.terms others) (parts_in p) =
      ap (sum_by (part_cost p.terms others)) segs in
      omega (
        arith,
        least_each others done are shown,
        all,
        cost_shared p.segs p.terms (parts_in p) parts_ok fits.terms others,
      )

  -- Where best orders are claimed, the orders that were found cost so much.

  worth_each : plan.claim ≡ Best → (some : List SolvedPart)
      → ((q : List SegId) → Contains (map segs_of some) q → Contains (parts_in p) q)
      → AllByRecursion (IsShown plan p) some → AllByRecursion (IsWorth p.segs p.terms) some
  worth_each best [] sub all = tt
  worth_each best (s ∷ some) sub all = (
    record {
      each = all.0.attained.each;
      known = known_part s.segs (sub s.segs (0, omega arith, refl));
      costs = sym (ap (λ (ts : List Term). cost_of ts (with_lists s.segs s.lists p.segs)) (plain_kept s.segs p.terms))
          ∙ all.0.attained.costs
          ∙ subst (λ (claim : Claim). CostClaimed claim s.target all.0.cost) best all.0.claimed;
    },
    worth_each best some (λ q c. sub q (suc c.0, omega (arith, c.1), c.2)) all.1,
  )

  pub cost_is : plan.claim ≡ Best → cost_of p.terms (orders_by p done) ≡ target_sum done
  cost_is best =
      let apart : AreApartParts (map segs_of done) =
      subst AreApartParts (sym segs) (parts_apart p.segs p.terms (parts_in p) parts_ok) in
      sym (cost_shared p.segs p.terms (parts_in p) parts_ok fits.terms (orders_by p done))
      ∙ ap (sum_by (part_cost p.terms (orders_by p done))) (sym segs)
      ∙ targets_are p.segs p.terms done p.segs refl apart
      (worth_each best done (λ q c. subst (λ (ps : List (List SegId)). Contains ps q) segs c) shown)
