-- Parts that are solved one after the other.
use Rattle.std.proofs.Common.{◌≡◌, ◌∙◌, ap, sym, subst, refl, ℕ, ◌+◌, ◌-◌, ◌<◌, ◌≤◌, nat_le, Bool, true, false, cond, List, [], ◌∷◌, ◌++◌, length, map, take, drop, get_or, sum_by, arith, Some, None, Result, Ok, Err, set}
use Rattle.std.specs.Prelude.{Vec}
use Rattle.std.specs.List.{AllByRecursion}
use Rattle.std.specs.Global.{Global}
use Rattle.std.proofs.lemmas.List.{at_drop_more, at_drop_all, map-append, get_or_default, get_or-take, length-take-le, take-take}
use Rattle.std.proofs.lemmas.List.Sums.{sum_by_more}
use Rattle.std.proofs.lemmas.Option.{same_Some}
use Rattle.map_base.specs.declared.ids.SegId.{SegId}
use Rattle.map_base.specs.declared.ids.LineId.{LineId}
use Rattle.map_base.specs.declared.limit.LimitKind.TheVariants.{Places}
use Rattle.map_base.specs.Limits.{limit_of, is_within}
use Rattle.map_method.specs.declared.claim.Claim.{Claim}
use Rattle.map_method.specs.declared.claim.Claim.TheVariants.{Best, Bound}
use Rattle.order_model.specs.declared.problem.ProblemParts.{ProblemParts}
use Rattle.order_model.specs.Gathering.{part_lists}
use Rattle.order_model.specs.PartTerms.{part_terms}
use Rattle.order_model.specs.Questions.{Question, question}
use Rattle.order_model.proofs.Placing.{length-part_lists}
use Rattle.order_model.proofs.PartLists.{part_at}
use Rattle.order_proof.specs.Plain.{PlainPart, PlainPartTree, by_cases, by_pairs, plain_part, plain_part_tree}
use Rattle.order_proof.specs.Trees.{IsPartTree}
use Rattle.order_check.specs.Verdict.{failing}
use Rattle.order_search.specs.declared.found.SearchFault.{SearchFault}
use Rattle.order_search.specs.declared.found.SearchFault.TheVariants as search
use Rattle.order_search.specs.Finding.{with_lists, places_of}
use Rattle.order_search.specs.FoundParts.{part_in}
use Rattle.order_search.specs.LiveTrees.{live_tree}
use Rattle.kept_trees.specs.declared.plan.SearchPlan.{SearchPlan}
use Rattle.kept_trees.specs.declared.found_part.FoundPart.{FoundPart}
use Rattle.kept_trees.specs.Results.{PartResult, by_live, is_dual, dual_part, dual_outcome, live_outcome, part_outcome, result_found, CostTarget, IsAccepted, IsResult, IsFaultOf}
use Rattle.map_faults.specs.declared.fault.MakeFault.{MakeFault}
use Rattle.map_faults.specs.declared.fault.MakeFault.TheVariants as fault
use Rattle.graph_maps.specs.declared.solution.Solution.{Solution}
use Rattle.graph_maps.specs.Solving.{of_search, SolvedPart, solved, solved_first, with_solved, with_parts, solve_from, solve_outcome, parts_in}
use Rattle.graph_maps.specs.Certificates.{proof_part}
use Rattle.graph_maps.specs.Making.{HasCause}
use Rattle.graph_maps.specs.Stages.{prepended, CostClaimed, IsShown, IsSolution, IsMore, IsUnsolved, AreSolved, HaveProofTrees}

prepended-more : (done : List SolvedPart) (s : SolvedPart) (outcome : Result (List SolvedPart) MakeFault) → prepended (done ++ s ∷ []) outcome ≡ prepended done (with_solved s outcome)
prepended-more [] s outcome = refl
prepended-more (d ∷ done) s outcome = ap (with_solved d) (prepended-more done s outcome)

prepended-ok : (done : List SolvedPart) → prepended done (Ok []) ≡ Ok done
prepended-ok [] = refl
prepended-ok (d ∷ done) = ap (with_solved d) (prepended-ok done)

prepended-err : (done : List SolvedPart) (e : MakeFault) → prepended done (Err e) ≡ Err e
prepended-err [] e = refl
prepended-err (d ∷ done) e = ap (with_solved d) (prepended-err done e)

with_parts-more : (done : List SolvedPart) (s : SolvedPart) (orders : List (List LineId)) → with_parts (done ++ s ∷ []) orders ≡ with_lists s.segs s.lists (with_parts done orders)
with_parts-more [] s orders = refl
with_parts-more (d ∷ done) s orders = with_parts-more done s (with_lists d.segs d.lists orders)

proofs-more : (done : List SolvedPart) (s : SolvedPart) → map proof_part (done ++ s ∷ []) ≡ map proof_part done ++ proof_part s ∷ []
proofs-more [] s = refl
proofs-more (d ∷ done) s = ap (λ (rest : List PlainPart). proof_part d ∷ rest) (proofs-more done s)

shown-more : (plan : SearchPlan) (p : ProblemParts) (done : List SolvedPart) (s : SolvedPart) → AllByRecursion (IsShown plan p) done → IsShown plan p s
    → AllByRecursion (IsShown plan p) (done ++ s ∷ [])
shown-more plan p [] s all here = (here, tt)
shown-more plan p (d ∷ done) s all here = (all.0, shown-more plan p done s all.1 here)

-- what comes of the parts from k on
parts_at : (plan : SearchPlan) (p : ProblemParts) (k : ℕ) (part : List SegId) → k < length (parts_in p) → part ≡ get_or (parts_in p) k part
    → solve_from plan p k (drop k (parts_in p)) ≡ solve_from plan p k (part ∷ drop (k + 1) (parts_in p))
parts_at plan p k part below is = at_drop_more (solve_from plan p k) (parts_in p) k part below
    ∙ ap (λ (q : List SegId). solve_from plan p k (q ∷ drop (k + 1) (parts_in p))) (sym is)

pub none_solved : (plan : SearchPlan) (p : ProblemParts) (s : Solution) → s.orders.items ≡ p.segs → s.parts.items ≡ [] → AreSolved plan p 0 s
none_solved plan p s orders parts =
    record { done = []; ahead = refl; solution = record { orders = orders; proofs = ap (map plain_part) parts; trees = tt; shown = tt } }

trees-more : (done : List SolvedPart) (s : SolvedPart) → HaveProofTrees done → IsPartTree s.tree → HaveProofTrees (done ++ s ∷ [])
trees-more [] s all tree = (tree, tt)
trees-more (d ∷ done) s all tree = (all.0, trees-more done s all.1 tree)

-- one part more
pub one_solved : (plan : SearchPlan) (p : ProblemParts) (k : ℕ) (part : List SegId) (before after : Solution)
    → k < length (parts_in p) → part ≡ get_or (parts_in p) k part
    → IsMore plan p part before after → AreSolved plan p k before → AreSolved plan p (k + 1) after
one_solved plan p k part before after below is more so_far = record {
  done = so_far.done ++ s ∷ [];
  ahead = so_far.ahead ∙ ap (prepended so_far.done) (parts_at plan p k part below is
      ∙ ap (λ (o : Result PartResult SearchFault). solved_first k part o rest) more.outcome)
      ∙ sym (prepended-more so_far.done s rest);
  solution = record {
    orders = more.orders ∙ ap (with_lists part s.lists) so_far.solution.orders
        ∙ sym (with_parts-more so_far.done s p.segs);
    proofs = more.proofs ∙ ap (λ (ps : List PlainPart). ps ++ proof_part s ∷ []) so_far.solution.proofs
        ∙ sym (proofs-more so_far.done s);
    trees = trees-more so_far.done s so_far.solution.trees more.tree;
    shown = shown-more plan p so_far.done s so_far.solution.shown more.shown;
  };
}
  where
    s : SolvedPart
    s = solved part more.found

    rest : Result (List SolvedPart) MakeFault
    rest = solve_from plan p (k + 1) (drop (k + 1) (parts_in p))

-- a part that is refused is refused whatever comes of those after it
refused_first : (k : ℕ) (part : List SegId) (o : Result PartResult SearchFault)
    (rest : Result (List SolvedPart) MakeFault) (f : MakeFault)
    → solved_first k part o (Ok []) ≡ Err f → solved_first k part o rest ≡ Err f
refused_first k part (Ok r) rest f h = absurd cc
refused_first k part (Err why) rest f h = h

-- a part that is not solved ends all
pub unsolved_ends : (plan : SearchPlan) (p : ProblemParts) (k : ℕ) (part : List SegId) (before : Solution)
    (e : MakeFault) → k < length (parts_in p) → part ≡ get_or (parts_in p) k part
    → IsUnsolved plan p k part e → AreSolved plan p k before → HasCause (solve_outcome plan p) e
unsolved_ends plan p k part before e below is why so_far = by_fault e why
  where
    rest : Result (List SolvedPart) MakeFault
    rest = solve_from plan p (k + 1) (drop (k + 1) (parts_in p))

    ends : (f : MakeFault) → solved_first k part (part_outcome plan p part) (Ok []) ≡ Err f
        → solve_outcome plan p ≡ Err f
    ends f w = so_far.ahead ∙ ap (prepended so_far.done) (parts_at plan p k part below is
        ∙ refused_first k part (part_outcome plan p part) rest f w) ∙ prepended-err so_far.done f

    by_fault : (f : MakeFault) → IsUnsolved plan p k part f → HasCause (solve_outcome plan p) f
    by_fault fault.NoMemory w = tt
    by_fault f w = ends f w

-- all parts
pub all_solved : (plan : SearchPlan) (p : ProblemParts) (k : ℕ) (s : Solution) → length (parts_in p) ≤ k → AreSolved plan p k s
    → (parts : List SolvedPart) × (solve_outcome plan p ≡ Ok parts) × IsSolution plan p parts s
all_solved plan p k s over so_far = (
  so_far.done,
  so_far.ahead ∙ ap (prepended so_far.done) (at_drop_all (solve_from plan p k) (parts_in p) k over) ∙ prepended-ok so_far.done,
  so_far.solution,
)

-- the next part
pub part_here : (p : ProblemParts) (parts : List (Vec SegId Global)) (k : ℕ) (part : Vec SegId Global) → part_lists parts ≡ parts_in p → k < length parts → part ≡ get_or parts k part
    → (k < length (parts_in p)) × (part.items ≡ get_or (parts_in p) k part.items)
part_here p parts k part are below is =
    let within : k < length (part_lists parts) = omega (arith, below, length-part_lists parts) in (
      subst (λ (ps : List (List SegId)). k < length ps) are within,
      sym (part_at parts k part below is) ∙ ap (λ (ps : List (List SegId)). get_or ps k []) are
          ∙ get_or_default (parts_in p) k [] part.items (subst (λ (ps : List (List SegId)). k < length ps) are within),
    )

-- a sum over one part more
pub steps_more : (f : List SegId → ℕ) (p : ProblemParts) (k : ℕ) (part : List SegId) → k < length (parts_in p) → part ≡ get_or (parts_in p) k part
    → sum_by f (take (k + 1) (parts_in p)) ≡ sum_by f (take k (parts_in p)) + f part
steps_more f p k part below is = sum_by_more f (parts_in p) k part below ∙ ap (λ (q : List SegId). sum_by f (take k (parts_in p)) + f q) (sym is)

-- What is found of a part.

-- the tree is accepted as a proof's is
accepted_is : (q : Question) (tree : PlainPartTree) → IsAccepted q tree → failing q tree ≡ None
accepted_is q (by_cases tree) h = h
accepted_is q (by_pairs tree) h = h

-- what a live search finds is complete
live_complete : (budget : ℕ) (p : ProblemParts) (part : List SegId) (r : PartResult)
    → live_outcome budget p part ≡ Ok r → r.complete ≡ true
live_complete budget p part r h = by_test (is_within Places (places_of p.segs part)) (nat_le grown.branches budget) h
  where
    grown : PartResult
    grown = by_live (live_tree (part_in p part))

    by_test : (shallow few : Bool)
        → cond shallow (cond few (Ok grown) (Err (search.Spent (budget + 1)))) (Err (search.TooDeep (limit_of Places))) ≡ Ok r
        → r.complete ≡ true
    by_test true true e = let same : grown ≡ r = cc in ap (λ (x : PartResult). x.complete) (sym same)
    by_test true false e = absurd cc
    by_test false few e = absurd cc

-- and so is what dual prices find, where best orders are claimed
dual_complete : (budget : ℕ) (own r : PartResult) → dual_outcome Best budget own ≡ Ok r → r.complete ≡ true
dual_complete budget own r h = by_test own.complete refl h
  where
    by_test : (b : Bool) → own.complete ≡ b → cond b (Ok own) (Err (search.Spent (budget + 1))) ≡ Ok r
        → r.complete ≡ true
    by_test true is e = let same : own ≡ r = cc in ap (λ (x : PartResult). x.complete) (sym same) ∙ is
    by_test false is e = absurd cc

best_complete : (plan : SearchPlan) (p : ProblemParts) (part : List SegId) (r : PartResult)
    → part_outcome plan p part ≡ Ok r → plan.claim ≡ Best → r.complete ≡ true
best_complete plan p part r h claims = by_test (is_dual plan.search p part) h
  where
    own : PartResult
    own = dual_part plan.budget p part

    by_test : (b : Bool) → cond b (dual_outcome plan.claim plan.budget own) (live_outcome plan.budget p part) ≡ Ok r
        → r.complete ≡ true
    by_test true e = dual_complete plan.budget own r
        (subst (λ (claim : Claim). dual_outcome claim plan.budget own ≡ Ok r) claims e)
    by_test false e = live_complete plan.budget p part r e

-- so orders cost the target where best orders are claimed
claimed_of : (claim : Claim) (complete : Bool) (target cost : ℕ) → (claim ≡ Best → complete ≡ true)
    → CostTarget complete target cost → CostClaimed claim target cost
claimed_of Best complete target cost ends costs = subst (λ (b : Bool). CostTarget b target cost) (ends refl) costs
claimed_of Bound complete target cost ends costs = tt

abbrev part_of : List SegId → ℕ → PlainPartTree → PlainPart
part_of part target tree = record { segs = part; target = target; tree = tree }

-- a part that was found is solved
pub found_more : (plan : SearchPlan) (p : ProblemParts) (part : List SegId) (f : FoundPart) (before after : Solution)
    → IsResult plan p part f → after.orders.items ≡ with_lists part f.orders.lists before.orders.items
    → after.parts.items ≡ before.parts.items ++ record { segs = part; target = f.target; tree = f.tree } ∷ []
    → IsMore plan p part before after
found_more plan p part f before after found orders parts = record {
  found = result_found f;
  outcome = found.found;
  tree = found.of_proofs;
  shown = record {
    bound = found.bound;
    cost = found.cost;
    attained = found.attained;
    claimed = claimed_of plan.claim f.complete f.target found.cost
        (best_complete plan p part (result_found f) found.found) found.costs;
    accepted = accepted_is (question p.segs part (part_terms p.terms part) f.target) (plain_part_tree f.tree)
        found.accepted;
  };
  orders = orders;
  proofs = ap (map plain_part) parts
      ∙ map-append plain_part before.parts.items (record { segs = part; target = f.target; tree = f.tree } ∷ []);
}

-- a part of which nothing is found is not solved
pub not_found : (plan : SearchPlan) (p : ProblemParts) (k : ℕ) (part : List SegId) (stop : SearchFault)
    → IsFaultOf (part_outcome plan p part) stop → IsUnsolved plan p k part (of_search k stop)
not_found plan p k part search.NoMemory h = tt
not_found plan p k part stop h = ap (λ (o : Result PartResult SearchFault). solved_first k part o (Ok [])) h

-- the orders of one segment more
pub put_more : (part : List SegId) (lists orders before after : List (List LineId)) (i j : ℕ) (d : SegId) (order : List LineId) → i ≡ j + 1 → j < length part → j < length lists
    → order ≡ get_or lists j order → before ≡ with_lists (drop i part) (drop i lists) orders → after ≡ set before (get_or part j d).0 order
    → after ≡ with_lists (drop j part) (drop j lists) orders
put_more part lists orders before after i j d order next below within order_is so_far step = step
    ∙ ap (λ (os : List (List LineId)). set os (get_or part j d).0 order) (so_far ∙ ap (λ (n : ℕ). with_lists (drop n part) (drop n lists) orders) next)
    ∙ sym (at_drop_more (λ (rest : List SegId). with_lists rest (drop j lists) orders) part j d below
    ∙ at_drop_more (λ (rest : List (List LineId)). with_lists (get_or part j d ∷ drop (j + 1) part) rest orders) lists j order within
    ∙ ap (λ (o : List LineId). with_lists (get_or part j d ∷ drop (j + 1) part) (o ∷ drop (j + 1) lists) orders) (sym order_is))

-- the last list is taken off
pub popped : (lists held rest : List (List LineId)) (i count : ℕ) (order : List LineId) → held ≡ take i lists → count ≡ length held → 0 < i → i ≤ length lists
    → Some order ≡ Some (get_or held (count - 1) order) → rest ≡ take (count - 1) held
    → (order ≡ get_or lists (i - 1) order) × (rest ≡ take (i - 1) lists)
popped lists held rest i count order is counted some few last left =
    let each : count ≡ i = counted ∙ ap length is ∙ length-take-le i lists few in (
      same_Some order (get_or held (count - 1) order) last ∙ ap (λ (n : ℕ). get_or held (n - 1) order) each
          ∙ ap (λ (ls : List (List LineId)). get_or ls (i - 1) order) is
          ∙ get_or-take i lists (i - 1) order (omega (arith, some)),
      left ∙ ap (λ (n : ℕ). take (n - 1) held) each ∙ ap (take (i - 1)) is ∙ take-take (i - 1) i lists (omega arith),
    )
