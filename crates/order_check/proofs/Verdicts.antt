-- The first item that is refused, one by one, and what it shows that there is none.
use Rattle.std.proofs.Common.{◌≡◌, ◌≢◌, ℕ, zero, suc, ◌+◌, ◌*◌, ◌^◌, ◌<◌, ◌≤◌, ◌==◌, Bool, true, false, cond, List, [], ◌∷◌, length, map, take, drop, get_or, refl, sym, ◌∙◌, ap, subst, arith, Some, None, Option, eqb-true, eq-eqb}
use Rattle.std.specs.List.{All, AllByRecursion, sum_by}
use Rattle.std.proofs.lemmas.List.{at_drop_more, drop_all, get_or-map, length-map}
use Rattle.std.proofs.lemmas.List.Elements.{All-head, All-tail}
use Rattle.std.proofs.lemmas.List.Sums.{sum_by-cons}
use Rattle.std.proofs.lemmas.List.Sorted.{IsPermutation-refl}
use Rattle.map_base.specs.declared.ids.SegId.{SegId}
use Rattle.map_base.specs.declared.ids.LineId.{LineId}
use Rattle.graph_core.specs.Consistent.{AreRising}
use Rattle.order_model.specs.declared.term.Term.{Term}
use Rattle.order_model.specs.declared.term.Term.TheVariants.{Side, Link, Apart}
use Rattle.order_model.specs.declared.problem.ProblemParts.{ProblemParts}
use Rattle.order_values.specs.declared.rule.Rule.{Rule}
use Rattle.order_model.specs.Costs.{weight_of, is_met, term_cost, cost_of, AreOrders, AreBest}
use Rattle.order_model.specs.Parts.{AreParts}
use Rattle.order_proof.specs.declared.proof.Part.{Part}
use Rattle.order_proof.specs.Plain.{PlainPartTree, by_cases, by_pairs, PlainPart, PlainProof, close, plain_part_tree, plain_part}
use Rattle.order_proof.specs.Trees.{IsPartTree}
use Rattle.order_model.specs.Gathering.{problem_parts}
use Rattle.order_model.specs.Problems.{IsTerm, IsProblem}
use Rattle.order_model.specs.Parts.{IsRisingPart}
use Rattle.order_model.specs.PartTerms.{part_terms, plain_terms}
use Rattle.order_model.proofs.KeptTerms.{plain_kept}
use Rattle.order_model.proofs.OneParts.{problem_parts_are}
use Rattle.order_model.specs.Prefixes.{first_placed, none_placed}
use Rattle.order_rules.specs.Untangling.{after_rules, first_refused}
use Rattle.order_rules.proofs.RuleLaws.{all_problem, all_less}
use Rattle.order_model.specs.Questions.{question}
use Rattle.order_bound.proofs.Sound.{all_complete_none}
use Rattle.order_bound.proofs.Accepted.{accepted_part_bounds}
use Rattle.order_bound.proofs.Failing.{accepted_where_none}
use Rattle.dual_bound.proofs.Shown.{shown_part_bounds}
use Rattle.order_model.proofs.Shares.{part_cost, parts_apart, shares_fit}
use Rattle.order_check.specs.declared.refusal.ProofItem.{ProofItem}
use Rattle.order_check.specs.declared.refusal.ProofItem.TheVariants as item
use Rattle.order_check.specs.declared.refusal.ProofStop.{ProofStop}
use Rattle.order_check.specs.declared.refusal.ProofStop.TheVariants as stop
use Rattle.order_check.specs.Verdict.{are_same, first_item, failing, tree_refusal, part_refusal, first_part, targets, total_refusal, rule_refusal, bound_refusal, verdict, IsCause}
use Rattle.order_check.specs.LowerBounds.{IsLowerBound}
use Rattle.order_check.proofs.RuleTurns.{all_apply}

-- Part by part.

-- what is refused first from part k on is what is refused first
abbrev pub FirstFrom : List (List LineId) → List Term → List (List SegId) → List PlainPart → ℕ → Type 0
FirstFrom segs terms parts proofs k = first_part segs terms k (drop k parts) (drop k proofs) ≡ first_part segs terms 0 parts proofs

module _ (segs : List (List LineId)) (terms : List Term) (parts : List (List SegId)) (proofs : List PlainPart) where
  pub part_missing : (k : ℕ) (d : List SegId) → k < length parts → length proofs ≤ k → FirstFrom segs terms parts proofs k
      → first_part segs terms 0 parts proofs ≡ Some (item.Part k [])
  part_missing k d below over h =
      sym h ∙ ap (λ rs. first_part segs terms k (drop k parts) rs) (drop_all k proofs over)
      ∙ at_drop_more (λ ps. first_part segs terms k ps []) parts k d below

  any_part : PlainPart
  any_part = record { segs = []; target = 0; tree = by_cases (close []) }

  pub part_left_over : (k : ℕ) → length parts ≤ k → k < length proofs → FirstFrom segs terms parts proofs k
      → first_part segs terms 0 parts proofs ≡ Some (item.Part k [])
  part_left_over k over below h =
      sym h ∙ ap (λ ps. first_part segs terms k ps (drop k proofs)) (drop_all k parts over)
      ∙ at_drop_more (λ rs. first_part segs terms k [] rs) proofs k any_part below

  pub no_part_left : (k : ℕ) → length parts ≤ k → length proofs ≤ k → FirstFrom segs terms parts proofs k → first_part segs terms 0 parts proofs ≡ None
  no_part_left k over over_too h =
      sym h ∙ ap (λ ps. first_part segs terms k ps (drop k proofs)) (drop_all k parts over) ∙ ap (λ rs. first_part segs terms k [] rs) (drop_all k proofs over_too)

  at_part : (k : ℕ) (d : List SegId) (e : PlainPart) → k < length parts → k < length proofs → FirstFrom segs terms parts proofs k
      → first_item (part_refusal segs terms k (get_or parts k d) (get_or proofs k e)) (first_part segs terms (k + 1) (drop (k + 1) parts) (drop (k + 1) proofs))
      ≡ first_part segs terms 0 parts proofs
  at_part k d e below below_too h =
      sym (at_drop_more (λ ps. first_part segs terms k ps (drop k proofs)) parts k d below
      ∙ at_drop_more (λ rs. first_part segs terms k (get_or parts k d ∷ drop (k + 1) parts) rs) proofs k e below_too)
      ∙ h

  pub part_passed : (k : ℕ) (d : List SegId) (e : PlainPart) → k < length parts → k < length proofs → FirstFrom segs terms parts proofs k
      → part_refusal segs terms k (get_or parts k d) (get_or proofs k e) ≡ None → FirstFrom segs terms parts proofs (k + 1)
  part_passed k d e below below_too h none =
      sym (ap (λ f. first_item f (first_part segs terms (k + 1) (drop (k + 1) parts) (drop (k + 1) proofs))) none) ∙ at_part k d e below below_too h

  pub part_refused : (k : ℕ) (d : List SegId) (e : PlainPart) (stop : ProofStop) → k < length parts → k < length proofs → FirstFrom segs terms parts proofs k
      → IsCause (part_refusal segs terms k (get_or parts k d) (get_or proofs k e)) stop → IsCause (first_part segs terms 0 parts proofs) stop
  part_refused k d e (stop.Refuted i) below below_too h some =
      sym (at_part k d e below below_too h) ∙ ap (λ f. first_item f (first_part segs terms (k + 1) (drop (k + 1) parts) (drop (k + 1) proofs))) some
  part_refused k d e stop.NoMemory below below_too h some = tt

-- Items of a whole proof.

-- what is refused first is refused, whatever comes behind
pub refused_first : (first later : Option ProofItem) (stop : ProofStop) → IsCause first stop → IsCause (first_item first later) stop
refused_first first later (stop.Refuted i) h = ap (λ f. first_item f later) h
refused_first first later stop.NoMemory h = tt

-- where nothing is refused first, what comes behind is
pub refused_later : (first later : Option ProofItem) (stop : ProofStop) → first ≡ None → IsCause later stop → IsCause (first_item first later) stop
refused_later first later (stop.Refuted i) none h = ap (λ f. first_item f later) none ∙ h
refused_later first later stop.NoMemory none h = tt

pub none_both : (first later : Option ProofItem) → first ≡ None → later ≡ None → first_item first later ≡ None
none_both first later none none_too = ap (λ f. first_item f later) none ∙ none_too

-- where no rule is refused, what is refused is the first part of the problem that the rules make
pub bound_by : (p last : ProblemParts) (rules : List Rule) (parts : List (List SegId)) (proofs : List PlainPart) (proof : PlainProof)
    → rules ≡ proof.rules → last ≡ after_rules p rules → parts ≡ problem_parts last.segs last.terms → proofs ≡ proof.parts → first_refused 0 p rules ≡ None
    → first_part last.segs last.terms 0 parts proofs ≡ bound_refusal p proof
bound_by p last rules parts proofs proof same_rules made parts_are same_proofs none =
    let end : ProblemParts = after_rules p proof.rules in
    ap (λ (ps : List (List SegId)). first_part last.segs last.terms 0 ps proofs) parts_are
    ∙ ap (λ (rs : List PlainPart). first_part last.segs last.terms 0 (problem_parts last.segs last.terms) rs) same_proofs
    ∙ ap (λ (q : ProblemParts). first_part q.segs q.terms 0 (problem_parts q.segs q.terms) proof.parts) (made ∙ ap (after_rules p) same_rules)
    ∙ sym (ap (λ (o : Option ProofItem). first_item o (first_part end.segs end.terms 0 (problem_parts end.segs end.terms) proof.parts))
    (ap rule_refusal (subst (λ (rs : List Rule). first_refused 0 p rs ≡ None) same_rules none)))

-- Where nothing is refused, no orders cost less than the targets sum to.

some_item : (i : ProofItem) → Some i ≡ None → ⊥
some_item i h = cc

none_first : (f g : Option ProofItem) → first_item f g ≡ None → (f ≡ None) × (g ≡ None)
none_first None g h = (refl, h)
none_first (Some i) g h = absurd (some_item i h)

none_if : (b : Bool) (f : Option ProofItem) (i : ProofItem) → cond b f (Some i) ≡ None → (b ≡ true) × (f ≡ None)
none_if true f i h = (refl, h)
none_if false f i h = absurd (some_item i h)

none_tree : (k : ℕ) (f : Option (List LineId)) → tree_refusal k f ≡ None → f ≡ None
none_tree k None h = refl
none_tree k (Some way) h = absurd (some_item (item.Part k way) h)

none_length : (segs : List (List LineId)) → length (none_placed segs) ≡ length segs
none_length segs = length-map segs first_placed

abbrev IsKnown : List (List LineId) → List SegId → Type 0
IsKnown segs part = All (λ (s : SegId). s.0 < length segs) part

-- a tree of either kind in which no node fails shows its target
part_bounds : (segs : List (List LineId)) (part : List SegId) (terms : List Term) (target : ℕ) (tree : PlainPartTree) (others : List (List LineId))
    → All AreRising segs → All (IsTerm segs) terms → IsRisingPart part → IsKnown segs part → AreOrders segs others
    → failing (question segs part (part_terms terms part) target) tree ≡ None → target ≤ cost_of (plain_terms (part_terms terms part)) others
part_bounds segs part terms target (by_cases tree) others rising fit part_rises known are none =
    accepted_part_bounds segs part terms target (none_placed segs) tree rising fit part_rises known (none_length segs)
    (accepted_where_none (question segs part (part_terms terms part) target) (none_placed segs) tree none) others are (all_complete_none segs part others are)
part_bounds segs part terms target (by_pairs tree) others rising fit part_rises known are none =
    shown_part_bounds segs part terms target tree rising fit part_rises known none others are

targets_fit : (segs : List (List LineId)) (terms : List Term) (k : ℕ) (parts : List (List SegId)) (proofs : List PlainPart) (others : List (List LineId))
    → All AreRising segs → All (IsTerm segs) terms → All IsRisingPart parts → All (IsKnown segs) parts → AreOrders segs others → first_part segs terms k parts proofs ≡ None
    → targets proofs ≤ sum_by (part_cost terms others) parts
targets_fit segs terms k [] [] others rising fit part_rises known are none = omega arith
targets_fit segs terms k [] (r ∷ proofs) others rising fit part_rises known are none = absurd (some_item (item.Part k []) none)
targets_fit segs terms k (p ∷ parts) [] others rising fit part_rises known are none = absurd (some_item (item.Part k []) none)
targets_fit segs terms k (p ∷ parts) (r ∷ proofs) others rising fit part_rises known are none =
    let both = none_first (part_refusal segs terms k p r) (first_part segs terms (k + 1) parts proofs) none in
    let fails : Option (List LineId) = failing (question segs p (part_terms terms p) r.target) r.tree in
    let tree = none_if (are_same p r.segs) (tree_refusal k fails) (item.Part k []) both.0 in
    let bound : r.target ≤ cost_of (plain_terms (part_terms terms p)) others =
    part_bounds segs p terms r.target r.tree others rising fit (All-head IsRisingPart p parts part_rises) (All-head (IsKnown segs) p parts known) are (none_tree k fails tree.1) in
    let here : r.target ≤ part_cost terms others p = subst (λ (ts : List Term). r.target ≤ cost_of ts others) (plain_kept p terms) bound in
    let rest = targets_fit segs terms (k + 1) parts proofs others rising fit (All-tail IsRisingPart p parts part_rises) (All-tail (IsKnown segs) p parts known) are both.1 in
    omega (arith, here, rest, sum_by-cons (λ (p : PlainPart). p.target) r proofs, sum_by-cons (part_cost terms others) p parts)

-- where the parts of a problem are accepted, no orders of the problem cost less than the targets sum to
pub targets_bound : (p : ProblemParts) (parts : List (List SegId)) (proofs : List PlainPart) → IsProblem p → AreParts p.segs p.terms parts
    → first_part p.segs p.terms 0 parts proofs ≡ None → IsLowerBound p.segs p.terms (targets proofs)
targets_bound p parts proofs is ok none others are =
    let known : All (IsKnown p.segs) parts = λ k d below j e under. (ok.wide k d below j e under).0 in
    let fit = targets_fit p.segs p.terms 0 parts proofs others is.rising is.terms ok.rising known are none in
    omega (arith, fit, shares_fit parts p.terms others (parts_apart p.segs p.terms parts ok))

none_rule : (r : Option ℕ) → rule_refusal r ≡ None → r ≡ None
none_rule None h = refl
none_rule (Some k) h = absurd (some_item (item.Rule k) h)

-- and none of the problem before the rules
pub bound_of : (p : ProblemParts) (proof : PlainProof) → IsProblem p → bound_refusal p proof ≡ None → IsLowerBound p.segs p.terms (targets proof.parts)
bound_of p proof is none others are =
    let last : ProblemParts = after_rules p proof.rules in
    let parts : List (List SegId) = problem_parts last.segs last.terms in
    let both = none_first (rule_refusal (first_refused 0 p proof.rules)) (first_part last.segs last.terms 0 parts proof.parts) none in
    let apply = all_apply 0 p proof.rules (none_rule (first_refused 0 p proof.rules) both.0) in
    let fits : IsProblem last = all_problem p proof.rules is apply in
    let better = all_less p proof.rules others is apply are in
    let bound = targets_bound last parts proof.parts fits (problem_parts_are last.segs last.terms fits.terms) both.1 better.orders better.are in
    omega (arith, bound, better.less)

-- the total
pub total_none : (proofs : List PlainPart) (bound cost : ℕ) → bound ≡ targets proofs → bound ≡ cost → total_refusal proofs cost ≡ None
total_none proofs bound cost sums same = ap (λ (b : Bool). cond b None (Some item.Total)) (eq-eqb (targets proofs) cost (sym sums ∙ same))

pub total_some : (proofs : List PlainPart) (bound cost : ℕ) → bound ≡ targets proofs → bound ≢ cost → total_refusal proofs cost ≡ Some item.Total
total_some proofs bound cost sums differ = ap (λ (b : Bool). cond b None (Some item.Total)) (by (targets proofs == cost) refl)
  where
    by : (b : Bool) → (targets proofs == cost) ≡ b → b ≡ false
    by false e = refl
    by true e = absurd (differ (sums ∙ eqb-true (targets proofs) cost e))

-- the verdict, once the rules and the parts are accepted
pub verdict_total : (p : ProblemParts) (orders : List (List LineId)) (proof : PlainProof) (bound cost : ℕ) → bound_refusal p proof ≡ None → bound ≡ targets proof.parts
    → cost ≡ cost_of p.terms orders → bound ≢ cost → verdict p orders proof ≡ Some item.Total
verdict_total p orders proof bound cost none sums costs differ =
    ap (λ (o : Option ProofItem). first_item o (total_refusal proof.parts (cost_of p.terms orders))) none
    ∙ total_some proof.parts bound (cost_of p.terms orders) sums (λ same. differ (same ∙ sym costs))

pub verdict_none : (p : ProblemParts) (orders : List (List LineId)) (proof : PlainProof) (bound cost : ℕ) → bound_refusal p proof ≡ None → bound ≡ targets proof.parts
    → cost ≡ cost_of p.terms orders → bound ≡ cost → verdict p orders proof ≡ None
verdict_none p orders proof bound cost none sums costs same =
    ap (λ (o : Option ProofItem). first_item o (total_refusal proof.parts (cost_of p.terms orders))) none
    ∙ total_none proof.parts bound (cost_of p.terms orders) sums (same ∙ costs)

-- orders that cost what no orders cost less than are best
pub best_where_attained : (segs : List (List LineId)) (terms : List Term) (orders : List (List LineId)) (bound cost : ℕ) → IsLowerBound segs terms bound → bound ≡ cost → cost ≡ cost_of terms orders
    → AreBest segs terms orders
best_where_attained segs terms orders bound cost least same costs others are = omega (arith, least others are, same, costs)

-- What the targets sum to fits a number of 64 bits.

weight_few : (segs : List (List LineId)) (t : Term) → IsTerm segs t → weight_of t ≤ 256000
weight_few segs (Side seg first second w) is = is.weight.1
weight_few segs (Link seg other flip a b w) is = is.weight.1
weight_few segs (Apart seg other a b w) is = is.weight.1

cost_few : (segs orders : List (List LineId)) (terms : List Term) → All (IsTerm segs) terms → cost_of terms orders ≤ 256000 * length terms
cost_few segs orders [] are = omega arith
cost_few segs orders (t ∷ terms) are =
    let rest = cost_few segs orders terms (All-tail (IsTerm segs) t terms are) in
    let here : term_cost orders t ≤ 256000 = by (is_met orders t) in
    omega (arith, here, rest, sum_by-cons (term_cost orders) t terms)
  where
    by : (b : Bool) → cond b (weight_of t) 0 ≤ 256000
    by true = weight_few segs t (All-head (IsTerm segs) t terms are)
    by false = omega arith

own_orders : (segs : List (List LineId)) → AreOrders segs segs
own_orders [] = tt
own_orders (lines ∷ segs) = (IsPermutation-refl lines, own_orders segs)

pub targets_few : (p : ProblemParts) (parts : List (List SegId)) (proofs : List PlainPart) → IsProblem p → AreParts p.segs p.terms parts
    → first_part p.segs p.terms 0 parts proofs ≡ None → targets proofs < 2 ^ 64
targets_few p parts proofs is ok none =
    let bound = targets_bound p parts proofs is ok none p.segs (own_orders p.segs) in
    omega (arith, bound, cost_few p.segs p.segs p.terms is.terms, is.few_terms)

-- the targets of the first parts and of the next are among those of all
pub target_within : (parts : List Part) (k : ℕ) (p : Part) → k < length parts → p ≡ get_or parts k p → targets (map plain_part (take k parts)) + p.target ≤ targets (map plain_part parts)
target_within [] k p below is = absurd (omega (arith, below))
target_within (q ∷ parts) zero p below is =
    omega (arith, ap (λ (r : Part). r.target) is, sum_by-cons (λ (r : PlainPart). r.target) (plain_part q) (map plain_part parts))
target_within (q ∷ parts) (suc k) p below is =
    let rest = target_within parts k p (omega (arith, below)) is in
    omega (
      arith,
      rest,
      sum_by-cons (λ (r : PlainPart). r.target) (plain_part q) (map plain_part (take k parts)),
      sum_by-cons (λ (r : PlainPart). r.target) (plain_part q) (map plain_part parts),
    )

-- The parts of a proof.

-- a part of the proof, as it lies in memory
pub proof_at : (proofs : List Part) (k : ℕ) (p : Part) → k < length proofs → p ≡ get_or proofs k p → plain_part p ≡ get_or (map plain_part proofs) k (plain_part p)
proof_at proofs k p below is = ap plain_part is ∙ sym (get_or-map plain_part proofs k p (plain_part p) below)

-- the tree of each part of a proof
pub tree_at : (proofs : List Part) (k : ℕ) (p : Part) → AllByRecursion (λ (q : PlainPart). IsPartTree q.tree) (map plain_part proofs) → k < length proofs → p ≡ get_or proofs k p
    → IsPartTree (plain_part_tree p.tree)
tree_at proofs k p trees below is = subst (λ (q : Part). IsPartTree (plain_part_tree q.tree)) (sym is) (at proofs k trees below)
  where
    at : (proofs : List Part) (k : ℕ) → AllByRecursion (λ (q : PlainPart). IsPartTree q.tree) (map plain_part proofs) → k < length proofs → IsPartTree (plain_part_tree (get_or proofs k p).tree)
    at [] k trees below = absurd (omega (arith, below))
    at (q ∷ proofs) zero trees below = trees.0
    at (q ∷ proofs) (suc k) trees below = at proofs k trees.1 (omega (arith, below))
