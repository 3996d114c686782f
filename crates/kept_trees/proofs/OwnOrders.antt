-- Orders of a part by itself are orders of the part in its problem, and cost the same.
use Rattle.std.proofs.Common.{◌≡◌, ◌≢◌, ◌∙◌, ap, sym, subst, refl, ℕ, suc, ◌+◌, ◌<◌, ◌==◌, ◌||◌, Bool, true, false, cond, true≢false, List, [], ◌∷◌, length, map, get_or, set, get_or-set_same, get_or-set_other, arith, eqb-true, eq-eqb}
use Rattle.std.specs.List.{AllByRecursion}
use Rattle.std.specs.List.Sorted.{IsPermutation}
use Rattle.std.proofs.lemmas.Bool.{and_parts}
use Rattle.std.proofs.lemmas.List.{length-map}
use Rattle.std.proofs.lemmas.List.Sorted.{IsPermutation-refl}
use Rattle.std.proofs.lemmas.List.Sums.{sum_by-cons}
use Rattle.map_base.specs.declared.ids.SegId.{SegId}
use Rattle.map_base.specs.declared.ids.LineId.{LineId}
use Rattle.order_model.specs.declared.term.Term.{Term}
use Rattle.order_model.specs.declared.term.Term.TheVariants.{Side, Link, Apart}
use Rattle.order_model.specs.declared.problem.ProblemParts.{ProblemParts}
use Rattle.order_model.specs.Problems.{lines_on}
use Rattle.order_model.specs.Costs.{cost_on, term_cost, cost_of, AreOrders}
use Rattle.order_model.specs.PartTerms.{is_in, is_of, numbered_from, part_terms, plain_terms}
use Rattle.order_bound.proofs.Lists.{filter_passes}
use Rattle.order_search.specs.ByItself.{by_itself, seg_in, place_in, term_in}
use Rattle.order_search.specs.Finding.{with_lists}
use Rattle.kept_trees.proofs.OwnPlaces.{place_within}
use Rattle.kept_trees.proofs.OwnProblems.{lines_in}
use Rattle.kept_trees.proofs.PutOrders.{length-with_lists, length-orders, orders_from}
use Rattle.order_model.proofs.PlaceCosts.{order_at}

-- a segment of the part has the list of its place
at_place : (part : List SegId) (lists orders : List (List LineId)) (u : SegId) → length lists ≡ length part
    → is_in part u ≡ true → u.0 < length orders
    → lines_on (with_lists part lists orders) u ≡ get_or lists (place_in part u) []
at_place [] lists orders u each h below = absurd (true≢false (sym h))
at_place (s ∷ part) [] orders u each h below = absurd (omega (arith, each))
at_place (s ∷ part) (order ∷ lists) orders u each h below =
    by (s.0 == u.0) refl h (λ i. at_place part lists orders u (omega (arith, each)) i below)
  where
    by : (b : Bool) → (s.0 == u.0) ≡ b → (b || is_in part u) ≡ true
        → (is_in part u ≡ true → lines_on (with_lists part lists orders) u ≡ get_or lists (place_in part u) [])
        → get_or (set (with_lists part lists orders) s.0 order) u.0 [] ≡ get_or (order ∷ lists) (cond b 0 (1 + place_in part u)) []
    by true e i later =
        subst (λ (n : ℕ). get_or (set (with_lists part lists orders) s.0 order) n [] ≡ order) (eqb-true s.0 u.0 e)
        (get_or-set_same (with_lists part lists orders) s.0 order [] (omega (arith, eqb-true s.0 u.0 e, below, length-with_lists part lists orders)))
    by false e i later =
        let apart : u.0 ≢ s.0 = λ (same : u.0 ≡ s.0). true≢false (sym (eq-eqb s.0 u.0 (sym same)) ∙ e) in
        let next : suc (place_in part u) ≡ 1 + place_in part u = omega arith in
        get_or-set_other (with_lists part lists orders) s.0 u.0 order [] apart
        ∙ later i
        ∙ ap (λ (n : ℕ). get_or (order ∷ lists) n []) next

-- a segment that is not of the part keeps its lines
away : (part : List SegId) (lists orders : List (List LineId)) (u : SegId) → is_in part u ≡ false
    → lines_on (with_lists part lists orders) u ≡ lines_on orders u
away [] lists orders u h = refl
away (s ∷ part) [] orders u h = refl
away (s ∷ part) (order ∷ lists) orders u h = by (s.0 == u.0) refl h (away part lists orders u)
  where
    by : (b : Bool) → (s.0 == u.0) ≡ b → (b || is_in part u) ≡ false
        → (is_in part u ≡ false → lines_on (with_lists part lists orders) u ≡ lines_on orders u)
        → lines_on (set (with_lists part lists orders) s.0 order) u ≡ lines_on orders u
    by true e i later = absurd (true≢false i)
    by false e i later =
        let apart : u.0 ≢ s.0 = λ (same : u.0 ≡ s.0). true≢false (sym (eq-eqb s.0 u.0 (sym same)) ∙ e) in
        get_or-set_other (with_lists part lists orders) s.0 u.0 order [] apart ∙ later i

pub orders_in_problem : (segs : List (List LineId)) (part : List SegId) (lists : List (List LineId))
    → AreOrders (map (lines_on segs) part) lists → AreOrders segs (with_lists part lists segs)
orders_in_problem segs part lists are =
    orders_from segs (with_lists part lists segs) (length-with_lists part lists segs) (λ i below. by i below (is_in part (record { 0 = i })) refl)
  where
    each : length lists ≡ length part
    each = length-orders (map (lines_on segs) part) lists are ∙ length-map part (lines_on segs)

    by : (i : ℕ) → i < length segs → (b : Bool) → is_in part (record { 0 = i }) ≡ b
        → IsPermutation (get_or segs i []) (get_or (with_lists part lists segs) i [])
    by i below true on =
        let u : SegId = record { 0 = i } in
        let there = order_at (map (lines_on segs) part) lists (place_in part u) are (omega (arith, length-map part (lines_on segs), place_within part u on)) in
        subst (λ (o : List LineId). IsPermutation (get_or segs i []) o) (sym (at_place part lists segs u each on below))
        (subst (λ (ls : List LineId). IsPermutation ls (get_or lists (place_in part u) [])) (lines_in segs part u on) there)
    by i below false off =
        subst (λ (o : List LineId). IsPermutation (get_or segs i []) o) (sym (away part lists segs (record { 0 = i }) off)) (IsPermutation-refl (get_or segs i []))

-- ---- costs

own_term_cost : (part : List SegId) (lists orders : List (List LineId)) (t : Term) → is_of part t ≡ true
    → ((u : SegId) → is_in part u ≡ true → lines_on lists (seg_in part u) ≡ lines_on orders u)
    → term_cost lists (term_in part t) ≡ term_cost orders t
own_term_cost part lists orders (Side seg first second w) of same =
    let both = and_parts (is_in part seg) (is_in part seg) of in ap (λ (ls : List LineId). cost_on ls ls (Side seg first second w)) (same seg both.0)
own_term_cost part lists orders (Link seg other flip a b w) of same =
    let both = and_parts (is_in part seg) (is_in part other) of in
    λ i. cost_on (same seg both.0 i) (same other both.1 i) (Link seg other flip a b w)
own_term_cost part lists orders (Apart seg other a b w) of same =
    let both = and_parts (is_in part seg) (is_in part other) of in
    λ i. cost_on (same seg both.0 i) (same other both.1 i) (Apart seg other a b w)

own_sum : (part : List SegId) (lists orders : List (List LineId)) (qs : List (ℕ × Term))
    → AllByRecursion (λ (q : ℕ × Term). is_of part q.1 ≡ true) qs
    → ((u : SegId) → is_in part u ≡ true → lines_on lists (seg_in part u) ≡ lines_on orders u)
    → cost_of (map (term_in part) (plain_terms qs)) lists ≡ cost_of (plain_terms qs) orders
own_sum part lists orders [] of same = refl
own_sum part lists orders (q ∷ qs) of same =
    sum_by-cons (term_cost lists) (term_in part q.1) (map (term_in part) (plain_terms qs))
    ∙ ap (λ (n : ℕ). n + cost_of (map (term_in part) (plain_terms qs)) lists) (own_term_cost part lists orders q.1 of.0 same)
    ∙ ap (λ (n : ℕ). term_cost orders q.1 + n) (own_sum part lists orders qs of.1 same)
    ∙ sym (sum_by-cons (term_cost orders) q.1 (plain_terms qs))

-- a segment of the part is one of the problem's
pub own_cost : (p : ProblemParts) (part : List SegId) (lists : List (List LineId)) → length lists ≡ length part
    → ((u : SegId) → is_in part u ≡ true → u.0 < length p.segs)
    → cost_of (by_itself p part).terms lists ≡ cost_of (plain_terms (part_terms p.terms part)) (with_lists part lists p.segs)
own_cost p part lists each known =
    own_sum part lists (with_lists part lists p.segs) (part_terms p.terms part) (filter_passes (λ (q : ℕ × Term). is_of part q.1) (numbered_from 0 p.terms))
    (λ u on. sym (at_place part lists p.segs u each on (known u on)))
