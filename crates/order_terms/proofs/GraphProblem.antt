-- The lines of a consistent graph and its terms are a problem.
use Rattle.std.proofs.Common.{◌≡◌, ◌≢◌, ℕ, zero, suc, ◌+◌, ◌*◌, ◌<◌, ◌≤◌, ◌==◌, nat_le, Bool, true, false, cond, List, [], ◌∷◌, length, get_or, refl, sym, subst, arith, inl, inr, ◌⊎◌, eqb-true, length-append}
use Rattle.std.proofs.lemmas.Bool.{eqb-false, cases_lt, le-leb}
use Rattle.std.proofs.lemmas.Nat.{mul-le}
use Rattle.std.specs.Prelude.{Ok}
use Rattle.std.specs.List.{All, Contains, sum_by}
use Rattle.std.proofs.lemmas.List.Elements.{All-nil, All-head, All-tail, All-append, All-map, All-contains}
use Rattle.std.proofs.lemmas.List.Sums.{sum_by-cons}
use Rattle.std.proofs.lemmas.Bool.Decides.{nat_tests}
use Rattle.map_base.specs.declared.ids.SegId.{SegId}
use Rattle.map_base.specs.declared.ids.LineId.{LineId}
use Rattle.map_base.specs.Settings.{AreLight, IsImportance}
use Rattle.map_base.specs.Faults.{HasCause}
use Rattle.map_base.specs.declared.limit_fault.LimitFault.TheVariants.{Limit, NoMemory}
use Rattle.map_base.specs.declared.weights.Weights.{Weights}
use Rattle.graph_core.specs.Consistent.{IsConsistent, AreRising}
use Rattle.graph_core.specs.declared.parts.NodeKind.{NodeKind}
use Rattle.graph_core.specs.declared.parts.NodeKind.TheVariants.{Station, Junction}
use Rattle.graph_core.specs.declared.parts.GraphParts.{GraphParts}
use Rattle.map_base.specs.declared.limit_fault.LimitFault.{LimitFault}
use Rattle.order_terms.specs.declared.found.Found.{Found}
use Rattle.order_terms.specs.declared.found.Kind.{Kind}
use Rattle.order_terms.specs.declared.found.Kind.TheVariants.{Side, Link, Apart}
use Rattle.order_terms.specs.Limits.{graph_problem, IsAbove}
use Rattle.order_model.specs.Problems.{IsOn, IsTerm, IsWeight, IsProblem, choices}
use Rattle.order_terms.specs.Terms.{in_order, found_at, term_of, term_of_kind, no_weights, weights_at, weighed, terms_at, terms_below, graph_terms, HasImportance, HaveImportance, IsWithinGraph}
use Rattle.order_terms.proofs.Faults.{above_more}
use Rattle.order_model.proofs.RisingLines.{few_rising}
use Rattle.order_terms.proofs.GraphFacts.{IsGood, FitsKind, weight_for, found_at_good}

-- Terms of later nodes only add to those of earlier ones.

last_or_before : (n m : ℕ) → n ≤ suc m → (n ≡ suc m) ⊎ (n ≤ m)
last_or_before n m h = elim (cases_lt m n) [ inl below ↦ inl (omega arith) | inr within ↦ inr within ]

length-terms_below : (g : GraphParts) (ws : List Weights) (imp : List ℕ) (n m : ℕ) → n ≤ m → length (terms_below g ws imp n) ≤ length (terms_below g ws imp m)
length-terms_below g ws imp n zero h = let e : n ≡ 0 = omega arith in subst (λ k. length (terms_below g ws imp k) ≤ length (terms_below g ws imp zero)) (sym e) (omega arith)
length-terms_below g ws imp n (suc m) h =
    elim (last_or_before n m h) [
      | inl e ↦ subst (λ k. length (terms_below g ws imp k) ≤ length (terms_below g ws imp (suc m))) (sym e) (omega arith)
      | inr within ↦ omega (arith, length-terms_below g ws imp n m within, length-append (terms_below g ws imp m) (terms_at g ws imp m))
    ]

pub above_at_node : (g : GraphParts) (ws : List Weights) (imp : List ℕ) (n most m : ℕ) (e : LimitFault) → n < length g.kinds → m ≡ length (terms_below g ws imp n)
    → IsAbove most (m + length (terms_at g ws imp n)) e → IsAbove most (length (graph_terms g ws imp)) e
above_at_node g ws imp n most m e below is h =
    above_more most _ _ e
    (omega (arith, length-terms_below g ws imp (suc n) (length g.kinds) (omega arith), length-append (terms_below g ws imp n) (terms_at g ws imp n))) h

-- Each term fits.

light_at : (ws : List Weights) (i : ℕ) → All AreLight ws → AreLight (get_or ws i no_weights)
light_at [] i h = record { link = omega arith; split = omega arith; sep = omega arith }
light_at (w ∷ ws) zero h = All-head AreLight w ws h
light_at (w ∷ ws) (suc i) h = light_at ws i (All-tail AreLight w ws h)

pub weights_light : (ws : List Weights) (k : NodeKind) → All AreLight ws → AreLight (weights_at ws k)
weights_light ws Junction h = light_at ws 0 h
weights_light ws (Station s) h = light_at ws 1 h

lines_differ : (x : Found) → x.lesser.0 < x.greater.0 → (x.first ≡ x.lesser) ⊎ (x.first ≡ x.greater)
    → (b : Bool) → (x.first.0 == x.lesser.0) ≡ b → x.first.0 ≢ (let l : LineId = cond b x.greater x.lesser in l).0
lines_differ x below is true p e = omega (arith, eqb-true x.first.0 x.lesser.0 p, e)
lines_differ x below is false p e = eqb-false x.first.0 x.lesser.0 p e

other_on : (P : LineId → Type 0) (x : Found) (b : Bool) → P x.lesser → P x.greater → P (cond b x.greater x.lesser)
other_on P x true p q = q
other_on P x false p q = p

first_on : (P : LineId → Type 0) (x : Found) → (x.first ≡ x.lesser) ⊎ (x.first ≡ x.greater) → P x.lesser → P x.greater → P x.first
first_on P x (inl e) p q = subst P (sym e) p
first_on P x (inr e) p q = subst P (sym e) q

-- a weight times the importance of two lines is a weight still
weight_fits : (w i j : ℕ) → 0 < w → w ≤ 1000 → IsImportance i → IsImportance j → IsWeight (w * (i * j))
weight_fits w i j some few p q =
    let both : i * j ≤ 16 * 16 = mul-le i j 16 16 p.1 q.1 in
    let under : 1 * 1 ≤ i * j = mul-le 1 1 i j p.0 q.0 in
    let most : w * (i * j) ≤ 1000 * (16 * 16) = mul-le w (i * j) 1000 (16 * 16) few both in
    let least : 1 * (1 * 1) ≤ w * (i * j) = mul-le 1 (1 * 1) w (i * j) (omega (arith, some)) under in
    (omega (arith, least), omega (arith, most))

important : (g : GraphParts) (imp : List ℕ) (s : SegId) (a : LineId) → HaveImportance imp g.lines → s.0 < length g.lines → IsOn g.lines s a → HasImportance imp a
important g imp s a have known on = All-contains (HasImportance imp) (get_or g.lines s.0 []) a (have s.0 [] known) on

module _ (g : GraphParts) (w : Weights) (imp : List ℕ) (n : ℕ) (x : Found) (each : length g.lines ≡ length g.ends) (light : AreLight w)
    (have : HaveImportance imp g.lines) (good : IsGood g w x) where
  lesser_counts : HasImportance imp x.lesser
  lesser_counts = important g imp x.seg x.lesser have (omega (arith, good.seg_known, each)) good.lesser_on

  greater_counts : HasImportance imp x.greater
  greater_counts = important g imp x.seg x.greater have (omega (arith, good.seg_known, each)) good.greater_on

  fits_weight : (v : ℕ) → 0 < v → v ≤ 1000 → IsWeight (weighed imp v x)
  fits_weight v some few = weight_fits v (get_or imp x.lesser.0 0) (get_or imp x.greater.0 0) some few lesser_counts.1 greater_counts.1

  pub term_good : (k : Kind) → FitsKind g x k → 0 < weight_for w k → IsTerm g.lines (term_of_kind w imp g.ends n x k)
  term_good Side fits heavy = record {
    seg_known = omega (arith, good.seg_known);
    differ = lines_differ x good.below good.first_is (x.first.0 == x.lesser.0) refl;
    first_on = first_on (IsOn g.lines x.seg) x good.first_is good.lesser_on good.greater_on;
    second_on = other_on (IsOn g.lines x.seg) x (x.first.0 == x.lesser.0) good.lesser_on good.greater_on;
    weight = fits_weight w.split heavy light.split;
  }
  term_good Link fits heavy = record {
    other_known = omega (arith, good.to_known);
    seg_below = fits.seg_below;
    a_below = good.below;
    a_on = good.lesser_on;
    b_on = good.greater_on;
    a_on_other = fits.lesser_there;
    b_on_other = fits.greater_there;
    weight = fits_weight w.link heavy light.link;
  }
  term_good Apart fits heavy = record {
    other_known = omega (arith, good.to_known);
    seg_below = fits.seg_below;
    a_below = good.below;
    a_on = good.lesser_on;
    b_on = good.greater_on;
    a_on_other = fits.lesser_there;
    b_on_other = fits.greater_there;
    weight = fits_weight w.sep heavy light.sep;
  }

-- what is found at a node is within the graph
pub found_within : (g : GraphParts) → IsConsistent g → (w : Weights) (imp : List ℕ) → AreLight w → HaveImportance imp g.lines → (n : ℕ) → n < length g.kinds
    → All (IsWithinGraph g.ends imp) (in_order (found_at w g n))
found_within g ok w imp light have n below k d here =
    let good = found_at_good g ok w n below k d here in record {
      seg_known = good.seg_known;
      to_known = good.to_known;
      lesser = lesser_counts g w imp n _ ok.lines_each light have good;
      greater = greater_counts g w imp n _ ok.lines_each light have good;
    }

terms_at_good : (g : GraphParts) → IsConsistent g → (ws : List Weights) (imp : List ℕ) → All AreLight ws → HaveImportance imp g.lines → (n : ℕ) → n < length g.kinds
    → All (IsTerm g.lines) (terms_at g ws imp n)
terms_at_good g ok ws imp light have n below =
    let w : Weights = weights_at ws (get_or g.kinds n Junction) in
    All-map (IsTerm g.lines) (term_of w imp g.ends n) (in_order (found_at w g n)) (λ k d here.
    let good = found_at_good g ok w n below k d here in
    term_good g w imp n _ ok.lines_each (weights_light ws (get_or g.kinds n Junction) light) have good _ good.fits_kind good.weighed)

terms_below_good : (g : GraphParts) → IsConsistent g → (ws : List Weights) (imp : List ℕ) → All AreLight ws → HaveImportance imp g.lines → (n : ℕ) → n ≤ length g.kinds
    → All (IsTerm g.lines) (terms_below g ws imp n)
terms_below_good g ok ws imp light have zero h = All-nil (IsTerm g.lines)
terms_below_good g ok ws imp light have (suc n) h =
    All-append (IsTerm g.lines) (terms_below g ws imp n) (terms_at g ws imp n)
    (terms_below_good g ok ws imp light have n (omega arith)) (terms_at_good g ok ws imp light have n (omega arith))

few_choices_of : (known : List LineId) (lines : List (List LineId)) → length known ≤ 1000 → All (λ ls. (0 < length ls) × AreRising ls) lines
    → All (All (Contains known)) lines → length lines + sum_by choices lines ≤ 1000 * length lines
few_choices_of known [] few h all = omega arith
few_choices_of known (ls ∷ rest) few h all =
    let here = All-head (λ (ls : List LineId). (0 < length ls) × AreRising ls) ls rest h in
    let small : length ls ≤ length known = few_rising ls known here.1 (All-head (All (Contains known)) ls rest all) in
    let later = few_choices_of known rest few (All-tail (λ (ls : List LineId). (0 < length ls) × AreRising ls) ls rest h) (All-tail (All (Contains known)) ls rest all) in
    omega (arith, sum_by-cons choices ls rest, here.0)

pub problem_of_graph : (g : GraphParts) → IsConsistent g → (ws : List Weights) (imp : List ℕ) → All AreLight ws → HaveImportance imp g.lines
    → length (graph_terms g ws imp) ≤ 4000000 → IsProblem (record { segs = g.lines; terms = graph_terms g ws imp })
problem_of_graph g ok ws imp light have few = record {
  rising = λ k d below. (ok.lines k d below).1;
  terms = terms_below_good g ok ws imp light have (length g.kinds) (omega arith);
  few_terms = few;
  few_choices = omega (arith, few_choices_of ok.few_lines.0 g.lines ok.few_lines.1 ok.lines ok.few_lines.2, ok.few_segments, ok.lines_each);
}

-- The outcome.
