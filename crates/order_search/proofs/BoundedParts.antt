-- What is known of the bound and the prices of a part of a problem.
use Rattle.std.proofs.Common.{◌≡◌, ℕ, ℤ, pos, negsuc, zero, suc, ◌<◌, ◌≤◌, true, List, [], ◌∷◌, ◌++◌, length, refl, ◌∙◌, ap, arith, inl, inr, Some}
use Rattle.std.specs.List.{All, AllByRecursion}
use Rattle.std.proofs.lemmas.Bool.{le-leb}
use Rattle.std.proofs.lemmas.List.Sums.{sum_by-cons}
use Rattle.map_base.specs.declared.ids.SegId.{SegId}
use Rattle.map_base.specs.declared.ids.LineId.{LineId}
use Rattle.graph_core.specs.Consistent.{AreRising}
use Rattle.order_values.specs.PriceLists.{AreRisingPrices}
use Rattle.order_model.specs.declared.term.Term.{Term}
use Rattle.order_model.specs.Problems.{lines_on, IsTerm}
use Rattle.order_model.specs.Costs.{seg_of, other_of, cost_on, term_cost, cost_of}
use Rattle.order_model.specs.PartTerms.{is_in, is_of, part_terms, plain_terms}
use Rattle.order_model.specs.Parts.{IsRisingPart}
use Rattle.order_model.proofs.Lines.{both_true}
use Rattle.order_proof.specs.Trees.{AreNotZero}
use Rattle.order_bound.specs.Accepting.{reaches}
use Rattle.order_model.specs.Questions.{question}
use Rattle.order_bound.specs.Bounds.{bound_of}
use Rattle.order_bound.specs.Pairs.{pair_in}
use Rattle.order_bound.specs.CanonicalPrices.{pair_prices, price_among, listed, prices_on}
use Rattle.order_bound.proofs.Lists.{Among}
use Rattle.order_bound.proofs.Bounding.{AreNumbered}
use Rattle.order_bound.proofs.Parts.{part_of_problem, part_numbered}
use Rattle.order_bound.proofs.CanonicalValue.{canonical_prices_reach}
use Rattle.order_search.specs.LiveTrees.{BoundedPart}
use Rattle.order_search.specs.Bounded.{bounded_part}
use Rattle.order_search.proofs.Accepted.{AreTaken}
use Rattle.order_search.proofs.Attained.{IsCostOnPart}
use Rattle.order_search.proofs.Shaped.{ArePricesOfProofs}
use Rattle.order_search.proofs.CompleteBounds.{complete_bound}
use Rattle.part_bounds.proofs.NotedPairs.{AreAbove, listed_rising, listed_above}

-- Orders that are the same where terms read them cost the same.

same_term : (xs ys : List (List LineId)) (t : Term) → lines_on xs (seg_of t) ≡ lines_on ys (seg_of t) → lines_on xs (other_of t) ≡ lines_on ys (other_of t) → term_cost xs t ≡ term_cost ys t
same_term xs ys t h g = ap (λ l. cost_on l (lines_on xs (other_of t)) t) h ∙ ap (λ l. cost_on (lines_on ys (seg_of t)) l t) g

same_cost : (xs ys : List (List LineId)) (part : List SegId) → ((s : SegId) → is_in part s ≡ true → lines_on xs s ≡ lines_on ys s)
    → (terms : List (ℕ × Term)) → ((t : ℕ × Term) → Among t terms → is_of part t.1 ≡ true) → cost_of (plain_terms terms) xs ≡ cost_of (plain_terms terms) ys
same_cost xs ys part same [] inside = refl
same_cost xs ys part same (t ∷ terms) inside =
    let of = both_true (is_in part (seg_of t.1)) (is_in part (other_of t.1)) (inside t (inl refl)) in
    omega (
      arith,
      same_term xs ys t.1 (same (seg_of t.1) of.0) (same (other_of t.1) of.1),
      same_cost xs ys part same terms (λ u m. inside u (inr m)),
      sum_by-cons (term_cost xs) t.1 (plain_terms terms),
      sum_by-cons (term_cost ys) t.1 (plain_terms terms),
    )

-- Prices stand by rising number, and none is 0.

listed_not_zero : (k : ℕ) (y : ℤ) (rest : List (ℕ × ℤ)) → AreNotZero rest → AreNotZero (listed k y ++ rest)
listed_not_zero k (pos zero) rest h = h
listed_not_zero k (pos (suc n)) rest h = ((λ e. one_more n e), h)
  where
    one_more : (n : ℕ) → pos (suc n) ≡ pos 0 → ⊥
    one_more n e = absurd (omega (arith, ap natural e))
      where
        natural : ℤ → ℕ
        natural (pos m) = m
        natural (negsuc m) = 0
listed_not_zero k (negsuc n) rest h = ((λ e. below n e), h)
  where
    below : (n : ℕ) → negsuc n ≡ pos 0 → ⊥
    below n e = cc

module _ (segs : List (List LineId)) (part : List SegId) (terms : List (ℕ × Term)) (placed : List (List LineId)) where
  prices_above : (m : ℕ) (some : List (ℕ × Term)) → AllByRecursion (λ (t : ℕ × Term). m < t.0) some → AreAbove m (prices_on segs part terms placed some)
  prices_above m [] h = tt
  prices_above m (t ∷ some) h =
      listed_above m t.0 (price_among (pair_prices segs placed part terms (pair_in t.1)) t.0) (prices_on segs part terms placed some) h.0 (prices_above m some h.1)

  prices_rise : (some : List (ℕ × Term)) → AreNumbered some → AreRisingPrices (prices_on segs part terms placed some)
  prices_rise [] h = tt
  prices_rise (t ∷ some) h =
      listed_rising t.0 (price_among (pair_prices segs placed part terms (pair_in t.1)) t.0) (prices_on segs part terms placed some)
      (prices_above t.0 some h.0) (prices_rise some h.1)

  prices_not_zero : (some : List (ℕ × Term)) → AreNotZero (prices_on segs part terms placed some)
  prices_not_zero [] = tt
  prices_not_zero (t ∷ some) =
      listed_not_zero t.0 (price_among (pair_prices segs placed part terms (pair_in t.1)) t.0) (prices_on segs part terms placed some) (prices_not_zero some)

-- Parts of problems.

reached : (target bound : ℕ) → target ≤ bound → reaches target (Some (pos bound)) ≡ true
reached target bound h = le-leb target bound h

module _ (segs : List (List LineId)) (all : List Term) (part : List SegId) (rising : All AreRising segs) (fit : All (IsTerm segs) all) (part_rises : IsRisingPart part)
    (known : All (λ (s : SegId). s.0 < length segs) part) where
  abbrev terms : List (ℕ × Term)
  terms = part_terms all part

  abbrev pub q : BoundedPart
  q = bounded_part segs part terms

  pub told : IsCostOnPart q
  told xs ys same = same_cost xs ys part same terms (part_of_problem segs all part rising fit part_rises).inside

  pub prices_of_proofs : ArePricesOfProofs q
  prices_of_proofs placed ok = (prices_rise segs part terms placed terms (part_numbered all part), prices_not_zero segs part terms placed terms)

  pub taken : (target : ℕ) → AreTaken q (question segs part terms target)
  taken target = record {
    segs = refl;
    part = refl;
    closes = λ placed ok below.
        ap (reaches target) (canonical_prices_reach segs placed part terms (part_of_problem segs all part rising fit part_rises) (part_numbered all part))
        ∙ reached target (bound_of segs part terms placed) below;
    complete = λ placed ok shut. complete_bound segs all part placed rising fit part_rises known ok shut;
  }
