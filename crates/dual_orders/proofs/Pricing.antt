-- Prices within their weights are small, and so is what a few of them add.
use Rattle.std.proofs.Common.{◌≡◌, ℕ, zero, suc, ◌+◌, ◌<◌, ◌≤◌, List, [], ◌∷◌, length, take, replicate, get_or, refl, sym, ◌∙◌, ap, subst, arith, ◌⊎◌, inl, inr, w64, to_z, of_z}
use Rattle.std.specs.Prelude.{ℤ, pos, unsigned_abs}
use Rattle.std.specs.List.{All}
use Rattle.std.proofs.lemmas.Bool.{cases_lt}
use Rattle.std.proofs.lemmas.Int.{to_z-of_z, fits_signed_from_abs}
use Rattle.std.proofs.lemmas.List.{get_or_past, take_more}
use Rattle.std.proofs.lemmas.List.Elements.{All-from_get_or, All-append, All-cons, All-nil}
use Rattle.map_base.specs.declared.ids.LineId.{LineId}
use Rattle.order_model.specs.declared.term.Term.{Term}
use Rattle.order_model.specs.declared.term.Term.TheVariants.{Side, Link, Apart}
use Rattle.order_model.specs.Problems.{IsTerm}
use Rattle.order_model.specs.PartTerms.{no_term}
use Rattle.dual_shares.specs.declared.cost_rows.CostRows.{CostRows}
use Rattle.dual_shares.specs.CostRows.{AreSmallCosts}
use Rattle.dual_ascent.specs.DualSteps.{most_price, AreWithin}
use Rattle.dual_rounds.specs.Ranges.{IsPrice}

pub length_within : (terms : List Term) (prices : List ℤ) → AreWithin terms prices → length prices ≡ length terms
length_within [] [] h = refl
length_within (t ∷ terms) (y ∷ prices) h = ap suc (length_within terms prices h.1)
length_within [] (y ∷ prices) h = absurd h
length_within (t ∷ terms) [] h = absurd h

pub within_at : (terms : List Term) (prices : List ℤ) (k : ℕ) → AreWithin terms prices → k < length terms → unsigned_abs (get_or prices k (pos 0)) ≤ most_price (get_or terms k no_term)
within_at [] [] k h below = absurd (omega (arith, below))
within_at (t ∷ terms) (y ∷ prices) zero h below = h.0
within_at (t ∷ terms) (y ∷ prices) (suc k) h below = within_at terms prices k h.1 (omega (arith, below))
within_at [] (y ∷ prices) k h below = absurd h
within_at (t ∷ terms) [] k h below = absurd h

most_within : (segs : List (List LineId)) (t : Term) → IsTerm segs t → most_price t ≤ 256000000
most_within segs (Side seg first second w) h = omega arith
most_within segs (Link seg other flip a b w) h = let weight = h.weight.1 in omega (arith, weight)
most_within segs (Apart seg other a b w) h = let weight = h.weight.1 in omega (arith, weight)

-- no price is great
pub price_small : (segs : List (List LineId)) (terms : List Term) (prices : List ℤ) (k : ℕ) → All (IsTerm segs) terms → AreWithin terms prices → unsigned_abs (get_or prices k (pos 0)) ≤ 256000000
price_small segs terms prices k fit within = by_place (cases_lt k (length terms))
  where
    by_place : (k < length terms) ⊎ (length terms ≤ k) → unsigned_abs (get_or prices k (pos 0)) ≤ 256000000
    by_place (inl below) = let one = within_at terms prices k within below in let two = most_within segs (get_or terms k no_term) (fit k no_term below) in omega (arith, one, two)
    by_place (inr over) =
        let none : get_or prices k (pos 0) ≡ pos 0 = get_or_past prices k (pos 0) (let each = length_within terms prices within in omega (arith, over, each)) in
        subst (λ v. unsigned_abs v ≤ 256000000) (sym none) (omega arith)

-- a price as it is read
pub price_read : (segs : List (List LineId)) (terms : List Term) (prices : List ℤ) (k : ℕ) → All (IsTerm segs) terms
    → AreWithin terms prices → to_z w64 (of_z w64 (get_or prices k (pos 0))) ≡ get_or prices k (pos 0)
price_read segs terms prices k fit within =
    let small = price_small segs terms prices k fit within in
    to_z-of_z w64 (get_or prices k (pos 0)) (fits_signed_from_abs w64 (get_or prices k (pos 0)) (omega (arith, small)))

pub prices_small : (segs : List (List LineId)) (terms : List Term) (prices : List ℤ) → All (IsTerm segs) terms → AreWithin terms prices → All IsPrice prices
prices_small segs terms prices fit within = All-from_get_or IsPrice prices (pos 0) (λ i below. price_small segs terms prices i fit within)

-- what is small is small for more
pub small_up : (m n : ℕ) (r : CostRows) → m ≤ n → AreSmallCosts m r → AreSmallCosts n r
small_up m n r h small = record {
  before_small = λ k below. (let most = small.before_small k below in omega (arith, most, h));
  beside_small = λ k below. (let most = small.beside_small k below in omega (arith, most, h));
}

-- prices that are the same bits are the same
pub same_price : (segs : List (List LineId)) (terms : List Term) (f g : List ℤ) (n : ℕ) → All (IsTerm segs) terms
    → AreWithin terms f → AreWithin terms g
    → of_z w64 (get_or f n (pos 0)) ≡ of_z w64 (get_or g n (pos 0)) → get_or f n (pos 0) ≡ get_or g n (pos 0)
same_price segs terms f g n fit one two e =
    sym (price_read segs terms f n fit one) ∙ (ap (to_z w64) e ∙ price_read segs terms g n fit two)

-- no price is beyond its term where all are 0
pub zeros_within : (terms : List Term) → AreWithin terms (replicate (length terms) (pos 0))
zeros_within [] = tt
zeros_within (t ∷ terms) = (omega arith, zeros_within terms)

-- one element more for which it holds
pub all_more : {A : Type 0} (P : A → Type 0) (xs : List A) (i : ℕ) (d : A) → i < length xs → All P (take i xs)
    → P (get_or xs i d) → All P (take (i + 1) xs)
all_more P xs i d below all one = subst (All P) (sym (take_more xs i d below))
    (All-append P (take i xs) (get_or xs i d ∷ []) all (All-cons P (get_or xs i d) [] one (All-nil P)))
