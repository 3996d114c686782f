-- Lists with one number a term.
use Rattle.std.proofs.Common.{◌≡◌, ℕ, zero, suc, ◌+◌, ◌<◌, ◌≤◌, List, [], ◌∷◌, length, map, get_or, refl, sym, ◌∙◌, ap, subst, arith}
use Rattle.std.specs.Prelude.{ℤ, pos}
use Rattle.std.specs.List.{All}
use Rattle.map_base.specs.declared.ids.LineId.{LineId}
use Rattle.order_model.specs.declared.term.Term.{Term}
use Rattle.order_model.specs.declared.term.Term.TheVariants.{Side, Link, Apart}
use Rattle.order_model.specs.declared.problem.ProblemParts.{ProblemParts}
use Rattle.order_model.specs.Problems.{IsTerm}
use Rattle.order_model.specs.Costs.{weight_of, IsReadable}
use Rattle.order_model.specs.PartTerms.{numbered_from, no_term}
use Rattle.order_model.proofs.OrderLemmas.{readable_term}
use Rattle.dual_ascent.specs.OwnNumbers.{number_of}
use Rattle.dual_ascent.specs.DualSteps.{subgradient, most_price, next_direction, next_directions, square_sum, next_price, next_prices}

pub length_made : {A : Type 0} (g : ℕ × Term → A) (k : ℕ) (terms : List Term) → length (map g (numbered_from k terms)) ≡ length terms
length_made g k [] = refl
length_made g k (t ∷ terms) = let rest = length_made g (k + 1) terms in ap suc rest

made_at : {A : Type 0} (g : ℕ × Term → A) (k : ℕ) (terms : List Term) (i : ℕ) (d : A) (t : Term) → i < length terms → get_or (map g (numbered_from k terms)) i d ≡ g (k + i, get_or terms i t)
made_at g k [] i d t h = absurd (omega (arith, h))
made_at g k (u ∷ terms) zero d t h = ap (λ n. g (n, u)) (none k)
  where
    none : (k : ℕ) → k ≡ k + 0
    none k = omega (arith)
made_at g k (u ∷ terms) (suc i) d t h = made_at g (k + 1) terms i d t (omega (arith, h)) ∙ ap (λ n. g (n, get_or terms i t)) (next k i)
  where
    next : (k i : ℕ) → (k + 1) + i ≡ k + suc i
    next k i = omega (arith)

-- what is made of each numbered term
pub term_made_at : {A : Type 0} (g : ℕ × Term → A) (terms : List Term) (i : ℕ) (d : A) (t : Term) → i < length terms → get_or (map g (numbered_from 0 terms)) i d ≡ g (i, get_or terms i t)
term_made_at g terms i d t h = made_at g 0 terms i d t h ∙ ap (λ n. g (n, get_or terms i t)) (from_none i)
  where
    from_none : (i : ℕ) → 0 + i ≡ i
    from_none i = omega (arith)

pub readable_at : (segs : List (List LineId)) (terms : List Term) (n k : ℕ) (d : Term) → All (IsTerm segs) terms → n ≡ length segs → k < length terms → IsReadable n (get_or terms k d)
readable_at segs terms n k d fit e h = subst (λ m. IsReadable m (get_or terms k d)) (sym e) (readable_term segs (get_or terms k d) (fit k d h))

weight_within : (n : ℕ) (t : Term) → IsReadable n t → weight_of t ≤ 256000
weight_within n (Side seg first second w) h = h.1
weight_within n (Link seg other flip a b w) h = h.2
weight_within n (Apart seg other a b w) h = h.2

pub weight_at : (segs : List (List LineId)) (terms : List Term) (k : ℕ) (d : Term) → All (IsTerm segs) terms → k < length terms → weight_of (get_or terms k d) ≤ 256000
weight_at segs terms k d fit h = weight_within (length segs) (get_or terms k d) (readable_at segs terms (length segs) k d fit refl h)

-- one direction
abbrev pub direction_by : List Term → List (List LineId) → List ℤ → ℕ → ℤ → ℤ
direction_by terms orders prices k last = next_direction (most_price (get_or terms k no_term)) (number_of prices k) last (subgradient orders (get_or terms k no_term))

pub directions_at : (p : ProblemParts) (orders : List (List LineId)) (prices last : List ℤ) (i : ℕ) → i < length p.terms
    → get_or (next_directions p orders prices last) i (pos 0) ≡ direction_by p.terms orders prices i (get_or last i (pos 0))
directions_at p orders prices last i h =
    term_made_at (λ (q : ℕ × Term). next_direction (most_price q.1) (number_of prices q.0) (number_of last q.0) (subgradient orders q.1)) p.terms i (pos 0) no_term h

-- one price
abbrev pub price_by : List Term → ℕ → ℤ → ℕ → List ℤ → ℕ → ℤ → ℤ
price_by terms step gap squares directions k price = next_price step gap squares (most_price (get_or terms k no_term)) price (number_of directions k)

pub prices_at : (p : ProblemParts) (step : ℕ) (gap : ℤ) (prices directions : List ℤ) (i : ℕ) → i < length p.terms
    → get_or (next_prices p step gap prices directions) i (pos 0) ≡ price_by p.terms step gap (square_sum directions) directions i (get_or prices i (pos 0))
prices_at p step gap prices directions i h =
    term_made_at (λ (q : ℕ × Term). next_price step gap (square_sum directions) (most_price q.1) (number_of prices q.0) (number_of directions q.0)) p.terms i (pos 0) no_term h

-- Step by step.

pub length_directions : (p : ProblemParts) (orders : List (List LineId)) (prices last : List ℤ) → length (next_directions p orders prices last) ≡ length p.terms
length_directions p orders prices last =
    length_made (λ (q : ℕ × Term). next_direction (most_price q.1) (number_of prices q.0) (number_of last q.0) (subgradient orders q.1)) 0 p.terms

pub length_prices : (p : ProblemParts) (step : ℕ) (gap : ℤ) (prices directions : List ℤ) → length (next_prices p step gap prices directions) ≡ length p.terms
length_prices p step gap prices directions =
    length_made (λ (q : ℕ × Term). next_price step gap (square_sum directions) (most_price q.1) (number_of prices q.0) (number_of directions q.0)) 0 p.terms

pub direction_is : (p : ProblemParts) (terms : List Term) (orders : List (List LineId)) (prices old now : List ℤ) (k : ℕ) (v : ℤ) → terms ≡ p.terms
    → v ≡ next_direction (most_price (get_or terms k no_term)) (get_or prices k (pos 0)) (get_or now k (pos 0)) (subgradient orders (get_or terms k no_term))
    → get_or now k (pos 0) ≡ get_or old k (pos 0) → v ≡ direction_by p.terms orders prices k (get_or old k (pos 0))
direction_is p terms orders prices old now k v e is same =
    is
    ∙ (ap (λ l. next_direction (most_price (get_or terms k no_term)) (get_or prices k (pos 0)) l (subgradient orders (get_or terms k no_term))) same
    ∙ ap (λ ts. direction_by ts orders prices k (get_or old k (pos 0))) e)

pub price_is : (p : ProblemParts) (terms : List Term) (step : ℕ) (gap : ℤ) (squares most : ℕ) (directions old now : List ℤ) (k : ℕ) (v : ℤ) → terms ≡ p.terms → most ≡ most_price (get_or terms k no_term)
    → v ≡ next_price step gap squares most (get_or now k (pos 0)) (get_or directions k (pos 0))
    → get_or now k (pos 0) ≡ get_or old k (pos 0) → v ≡ price_by p.terms step gap squares directions k (get_or old k (pos 0))
price_is p terms step gap squares most directions old now k v e m is same =
    is
    ∙ (ap (λ l. next_price step gap squares most l (get_or directions k (pos 0))) same
    ∙ (ap (λ n. next_price step gap squares n (get_or old k (pos 0)) (get_or directions k (pos 0))) m
    ∙ ap (λ ts. price_by ts step gap squares directions k (get_or old k (pos 0))) e))
