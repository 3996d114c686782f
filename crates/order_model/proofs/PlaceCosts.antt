-- What terms cost by the places of lines is what they cost under the orders.
use Rattle.std.proofs.Common.{◌≡◌, ◌≢◌, ℕ, zero, suc, ◌+◌, ◌<◌, ◌≤◌, not, cond, List, [], ◌∷◌, length, get_or, refl, sym, ◌∙◌, ap, subst, arith, inl, inr, ◌++◌, length-append}
use Rattle.std.specs.Prelude.{IsPermutation}
use Rattle.std.specs.List.{All, Contains, sum_by}
use Rattle.std.proofs.Math.Seq.{get_or-append_seam}
use Rattle.std.proofs.lemmas.List.{get_or-map, length-map, get_or_append_left}
use Rattle.std.proofs.lemmas.List.Elements.{All-nil, All-cons, All-head, All-tail}
use Rattle.std.proofs.lemmas.List.Sums.{sum_by-cons}
use Rattle.std.proofs.lemmas.List.Sorted.{length_permutation}
use Rattle.map_base.specs.declared.ids.SegId.{SegId}
use Rattle.map_base.specs.declared.ids.LineId.{LineId}
use Rattle.graph_core.specs.Consistent.{AreRising}
use Rattle.order_model.specs.declared.term.Term.{Term}
use Rattle.order_model.specs.declared.term.Term.TheVariants.{Side, Link, Apart}
use Rattle.order_model.specs.declared.problem.ProblemParts.{ProblemParts}
use Rattle.order_model.specs.Problems.{lines_on, IsTerm, IsProblem, choices}
use Rattle.order_model.specs.Costs.{AreOrders, comes_before, are_neighbours, same_answer, is_met, term_cost, weight_of}
use Rattle.order_model.specs.Places.{place_of, no_place, place_in, places_in, AreShort, ArePlaces, HavePlaces, place_by, before_by, beside_by, is_met_by, cost_by}
use Rattle.order_model.proofs.PlaceLemmas.{no_line, same_or_not, AreOnce, order_once, line_at_place, place_below}
use Rattle.order_model.proofs.TableLemmas.{before_in, beside_in}

pub order_at : (segs orders : List (List LineId)) (s : ℕ) → AreOrders segs orders → s < length segs → IsPermutation (get_or segs s []) (get_or orders s [])
order_at [] [] s h below = absurd (omega (arith, below))
order_at [] (o ∷ orders) s h below = absurd h
order_at (l ∷ segs) [] s h below = absurd h
order_at (l ∷ segs) (o ∷ orders) zero h below = h.0
order_at (l ∷ segs) (o ∷ orders) (suc s) h below = order_at segs orders s h.1 (omega (arith, below))

pub have_places : (segs orders : List (List LineId)) (places : List (List ℕ)) → All AreRising segs → ArePlaces segs orders places → HavePlaces segs places
have_places segs orders places rising h = record {
  rising = rising;
  each = h.each;
  lines = λ s below. ap length (h.at s below) ∙ length-map (get_or segs s []) (place_in (get_or orders s []));
}

-- one more segment has its places
pub push_table : (segs orders : List (List LineId)) (places fresh : List (List ℕ)) (s : ℕ) (xs : List ℕ) (lines order : List LineId) → length places ≡ s
    → ((k : ℕ) → k < s → get_or places k [] ≡ places_in (get_or segs k []) (get_or orders k [])) → fresh ≡ places ++ xs ∷ []
    → xs ≡ places_in lines order → lines ≡ get_or segs s [] → order ≡ get_or orders s []
    → (length fresh ≡ s + 1) × ((k : ℕ) → k < s + 1 → get_or fresh k [] ≡ places_in (get_or segs k []) (get_or orders k []))
push_table segs orders places fresh s xs lines order each before is made lines_is order_is = (ap length is ∙ omega (arith, each, length-append places (xs ∷ [])), at)
  where
    here : get_or (places ++ xs ∷ []) s [] ≡ places_in (get_or segs s []) (get_or orders s [])
    here = ap (λ k. get_or (places ++ xs ∷ []) k []) (sym each) ∙ get_or-append_seam places xs [] [] ∙ made
        ∙ ap (λ ls. places_in ls order) lines_is ∙ ap (places_in (get_or segs s [])) order_is

    at : (k : ℕ) → k < s + 1 → get_or fresh k [] ≡ places_in (get_or segs k []) (get_or orders k [])
    at k h = ap (λ ps. get_or ps k []) is ∙ elim (same_or_not k s) [
      | inl e ↦ subst (λ j. get_or (places ++ xs ∷ []) j [] ≡ places_in (get_or segs j []) (get_or orders j [])) (sym e) here
      | inr n ↦ get_or_append_left places (xs ∷ []) [] k (omega (arith, each, h, n)) ∙ before k (omega (arith, h, n))
    ]

-- lists of placed lines of short segments, apart from each other, with the tables of their places
pub record HaveTables (segs orders : List (List LineId)) (places : List (List ℕ)) : Type 0 where
  pub once : (s : ℕ) → s < length segs → AreOnce (get_or orders s [])
  pub short : (s : ℕ) → s < length segs → length (get_or orders s []) < no_place
  pub made : ArePlaces segs orders places

pub orders_have_tables : (segs orders : List (List LineId)) (places : List (List ℕ)) → All AreRising segs → AreShort segs → AreOrders segs orders
    → ArePlaces segs orders places → HaveTables segs orders places
orders_have_tables segs orders places rising short are made = record {
  once = λ s below. order_once (get_or segs s []) (get_or orders s []) (rising s [] below) (order_at segs orders s are below);
  short = λ s below. omega (arith, short s [] below, length_permutation (get_or segs s []) (get_or orders s []) (order_at segs orders s are below));
  made = made;
}

module _ (segs orders : List (List LineId)) (places : List (List ℕ)) (have : HaveTables segs orders places) where
  place_is : (s : SegId) (a : LineId) → s.0 < length segs → Contains (lines_on segs s) a → place_by segs places s a ≡ place_in (lines_on orders s) a
  place_is s a below on =
      let lines : List LineId = lines_on segs s in
      let order : List LineId = lines_on orders s in
      ap (λ ps. get_or ps (place_of lines a) 0) (have.made.at s.0 below)
      ∙ get_or-map (place_in order) lines (place_of lines a) no_line 0 (place_below lines a on)
      ∙ ap (place_in order) (line_at_place lines a on)

  before_same : (s : SegId) (a b : LineId) → s.0 < length segs → a.0 ≢ b.0 → Contains (lines_on segs s) a → Contains (lines_on segs s) b
      → before_by segs places s a b ≡ comes_before (lines_on orders s) a b
  before_same s a b below differ on_a on_b =
      rw (place_is s a below on_a, place_is s b below on_b) (sym (before_in (lines_on orders s) a b (have.short s.0 below) differ))

  beside_same : (s : SegId) (a b : LineId) → s.0 < length segs → a.0 ≢ b.0 → Contains (lines_on segs s) a → Contains (lines_on segs s) b
      → beside_by segs places s a b ≡ are_neighbours (lines_on orders s) a b
  beside_same s a b below differ on_a on_b =
      rw (place_is s a below on_a, place_is s b below on_b) (sym (beside_in (lines_on orders s) a b (have.once s.0 below) (have.short s.0 below) differ))

  met_same : (t : Term) → IsTerm segs t → is_met_by segs places t ≡ is_met orders t
  met_same (Side seg first second w) h = before_same seg second first h.seg_known (λ e. h.differ (sym e)) h.second_on h.first_on
  met_same (Link seg other flip a b w) h =
      let below : seg.0 < length segs = omega (arith, h.seg_below, h.other_known) in
      let differ : a.0 ≢ b.0 = omega (arith, h.a_below) in
      ap (same_answer flip) (ap (λ p. same_answer p (before_by segs places other a b)) (before_same seg a b below differ h.a_on h.b_on)
      ∙ ap (same_answer (comes_before (lines_on orders seg) a b)) (before_same other a b h.other_known differ h.a_on_other h.b_on_other))
  met_same (Apart seg other a b w) h =
      let below : seg.0 < length segs = omega (arith, h.seg_below, h.other_known) in
      let differ : a.0 ≢ b.0 = omega (arith, h.a_below) in
      ap not (ap (λ p. same_answer p (beside_by segs places other a b)) (beside_same seg a b below differ h.a_on h.b_on)
      ∙ ap (same_answer (are_neighbours (lines_on orders seg) a b)) (beside_same other a b h.other_known differ h.a_on_other h.b_on_other))

  cost_same : (t : Term) → IsTerm segs t → cost_by segs places t ≡ term_cost orders t
  cost_same t h = ap (λ m. cond m (weight_of t) 0) (met_same t h)

  pub costs_same : (terms : List Term) → All (IsTerm segs) terms → sum_by (cost_by segs places) terms ≡ sum_by (term_cost orders) terms
  costs_same [] h = refl
  costs_same (t ∷ terms) h =
      let first = cost_same t (All-head (IsTerm segs) t terms h) in
      let rest = costs_same terms (All-tail (IsTerm segs) t terms h) in
      omega (arith, sum_by-cons (cost_by segs places) t terms, sum_by-cons (term_cost orders) t terms, first, rest)

-- no segment of a problem has too many lines
pub short_problem : (p : ProblemParts) → IsProblem p → AreShort p.segs
short_problem p ok = short_each p.segs (omega (arith, ok.few_choices))
  where
    short_each : (segs : List (List LineId)) → sum_by choices segs ≤ 20000000 → AreShort segs
    short_each [] few = All-nil (λ (lines : List LineId). length lines < no_place)
    short_each (lines ∷ segs) few =
        let sum = sum_by-cons choices lines segs in
        All-cons (λ (ls : List LineId). length ls < no_place) lines segs (omega (arith, few, sum)) (short_each segs (omega (arith, few, sum)))
