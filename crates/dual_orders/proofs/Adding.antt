-- What averages, and terms beside the orders of the others, add to the rows of a segment.
use Rattle.std.proofs.Common.{◌≡◌, ℕ, ◌+◌, ◌-◌, ◌<◌, ◌≤◌, List, [], ◌∷◌, ◌++◌, length, map, take, get_or, sym, ◌∙◌, ap, subst, arith}
use Rattle.std.specs.Prelude.{ℤ, pos, ◌+ℤ◌, ◌-ℤ◌}
use Rattle.std.proofs.lemmas.Int.{ints}
use Rattle.std.proofs.lemmas.List.{take_more, take_all, map_more}
use Rattle.map_base.specs.declared.ids.SegId.{SegId}
use Rattle.map_base.specs.declared.ids.LineId.{LineId}
use Rattle.order_model.specs.declared.term.Term.{Term}
use Rattle.least_orders.specs.OrderCosts.{PairCosts, summed_costs, cost_before, cost_beside}
use Rattle.least_orders.specs.Rows.{line_at, named, entry}
use Rattle.dual_shares.specs.declared.cost_rows.CostRows.{CostRows}
use Rattle.dual_shares.specs.CostRows.{Tell, IsAdded}
use Rattle.dual_shares.proofs.Telling.{tell_more}
use Rattle.dual_ascent.specs.declared.pair_average.PairAverage.{PairAverage}
use Rattle.dual_ascent.specs.Averages.{always}
use Rattle.dual_ascent.specs.SegmentCosts.{beside_costs, distance_costs}
use Rattle.dual_orders.specs.OwnTerms.{term_at}

-- one more of those that make lines cost something
pub tell_one_more : {A : Type 0} (lines : List LineId) (costs : A → PairCosts) (xs : List A) (x : A) (old new : CostRows) → Tell lines (summed_costs costs xs) old → IsAdded lines (costs x) old new
    → Tell lines (summed_costs costs (xs ++ x ∷ [])) new
tell_one_more lines costs xs x old new told added = tell_more lines costs xs x old.before.items old.beside.items new.before.items new.beside.items told added.rows

-- Averages.

three_steps : (u v w z a b c : ℤ) → v ≡ u +ℤ a → w ≡ v +ℤ b → z ≡ w +ℤ c → z ≡ u +ℤ (a +ℤ (b +ℤ (c +ℤ pos 0)))
three_steps u v w z a b c e f g = omega (arith, ints, e, f, g)

pub distance_added : (lines : List LineId) (x : PairAverage) (often rarely together : ℤ) (old one two new : CostRows) → often ≡ pos x.swapped → rarely ≡ pos (always - x.swapped) → together ≡ pos 32768 -ℤ pos x.beside
    → IsAdded lines (cost_before x.lesser x.greater often) old one → IsAdded lines (cost_before x.greater x.lesser rarely) one two → IsAdded lines (cost_beside x.lesser x.greater together) two new
    → IsAdded lines (distance_costs x) old new
distance_added lines x often rarely together old one two new e f g h k l =
    let first : IsAdded lines (cost_before x.lesser x.greater (pos x.swapped)) old one = subst (λ v. IsAdded lines (cost_before x.lesser x.greater v) old one) e h in
    let second : IsAdded lines (cost_before x.greater x.lesser (pos (always - x.swapped))) one two = subst (λ v. IsAdded lines (cost_before x.greater x.lesser v) one two) f k in
    let third : IsAdded lines (cost_beside x.lesser x.greater (pos 32768 -ℤ pos x.beside)) two new = subst (λ v. IsAdded lines (cost_beside x.lesser x.greater v) two new) g l in
    record {
      count = third.count ∙ (second.count ∙ first.count);
      rows = record {
        before_added = λ i j here there.
            three_steps (entry (length lines) old.before.items (line_at i) (line_at j)) (entry (length lines) one.before.items (line_at i) (line_at j)) (entry (length lines) two.before.items (line_at i) (line_at j))
            (entry (length lines) new.before.items (line_at i) (line_at j))
            ((cost_before x.lesser x.greater (pos x.swapped)).before (named lines (line_at i)) (named lines (line_at j)))
            ((cost_before x.greater x.lesser (pos (always - x.swapped))).before (named lines (line_at i)) (named lines (line_at j)))
            ((cost_beside x.lesser x.greater (pos 32768 -ℤ pos x.beside)).before (named lines (line_at i)) (named lines (line_at j)))
            (first.rows.before_added i j here there) (second.rows.before_added i j here there) (third.rows.before_added i j here there);
        beside_added = λ i j here there.
            three_steps (entry (length lines) old.beside.items (line_at i) (line_at j)) (entry (length lines) one.beside.items (line_at i) (line_at j)) (entry (length lines) two.beside.items (line_at i) (line_at j))
            (entry (length lines) new.beside.items (line_at i) (line_at j))
            ((cost_before x.lesser x.greater (pos x.swapped)).beside (named lines (line_at i)) (named lines (line_at j)))
            ((cost_before x.greater x.lesser (pos (always - x.swapped))).beside (named lines (line_at i)) (named lines (line_at j)))
            ((cost_beside x.lesser x.greater (pos 32768 -ℤ pos x.beside)).beside (named lines (line_at i)) (named lines (line_at j)))
            (first.rows.beside_added i j here there) (second.rows.beside_added i j here there) (third.rows.beside_added i j here there);
      };
    }

pub distances_more : (lines : List LineId) (averages : List PairAverage) (i : ℕ) (x : PairAverage) (old new : CostRows) → i < length averages → x ≡ get_or averages i x
    → Tell lines (summed_costs distance_costs (take i averages)) old → IsAdded lines (distance_costs x) old new → Tell lines (summed_costs distance_costs (take (i + 1) averages)) new
distances_more lines averages i x old new below is told added =
    subst (λ (xs : List PairAverage). Tell lines (summed_costs distance_costs xs) new) (sym (take_more averages i x below ∙ ap (λ y. take i averages ++ y ∷ []) (sym is)))
    (tell_one_more lines distance_costs (take i averages) x old new told added)

-- Terms beside the orders of the others.

module _ (orders : List (List LineId)) (s : SegId) (terms : List Term) where
  abbrev pub terms_so_far : ℕ → List ℕ → List Term
  terms_so_far i numbers = map (term_at terms) (take i numbers)

  pub beside_more : (lines : List LineId) (numbers : List ℕ) (i n : ℕ) (old new : CostRows) → i < length numbers → n ≡ get_or numbers i 0
      → Tell lines (summed_costs (beside_costs orders s) (terms_so_far i numbers)) old → IsAdded lines (beside_costs orders s (term_at terms n)) old new
      → Tell lines (summed_costs (beside_costs orders s) (terms_so_far (i + 1) numbers)) new
  beside_more lines numbers i n old new below is told added =
      subst (λ (ts : List Term). Tell lines (summed_costs (beside_costs orders s) ts) new)
      (sym (map_more (term_at terms) numbers i 0 below ∙ ap (λ m. map (term_at terms) (take i numbers) ++ term_at terms m ∷ []) (sym is)))
      (tell_one_more lines (beside_costs orders s) (terms_so_far i numbers) (term_at terms n) old new told added)

  pub beside_whole : (lines : List LineId) (numbers : List ℕ) (i : ℕ) (r : CostRows) → length numbers ≤ i → Tell lines (summed_costs (beside_costs orders s) (terms_so_far i numbers)) r
      → Tell lines (summed_costs (beside_costs orders s) (map (term_at terms) numbers)) r
  beside_whole lines numbers i r over told = subst (λ (ns : List ℕ). Tell lines (summed_costs (beside_costs orders s) (map (term_at terms) ns)) r) (take_all i numbers over) told
