-- The value of prices, term by term.
use Rattle.std.proofs.Common.{◌≡◌, ℕ, suc, ◌+◌, ◌*◌, ◌<◌, ◌≤◌, ◌==◌, Bool, true, false, cond, List, [], ◌∷◌, length, take, get_or, refl, sym, ◌∙◌, ap, arith}
use Rattle.std.specs.Prelude.{ℤ, pos, ◌+ℤ◌, ◌-ℤ◌, ◌*ℤ◌}
use Rattle.std.specs.List.{All, AllByRecursion}
use Rattle.std.proofs.lemmas.Bool.{and_parts}
use Rattle.std.proofs.lemmas.Int.{ints}
use Rattle.std.proofs.lemmas.List.{take_more, take_all, map-id}
use Rattle.std.proofs.lemmas.List.Elements.{recursion_from_All}
use Rattle.map_base.specs.declared.ids.SegId.{SegId}
use Rattle.map_base.specs.declared.ids.LineId.{LineId}
use Rattle.order_model.specs.declared.term.Term.{Term}
use Rattle.order_model.specs.declared.term.Term.TheVariants.{Side, Link, Apart}
use Rattle.order_model.specs.declared.problem.ProblemParts.{ProblemParts}
use Rattle.order_model.specs.Problems.{lines_on, IsTerm}
use Rattle.order_model.specs.Costs.{comes_before, are_neighbours, cost_of}
use Rattle.order_model.specs.PartTerms.{is_in, is_of, numbered_from, no_term}
use Rattle.whole_sums.specs.Sums.{int_sum}
use Rattle.whole_sums.proofs.Sums.{int_sum-append, int_sum_same, int_sum_swap}
use Rattle.dual_bound.specs.Shares.{thousand, where_so, x_of, z_of, term_share}
use Rattle.dual_bound.proofs.Segments.{part_apart, AreApart, one_counts, int_sum_less_by}
use Rattle.dual_ascent.specs.OwnNumbers.{all_segments, all_terms, number_of}
use Rattle.dual_ascent.specs.DualSteps.{value_with}
use Rattle.dual_ascent.specs.LocalSearch as local
use Rattle.dual_ascent.proofs.OwnParts.{segments_rise, all_are_of}
use Rattle.dual_rounds.proofs.TermLists.{term_made_at}
use Rattle.dual_orders.specs.Values.{term_value}

-- One term over all segments.

module _ (orders : List (List LineId)) (part : List SegId) (apart : AreApart part) where
  ends_sum : (seg other : SegId) (here there : SegId → ℤ) → is_in part seg ≡ true → is_in part other ≡ true
      → int_sum (λ (s : SegId). cond (other.0 == s.0) (there s) (pos 0) -ℤ cond (seg.0 == s.0) (here s) (pos 0)) part ≡ there other -ℤ here seg
  ends_sum seg other here there h k =
      int_sum_less_by (λ (s : SegId). cond (other.0 == s.0) (there s) (pos 0)) (λ (s : SegId). cond (seg.0 == s.0) (here s) (pos 0)) part
      ∙ (ap (λ v. v -ℤ int_sum (λ (s : SegId). cond (seg.0 == s.0) (here s) (pos 0)) part) (one_counts other there part apart k) ∙ ap (λ v. there other -ℤ v) (one_counts seg here part apart h))

  told : (p : ℤ) (z x : Bool) → where_so z p -ℤ where_so x p ≡ p *ℤ (where_so z (pos 1) -ℤ where_so x (pos 1))
  told p true true = omega (arith, ints)
  told p true false = omega (arith, ints)
  told p false true = omega (arith, ints)
  told p false false = omega (arith, ints)

  term_shares : (p : ℤ) (t : Term) → is_of part t ≡ true → int_sum (λ (s : SegId). term_share p s (lines_on orders s) t) part ≡ term_value p orders t
  term_shares p (Side seg first second w) of =
      one_counts seg (λ (s : SegId). where_so (comes_before (lines_on orders s) second first) (pos (thousand * w))) part apart (and_parts (is_in part seg) (is_in part seg) of).0
  term_shares p (Link seg other flip a b w) of =
      let both = and_parts (is_in part seg) (is_in part other) of in
      ends_sum seg other (λ (s : SegId). where_so (x_of (lines_on orders s) a b) p) (λ (s : SegId). where_so (z_of (lines_on orders s) flip a b) p) both.0 both.1
      ∙ told p (z_of (lines_on orders other) flip a b) (x_of (lines_on orders seg) a b)
  term_shares p (Apart seg other a b w) of =
      let both = and_parts (is_in part seg) (is_in part other) of in
      ends_sum seg other (λ (s : SegId). where_so (are_neighbours (lines_on orders s) a b) p) (λ (s : SegId). where_so (are_neighbours (lines_on orders s) a b) p) both.0 both.1
      ∙ told p (are_neighbours (lines_on orders other) a b) (are_neighbours (lines_on orders seg) a b)

abbrev pub value_at : List ℤ → List (List LineId) → ℕ × Term → ℤ
value_at prices orders q = term_value (number_of prices q.0) orders q.1

-- the value is the sum over the terms
pub value_by_terms : (p : ProblemParts) (prices : List ℤ) (orders : List (List LineId)) → 0 < length p.segs → All (IsTerm p.segs) p.terms
    → value_with p prices orders ≡ int_sum (value_at prices orders) (all_terms p)
value_by_terms p prices orders some fit =
    int_sum_swap (λ (s : SegId) (t : ℕ × Term). term_share (number_of prices t.0) s (lines_on orders s) t.1) (all_segments p) (all_terms p)
    ∙ int_sum_same (λ (t : ℕ × Term). int_sum (λ (s : SegId). term_share (number_of prices t.0) s (lines_on orders s) t.1) (all_segments p)) (value_at prices orders) (all_terms p)
    (each 0 p.terms (recursion_from_All (IsTerm p.segs) p.terms fit))
  where
    each : (k : ℕ) (terms : List Term) → AllByRecursion (IsTerm p.segs) terms
        → AllByRecursion (λ (t : ℕ × Term). int_sum (λ (s : SegId). term_share (number_of prices t.0) s (lines_on orders s) t.1) (all_segments p) ≡ value_at prices orders t) (numbered_from k terms)
    each k [] h = tt
    each k (t ∷ terms) h =
        (term_shares orders (all_segments p) (part_apart (all_segments p) (segments_rise 0 p.segs some)) (number_of prices k) t (all_are_of p.segs t h.0), each (k + 1) terms h.1)

-- Summed term by term.

numbered_at : (terms : List Term) (i : ℕ) → i < length terms → get_or (numbered_from 0 terms) i (0, no_term) ≡ (i, get_or terms i no_term)
numbered_at terms i h =
    ap (λ (l : List (ℕ × Term)). get_or l i (0, no_term)) (sym (map-id (numbered_from 0 terms))) ∙ term_made_at (λ (q : ℕ × Term). q) terms i (0, no_term) no_term h

length_numbered : (k : ℕ) (terms : List Term) → length (numbered_from k terms) ≡ length terms
length_numbered k [] = refl
length_numbered k (t ∷ terms) = ap suc (length_numbered (k + 1) terms)

pub value_more : (prices : List ℤ) (orders : List (List LineId)) (terms : List Term) (i : ℕ) (total more : ℤ) → i < length terms → total ≡ int_sum (value_at prices orders) (take i (numbered_from 0 terms))
    → more ≡ term_value (get_or prices i (pos 0)) orders (get_or terms i no_term) → total +ℤ more ≡ int_sum (value_at prices orders) (take (i + 1) (numbered_from 0 terms))
value_more prices orders terms i total more h is next =
    let within : i < length (numbered_from 0 terms) = (let each = length_numbered 0 terms in omega (arith, h, each)) in
    ap (λ v. v +ℤ more) is
    ∙ (ap (λ v. int_sum (value_at prices orders) (take i (numbered_from 0 terms)) +ℤ v) (next ∙ (ap (value_at prices orders) (sym (numbered_at terms i h)) ∙ alone (value_at prices orders (get_or (numbered_from 0 terms) i (0, no_term)))))
    ∙ (sym (int_sum-append (value_at prices orders) (take i (numbered_from 0 terms)) (get_or (numbered_from 0 terms) i (0, no_term) ∷ []))
    ∙ ap (int_sum (value_at prices orders)) (sym (take_more (numbered_from 0 terms) i (0, no_term) within))))
  where
    alone : (a : ℤ) → a ≡ a +ℤ pos 0
    alone a = omega (arith, ints)

pub value_whole : (prices : List ℤ) (orders : List (List LineId)) (terms : List Term) (i : ℕ) → length terms ≤ i → int_sum (value_at prices orders) (take i (numbered_from 0 terms)) ≡ int_sum (value_at prices orders) (numbered_from 0 terms)
value_whole prices orders terms i h = ap (int_sum (value_at prices orders)) (take_all i (numbered_from 0 terms) (let each = length_numbered 0 terms in omega (arith, h, each)))

-- orders with what they cost
pub incumbent_is : (p : ProblemParts) (cost : ℕ) (now orders : List (List LineId)) → cost ≡ cost_of p.terms now → now ≡ orders → ◌≡◌ {A = local.Incumbent} (record { cost = cost; orders = now }) (local.incumbent p orders)
incumbent_is p cost now orders is same =
    let by_cost : ℕ → local.Incumbent = λ n. record { cost = n; orders = now } in
    ap by_cost is ∙ ap (local.incumbent p) same
