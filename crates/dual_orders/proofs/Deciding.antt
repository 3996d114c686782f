-- The most undecided pair, found pair by pair.
use Rattle.std.proofs.Common.{◌≡◌, ℕ, zero, suc, ◌+◌, ◌*◌, ◌<◌, ◌≤◌, ◌==◌, ◌&&◌, not, Bool, true, false, cond, List, [], ◌∷◌, ◌++◌, length, map, filter, take, get_or, refl, sym, ◌∙◌, ap, subst, arith, true≢false, Option, Some, None}
use Rattle.std.specs.Prelude.{ℤ, pos, neg_ℤ, int_lt, nat_lt, sum_by}
use Rattle.std.specs.List.{All, flat_map}
use Rattle.std.proofs.lemmas.Bool.Decides.{nat_tests}
use Rattle.std.proofs.lemmas.Int.{ints}
use Rattle.std.proofs.lemmas.List.{append_assoc, length-append, length-map, map-append, take_more, take_all, flat_map_more}
use Rattle.std.proofs.lemmas.List.Elements.{All-from_recursion}
use Rattle.map_base.specs.declared.ids.SegId.{SegId}
use Rattle.map_base.specs.declared.ids.LineId.{LineId}
use Rattle.graph_core.specs.Consistent.{AreRising}
use Rattle.order_model.specs.declared.term.Term.{Term}
use Rattle.order_model.specs.declared.term.Term.TheVariants.{Side, Link, Apart}
use Rattle.order_model.specs.declared.problem.ProblemParts.{ProblemParts}
use Rattle.order_model.specs.Problems.{IsTerm}
use Rattle.order_model.specs.PartTerms.{no_term}
use Rattle.least_orders.proofs.Lists.{each_weaker}
use Rattle.least_orders.proofs.LeastValues.{better, first_least-append}
use Rattle.dual_bound.specs.declared.settled.SettledPair.{SettledPair}
use Rattle.dual_bound.specs.Settled.{settled_on}
use Rattle.dual_shares.specs.Groups.{is_on}
use Rattle.dual_ascent.specs.declared.pair_average.PairAverage.{PairAverage}
use Rattle.dual_ascent.specs.OwnNumbers.{all_segments}
use Rattle.dual_ascent.specs.Averages.{pair_of, ArePairs, never, never_all}
use Rattle.dual_ascent.specs.OpenPairs.{is_settled, OpenPair, open_pair, open_on, link_weight, doubt, next_pair}
use Rattle.dual_ascent.proofs.OwnParts.{seg_number}
use Rattle.dual_ascent.proofs.Pairs.{ArePair, pairs_of_lines}
use Rattle.dual_rounds.proofs.SegmentLists.{length_segments}
use Rattle.dual_orders.specs.OwnTerms as own
use Rattle.dual_orders.specs.declared.open_pairs.Undecided.{Undecided}
use Rattle.dual_orders.specs.NextPairs.{IsForkAt, most_undecided, open_of, IsBest, is_more}
use Rattle.dual_orders.specs.Values.{IsOfTwo}
use Rattle.dual_orders.proofs.OwnTables.{segment_at}
use Rattle.dual_orders.proofs.Exchanging.{off_sum, parted, terms_all}

-- Averages are of two lines of their segment.

pub averages_of_two : (p : ProblemParts) (averages : List (List PairAverage)) (i : ℕ) → All AreRising p.segs → ArePairs p averages → i < length p.segs → All (IsOfTwo (get_or p.segs i [])) (get_or averages i [])
averages_of_two p averages i rising pairs below =
    All-from_recursion (IsOfTwo (get_or p.segs i [])) (get_or averages i [])
    (each_weaker (λ (x : PairAverage). ArePair (get_or p.segs i []) (pair_of x)) (IsOfTwo (get_or p.segs i [])) (get_or averages i [])
    (λ x h. record { first_on = h.0; second_on = h.1; differ = h.2 }) (pairs_of_lines p averages i rising pairs below))

few_never : (lines : List LineId) → length lines ≤ 16 → length (never_all lines) ≤ 16 * length lines
few_never [] h = omega arith
few_never (a ∷ lines) h =
    let rest = few_never lines (omega (arith, h)) in
    let both = length-append (map (never a) lines) (never_all lines) in
    let each = length-map lines (never a) in
    omega (arith, rest, both, each, h)

-- a segment has few averages
pub few_averages : (p : ProblemParts) (averages : List (List PairAverage)) (i : ℕ) → ArePairs p averages
    → i < length p.segs → length (get_or p.segs i []) ≤ 16 → length (get_or averages i []) ≤ 256
few_averages p averages i pairs below few =
    let same = ap length (pairs i below) in
    let one = length-map (get_or averages i []) pair_of in
    let two = length-map (never_all (get_or p.segs i [])) pair_of in
    let all = few_never (get_or p.segs i []) few in
    omega (arith, same, one, two, all, few)

-- One pair more.

opposite_less : (d e : ℕ) → int_lt (neg_ℤ (pos d)) (neg_ℤ (pos e)) ≡ nat_lt e d
opposite_less zero zero = refl
opposite_less (suc d) zero = some d
  where
    some : (d : ℕ) → true ≡ nat_lt 0 (suc d)
    some d = grind (arith, nat_tests)
opposite_less zero (suc e) = none (suc e)
  where
    none : (e : ℕ) → false ≡ nat_lt e 0
    none e = grind (arith, nat_tests)
opposite_less (suc d) (suc e) = less (suc d) (suc e)
  where
    less : (d e : ℕ) → int_lt (neg_ℤ (pos d)) (neg_ℤ (pos e)) ≡ nat_lt e d
    less d e = grind (arith, ints, nat_tests)

abbrev undecided : ProblemParts → OpenPair → ℤ
undecided p c = neg_ℤ (pos (doubt p c))

one_behind : (p : ProblemParts) (before : List OpenPair) (c : OpenPair) → most_undecided p (before ++ c ∷ []) ≡ better (undecided p) (most_undecided p before) (Some c)
one_behind p before c = first_least-append (undecided p) before (c ∷ [])

-- a pair that is more undecided than the best is the best
pub best_more : (p : ProblemParts) (before : List OpenPair) (best : Option Undecided) (c : OpenPair) (next : Undecided) → IsBest p (most_undecided p before) best
    → next.doubt ≡ doubt p c → IsForkAt c next.pair → is_more (doubt p c) best ≡ true → IsBest p (most_undecided p (before ++ c ∷ [])) (Some next)
best_more p before best c next is same fork more =
    subst (λ o. IsBest p o (Some next)) (sym (one_behind p before c)) (by_best (most_undecided p before) best is more)
  where
    by_best : (o : Option OpenPair) (best : Option Undecided) → IsBest p o best → is_more (doubt p c) best ≡ true → IsBest p (better (undecided p) o (Some c)) (Some next)
    by_best None None h k = (same, fork)
    by_best None (Some b) h k = absurd h
    by_best (Some d) None h k = absurd h
    by_best (Some d) (Some b) h k =
        subst (λ t. IsBest p (Some (cond t c d)) (Some next)) (sym (opposite_less (doubt p c) (doubt p d) ∙ (ap (λ n. nat_lt n (doubt p c)) (sym h.0) ∙ k))) (same, fork)

-- one that is not leaves the best
pub best_same : (p : ProblemParts) (before : List OpenPair) (best : Option Undecided) (c : OpenPair) → IsBest p (most_undecided p before) best
    → is_more (doubt p c) best ≡ false → IsBest p (most_undecided p (before ++ c ∷ [])) best
best_same p before best c is less =
    subst (λ o. IsBest p o best) (sym (one_behind p before c)) (by_best (most_undecided p before) best is less)
  where
    by_best : (o : Option OpenPair) (best : Option Undecided) → IsBest p o best → is_more (doubt p c) best ≡ false → IsBest p (better (undecided p) o (Some c)) best
    by_best None None h k = absurd (true≢false k)
    by_best None (Some b) h k = absurd h
    by_best (Some d) None h k = absurd h
    by_best (Some d) (Some b) h k =
        subst (λ t. IsBest p (Some (cond t c d)) (Some b)) (sym (opposite_less (doubt p c) (doubt p d) ∙ (ap (λ n. nat_lt n (doubt p c)) (sym h.0) ∙ k))) h

-- the pair of one average, where it is not settled
pub open_one : (pairs : List (LineId × LineId)) (s : SegId) (x : PairAverage) → is_settled pairs x.lesser x.greater ≡ false → open_of pairs s (x ∷ []) ≡ open_pair s x ∷ []
open_one pairs s x h = ap (λ t. map (open_pair s) (cond (not t) (x ∷ []) [])) h

filter_push : {A : Type 0} (t : A → Bool) (xs : List A) (x : A) → filter t (xs ++ x ∷ []) ≡ filter t xs ++ filter t (x ∷ [])
filter_push t [] x = refl
filter_push t (y ∷ xs) x = by_test (t y) (filter_push t xs x)
  where
    by_test : (b : Bool) → filter t (xs ++ x ∷ []) ≡ filter t xs ++ filter t (x ∷ []) → cond b (y ∷ filter t (xs ++ x ∷ [])) (filter t (xs ++ x ∷ [])) ≡ cond b (y ∷ filter t xs) (filter t xs) ++ filter t (x ∷ [])
    by_test true rest = ap (λ l. y ∷ l) rest
    by_test false rest = rest

open_push : (pairs : List (LineId × LineId)) (s : SegId) (xs : List PairAverage) (x : PairAverage) → open_of pairs s (xs ++ x ∷ []) ≡ open_of pairs s xs ++ open_of pairs s (x ∷ [])
open_push pairs s xs x =
    ap (map (open_pair s)) (filter_push (λ (y : PairAverage). not (is_settled pairs y.lesser y.greater)) xs x)
    ∙ map-append (open_pair s) (filter (λ (y : PairAverage). not (is_settled pairs y.lesser y.greater)) xs) (filter (λ (y : PairAverage). not (is_settled pairs y.lesser y.greater)) (x ∷ []))

-- the pairs before, with those of one average more
pub open_more : (pairs : List (LineId × LineId)) (s : SegId) (before : List OpenPair) (averages : List PairAverage) (i : ℕ) (x : PairAverage) → i < length averages → x ≡ get_or averages i x
    → (before ++ open_of pairs s (take i averages)) ++ open_of pairs s (x ∷ []) ≡ before ++ open_of pairs s (take (i + 1) averages)
open_more pairs s before averages i x below is =
    append_assoc before (open_of pairs s (take i averages)) (open_of pairs s (x ∷ []))
    ∙ ap (λ l. before ++ l) (sym (ap (open_of pairs s) (take_more averages i x below ∙ ap (λ y. take i averages ++ y ∷ []) (sym is)) ∙ open_push pairs s (take i averages) x))

-- Segment by segment.

module _ (p : ProblemParts) (settled : List SettledPair) (averages : List (List PairAverage)) where
  pub segment_more : (i : ℕ) → i < length p.segs
      → flat_map (open_on settled averages) (take i (all_segments p)) ++ open_of (settled_on settled (seg_number i)) (seg_number i) (get_or averages i [])
      ≡ flat_map (open_on settled averages) (take (i + 1) (all_segments p))
  segment_more i h =
      let within : i < length (all_segments p) = (let each = length_segments 0 p.segs in omega (arith, h, each)) in
      flat_map_more (open_on settled averages) [] (take i (all_segments p)) (seg_number i)
      ∙ ap (flat_map (open_on settled averages)) (sym (take_more (all_segments p) i (seg_number i) within ∙ ap (λ s. take i (all_segments p) ++ s ∷ []) (segment_at p.segs i (seg_number i) h)))

  pub segments_whole : (i : ℕ) → length p.segs ≤ i → most_undecided p (flat_map (open_on settled averages) (take i (all_segments p))) ≡ next_pair p settled averages
  segments_whole i h =
      ap (λ l. most_undecided p (flat_map (open_on settled averages) l)) (take_all i (all_segments p) (let each = length_segments 0 p.segs in omega (arith, h, each)))

-- The weight of Links.

off_weight : (s : SegId) (a b : LineId) (t : Term) → is_on s t ≡ false → link_weight s a b t ≡ 0
off_weight s a b (Side seg first second w) h = refl
off_weight s a b (Apart seg other c d w) h = refl
off_weight s a b (Link seg other flip c d w) h = ap (λ u. cond (u && (c.0 == a.0 && d.0 == b.0)) w 0) h

off_weights : (s : SegId) (a b : LineId) (terms : List Term) (numbers : List ℕ) → off_sum (link_weight s a b) terms s numbers ≡ 0
off_weights s a b terms [] = refl
off_weights s a b terms (n ∷ numbers) =
    let here = by_test (is_on s (get_or terms n no_term)) refl in
    let rest = off_weights s a b terms numbers in
    omega (arith, here, rest)
  where
    by_test : (t : Bool) → is_on s (get_or terms n no_term) ≡ t → cond t 0 (link_weight s a b (get_or terms n no_term)) ≡ 0
    by_test true e = refl
    by_test false e = off_weight s a b (get_or terms n no_term) e

-- those of all Links are those of the Links on the segment
pub weights_on : (p : ProblemParts) (s : SegId) (a b : LineId) → All (IsTerm p.segs) p.terms → sum_by (link_weight s a b) (own.own_terms p s) ≡ sum_by (link_weight s a b) p.terms
weights_on p s a b fit =
    let all = parted (link_weight s a b) p.terms s (own.all_numbers p) in
    let none = off_weights s a b p.terms (own.all_numbers p) in
    let whole : sum_by (link_weight s a b) (own.own_terms p s) ≡ sum_by (link_weight s a b) (map (own.term_at p.terms) (own.all_numbers p)) = omega (arith, all, none) in
    whole ∙ ap (sum_by (link_weight s a b)) (terms_all p fit)
