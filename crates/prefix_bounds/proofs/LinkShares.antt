-- What one term adds at a slot, by the cases of a program.
use Rattle.std.proofs.Common.{◌≡◌, ℕ, ◌<◌, ◌==◌, ◌&&◌, ◌||◌, not, Bool, true, false, cond, List, [], ◌∷◌, refl, sym, arith, true≢false, eqb-true}
use Rattle.std.specs.Prelude.{ℤ, pos, ◌+ℤ◌, ◌-ℤ◌}
use Rattle.std.proofs.lemmas.Int.{ints}
use Rattle.map_base.specs.declared.ids.SegId.{SegId}
use Rattle.map_base.specs.declared.ids.LineId.{LineId}
use Rattle.order_model.specs.declared.term.Term.TheVariants.{Side, Link}
use Rattle.order_model.specs.Problems.{lines_on}
use Rattle.order_model.specs.Costs.{comes_before, same_answer}
use Rattle.order_model.specs.Looks.{is_decided}
use Rattle.order_bound.specs.declared.pairs.Pair.{Pair}
use Rattle.order_bound.specs.declared.pairs.OpenLink.{OpenLink}
use Rattle.order_bound.specs.Pairs.{pair_of, is_pair}
use Rattle.order_bound.specs.Bounds.{open_cost}
use Rattle.order_bound.specs.Values.{share, where_one, is_one, is_one_there}
use Rattle.order_values.specs.PriceLists.{price_at}
use Rattle.whole_sums.specs.Sums.{int_sum}
use Rattle.order_check.specs.Slots.{slot_on, slot_share}
use Rattle.prefix_bounds.specs.SlotsSoFar.{link_share}

pub and_nothing : (n : ℕ) → pos n +ℤ pos 0 ≡ pos n
and_nothing n = omega (arith, ints)

-- p: the pair is the slot's; h, t: the segment or the other segment is; d, e: decided on the segment, on the other segment
by_ends : (p h t d e : Bool) (u v : ℕ) (f : OpenLink → ℤ) (l : OpenLink) (x y : ℤ) → (h ≡ true → t ≡ false) → f l ≡ (cond h x (pos 0) +ℤ cond t y (pos 0))
    → (pos (cond (((p && h) && not d) && e) u (cond (((p && t) && d) && not e) v 0)) +ℤ int_sum f (cond (p && not (d || e)) (l ∷ []) []))
    ≡ cond (p && h) (cond d (pos 0) (cond e (pos u) x)) (cond (p && t) (cond e (pos 0) (cond d (pos v) y)) (pos 0))
by_ends false h t d e u v f l x y one is = refl
by_ends true true true d e u v f l x y one is = absurd (true≢false (one refl))
by_ends true true false true e u v f l x y one is = refl
by_ends true true false false true u v f l x y one is = and_nothing u
by_ends true true false false false u v f l x y one is = shared (f l) x is
  where
    shared : (a x : ℤ) → a ≡ (x +ℤ pos 0) → pos 0 +ℤ (a +ℤ pos 0) ≡ x
    shared a x e = omega (arith, ints)
by_ends true false true true true u v f l x y one is = refl
by_ends true false true false true u v f l x y one is = refl
by_ends true false true true false u v f l x y one is = and_nothing v
by_ends true false true false false u v f l x y one is = shared (f l) y is
  where
    shared : (a y : ℤ) → a ≡ (pos 0 +ℤ y) → pos 0 +ℤ (a +ℤ pos 0) ≡ y
    shared a y e = omega (arith, ints)
by_ends true false false true true u v f l x y one is = refl
by_ends true false false true false u v f l x y one is = refl
by_ends true false false false true u v f l x y one is = refl
by_ends true false false false false u v f l x y one is = shared (f l) is
  where
    shared : (a : ℤ) → a ≡ (pos 0 +ℤ pos 0) → pos 0 +ℤ (a +ℤ pos 0) ≡ pos 0
    shared a e = omega (arith, ints)

pub link_is : (placed : List (List LineId)) (prices : List (ℕ × ℤ)) (at : SegId) (p : Pair) (x : Bool) (l : OpenLink) (a b : LineId) → l.seg.0 < l.other.0
    → link_share placed prices at p x l a b ≡ slot_share placed prices (slot_on at p) x (l.number, Link l.seg l.other l.flip a b l.weight)
link_is placed prices at p x l a b rising =
    sym (by_ends (is_pair p (pair_of a b)) (l.seg.0 == at.0) (l.other.0 == at.0) (is_decided placed l.seg a b) (is_decided placed l.other a b)
    (cond (same_answer l.flip (same_answer x (comes_before (lines_on placed l.other) a b))) l.weight 0)
    (cond (same_answer l.flip (same_answer (comes_before (lines_on placed l.seg) a b) x)) l.weight 0)
    (λ m. share (price_at prices m.number) m at x) l
    (where_one (is_one x) (pos 0 -ℤ price_at prices l.number)) (where_one (is_one_there l x) (price_at prices l.number)) one refl)
  where
    one : (l.seg.0 == at.0) ≡ true → (l.other.0 == at.0) ≡ false
    one e = by_test (l.other.0 == at.0) refl
      where
        by_test : (c : Bool) → (l.other.0 == at.0) ≡ c → c ≡ false
        by_test false f = refl
        by_test true f = absurd (omega (arith, rising, eqb-true l.seg.0 at.0 e, eqb-true l.other.0 at.0 f))

pub side_is : (placed : List (List LineId)) (prices : List (ℕ × ℤ)) (at : SegId) (p : Pair) (x : Bool) (n : ℕ) (seg : SegId) (first second : LineId) (w : ℕ)
    → slot_share placed prices (slot_on at p) x (n, Side seg first second w) ≡ pos (open_cost placed p at x (Side seg first second w))
side_is placed prices at p x n seg first second w = and_nothing (open_cost placed p at x (Side seg first second w))
