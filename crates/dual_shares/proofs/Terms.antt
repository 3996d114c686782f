-- The two lines of a term on its segments.
use Rattle.std.proofs.Common.{◌≡◌, ◌≢◌, ℕ, ◌<◌, ◌==◌, true, List, length, get_or, sym, ◌∙◌, ap, subst, arith, eqb-true}
use Rattle.std.specs.Prelude.{Contains}
use Rattle.std.proofs.lemmas.Bool.{eqb-false, ne_eqb}
use Rattle.map_base.specs.declared.ids.SegId.{SegId}
use Rattle.map_base.specs.declared.ids.LineId.{LineId}
use Rattle.order_model.specs.Problems.{lines_on, IsSide, IsPair}
use Rattle.order_model.proofs.PrefixLemmas.{lines_at_segment}
use Rattle.dual_bound.proofs.Segments.{same_seg, contains_placed}
use Rattle.dual_shares.specs.RowSteps.{AreTwoOf}

two_of : (segs : List (List LineId)) (t s : SegId) (a b : LineId) → (t.0 == s.0) ≡ true → Contains (lines_on segs t) a → Contains (lines_on segs t) b → a.0 ≢ b.0 → AreTwoOf (lines_on segs s) a b
two_of segs t s a b here on on_too apart = record {
  first_on = contains_placed (lines_on segs s) a (subst (λ (u : SegId). Contains (lines_on segs u) a) (same_seg t s here) on);
  second_on = contains_placed (lines_on segs s) b (subst (λ (u : SegId). Contains (lines_on segs u) b) (same_seg t s here) on_too);
  differ = ne_eqb a.0 b.0 apart;
}

pub turned_two : (lines : List LineId) (a b : LineId) → AreTwoOf lines a b → AreTwoOf lines b a
turned_two lines a b two = record { first_on = two.second_on; second_on = two.first_on; differ = ne_eqb b.0 a.0 (λ e. eqb-false a.0 b.0 two.differ (sym e)) }

pub side_two : (segs : List (List LineId)) (seg s : SegId) (first second : LineId) (w : ℕ) → IsSide segs seg first second w → (seg.0 == s.0) ≡ true → AreTwoOf (lines_on segs s) second first
side_two segs seg s first second w is here = two_of segs seg s second first here is.second_on is.first_on (λ e. is.differ (sym e))

pub there_two : (segs : List (List LineId)) (seg other s : SegId) (a b : LineId) (w : ℕ) → IsPair segs seg other a b w → (other.0 == s.0) ≡ true → AreTwoOf (lines_on segs s) a b
there_two segs seg other s a b w is there = two_of segs other s a b there is.a_on_other is.b_on_other (λ e. (let less = is.a_below in absurd (omega (arith, less, e))))

pub here_two : (segs : List (List LineId)) (seg other s : SegId) (a b : LineId) (w : ℕ) → IsPair segs seg other a b w → (seg.0 == s.0) ≡ true → AreTwoOf (lines_on segs s) a b
here_two segs seg other s a b w is here = two_of segs seg s a b here is.a_on is.b_on (λ e. (let less = is.a_below in absurd (omega (arith, less, e))))

-- no segment is both ends
pub not_both : (segs : List (List LineId)) (seg other s : SegId) (a b : LineId) (w : ℕ) → IsPair segs seg other a b w → (other.0 == s.0) ≡ true → (seg.0 == s.0) ≡ true → ⊥
not_both segs seg other s a b w is there here =
    let less = is.seg_below in let one = eqb-true other.0 s.0 there in let two = eqb-true seg.0 s.0 here in absurd (omega (arith, less, one, two))

-- the lines of a segment, as they are read
pub lines_read : (segs read : List (List LineId)) (s : SegId) (item lines : List LineId) → s.0 < length segs → read ≡ segs → item ≡ get_or read s.0 item → lines ≡ item → lines ≡ lines_on segs s
lines_read segs read s item lines known same is copy = copy ∙ lines_at_segment segs s.0 item known (is ∙ ap (λ l. get_or l s.0 item) same)
