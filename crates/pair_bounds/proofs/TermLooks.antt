-- What is looked up of a term is what the definitions say of it, for the pair of its lines.
use Rattle.std.proofs.Common.{◌≡◌, ◌≢◌, ℕ, ◌==◌, nat_lt, Bool, true, false, not, cond, ◌||◌, ◌&&◌, List, [], ◌∷◌, refl, sym, ap, subst, ◌∙◌, eqb-true, eq-eqb, true≢false}
use Rattle.std.specs.Prelude.{Some, None}
use Rattle.map_base.specs.declared.ids.SegId.{SegId}
use Rattle.map_base.specs.declared.ids.LineId.{LineId}
use Rattle.order_model.specs.declared.term.Term.{Term}
use Rattle.order_model.specs.declared.term.Term.TheVariants.{Side, Link, Apart}
use Rattle.order_model.specs.Problems.{lines_on, IsTerm}
use Rattle.order_model.specs.Costs.{comes_before, same_answer}
use Rattle.order_model.specs.Looks.{is_decided}
use Rattle.pair_bounds.specs.Counted.{counted_cost}
use Rattle.order_bound.specs.Pairs.{pair_of, pair_in, is_pair, open_link}
use Rattle.order_bound.specs.declared.pairs.Pair.{Pair}
use Rattle.order_bound.specs.Bounds.{open_cost}
use Rattle.pair_bounds.specs.TermLooks.{link_by, side_look, look_of, look_decided, look_open, look_link}
use Rattle.order_bound.proofs.Lists.{is_false}
use Rattle.order_bound.proofs.Completing.{pair_itself}
use Rattle.pair_bounds.specs.declared.term_look.TermLook.TheVariants.{Decided, OnSegment, Between}
use Rattle.order_bound.proofs.TermCosts.{pair, link_gate}

pub decided_is : (segs placed : List (List LineId)) (k : ℕ) (t : Term) → counted_cost segs placed t ≡ look_decided (look_of segs placed k t)
decided_is segs placed k (Side seg first second w) = by_test (is_decided placed seg first second) (nat_lt first.0 second.0)
  where
    by_test : (d e : Bool) → cond d (cond (comes_before (lines_on placed seg) second first) w 0) 0
        ≡ look_decided (cond d (Decided (cond (comes_before (lines_on placed seg) second first) w 0)) (OnSegment seg (cond e 0 w) (cond e w 0)))
    by_test true e = refl
    by_test false e = refl
decided_is segs placed k (Link seg other flip a b w) = by_tests (is_decided placed seg a b) (is_decided placed other a b)
  where
    by_tests : (d e : Bool) → cond (d && e) (link_by flip w (comes_before (lines_on placed seg) a b) (comes_before (lines_on placed other) a b)) 0
        ≡ look_decided (cond d (cond e (Decided (link_by flip w (comes_before (lines_on placed seg) a b) (comes_before (lines_on placed other) a b)))
        (OnSegment other (link_by flip w (comes_before (lines_on placed seg) a b) true) (link_by flip w (comes_before (lines_on placed seg) a b) false)))
        (cond e (OnSegment seg (link_by flip w true (comes_before (lines_on placed other) a b)) (link_by flip w false (comes_before (lines_on placed other) a b)))
        (Between (record { number = k; seg = seg; other = other; flip = flip; weight = w }))))
    by_tests true true = refl
    by_tests true false = refl
    by_tests false true = refl
    by_tests false false = refl
decided_is segs placed k (Apart seg other a b w) = refl

-- what a term adds on a segment, for its own pair

gate_if : (a b d : Bool) (x : ℕ) → a ≡ true → cond ((a && b) && not d) x 0 ≡ cond d 0 (cond b x 0)
gate_if true true true x h = refl
gate_if true true false x h = refl
gate_if true false true x h = refl
gate_if true false false x h = refl
gate_if false b d x h = absurd (true≢false (sym h))

differ_test : (first second : LineId) → first.0 ≢ second.0 → (first.0 == second.0) ≡ false
differ_test first second ne = is_false (first.0 == second.0) (λ e. ne (eqb-true first.0 second.0 e))

side_open : (first second : LineId) (w : ℕ) (x : Bool) → first.0 ≢ second.0
    → cond (same_answer (first.0 == (pair_of first second).lesser.0) x) 0 w ≡ cond x (cond (nat_lt first.0 second.0) 0 w) (cond (nat_lt first.0 second.0) w 0)
side_open first second w x ne = by_test (nat_lt first.0 second.0) x
  where
    by_test : (e x : Bool) → cond (same_answer (first.0 == (cond e (pair first second) (pair second first)).lesser.0) x) 0 w ≡ cond x (cond e 0 w) (cond e w 0)
    by_test true true = let here = eq-eqb first.0 first.0 refl in rw here refl
    by_test true false = let here = eq-eqb first.0 first.0 refl in rw here refl
    by_test false true = let here = differ_test first second ne in rw here refl
    by_test false false = let here = differ_test first second ne in rw here refl

pub open_is : (segs placed : List (List LineId)) (p : Pair) (s : SegId) (x : Bool) (k : ℕ) (t : Term) → IsTerm segs t → p ≡ pair_in t → open_cost placed p s x t ≡ look_open s x (look_of segs placed k t)
open_is segs placed p s x k (Side seg first second w) known mine =
    subst (λ q. open_cost placed q s x (Side seg first second w) ≡ look_open s x (side_look placed seg first second w)) (sym mine)
    (gate_if (is_pair (pair_of first second) (pair_of first second)) (seg.0 == s.0) (is_decided placed seg first second)
    (cond (same_answer (first.0 == (pair_of first second).lesser.0) x) 0 w) (pair_itself (pair_of first second))
    ∙ (ap (λ n. cond (is_decided placed seg first second) 0 (cond (seg.0 == s.0) n 0)) (side_open first second w x known.differ)
    ∙ by_tests (is_decided placed seg first second) (nat_lt first.0 second.0)))
  where
    by_tests : (d e : Bool) → cond d 0 (cond (seg.0 == s.0) (cond x (cond e 0 w) (cond e w 0)) 0)
        ≡ look_open s x (cond d (Decided (cond (comes_before (lines_on placed seg) second first) w 0)) (OnSegment seg (cond e 0 w) (cond e w 0)))
    by_tests true e = refl
    by_tests false e = refl
open_is segs placed p s x k (Link seg other flip a b w) known mine =
    subst (λ q. open_cost placed q s x (Link seg other flip a b w) ≡ look_open s x (look_of segs placed k (Link seg other flip a b w))) (sym mine)
    (link_gate (is_pair (pair_of a b) (pair_of a b)) (seg.0 == s.0) (other.0 == s.0) (is_decided placed seg a b) (is_decided placed other a b)
    (link_by flip w x (comes_before (lines_on placed other) a b)) (link_by flip w (comes_before (lines_on placed seg) a b) x)
    ∙ by_tests (is_pair (pair_of a b) (pair_of a b)) (pair_itself (pair_of a b)) (is_decided placed seg a b) (is_decided placed other a b) (seg.0 == s.0) refl (other.0 == s.0) refl x)
  where
    by_tests : (i : Bool) → i ≡ true → (d e : Bool) (m : Bool) → (seg.0 == s.0) ≡ m → (n : Bool) → (other.0 == s.0) ≡ n → (x : Bool)
        → cond (not d && e) (cond (i && m) (link_by flip w x (comes_before (lines_on placed other) a b)) 0) (cond (d && not e) (cond (i && n) (link_by flip w (comes_before (lines_on placed seg) a b) x) 0) 0)
        ≡ look_open s x (cond d (cond e (Decided (link_by flip w (comes_before (lines_on placed seg) a b) (comes_before (lines_on placed other) a b)))
        (OnSegment other (link_by flip w (comes_before (lines_on placed seg) a b) true) (link_by flip w (comes_before (lines_on placed seg) a b) false)))
        (cond e (OnSegment seg (link_by flip w true (comes_before (lines_on placed other) a b)) (link_by flip w false (comes_before (lines_on placed other) a b)))
        (Between (record { number = k; seg = seg; other = other; flip = flip; weight = w }))))
    by_tests false h d e m mm n nn x = absurd (true≢false (sym h))
    by_tests true h true true m mm n nn x = refl
    by_tests true h false false m mm n nn x = refl
    by_tests true h true false m mm true nn true = rw nn refl
    by_tests true h true false m mm true nn false = rw nn refl
    by_tests true h true false m mm false nn x = rw nn refl
    by_tests true h false true true mm n nn true = rw mm refl
    by_tests true h false true true mm n nn false = rw mm refl
    by_tests true h false true false mm n nn x = rw mm refl
open_is segs placed p s x k (Apart seg other a b w) known mine = refl

pub link_is : (segs placed : List (List LineId)) (p : Pair) (k : ℕ) (t : Term) → p ≡ pair_in t → open_link placed p k t ≡ look_link (look_of segs placed k t)
link_is segs placed p k (Side seg first second w) mine = by_test (is_decided placed seg first second)
  where
    by_test : (d : Bool) → [] ≡ look_link (cond d (Decided (cond (comes_before (lines_on placed seg) second first) w 0)) (OnSegment seg (cond (nat_lt first.0 second.0) 0 w) (cond (nat_lt first.0 second.0) w 0)))
    by_test true = refl
    by_test false = refl
link_is segs placed p k (Link seg other flip a b w) mine =
    subst (λ q. open_link placed q k (Link seg other flip a b w) ≡ look_link (look_of segs placed k (Link seg other flip a b w))) (sym mine)
    (by_tests (is_pair (pair_of a b) (pair_of a b)) (pair_itself (pair_of a b)) (is_decided placed seg a b) (is_decided placed other a b))
  where
    by_tests : (i : Bool) → i ≡ true → (d e : Bool) → cond (i && not (d || e)) (record { number = k; seg = seg; other = other; flip = flip; weight = w } ∷ []) []
        ≡ look_link (cond d (cond e (Decided (link_by flip w (comes_before (lines_on placed seg) a b) (comes_before (lines_on placed other) a b)))
        (OnSegment other (link_by flip w (comes_before (lines_on placed seg) a b) true) (link_by flip w (comes_before (lines_on placed seg) a b) false)))
        (cond e (OnSegment seg (link_by flip w true (comes_before (lines_on placed other) a b)) (link_by flip w false (comes_before (lines_on placed other) a b)))
        (Between (record { number = k; seg = seg; other = other; flip = flip; weight = w }))))
    by_tests false h d e = absurd (true≢false (sym h))
    by_tests true h true true = refl
    by_tests true h true false = refl
    by_tests true h false true = refl
    by_tests true h false false = refl
link_is segs placed p k (Apart seg other a b w) mine = refl
