-- Both segments of a term of a problem are of one part.
use Rattle.std.proofs.Common.{◌≡◌, ◌≢◌, ℕ, zero, suc, ◌<◌, ◌==◌, ◌&&◌, ◌||◌, Bool, true, false, List, [], ◌∷◌, length, get_or, refl, sym, ◌∙◌, ap, arith, inl, inr, eq-eqb, IsTrue}
use Rattle.std.specs.List.{All, Contains}
use Rattle.std.proofs.lemmas.Bool.{cases_lt, le-leb}
use Rattle.std.proofs.lemmas.List.Elements.{All-nil, All-cons}
use Rattle.map_base.specs.declared.ids.SegId.{SegId}
use Rattle.map_base.specs.declared.ids.LineId.{LineId}
use Rattle.order_model.specs.declared.term.Term.{Term}
use Rattle.order_model.specs.declared.term.Term.TheVariants.{Side, Link, Apart}
use Rattle.order_model.specs.Problems.{IsOn, IsTerm, IsPair}
use Rattle.order_model.specs.Costs.{seg_of, other_of}
use Rattle.order_model.specs.Parts.{are_ends, is_between, is_wide, AreParts}
use Rattle.order_model.specs.Parts.Reaches.{itself, onward}
use Rattle.order_model.proofs.RisingLines.{few_rising}
use Rattle.order_model.specs.PartTerms.{is_in}
use Rattle.order_model.specs.Numbers.{number_of}
use Rattle.order_model.proofs.Shares.{contains_in, in_contained}
use Rattle.order_model.proofs.PartNumbers.{number_within}

-- A segment with two different lines has something to order.

two_rising : (segs : List (List LineId)) (s : SegId) (a b : LineId) → a.0 < b.0 → IsOn segs s a → IsOn segs s b → IsTrue (is_wide segs s.0)
two_rising segs s a b below p q =
    let lines : List LineId = get_or segs s.0 [] in
    let some : All (Contains lines) (a ∷ b ∷ []) = All-cons (Contains lines) a (b ∷ []) p (All-cons (Contains lines) b [] q (All-nil (Contains lines))) in
    le-leb 2 (length lines) (few_rising (a ∷ b ∷ []) lines (below, tt) some)

two_lines : (segs : List (List LineId)) (s : SegId) (a b : LineId) → a.0 ≢ b.0 → IsOn segs s a → IsOn segs s b → IsTrue (is_wide segs s.0)
two_lines segs s a b differ p q = elim (cases_lt a.0 b.0) [
  | inl below ↦ two_rising segs s a b below p q
  | inr over ↦ two_rising segs s b a (omega (arith, over, differ)) q p
]

-- the segment of a term is known and has something to order
pub end_known : (segs : List (List LineId)) (t : Term) → IsTerm segs t → (seg_of t).0 < length segs
end_known segs (Side seg first second w) h = h.seg_known
end_known segs (Link seg other flip a b w) h = omega (arith, h.seg_below, h.other_known)
end_known segs (Apart seg other a b w) h = omega (arith, h.seg_below, h.other_known)

pub end_wide : (segs : List (List LineId)) (t : Term) → IsTerm segs t → IsTrue (is_wide segs (seg_of t).0)
end_wide segs (Side seg first second w) h = two_lines segs seg first second h.differ h.first_on h.second_on
end_wide segs (Link seg other flip a b w) h = two_rising segs seg a b h.a_below h.a_on h.b_on
end_wide segs (Apart seg other a b w) h = two_rising segs seg a b h.a_below h.a_on h.b_on

-- Its two segments are of the same parts.

bool_same : (a b : Bool) → (a ≡ true → b ≡ true) → (b ≡ true → a ≡ true) → a ≡ b
bool_same true b there back = sym (there refl)
bool_same false true there back = back refl
bool_same false false there back = refl

ends_there : (e f : ℕ) → are_ends e f e f ≡ true
ends_there e f = rw (eq-eqb e e refl, eq-eqb f f refl) refl

ends_back : (e f : ℕ) → are_ends e f f e ≡ true
ends_back e f = by_first (e == f && f == e)
  where
    by_first : (b : Bool) → (b || (e == e && f == f)) ≡ true
    by_first true = refl
    by_first false = rw (eq-eqb e e refl, eq-eqb f f refl) refl

module _ (segs : List (List LineId)) (terms : List Term) (parts : List (List SegId)) (ok : AreParts segs terms parts) where
  goes_along : (p : List SegId) (s t : SegId) (x : Term) → Contains parts p → Contains terms x → is_between x s.0 t.0 ≡ true
      → t.0 < length segs → IsTrue (is_wide segs t.0) → is_in p s ≡ true → is_in p t ≡ true
  goes_along p s t x p_in x_in between known wide h =
      in_contained p t ((ok.classes p s t p_in (contains_in p s h) known wide).1 (onward s.0 t.0 t.0 x x_in between (itself t.0)))

  pair_in : (p : List SegId) (seg other : SegId) (a b : LineId) (w : ℕ) (x : Term) → Contains parts p → Contains terms x → IsPair segs seg other a b w
      → is_between x seg.0 other.0 ≡ true → is_between x other.0 seg.0 ≡ true → is_in p seg ≡ is_in p other
  pair_in p seg other a b w x p_in x_in h there back = bool_same (is_in p seg) (is_in p other)
      (goes_along p seg other x p_in x_in there h.other_known (two_rising segs other a b h.a_below h.a_on_other h.b_on_other))
      (goes_along p other seg x p_in x_in back (omega (arith, h.seg_below, h.other_known)) (two_rising segs seg a b h.a_below h.a_on h.b_on))

  pub same_part : (p : List SegId) (t : Term) → Contains parts p → Contains terms t → IsTerm segs t → is_in p (seg_of t) ≡ is_in p (other_of t)
  same_part p (Side seg first second w) p_in t_in h = refl
  same_part p (Link seg other flip a b w) p_in t_in h =
      pair_in p seg other a b w (Link seg other flip a b w) p_in t_in h (ends_there seg.0 other.0) (ends_back seg.0 other.0)
  same_part p (Apart seg other a b w) p_in t_in h =
      pair_in p seg other a b w (Apart seg other a b w) p_in t_in h (ends_there seg.0 other.0) (ends_back seg.0 other.0)

  -- a segment with something to order has the number of a part
  pub number_known : (s : SegId) → s.0 < length segs → IsTrue (is_wide segs s.0) → number_of parts s < length parts
  number_known s known wide =
      let own = ok.covered s known wide in
      let p : List SegId = own.0 in
      let here : get_or parts own.1.0 [] ≡ p = own_default parts own.1.0 p own.1.1 own.1.2 in
      omega (arith, own.1.1, number_within parts own.1.0 s own.1.1 (ap (λ q. is_in q s) here ∙ in_contained p s own.2))
    where
      own_default : (ps : List (List SegId)) (k : ℕ) (p : List SegId) → k < length ps → get_or ps k p ≡ p → get_or ps k [] ≡ p
      own_default [] k p below is = absurd (omega (arith, below))
      own_default (q ∷ ps) zero p below is = is
      own_default (q ∷ ps) (suc k) p below is = own_default ps k p (omega (arith, below)) is
