-- The terms of a part, by the marks of its segments.
use Rattle.std.proofs.Common.{◌≡◌, ℕ, suc, ◌+◌, ◌<◌, ◌&&◌, Bool, true, false, cond, List, [], ◌∷◌, ◌++◌, length, map, take, get_or, refl, sym, ◌∙◌, ap, subst, arith}
use Rattle.std.specs.List.{All, filter}
use Rattle.std.proofs.lemmas.List.{take_more, length-take-le}
use Rattle.map_base.specs.declared.ids.SegId.{SegId}
use Rattle.map_base.specs.declared.ids.LineId.{LineId}
use Rattle.order_model.specs.Problems.{IsTerm}
use Rattle.order_model.proofs.OrderLemmas.{readable_term}
use Rattle.order_model.specs.declared.term.Term.{Term}
use Rattle.order_model.specs.declared.term.Term.TheVariants.{Side, Link, Apart}
use Rattle.order_model.specs.Costs.{seg_of, other_of, IsReadable}
use Rattle.order_model.specs.PartTerms.{is_in, is_of, numbered_from}
use Rattle.order_search.specs.Members.{AreMarks}

-- the marks tell the terms of the part
marked : (part : List SegId) (count : ℕ) (marks : List Bool) (t : Term) → AreMarks part count marks → IsReadable count t
    → (get_or marks (seg_of t).0 false && get_or marks (other_of t).0 false) ≡ is_of part t
marked part count marks t h readable =
    let known = ends_known count t readable in
    ap (λ x. x && get_or marks (other_of t).0 false) (h.told (seg_of t) known.0) ∙ ap (λ x. is_in part (seg_of t) && x) (h.told (other_of t) known.1)
  where
    ends_known : (n : ℕ) (t : Term) → IsReadable n t → ((seg_of t).0 < n) × ((other_of t).0 < n)
    ends_known n (Side seg first second w) h = (h.0, h.0)
    ends_known n (Link seg other flip a b w) h = (h.0, h.1)
    ends_known n (Apart seg other a b w) h = (h.0, h.1)

-- Numbers of terms, one by one.

abbrev number : ℕ × Term → ℕ
number q = q.0

abbrev pub numbers_so_far : List SegId → List Term → List ℕ
numbers_so_far part terms = map number (filter (λ (q : ℕ × Term). is_of part q.1) (numbered_from 0 terms))

numbered_last : (k : ℕ) (terms : List Term) (t : Term) → numbered_from k (terms ++ t ∷ []) ≡ numbered_from k terms ++ (k + length terms, t) ∷ []
numbered_last k [] t = let e : k ≡ k + 0 = omega arith in ap (λ (n : ℕ). let q : ℕ × Term = (n, t) in q ∷ []) e
numbered_last k (x ∷ terms) t =
    let e : (k + 1) + length terms ≡ k + suc (length terms) = omega arith in
    let cons : List (ℕ × Term) → List (ℕ × Term) = λ l. (k, x) ∷ l in
    ap cons (numbered_last (k + 1) terms t ∙ ap (λ (n : ℕ). let q : ℕ × Term = (n, t) in numbered_from (k + 1) terms ++ q ∷ []) e)

kept_last : (p : ℕ × Term → Bool) (qs : List (ℕ × Term)) (q : ℕ × Term) → map number (filter p (qs ++ q ∷ [])) ≡ map number (filter p qs) ++ cond (p q) (q.0 ∷ []) []
kept_last p [] q = by_test (p q)
  where
    by_test : (b : Bool) → map number (cond b (q ∷ []) []) ≡ cond b (q.0 ∷ []) []
    by_test true = refl
    by_test false = refl
kept_last p (x ∷ qs) q = by_test (p x) (kept_last p qs q)
  where
    by_test : (b : Bool) → map number (filter p (qs ++ q ∷ [])) ≡ map number (filter p qs) ++ cond (p q) (q.0 ∷ []) []
        → map number (cond b (x ∷ filter p (qs ++ q ∷ [])) (filter p (qs ++ q ∷ []))) ≡ map number (cond b (x ∷ filter p qs) (filter p qs)) ++ cond (p q) (q.0 ∷ []) []
    by_test true h = ap (λ l. x.0 ∷ l) h
    by_test false h = h

pub numbers_more : (part : List SegId) (terms : List Term) (i : ℕ) (d : Term) → i < length terms
    → numbers_so_far part (take (i + 1) terms) ≡ numbers_so_far part (take i terms) ++ cond (is_of part (get_or terms i d)) (i ∷ []) []
numbers_more part terms i d below =
    let p : ℕ × Term → Bool = λ q. is_of part q.1 in
    let t : Term = get_or terms i d in
    let count : 0 + length (take i terms) ≡ i = omega (arith, length-take-le i terms (omega (arith, below))) in
    ap (numbers_so_far part) (take_more terms i d below)
    ∙ ap (λ l. map number (filter p l)) (numbered_last 0 (take i terms) t)
    ∙ kept_last p (numbered_from 0 (take i terms)) (0 + length (take i terms), t)
    ∙ ap (λ n. numbers_so_far part (take i terms) ++ cond (is_of part t) (n ∷ []) []) count

-- one term more
pub numbers_step : (segs : List (List LineId)) (part : List SegId) (marks : List Bool) (all terms : List Term) (i : ℕ) (d : Term) (old new : List ℕ) → AreMarks part (length segs) marks
    → terms ≡ all → All (IsTerm segs) all → i < length terms → old ≡ numbers_so_far part (take i terms)
    → new ≡ old ++ cond (get_or marks (seg_of (get_or terms i d)).0 false && get_or marks (other_of (get_or terms i d)).0 false) (i ∷ []) []
    → new ≡ numbers_so_far part (take (i + 1) terms)
numbers_step segs part marks all terms i d old new h same fits below so_far step =
    let t : Term = get_or terms i d in
    let readable : IsReadable (length segs) t = readable_term segs t (subst (All (IsTerm segs)) (sym same) fits i d below) in
    step ∙ ap (λ l. l ++ cond (get_or marks (seg_of t).0 false && get_or marks (other_of t).0 false) (i ∷ []) []) so_far
    ∙ ap (λ x. numbers_so_far part (take i terms) ++ cond x (i ∷ []) []) (marked part (length segs) marks t h readable)
    ∙ sym (numbers_more part terms i d below)
