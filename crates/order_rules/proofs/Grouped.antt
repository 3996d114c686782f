-- An order whose lines of a group are moved before the others: what changes between two lines.
use Rattle.std.proofs.Common.{◌≡◌, ◌==◌, Bool, true, false, cond, ◌||◌, ◌&&◌, List, [], ◌∷◌, refl, sym, ap, ◌∙◌, inl, inr, true≢false}
use Rattle.std.specs.Prelude.{filter}
use Rattle.map_base.specs.declared.ids.LineId.{LineId}
use Rattle.order_model.specs.Costs.{comes_before, are_these, are_neighbours}
use Rattle.order_model.specs.Places.{has_line}
use Rattle.order_model.proofs.Lines.{either_true, same_line}

-- Two lines of one group keep their order.

pub has_filter : (p : LineId → Bool) (xs : List LineId) (a : LineId) → p a ≡ false → has_line (filter p xs) a ≡ false
has_filter p [] a h = refl
has_filter p (x ∷ xs) a h = by_test (p x) refl (has_filter p xs a h)
  where
    by_test : (c : Bool) → p x ≡ c → has_line (filter p xs) a ≡ false → has_line (cond c (x ∷ filter p xs) (filter p xs)) a ≡ false
    by_test false e rest = rest
    by_test true e rest = by_same (x.0 == a.0) refl
      where
        by_same : (d : Bool) → (x.0 == a.0) ≡ d → (d || has_line (filter p xs) a) ≡ false
        by_same true k = absurd (true≢false (sym e ∙ (ap p (same_line x a k) ∙ h)))
        by_same false k = rest

pub has_filtered : (p : LineId → Bool) (xs : List LineId) (a : LineId) → p a ≡ true → has_line (filter p xs) a ≡ has_line xs a
has_filtered p [] a h = refl
has_filtered p (x ∷ xs) a h = by_test (p x) refl (has_filtered p xs a h)
  where
    by_test : (c : Bool) → p x ≡ c → has_line (filter p xs) a ≡ has_line xs a → has_line (cond c (x ∷ filter p xs) (filter p xs)) a ≡ has_line (x ∷ xs) a
    by_test true e rest = ap (λ (m : Bool). (x.0 == a.0) || m) rest
    by_test false e rest = by_same (x.0 == a.0) refl
      where
        by_same : (d : Bool) → (x.0 == a.0) ≡ d → has_line (filter p xs) a ≡ (d || has_line xs a)
        by_same true k = absurd (true≢false (sym h ∙ (ap p (sym (same_line x a k)) ∙ e)))
        by_same false k = rest

pub before_kept : (p : LineId → Bool) (xs : List LineId) (a b : LineId) → p a ≡ true → p b ≡ true → comes_before (filter p xs) a b ≡ comes_before xs a b
before_kept p [] a b ha hb = refl
before_kept p (x ∷ xs) a b ha hb = by_test (p x) refl (before_kept p xs a b ha hb)
  where
    by_test : (c : Bool) → p x ≡ c → comes_before (filter p xs) a b ≡ comes_before xs a b → comes_before (cond c (x ∷ filter p xs) (filter p xs)) a b ≡ comes_before (x ∷ xs) a b
    by_test true e rest = ap (λ (m : Bool). cond (x.0 == a.0) true (cond (x.0 == b.0) false m)) rest
    by_test false e rest = by_same (x.0 == a.0) (x.0 == b.0) refl refl
      where
        by_same : (c d : Bool) → (x.0 == a.0) ≡ c → (x.0 == b.0) ≡ d → comes_before (filter p xs) a b ≡ cond c true (cond d false (comes_before xs a b))
        by_same true d k m = absurd (true≢false (sym ha ∙ (ap p (sym (same_line x a k)) ∙ e)))
        by_same false true k m = absurd (true≢false (sym hb ∙ (ap p (sym (same_line x b m)) ∙ e)))
        by_same false false k m = rest

these_kept : (p : LineId → Bool) (x y a b : LineId) → p a ≡ true → p b ≡ true → p x ≡ false → are_these x y a b ≡ false
these_kept p x y a b ha hb hx = by_same (x.0 == a.0) (x.0 == b.0) refl refl
  where
    by_same : (c d : Bool) → (x.0 == a.0) ≡ c → (x.0 == b.0) ≡ d → ((c && y.0 == b.0) || (d && y.0 == a.0)) ≡ false
    by_same true d k m = absurd (true≢false (sym ha ∙ (ap p (sym (same_line x a k)) ∙ hx)))
    by_same false true k m = absurd (true≢false (sym hb ∙ (ap p (sym (same_line x b m)) ∙ hx)))
    by_same false false k m = refl

these_kept_second : (p : LineId → Bool) (x y a b : LineId) → p a ≡ true → p b ≡ true → p y ≡ false → are_these x y a b ≡ false
these_kept_second p x y a b ha hb hy = by_same (y.0 == a.0) (y.0 == b.0) refl refl
  where
    none : (s t : Bool) → ((s && false) || (t && false)) ≡ false
    none true true = refl
    none true false = refl
    none false true = refl
    none false false = refl

    by_same : (c d : Bool) → (y.0 == a.0) ≡ c → (y.0 == b.0) ≡ d → ((x.0 == a.0 && d) || (x.0 == b.0 && c)) ≡ false
    by_same true d k m = absurd (true≢false (sym ha ∙ (ap p (sym (same_line y a k)) ∙ hy)))
    by_same false true k m = absurd (true≢false (sym hb ∙ (ap p (sym (same_line y b m)) ∙ hy)))
    by_same false false k m = none (x.0 == a.0) (x.0 == b.0)

-- the line that stands before these, if there is one, and the first of these are the two
abbrev pub leads : LineId → List LineId → LineId → LineId → Bool
leads x [] a b = false
leads x (y ∷ ys) a b = are_these x y a b

pub neighbours_cons : (x : LineId) (ys : List LineId) (a b : LineId) → are_neighbours (x ∷ ys) a b ≡ (leads x ys a b || are_neighbours ys a b)
neighbours_cons x [] a b = refl
neighbours_cons x (y ∷ ys) a b = refl

-- two neighbours of one group stay neighbours
pub neighbours_kept : (p : LineId → Bool) (xs : List LineId) (a b : LineId) → p a ≡ true → p b ≡ true → are_neighbours xs a b ≡ true → are_neighbours (filter p xs) a b ≡ true
neighbours_kept p [] a b ha hb h = absurd (true≢false (sym h))
neighbours_kept p (x ∷ []) a b ha hb h = absurd (true≢false (sym h))
neighbours_kept p (x ∷ y ∷ xs) a b ha hb h =
    elim (either_true (are_these x y a b) (are_neighbours (y ∷ xs) a b) h) [
      | inl now ↦ by_both (p x) (p y) refl refl now
      | inr later ↦ by_first (p x) (neighbours_kept p (y ∷ xs) a b ha hb later)
    ]
  where
    by_both : (c d : Bool) → p x ≡ c → p y ≡ d → are_these x y a b ≡ true
        → are_neighbours (cond c (x ∷ cond d (y ∷ filter p xs) (filter p xs)) (cond d (y ∷ filter p xs) (filter p xs))) a b ≡ true
    by_both false d hx hy now = absurd (true≢false (sym now ∙ these_kept p x y a b ha hb hx))
    by_both true false hx hy now = absurd (true≢false (sym now ∙ these_kept_second p x y a b ha hb hy))
    by_both true true hx hy now = ap (λ (m : Bool). m || are_neighbours (y ∷ filter p xs) a b) now

    or_more : (s t : Bool) → t ≡ true → (s || t) ≡ true
    or_more true t k = refl
    or_more false t k = k

    by_first : (c : Bool) → are_neighbours (filter p (y ∷ xs)) a b ≡ true → are_neighbours (cond c (x ∷ filter p (y ∷ xs)) (filter p (y ∷ xs))) a b ≡ true
    by_first true k = neighbours_cons x (filter p (y ∷ xs)) a b ∙ or_more (leads x (filter p (y ∷ xs)) a b) (are_neighbours (filter p (y ∷ xs)) a b) k
    by_first false k = k
