-- Orders that are not refused are orders of their segments.
use Rattle.std.proofs.Common.{◌≡◌, ◌∙◌, ap, sym, subst, refl, ℕ, ◌+◌, ◌==◌, ◌&&◌, ◌||◌, not, Bool, true, false, cond, List, [], ◌∷◌, ◌++◌, length, length-append, drop, get_or, Some, None, arith, eqb-true, ◌<◌}
use Rattle.std.specs.List.{list_all, AllByRecursion, slice_get}
use Rattle.std.proofs.lemmas.Bool.Decides.{nat_tests}
use Rattle.std.proofs.lemmas.List.{at_drop_more}
use Rattle.std.proofs.lemmas.Option.{slice_get_within, get_or_from_slice_get}
use Rattle.std.specs.List.Sorted.{IsPermutation}
use Rattle.std.proofs.lemmas.List.Sorted.{IsPermutation-refl, IsPermutation-cons, IsPermutation-middle, IsPermutation-trans}
use Rattle.map_base.specs.declared.ids.LineId.{LineId}
use Rattle.order_model.specs.Costs.{AreOrders}
use Rattle.order_model.specs.Places.{has_line}
use Rattle.order_model.proofs.Lines.{both_true, neither, not_true, same_line}
use Rattle.cert_file.specs.Forms.{are_distinct, is_among}
use Rattle.cert_file.specs.Ranges.{IsOrder}
use Rattle.graph_maps.specs.Checking.{is_order, first_disorder}

-- a line that is there has lines before it and lines behind it
parted : (lines : List LineId) (a : LineId) → has_line lines a ≡ true → (before : List LineId) × (behind : List LineId) × (lines ≡ before ++ a ∷ behind)
parted [] a there = absurd cc
parted (b ∷ lines) a there = by (b.0 == a.0) refl (parted lines a) there
  where
    by : (t : Bool) → (b.0 == a.0) ≡ t → (has_line lines a ≡ true → (before : List LineId) × (behind : List LineId) × (lines ≡ before ++ a ∷ behind))
        → (t || has_line lines a) ≡ true → (before : List LineId) × (behind : List LineId) × (b ∷ lines ≡ before ++ a ∷ behind)
    by true is later h = ([], lines, ap (λ (x : LineId). x ∷ lines) (same_line b a is))
    by false is later h = let rest = later h in (b ∷ rest.0, rest.1, ap (λ (xs : List LineId). b ∷ xs) rest.2)

-- another line stays where one is taken out
stays : (before behind : List LineId) (a x : LineId) → (a.0 == x.0) ≡ false → has_line (before ++ a ∷ behind) x ≡ true → has_line (before ++ behind) x ≡ true
stays [] behind a x other there = sym (ap (λ (b : Bool). b || has_line behind x) other) ∙ there
stays (p ∷ before) behind a x other there = by (p.0 == x.0) (stays before behind a x other) there
  where
    by : (t : Bool) → (has_line (before ++ a ∷ behind) x ≡ true → has_line (before ++ behind) x ≡ true) → (t || has_line (before ++ a ∷ behind) x) ≡ true
        → (t || has_line (before ++ behind) x) ≡ true
    by true later h = refl
    by false later h = later h

flipped : (a x : LineId) → (x.0 == a.0) ≡ false → (a.0 == x.0) ≡ false
flipped a x h = grind (arith, nat_tests)

all_stay : (before behind order : List LineId) (a : LineId) → is_among order a ≡ false → list_all (has_line (before ++ a ∷ behind)) order ≡ true
    → list_all (has_line (before ++ behind)) order ≡ true
all_stay before behind [] a none all = refl
all_stay before behind (x ∷ order) a none all =
    let other = neither (x.0 == a.0) (is_among order a) none in
    let each = both_true (has_line (before ++ a ∷ behind) x) (list_all (has_line (before ++ a ∷ behind)) order) all in
    ap (λ (b : Bool). b && list_all (has_line (before ++ behind)) order) (stays before behind a x (flipped a x other.0) each.0)
    ∙ all_stay before behind order a other.1 each.1

-- as many lines as a segment has, each of them one of its, and none twice, are one of its orders
permuted : (order lines : List LineId) → are_distinct order ≡ true → list_all (has_line lines) order ≡ true → length order ≡ length lines → IsPermutation lines order
permuted [] [] distinct all each = IsPermutation-refl []
permuted [] (b ∷ lines) distinct all each = absurd (omega (arith, each))
permuted (a ∷ order) lines distinct all each =
    let apart = both_true (not (is_among order a)) (are_distinct order) distinct in
    let here = both_true (has_line lines a) (list_all (has_line lines) order) all in
    let at = parted lines a here.0 in
    let kept : List LineId = at.0 ++ at.1 in
    let rest = all_stay at.0 at.1 order a (not_true (is_among order a) apart.0) (subst (λ (xs : List LineId). list_all (has_line xs) order ≡ true) at.2 here.1) in
    let first : IsPermutation lines (a ∷ kept) = subst (λ (xs : List LineId). IsPermutation xs (a ∷ kept)) (sym at.2) (IsPermutation-middle at.0 a at.1) in
    let fewer : length order ≡ length kept = omega (arith, each, ap length at.2, length-append at.0 (a ∷ at.1), length-append at.0 at.1) in
    IsPermutation-trans lines (a ∷ kept) (a ∷ order) first (IsPermutation-cons a kept order (permuted order kept apart.1 rest fewer))

-- orders of which none is refused are orders of their segments
pub orders_held : (segs orders : List (List LineId)) (k : ℕ) → AllByRecursion IsOrder orders → length orders ≡ length segs → first_disorder k segs orders ≡ None → AreOrders segs orders
orders_held [] [] k range each none = tt
orders_held (lines ∷ segs) (o ∷ orders) k range each none = by (is_order lines o) refl (orders_held segs orders (k + 1) range.1 (omega (arith, each))) none
  where
    by : (t : Bool) → is_order lines o ≡ t → (first_disorder (k + 1) segs orders ≡ None → AreOrders segs orders)
        → cond t (first_disorder (k + 1) segs orders) (Some (record { 0 = k })) ≡ None → AreOrders (lines ∷ segs) (o ∷ orders)
    by true is later h =
        let parts = both_true (length o == length lines) (list_all (has_line lines) o) is in
        (permuted o lines range.0.distinct parts.1 (eqb-true (length o) (length lines) parts.0), later h)
    by false is later h = absurd cc
orders_held segs orders k range each none = absurd (omega (arith, each))

-- the first disorder from segment s on, by the order of s
pub disorder_at : (segs orders : List (List LineId)) (s : ℕ) (lines order d : List LineId) → slice_get segs s ≡ Some lines → order ≡ get_or orders s d → s < length orders
    → first_disorder s (drop s segs) (drop s orders) ≡ cond (is_order lines order) (first_disorder (s + 1) (drop (s + 1) segs) (drop (s + 1) orders)) (Some (record { 0 = s }))
disorder_at segs orders s lines order d is order_is within =
    at_drop_more (λ (rest : List (List LineId)). first_disorder s rest (drop s orders)) segs s [] (slice_get_within segs s lines is)
    ∙ ap (λ (l : List LineId). first_disorder s (l ∷ drop (s + 1) segs) (drop s orders)) (get_or_from_slice_get segs s lines [] is)
    ∙ at_drop_more (λ (rest : List (List LineId)). first_disorder s (lines ∷ drop (s + 1) segs) rest) orders s d within
    ∙ ap (λ (o : List LineId). first_disorder s (lines ∷ drop (s + 1) segs) (o ∷ drop (s + 1) orders)) (sym order_is)
