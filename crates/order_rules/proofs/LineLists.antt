-- Lists of lines walked from the front: what is left to be looked at decides.
use Rattle.std.proofs.Common.{◌≡◌, ◌≢◌, ℕ, zero, suc, ◌+◌, ◌<◌, ◌≤◌, ◌==◌, Bool, true, false, not, cond, ◌||◌, ◌&&◌, List, [], ◌∷◌, length, get_or, drop, refl, sym, ap, ◌∙◌, arith, nat_lt}
use Rattle.std.specs.Prelude.{filter}
use Rattle.std.specs.List.{list_all, list_any}
use Rattle.map_base.specs.declared.ids.LineId.{LineId}
use Rattle.order_rules.specs.Merging.{same_lines}
use Rattle.order_model.specs.Places.{has_line}
use Rattle.order_rules.specs.Dividing.{are_none, is_rising, others}

drop_all : {A : Type 0} (xs : List A) (i : ℕ) → length xs ≤ i → drop i xs ≡ []
drop_all [] zero h = refl
drop_all [] (suc i) h = refl
drop_all (x ∷ xs) zero h = absurd (omega (arith, h))
drop_all (x ∷ xs) (suc i) h = drop_all xs i (omega (arith, h))

drop_next : {A : Type 0} (xs : List A) (i : ℕ) (d : A) → i < length xs → drop i xs ≡ get_or xs i d ∷ drop (i + 1) xs
drop_next [] i d h = absurd (omega (arith, h))
drop_next (x ∷ xs) zero d h = refl
drop_next {A} (x ∷ xs) (suc i) d h =
    let one : suc (i + 1) ≡ suc i + 1 = omega arith in
    drop_next xs i d (omega (arith, h)) ∙ ap (λ (n : ℕ). get_or xs i d ∷ drop n (x ∷ xs)) one

pub lengths_differ : (xs ys : List LineId) → length xs ≢ length ys → same_lines xs ys ≡ false
lengths_differ [] [] h = absurd (h refl)
lengths_differ [] (y ∷ ys) h = refl
lengths_differ (x ∷ xs) [] h = refl
lengths_differ (x ∷ xs) (y ∷ ys) h = by_test (x.0 == y.0) (lengths_differ xs ys (λ e. h (ap suc e)))
  where
    by_test : (c : Bool) → same_lines xs ys ≡ false → (c && same_lines xs ys) ≡ false
    by_test true k = k
    by_test false k = refl

pub lines_more : (xs ys : List LineId) (i : ℕ) (x y : LineId) → i < length xs → length xs ≡ length ys → x ≡ get_or xs i x → y ≡ get_or ys i y
    → same_lines (drop i xs) (drop i ys) ≡ (x.0 == y.0 && same_lines (drop (i + 1) xs) (drop (i + 1) ys))
lines_more xs ys i x y h k is_x is_y =
    let left = drop_next xs i x h ∙ ap (λ (z : LineId). z ∷ drop (i + 1) xs) (sym is_x) in
    let right = drop_next ys i y (omega (arith, h, k)) ∙ ap (λ (z : LineId). z ∷ drop (i + 1) ys) (sym is_y) in
    ap (λ (zs : List LineId). same_lines zs (drop i ys)) left ∙ ap (same_lines (x ∷ drop (i + 1) xs)) right

pub lines_done : (xs ys : List LineId) (i : ℕ) → length xs ≤ i → length xs ≡ length ys → same_lines (drop i xs) (drop i ys) ≡ true
lines_done xs ys i h k =
    ap (λ (zs : List LineId). same_lines zs (drop i ys)) (drop_all xs i h) ∙ ap (same_lines []) (drop_all ys i (omega (arith, h, k)))

pub rising_more : (xs : List LineId) (i : ℕ) (x y : LineId) → i + 1 < length xs → x ≡ get_or xs i x → y ≡ get_or xs (i + 1) y
    → is_rising (drop i xs) ≡ (nat_lt x.0 y.0 && is_rising (drop (i + 1) xs))
rising_more xs i x y h is_x is_y =
    let next = drop_next xs (i + 1) y h ∙ ap (λ (z : LineId). z ∷ drop (i + 1 + 1) xs) (sym is_y) in
    let all = drop_next xs i x (omega (arith, h)) ∙ (ap (λ (z : LineId). z ∷ drop (i + 1) xs) (sym is_x) ∙ ap (λ (zs : List LineId). x ∷ zs) next) in
    ap is_rising all ∙ ap (λ (zs : List LineId). nat_lt x.0 y.0 && is_rising zs) (sym next)

pub rising_done : (xs : List LineId) (i : ℕ) → length xs ≤ i + 1 → is_rising (drop i xs) ≡ true
rising_done [] zero h = refl
rising_done [] (suc i) h = refl
rising_done (x ∷ []) zero h = refl
rising_done (x ∷ y ∷ xs) zero h = absurd (omega (arith, h))
rising_done (x ∷ xs) (suc i) h = rising_done xs i (omega (arith, h))

-- what all pass that are not of a group
pub all_of_filter : (out p : LineId → Bool) (xs : List LineId) → list_all p (filter (λ x. not (out x)) xs) ≡ list_all (λ x. out x || p x) xs
all_of_filter out p [] = refl
all_of_filter out p (x ∷ xs) = by_test (out x) (all_of_filter out p xs)
  where
    by_test : (c : Bool) → list_all p (filter (λ y. not (out y)) xs) ≡ list_all (λ y. out y || p y) xs
        → list_all p (cond (not c) (x ∷ filter (λ y. not (out y)) xs) (filter (λ y. not (out y)) xs)) ≡ ((c || p x) && list_all (λ y. out y || p y) xs)
    by_test true rest = rest
    by_test false rest = ap (λ (b : Bool). p x && b) rest

-- what leaves some lines over

pub none_by_length : (xs : List LineId) → length xs ≡ 0 → are_none xs ≡ true
none_by_length [] h = refl
none_by_length (x ∷ xs) h = absurd (omega (arith, h))

pub some_by_length : (xs : List LineId) → length xs ≢ 0 → are_none xs ≡ false
some_by_length [] h = absurd (h refl)
some_by_length (x ∷ xs) h = refl

pub any_left : (group lines : List LineId) → list_any (λ b. not (has_line group b)) lines ≡ not (are_none (others lines group))
any_left group [] = refl
any_left group (b ∷ lines) = by_test (has_line group b) (any_left group lines)
  where
    by_test : (c : Bool) → list_any (λ d. not (has_line group d)) lines ≡ not (are_none (others lines group))
        → (not c || list_any (λ d. not (has_line group d)) lines) ≡ not (are_none (cond (not c) (b ∷ others lines group) (others lines group)))
    by_test true rest = rest
    by_test false rest = refl
