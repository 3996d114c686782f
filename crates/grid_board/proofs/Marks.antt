-- Flags by the numbers of points, where some are raised or lowered.
use Rattle.std.proofs.Common.{◌≡◌, refl, sym, ◌∙◌, ap, ap₂, subst, ℕ, ◌<◌, Bool, true, false, cond, ◌&&◌, ◌||◌, List, [], ◌∷◌, ◌++◌, length, get_or, set, ℤ, arith, length-set, get_or-set_same, get_or-set_other}
use Rattle.std.specs.Ordering.{int_eq}
use Rattle.std.proofs.lemmas.Int.{ints}
use Rattle.std.proofs.lemmas.Bool.{and_parts, and_from}
use Rattle.octi_grid.specs.declared.point.GridPoint.{GridPoint}
use Rattle.octi_grid.specs.Ways.{are_one}
use Rattle.grid_board.specs.declared.bounds.Bounds.{Bounds}
use Rattle.grid_board.specs.Boards.{contains, cells_of, cell_of, point_of, is_marked}
use Rattle.grid_board.specs.Taking.{flagged}
use Rattle.grid_board.proofs.Within.{IsInside, inside_facts, inside_test, point_below, point_of-cell}

-- the test of one point
int_eq-true : (a b : ℤ) → int_eq a b ≡ true → a ≡ b
int_eq-true a b e = grind (arith, ints)

int_eq-same : (a : ℤ) → int_eq a a ≡ true
int_eq-same a = grind (arith, ints)

pub one_true : (p q : GridPoint) → are_one p q ≡ true → p ≡ q
one_true p q e =
    let parts = and_parts (int_eq p.x q.x) (int_eq p.y q.y) e in
    ap₂ (λ (x y : ℤ). record { x = x; y = y }) (int_eq-true p.x q.x parts.0) (int_eq-true p.y q.y parts.1)

pub one_same : (p : GridPoint) → are_one p p ≡ true
one_same p = and_from (int_eq p.x p.x) (int_eq p.y p.y) (int_eq-same p.x) (int_eq-same p.y)

pub one_is : (p q : GridPoint) → p ≡ q → are_one p q ≡ true
one_is p q e = subst (λ (r : GridPoint). are_one p r ≡ true) e (one_same p)

-- points of one number are one
same_cells : (b : Bounds) (p q : GridPoint) → IsInside b p → IsInside b q → cell_of b p ≡ cell_of b q → p ≡ q
same_cells b p q h k e = sym (point_of-cell b p h) ∙ ap (point_of b) e ∙ point_of-cell b q k

-- a flag was set
pub marked_set : (b : Bounds) (flags : List Bool) (at : GridPoint) (v : Bool) (p : GridPoint) → length flags ≡ cells_of b → IsInside b at →
    is_marked b (set flags (cell_of b at) v) p ≡ cond (are_one at p) v (is_marked b flags p)
marked_set b flags at v p each inside = of_one (are_one at p) refl
  where
    below : cell_of b at < length flags
    below = subst (λ (n : ℕ). cell_of b at < n) (sym each) (point_below b at inside)

    of_inside : are_one at p ≡ false → (t : Bool) → contains b p ≡ t → (t && get_or (set flags (cell_of b at) v) (cell_of b p) false) ≡ (t && get_or flags (cell_of b p) false)
    of_inside apart true e =
        get_or-set_other flags (cell_of b at) (cell_of b p) v false
        (λ same. let one : are_one at p ≡ true = one_is at p (same_cells b at p inside (inside_facts b p e) (sym same)) in let clash : true ≡ false = sym one ∙ apart in cc)
    of_inside apart false e = refl

    of_one : (t : Bool) → are_one at p ≡ t → is_marked b (set flags (cell_of b at) v) p ≡ cond t v (is_marked b flags p)
    of_one true e =
        let same : at ≡ p = one_true at p e in
        subst (λ (q : GridPoint). is_marked b (set flags (cell_of b at) v) q ≡ v) same
        (ap (λ t. t && get_or (set flags (cell_of b at) v) (cell_of b at) false) (inside_test b at inside) ∙ get_or-set_same flags (cell_of b at) v false below)
    of_one false e = of_inside e (contains b p) refl

pub cond_or : (t x : Bool) → cond t true x ≡ (t || x)
cond_or true x = refl
cond_or false x = refl

-- flags of some points were raised or lowered
pub AllInside : Bounds → List GridPoint → Type 0
AllInside b [] = Unit {0}
AllInside b (p ∷ ps) = IsInside b p × AllInside b ps

pub length-flagged : (b : Bounds) (v : Bool) (ps : List GridPoint) (flags : List Bool) → length (flagged b v flags ps) ≡ length flags
length-flagged b v [] flags = refl
length-flagged b v (p ∷ ps) flags = length-flagged b v ps (set flags (cell_of b p) v) ∙ length-set flags (cell_of b p) v

pub flagged-append : (b : Bounds) (v : Bool) (ps qs : List GridPoint) (flags : List Bool) → flagged b v flags (ps ++ qs) ≡ flagged b v (flagged b v flags ps) qs
flagged-append b v [] qs flags = refl
flagged-append b v (p ∷ ps) qs flags = flagged-append b v ps qs (set flags (cell_of b p) v)
