-- Spots and their numbers.
use Rattle.std.proofs.Common.{◌≡◌, ◌≢◌, refl, sym, ◌∙◌, ap, ap₂, subst, ℕ, ◌+◌, ◌*◌, ◌/◌, ◌%◌, ◌<◌, inl, inr, cond, eqb, Option, Some, None, arith}
use Rattle.std.specs.Prelude.{IfSome}
use Rattle.std.proofs.lemmas.Bool.{ne_eqb, eq-eqb, eqb-true, cases_eq, cases_Bool}
use Rattle.octi_grid.specs.declared.point.GridPoint.{GridPoint}
use Rattle.grid_board.specs.declared.bounds.Bounds.{Bounds}
use Rattle.walk_search.specs.declared.spots.Spot.{Spot}
use Rattle.grid_board.specs.Boards.{AreBounds, cells_of, cell_of, point_of}
use Rattle.walk_search.specs.Spots.{IsSpot, number_of_spot, spots_of, spot_of}
use Rattle.grid_board.proofs.Within.{inside_facts, inside_test, point_below, point_inside, point_of-cell, cell_of-point, frame_of}

parts : (cell a g : ℕ) → a < 9 → g < 10 → ((((cell * 10 + g) * 9 + a) / 90) ≡ cell) × ((((cell * 10 + g) * 9 + a) % 9) ≡ a) × (((((cell * 10 + g) * 9 + a) / 9) % 10) ≡ g)
parts cell a g h k = (omega arith, omega arith, omega arith)

below_all : (cell cells a g : ℕ) → cell < cells → a < 9 → g < 10 → (cell * 10 + g) * 9 + a < 90 * cells
below_all cell cells a g h k l = omega arith

pub number_below_spots : (b : Bounds) (s : Spot) → IsSpot b s → number_of_spot b s < spots_of b
number_below_spots b s h = below_all (cell_of b s.at) (cells_of b) s.arrival s.group (point_below b s.at (inside_facts b s.at h.inside)) h.arrival h.group

pub spot_of-number : (b : Bounds) (s : Spot) → IsSpot b s → spot_of b (number_of_spot b s) ≡ Some s
spot_of-number b s h =
    ap (λ t. cond t None (Some (spot_at n))) (ne_eqb n (spots_of b) (λ e. apart e)) ∙ ap Some same
  where
    n : ℕ
    n = number_of_spot b s

    spot_at : ℕ → Spot
    spot_at m = record { at = point_of b (m / 90); arrival = m % 9; group = m / 9 % 10 }

    apart : n ≡ spots_of b → ⊥
    apart e = let less : n < spots_of b = number_below_spots b s h in omega arith

    same : spot_at n ≡ s
    same =
        let ps = parts (cell_of b s.at) s.arrival s.group h.arrival h.group in
        ap₂ (λ (p : GridPoint) (a : ℕ). record { at = p; arrival = a; group = n / 9 % 10 }) (ap (point_of b) ps.0 ∙ point_of-cell b s.at (inside_facts b s.at h.inside)) ps.1
        ∙ ap (λ (g : ℕ). record { at = s.at; arrival = s.arrival; group = g }) ps.2

pub some_same : {X : Type 0} (x y : X) → Some x ≡ Some y → x ≡ y
some_same x y e = cc

-- the spot of a number
pub record IsSpotOf (b : Bounds) (n : ℕ) (s : Spot) : Type 0 where
  pub spot : IsSpot b s
  pub number : n ≡ number_of_spot b s

whole : (n : ℕ) → (n / 90 * 10 + n / 9 % 10) * 9 + n % 9 ≡ n
whole n = omega arith

pub spot_of-is : (b : Bounds) (n : ℕ) (s : Spot) → AreBounds b → n < spots_of b + 1 → spot_of b n ≡ Some s → IsSpotOf b n s
spot_of-is b n s h below e = elim (cases_eq n (spots_of b)) [
  | inl same ↦ (let clash : None ≡ Some s = sym (ap (λ t. cond t None (Some spot_at)) (eq-eqb n (spots_of b) same)) ∙ e in absurd (let no : ⊥ = cc in no))
  | inr apart ↦ (let is : spot_at ≡ s = some_same spot_at s (sym (ap (λ t. cond t None (Some spot_at)) (ne_eqb n (spots_of b) apart)) ∙ e) in
      subst (λ (x : Spot). IsSpotOf b n x) is
      (record {
        spot = record { inside = inside_test b (point_of b (n / 90)) (point_inside b (frame_of b h) (n / 90) (cell_small apart)); arrival = omega arith; group = omega arith };
        number = sym (ap (λ c. (c * 10 + n / 9 % 10) * 9 + n % 9) (cell_of-point b (n / 90)) ∙ whole n);
      }))
]
  where
    spot_at : Spot
    spot_at = record { at = point_of b (n / 90); arrival = n % 9; group = n / 9 % 10 }

    cell_small : n ≢ spots_of b → n / 90 < cells_of b
    cell_small apart = omega arith

pub spot_of-none : (b : Bounds) → spot_of b (spots_of b) ≡ None
spot_of-none b =
    ap (λ t. cond t None (Some (let s : Spot = record { at = point_of b (spots_of b / 90); arrival = spots_of b % 9; group = spots_of b / 9 % 10 } in s))) (eq-eqb (spots_of b) (spots_of b) refl)

pub none_is_last : (b : Bounds) (n : ℕ) → spot_of b n ≡ None → n ≡ spots_of b
none_is_last b n e = elim (cases_Bool (eqb n (spots_of b))) [
  | inl h ↦ eqb-true n (spots_of b) h
  | inr h ↦ (let clash : Some spot_at ≡ None = sym (ap (λ t. cond t None (Some spot_at)) h) ∙ e in absurd (let no : ⊥ = cc in no))
]
  where
    spot_at : Spot
    spot_at = record { at = point_of b (n / 90); arrival = n % 9; group = n / 9 % 10 }

-- the spot of a number stands on the board
pub spots_on_board : (b : Bounds) (n : ℕ) → AreBounds b → n < spots_of b + 1 → (o : Option Spot) → o ≡ spot_of b n → IfSome o (IsSpot b)
spots_on_board b n h below None e = tt
spots_on_board b n h below (Some s) e = (spot_of-is b n s h below (sym e)).spot
