-- Where shifted lines meet.
use Rattle.std.proofs.Common.{◌≡◌, ℤ, pos, negsuc, ◌+ℤ◌, ◌*ℤ◌, false, ◌⊎◌, inl, inr, refl, ap, sym, ◌∙◌, subst, arith}
use Rattle.std.proofs.lemmas.Int.{ints}
use Rattle.whole_algebra.proofs.Products.{*ℤ-+ℤ, *ℤ-minus}
use Rattle.octi_grid.specs.declared.dir.Dir.{Dir}
use Rattle.octi_grid.specs.declared.dir.Dir.TheVariants as dir
use Rattle.octi_grid.specs.declared.point.GridPoint.{GridPoint}
use Rattle.line_offsets.specs.declared.corner.Corner.{Corner}
use Rattle.line_offsets.specs.declared.corner.Kept.{Kept}
use Rattle.line_offsets.specs.declared.corner.Kept.TheVariants.{X, Y, Sum, Difference}
use Rattle.line_offsets.specs.Shifts.{drawn, moved, kept_by, value_at, shift_of, foot_of, meet, turn_of, are_one, are_parallel, IsOnShifted}

-- the two diagonals are shifted by ten either way
abbrev IsTens : Kept → ℤ → Type 0
IsTens X s = Unit {0}
IsTens Y s = Unit {0}
IsTens Sum s = (s ≡ pos 10) ⊎ (s ≡ negsuc 9)
IsTens Difference s = (s ≡ pos 10) ⊎ (s ≡ negsuc 9)

tens : (d : Dir) → IsTens (kept_by d) (shift_of d)
tens dir.N = tt
tens dir.NE = inl refl
tens dir.E = tt
tens dir.SE = inl refl
tens dir.S = tt
tens dir.SW = inr refl
tens dir.W = tt
tens dir.NW = inr refl

-- the meeting point has both values
abbrev HasBoth : Kept → ℤ → Kept → ℤ → ℤ × ℤ → Type 0
HasBoth a s b t at = (value_at a at.0 at.1 ≡ s) × (value_at b at.0 at.1 ≡ t)

diagonals : (s t : ℤ) → IsTens Sum s → IsTens Difference t → HasBoth Sum s Difference t (meet Sum s Difference t)
diagonals s t (inl e) (inl f) = subst (λ (u : ℤ). HasBoth Sum u Difference t (meet Sum u Difference t)) (sym e) (subst (λ (v : ℤ). HasBoth Sum (pos 10) Difference v (meet Sum (pos 10) Difference v)) (sym f) (refl, refl))
diagonals s t (inl e) (inr f) = subst (λ (u : ℤ). HasBoth Sum u Difference t (meet Sum u Difference t)) (sym e) (subst (λ (v : ℤ). HasBoth Sum (pos 10) Difference v (meet Sum (pos 10) Difference v)) (sym f) (refl, refl))
diagonals s t (inr e) (inl f) = subst (λ (u : ℤ). HasBoth Sum u Difference t (meet Sum u Difference t)) (sym e) (subst (λ (v : ℤ). HasBoth Sum (negsuc 9) Difference v (meet Sum (negsuc 9) Difference v)) (sym f) (refl, refl))
diagonals s t (inr e) (inr f) = subst (λ (u : ℤ). HasBoth Sum u Difference t (meet Sum u Difference t)) (sym e) (subst (λ (v : ℤ). HasBoth Sum (negsuc 9) Difference v (meet Sum (negsuc 9) Difference v)) (sym f) (refl, refl))

has_both : (a b : Kept) (s t : ℤ) → IsTens a s → IsTens b t → are_one a b ≡ false → HasBoth a s b t (meet a s b t)
has_both X X s t x y apart = absurd cc
has_both X Y s t x y apart = (refl, refl)
has_both X Sum s t x y apart = (refl, omega (arith, ints))
has_both X Difference s t x y apart = (refl, omega (arith, ints))
has_both Y X s t x y apart = (refl, refl)
has_both Y Y s t x y apart = absurd cc
has_both Y Sum s t x y apart = (refl, omega (arith, ints))
has_both Y Difference s t x y apart = (refl, omega (arith, ints))
has_both Sum X s t x y apart = (omega (arith, ints), refl)
has_both Sum Y s t x y apart = (omega (arith, ints), refl)
has_both Sum Sum s t x y apart = absurd cc
has_both Sum Difference s t x y apart = diagonals s t x y
has_both Difference X s t x y apart = (omega (arith, ints), refl)
has_both Difference Y s t x y apart = (omega (arith, ints), refl)
has_both Difference Sum s t x y apart = let both = diagonals t s y x in (both.1, both.0)
has_both Difference Difference s t x y apart = absurd cc

-- two values tell a point
told : (a b : Kept) (x y u v : ℤ) → are_one a b ≡ false → value_at a x y ≡ value_at a u v → value_at b x y ≡ value_at b u v → (x ≡ u) × (y ≡ v)
told X X x y u v apart one other = absurd cc
told X Y x y u v apart one other = (one, other)
told X Sum x y u v apart one other = (one, omega (arith, ints))
told X Difference x y u v apart one other = (one, omega (arith, ints))
told Y X x y u v apart one other = (other, one)
told Y Y x y u v apart one other = absurd cc
told Y Sum x y u v apart one other = (omega (arith, ints), one)
told Y Difference x y u v apart one other = (omega (arith, ints), one)
told Sum X x y u v apart one other = (other, omega (arith, ints))
told Sum Y x y u v apart one other = (omega (arith, ints), other)
told Sum Sum x y u v apart one other = absurd cc
told Sum Difference x y u v apart one other = (omega (arith, ints), omega (arith, ints))
told Difference X x y u v apart one other = (other, omega (arith, ints))
told Difference Y x y u v apart one other = (omega (arith, ints), other)
told Difference Sum x y u v apart one other = (omega (arith, ints), omega (arith, ints))
told Difference Difference x y u v apart one other = absurd cc

-- a point that is moved k times changes a value k times
value_moved : (a : Kept) (p : GridPoint) (k : ℤ) (by : ℤ × ℤ) → value_at a (moved p k by).x (moved p k by).y ≡ value_at a (drawn p).x (drawn p).y +ℤ (k *ℤ value_at a by.0 by.1)
value_moved X p k by = refl
value_moved Y p k by = omega (arith, ints)
value_moved Sum p k by = omega (arith, ints, *ℤ-+ℤ k by.0 by.1)
value_moved Difference p k by = omega (arith, ints, *ℤ-minus k by.1 by.0)

pub on_line : (d : Dir) (p : GridPoint) (k : ℤ) (by : ℤ × ℤ) → value_at (kept_by d) by.0 by.1 ≡ shift_of d → IsOnShifted d p k (moved p k by)
on_line d p k by is = value_moved (kept_by d) p k by ∙ ap (λ (z : ℤ). value_at (kept_by d) (drawn p).x (drawn p).y +ℤ (k *ℤ z)) is

pub turns_both : (d e : Dir) → are_parallel d e ≡ false → HasBoth (kept_by d) (shift_of d) (kept_by e) (shift_of e) (turn_of d e)
turns_both d e apart = has_both (kept_by d) (kept_by e) (shift_of d) (shift_of e) (tens d) (tens e) apart

abbrev corner : ℤ → ℤ → Corner
corner x y = record { x = x; y = y }

pub only_corner : (d e : Dir) (p : GridPoint) (k : ℤ) (c : Corner) → are_parallel d e ≡ false → IsOnShifted d p k c → IsOnShifted e p k c → c ≡ moved p k (turn_of d e)
only_corner d e p k c apart one other =
    let both = turns_both d e apart in
    let m = moved p k (turn_of d e) in
    let same = told (kept_by d) (kept_by e) c.x c.y m.x m.y apart (one ∙ sym (on_line d p k (turn_of d e) both.0)) (other ∙ sym (on_line e p k (turn_of d e) both.1)) in
    ap (λ (x : ℤ). corner x c.y) same.0 ∙ ap (corner m.x) same.1

pub foot_on_line : (d : Dir) → value_at (kept_by d) (foot_of d).0 (foot_of d).1 ≡ shift_of d
foot_on_line dir.N = refl
foot_on_line dir.NE = refl
foot_on_line dir.E = refl
foot_on_line dir.SE = refl
foot_on_line dir.S = refl
foot_on_line dir.SW = refl
foot_on_line dir.W = refl
foot_on_line dir.NW = refl
