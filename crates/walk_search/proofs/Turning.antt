-- Directions by their numbers, and steps there and back.
use Rattle.std.proofs.Common.{◌≡◌, refl, ap₂, ℕ, ◌<◌, ◌≤◌, ℤ, pos, ◌+ℤ◌, arith, true, eqb, lit≤}
use Rattle.std.proofs.lemmas.Int.{ints}
use Rattle.std.proofs.lemmas.Bool.{agree_below_at, eqb-true}
use Rattle.octi_grid.specs.declared.dir.Dir.{Dir}
use Rattle.octi_grid.specs.declared.dir.Dir.TheVariants as dir
use Rattle.octi_grid.specs.declared.point.GridPoint.{GridPoint}
use Rattle.octi_grid.specs.Ways.{east_of, north_of, number_of, reverse_of, step_from}
use Rattle.octi_grid.specs.Costs.{step_cost}
use Rattle.walk_search.specs.Moves.{direction}
use Rattle.octi_grid.proofs.CostLemmas.{number_small}

-- what holds of each of the eight directions
pub of_eight : (P : Dir → Type 0) → P dir.N → P dir.NE → P dir.E → P dir.SE → P dir.S → P dir.SW → P dir.W → P dir.NW
    → (d : Dir) → P d
of_eight P n ne e se s sw w nw dir.N = n
of_eight P n ne e se s sw w nw dir.NE = ne
of_eight P n ne e se s sw w nw dir.E = e
of_eight P n ne e se s sw w nw dir.SE = se
of_eight P n ne e se s sw w nw dir.S = s
of_eight P n ne e se s sw w nw dir.SW = sw
of_eight P n ne e se s sw w nw dir.W = w
of_eight P n ne e se s sw w nw dir.NW = nw

pub direction-number_of : (d : Dir) → direction (number_of d) ≡ d
direction-number_of = of_eight (λ d. direction (number_of d) ≡ d) refl refl refl refl refl refl refl refl

pub number_of-direction : (l : ℕ) → l < 8 → number_of (direction l) ≡ l
number_of-direction l h =
    eqb-true (number_of (direction l)) l (agree_below_at (λ n. eqb (number_of (direction n)) n) (λ n. true) 8 l refl h)

pub number_below : (d : Dir) → number_of d < 8
number_below d = omega (arith, number_small d)

pub step_cost_from : (d : Dir) → 4 ≤ step_cost d
step_cost_from =
    of_eight (λ d. 4 ≤ step_cost d) (lit≤ tt) (lit≤ tt) (lit≤ tt) (lit≤ tt) (lit≤ tt) (lit≤ tt) (lit≤ tt) (lit≤ tt)

pub east_back : (d : Dir) → (east_of d +ℤ east_of (reverse_of d)) ≡ pos 0
east_back = of_eight (λ d. (east_of d +ℤ east_of (reverse_of d)) ≡ pos 0) refl refl refl refl refl refl refl refl

pub north_back : (d : Dir) → (north_of d +ℤ north_of (reverse_of d)) ≡ pos 0
north_back = of_eight (λ d. (north_of d +ℤ north_of (reverse_of d)) ≡ pos 0) refl refl refl refl refl refl refl refl

there_back : (z a b : ℤ) → (a +ℤ b) ≡ pos 0 → ((z +ℤ b) +ℤ a) ≡ z
there_back z a b e = omega (arith, ints)

back_there : (z a b : ℤ) → (a +ℤ b) ≡ pos 0 → ((z +ℤ a) +ℤ b) ≡ z
back_there z a b e = omega (arith, ints)

-- a step back and the step itself come to the same point, in either order
pub step_there : (p : GridPoint) (d : Dir) → step_from (step_from p (reverse_of d)) d ≡ p
step_there p d =
    ap₂ (λ (x y : ℤ). record { x = x; y = y }) (there_back p.x (east_of d) (east_of (reverse_of d)) (east_back d)) (there_back p.y (north_of d) (north_of (reverse_of d)) (north_back d))

pub step_back : (p : GridPoint) (d : Dir) → step_from (step_from p d) (reverse_of d) ≡ p
step_back p d =
    ap₂ (λ (x y : ℤ). record { x = x; y = y }) (back_there p.x (east_of d) (east_of (reverse_of d)) (east_back d)) (back_there p.y (north_of d) (north_of (reverse_of d)) (north_back d))
