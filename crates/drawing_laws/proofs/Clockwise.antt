-- Ports in clockwise order, seen from any of them.
use Rattle.std.proofs.Common.{◌≡◌, ◌≢◌, refl, sym, ap, subst, ℕ, zero, suc, ◌+◌, ◌-◌, ◌%◌, ◌<◌, true, List, [], ◌∷◌, map, slice_get, Some, arith}
use Rattle.std.proofs.lemmas.Bool.{and_parts, ltb-true}
use Rattle.octi_grid.specs.declared.dir.Dir.{Dir}
use Rattle.octi_grid.specs.declared.dir.Dir.TheVariants as dir
use Rattle.octi_grid.specs.Ways.{number_of}
use Rattle.octi_grid.specs.Costs.{clockwise_from}
use Rattle.octi_grid.specs.Legal.{are_clockwise, are_rising}

-- ---- rising numbers, by the directions that they are of

above : (f : Dir) (low : ℕ) (ds : List Dir) (i : ℕ) (a : Dir) → are_rising low (map (clockwise_from f) ds) ≡ true → slice_get ds i ≡ Some a → low < clockwise_from f a
above f low [] i a rising e = cc
above f low (d ∷ ds) zero a rising e =
    let same : d ≡ a = cc in subst (λ (v : Dir). low < clockwise_from f v) same (ltb-true low (clockwise_from f d) (and_parts _ _ rising).0)
above f low (d ∷ ds) (suc i) a rising e =
    let parts = and_parts _ _ rising in
    let first = ltb-true low (clockwise_from f d) parts.0 in
    let rest = above f (clockwise_from f d) ds i a parts.1 e in
    omega (arith, first, rest)

rises : (f : Dir) (low : ℕ) (ds : List Dir) (i j : ℕ) (a b : Dir) → are_rising low (map (clockwise_from f) ds) ≡ true → i < j → slice_get ds i ≡ Some a → slice_get ds j ≡ Some b
    → clockwise_from f a < clockwise_from f b
rises f low [] i j a b rising less e h = cc
rises f low (d ∷ ds) i zero a b rising less e h = absurd (omega arith)
rises f low (d ∷ ds) zero (suc j) a b rising less e h =
    let same : d ≡ a = cc in subst (λ (v : Dir). clockwise_from f v < clockwise_from f b) same (above f (clockwise_from f d) ds j b (and_parts _ _ rising).1 h)
rises f low (d ∷ ds) (suc i) (suc j) a b rising less e h = rises f (clockwise_from f d) ds i j a b (and_parts _ _ rising).1 (omega arith) e h

none_from_itself : (d : Dir) → clockwise_from d d ≡ 0
none_from_itself dir.N = refl
none_from_itself dir.NE = refl
none_from_itself dir.E = refl
none_from_itself dir.SE = refl
none_from_itself dir.S = refl
none_from_itself dir.SW = refl
none_from_itself dir.W = refl
none_from_itself dir.NW = refl

-- of two ports the later one is farther from the first
from_first : (d : Dir) (ds : List Dir) (i j : ℕ) (a b : Dir) → are_clockwise (d ∷ ds) ≡ true → i < j → slice_get (d ∷ ds) i ≡ Some a → slice_get (d ∷ ds) j ≡ Some b
    → clockwise_from d a < clockwise_from d b
from_first d ds i zero a b clockwise less e h = absurd (omega arith)
from_first d ds zero (suc j) a b clockwise less e h =
    let same : d ≡ a = cc in
    subst (λ (v : Dir). clockwise_from d v < clockwise_from d b) same (subst (λ (n : ℕ). n < clockwise_from d b) (sym (none_from_itself d)) (above d 0 ds j b clockwise h))
from_first d ds (suc i) (suc j) a b clockwise less e h = rises d 0 ds i j a b clockwise (omega arith) e h

-- ---- seen from another port

pub below_eight : (d : Dir) → number_of d < 8
below_eight dir.N = omega arith
below_eight dir.NE = omega arith
below_eight dir.E = omega arith
below_eight dir.SE = omega arith
below_eight dir.S = omega arith
below_eight dir.SW = omega arith
below_eight dir.W = omega arith
below_eight dir.NW = omega arith

turn : (f a b : ℕ) → f < 8 → a < 8 → b < 8 → (a + 8 - f) % 8 < (b + 8 - f) % 8 → (b + 8 - a) % 8 ≡ (b + 8 - f) % 8 - (a + 8 - f) % 8
turn f a b lf la lb less = omega arith

seen_from : (f a b : Dir) → clockwise_from f a < clockwise_from f b → clockwise_from a b ≡ clockwise_from f b - clockwise_from f a
seen_from f a b less = turn (number_of f) (number_of a) (number_of b) (below_eight f) (below_eight a) (below_eight b) less

pub ports_differ : (ports : List Dir) (i j : ℕ) (a b : Dir) → are_clockwise ports ≡ true → i < j → slice_get ports i ≡ Some a → slice_get ports j ≡ Some b → a ≢ b
ports_differ [] i j a b clockwise less e h same = cc
ports_differ (d ∷ ds) i j a b clockwise less e h same =
    let farther = from_first d ds i j a b clockwise less e h in
    let level : clockwise_from d a ≡ clockwise_from d b = ap (clockwise_from d) same in
    omega (arith, farther, level)

pub ports_turn : (ports : List Dir) (i j k : ℕ) (a b c : Dir) → are_clockwise ports ≡ true → i < j → j < k → slice_get ports i ≡ Some a → slice_get ports j ≡ Some b
    → slice_get ports k ≡ Some c → clockwise_from a b < clockwise_from a c
ports_turn [] i j k a b c clockwise first second e g h = cc
ports_turn (d ∷ ds) i j k a b c clockwise first second e g h =
    let one = from_first d ds i j a b clockwise first e g in
    let two = from_first d ds j k b c clockwise second g h in
    omega (arith, one, two, seen_from d a b one, seen_from d a c (omega (arith, one, two)))
