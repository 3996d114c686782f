-- How the table is filled.
use Rattle.std.proofs.Common.{◌≡◌, ◌≢◌, ℕ, ◌+◌, ◌*◌, ◌^◌, ◌<◌, ◌≤◌, true, List, get_or, lit≤, sym, ◌∙◌, ap, subst, arith, ◌⊎◌, inl, inr}
use Rattle.std.proofs.Math.Nat.{mul-le-mul_left, mul-le-mul_right, pow-le-pow_right}
use Rattle.std.proofs.lemmas.Bool.{cases_eq}
use Rattle.least_orders.specs.Rows.{Rows}
use Rattle.least_orders.specs.Subsets.{has_place}
use Rattle.subset_program.specs.declared.entries.Tail.{Tail}
use Rattle.subset_program.specs.Tables.{Tells, HasTails, IsFilledAt, no_tail}
use Rattle.subset_program.proofs.Places.{apart_rows}

-- of a set the entries of the lines below one are done
abbrev pub HasRow : Rows → ℕ → ℕ → List Tail → Type 0
HasRow r set below table = (k : ℕ) → k < below → has_place set k ≡ true → Tells r set k (get_or table (set * r.count + k) no_tail)

pub row_more : (r : Rows) (set last : ℕ) (old new : List Tail) → last < r.count → HasRow r set last old → IsFilledAt r set last old new → HasRow r set (last + 1) new
row_more r set last old new within row filled k below has = by_place (cases_eq k last)
  where
    by_place : (k ≡ last) ⊎ (k ≢ last) → Tells r set k (get_or new (set * r.count + k) no_tail)
    by_place (inl is) = subst (λ i. Tells r set i (get_or new (set * r.count + i) no_tail)) (sym is) (filled.here (ap (has_place set) (sym is) ∙ has))
    by_place (inr apart) =
        subst (λ (t : Tail). Tells r set k t) (sym (filled.others (set * r.count + k) (λ e. absurd (apart (omega (arith, e)))))) (row k (omega (arith, below, apart)) has)

pub greater_kept : (r : Rows) (set last : ℕ) (old new : List Tail) → last < r.count → HasTails r (set + 1) old → IsFilledAt r set last old new → HasTails r (set + 1) new
greater_kept r set last old new within tails filled more k above below there has =
    subst (λ (t : Tail). Tells r more k t) (sym (filled.others (more * r.count + k) (apart_rows set more r.count last k (omega (arith, above)) within there)))
    (tails more k above below there has)

pub set_done : (r : Rows) (set : ℕ) (table : List Tail) → HasTails r (set + 1) table → HasRow r set r.count table → HasTails r set table
set_done r set table tails row more k above below there has = by_set (cases_eq more set)
  where
    by_set : (more ≡ set) ⊎ (more ≢ set) → Tells r more k (get_or table (more * r.count + k) no_tail)
    by_set (inl is) = subst (λ s. Tells r s k (get_or table (s * r.count + k) no_tail)) (sym is) (row k there (ap (λ s. has_place s k) (sym is) ∙ has))
    by_set (inr apart) = tails more k (omega (arith, above, apart)) below there has

pub fewer : (r : Rows) (from more : ℕ) (table : List Tail) → from ≤ more → HasTails r from table → HasTails r more table
fewer r from more table h tails set k above below there has = tails set k (omega (arith, h, above)) below there has

pub nothing_yet : (r : Rows) (table : List Tail) → HasTails r (2 ^ r.count) table
nothing_yet r table set k above below there has = absurd (omega (arith, above, below))

-- a table for more lines has room
pub room_for : (count width : ℕ) → count ≤ width → 2 ^ count * count ≤ 2 ^ width * width
room_for count width h =
    let powers = pow-le-pow_right {n = 2} (lit≤ tt) {i = count} {j = width} h in
    let one = mul-le-mul_right {m = 2 ^ count} {n = 2 ^ width} count powers in
    let two = mul-le-mul_left {m = count} {n = width} (2 ^ width) h in
    omega (arith, one, two)
