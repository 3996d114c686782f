use Rattle.std.proofs.Common.{◌<◌, ◌⊎◌, length, inl, inr, refl}
use Rattle.gtfs_fields.proofs.ScaledNumbers.{both_are_digits, not_empty}
use Rattle.gtfs_fields.proofs.digits.are_digits.Goals.{else-is_empty-via-then-is_empty+else-is_empty-2, else-is_empty-via-else-is_empty}
use Rattle.gtfs_fields.proofs.digits.are_digits.Goals as goal

pub returns-then-not-digits_alone : goal.returns-then-not-digits_alone
returns-then-not-digits_alone c =
    let units = c.args.units.now in
    let decimals = c.args.decimals.now in
    let some : (0 < length units) ⊎ (0 < length decimals) = elim c.else-is_empty.branch [
      | else-is_empty-via-then-is_empty+else-is_empty-2 w ↦ inr (not_empty decimals _ w.is_empty-then-is_empty.ensures w.if-is_empty-2.false)
      | else-is_empty-via-else-is_empty w ↦ inl (not_empty units _ c.is_empty.ensures w.if-is_empty.false)
    ] in
    rw c.if-not-digits_alone.true at (both_are_digits units decimals c.digits_alone.result _ some c.digits_alone.ensures refl)

pub returns : goal.returns
returns c =
    let units = c.args.units.now in
    let decimals = c.args.decimals.now in
    let some : (0 < length units) ⊎ (0 < length decimals) = elim c.else-is_empty.branch [
      | else-is_empty-via-then-is_empty+else-is_empty-2 w ↦ inr (not_empty decimals _ w.is_empty-then-is_empty.ensures w.if-is_empty-2.false)
      | else-is_empty-via-else-is_empty w ↦ inl (not_empty units _ c.is_empty.ensures w.if-is_empty.false)
    ] in
    rw c.if-not-digits_alone.false at (both_are_digits units decimals c.digits_alone.result c.digits_alone-2.result some c.digits_alone.ensures c.digits_alone-2.ensures)
