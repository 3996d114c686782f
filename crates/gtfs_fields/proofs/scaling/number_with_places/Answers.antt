use Rattle.std.proofs.Common.{◌≡◌, refl, ◌-◌, ◌*◌, ◌^◌, ◌++◌, sym, ap, ◌∙◌, length, take, min}
use Rattle.std.specs.Str.Parse.{digits_value}
use Rattle.gtfs_fields.specs.Digits.{up_to}
use Rattle.gtfs_fields.proofs.ScaledNumbers.{digits_parts, value_lengthened, units_past, both_past, both_taken}
use Rattle.gtfs_fields.proofs.scaling.number_with_places.Goals as goal

pub returns-in_err-number-clause-value : goal.returns-in_err-number-clause-value
returns-in_err-number-clause-value c =
    let units = c.args.units.now in
    let decimals = c.args.decimals.now in
    let long = value_lengthened units decimals c.args.places c.requires.decimals in
    rw (c.from_residual.ensures, long) (sym (units_past 1000000000000 units _ _ c.requires.units c.in_err-number.ensures.value))

pub returns-in_err-number-2-clause-value : goal.returns-in_err-number-2-clause-value
returns-in_err-number-2-clause-value c =
    let units = c.args.units.now in
    let decimals = c.args.decimals.now in
    let long = value_lengthened units decimals c.args.places c.requires.decimals in
    let refused = rw c.min-taken.ensures at c.in_err-number-2.ensures.value in
    rw (c.from_residual-in_err-number-2.ensures, long) (sym (both_past 1000000000000 c.in_ok-number.number units _ _ c.requires.units (digits_parts _ decimals c.requires.decimals).0 c.in_ok-number.ensures.value refused))

pub returns-clause-value : goal.returns-clause-value
returns-clause-value c =
    let units = c.args.units.now in
    let decimals = c.args.decimals.now in
    let long = value_lengthened units decimals c.args.places c.requires.decimals in
    let shown = take (min c.args.places (length decimals)) decimals in
    let taken = rw c.min-taken.ensures at c.in_ok-number-2.ensures.value in
    let is = both_taken 1000000000000 c.in_ok-number.number c.in_ok-number-2.number units shown c.requires.units (digits_parts (min c.args.places (length decimals)) decimals c.requires.decimals).0 c.in_ok-number.ensures.value taken in
    let same : c.in_ok-number-2.number * 10 ^ (c.args.places - c.min-taken.result) ≡ digits_value 10 (units ++ shown) * 10 ^ (c.args.places - min c.args.places (length decimals)) = rw (is, c.min-taken.ensures) refl in
    c.zeros_after.ensures.value ∙ ap (up_to 1000000000000) (same ∙ sym long)
