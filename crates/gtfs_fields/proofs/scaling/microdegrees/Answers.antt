use Rattle.std.proofs.Common.{sym, ap, ◌∙◌}
use Rattle.gtfs_fields.specs.Digits.{up_to}
use Rattle.gtfs_fields.proofs.ScaledNumbers.{value_scaled_down, value_scaled_up}
use Rattle.gtfs_fields.proofs.scaling.microdegrees.Goals as goal

pub returns-then-down-up-clause-value : goal.returns-then-down-up-clause-value
returns-then-down-up-clause-value c =
    c.number_without_last.ensures.value ∙ ap (up_to 1000000000000) (sym (value_scaled_down c.args.units.now c.args.decimals.now c.args.up c.args.down c.requires.decimals c.if-down-up.true))

pub returns-else-down-up-clause-value : goal.returns-else-down-up-clause-value
returns-else-down-up-clause-value c =
    c.number_with_places.ensures.value ∙ ap (up_to 1000000000000) (sym (value_scaled_up c.args.units.now c.args.decimals.now c.args.up c.args.down c.if-down-up.false))
