use Rattle.std.proofs.Common.{ap, ◌∙◌}
use Rattle.gtfs_fields.specs.Digits.{up_to}
use Rattle.gtfs_fields.proofs.ScaledNumbers.{with_taken, value_shortened}
use Rattle.gtfs_fields.proofs.scaling.number_without_last.Goals as goal

pub returns-clause-value : goal.returns-clause-value
returns-clause-value c =
    let number = with_taken 1000000000000 0 c.saturating_sub-kept.result c.args.units.now c.requires in
    let cut = value_shortened c.args.units.now c.args.cut c.requires in
    c.digits_after.ensures.value ∙ number ∙ rw c.saturating_sub-kept.ensures (ap (up_to 1000000000000) cut)
