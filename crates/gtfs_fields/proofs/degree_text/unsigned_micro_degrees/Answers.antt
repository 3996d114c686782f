use Rattle.std.proofs.Common.{sym, ◌∙◌}
use Rattle.gtfs_fields.specs.DegreeText.{is_point}
use Rattle.gtfs_fields.proofs.TextParts.{place-le}
use Rattle.gtfs_fields.proofs.ScaledNumbers.{digits_of_both}
use Rattle.gtfs_fields.proofs.degree_text.unsigned_micro_degrees.Goals as goal

pub split_around-requires : goal.split_around-requires
split_around-requires c = place-le is_point _ c.point_place.result c.point_place.ensures

pub microdegrees-requires-clause-units : goal.microdegrees-requires-clause-units
microdegrees-requires-clause-units c = (digits_of_both c.split_around.result.0.now c.split_around.result.1.now (sym c.are_digits.ensures ∙ c.if-not-are_digits.false)).0

pub microdegrees-requires-clause-decimals : goal.microdegrees-requires-clause-decimals
microdegrees-requires-clause-decimals c = (digits_of_both c.split_around.result.0.now c.split_around.result.1.now (sym c.are_digits.ensures ∙ c.if-not-are_digits.false)).1
