use Rattle.std.proofs.Common.{sym, ◌∙◌}
use Rattle.gtfs_fields.specs.DegreeText.{is_exponent_mark}
use Rattle.gtfs_fields.proofs.TextParts.{place_found, place_none}
use Rattle.gtfs_fields.proofs.degree_text.mark_place.Goals as goal

pub returns-then-is_mark : goal.returns-then-is_mark
returns-then-is_mark c = place_found is_exponent_mark c.args.text.now c.loop-place.place c.loop-place-test.true c.loop-place.invariant (sym c.is_mark.ensures ∙ c.if-is_mark.true)

pub returns : goal.returns
returns c = place_none is_exponent_mark c.args.text.now c.loop-place.place c.loop-place-test.false c.loop-place.invariant
