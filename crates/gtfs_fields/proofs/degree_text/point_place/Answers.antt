use Rattle.std.proofs.Common.{refl}
use Rattle.gtfs_fields.specs.DegreeText.{is_point}
use Rattle.gtfs_fields.proofs.TextParts.{place_found, place_none}
use Rattle.gtfs_fields.proofs.degree_text.point_place.Goals as goal

pub returns-then-byte-eq46 : goal.returns-then-byte-eq46
returns-then-byte-eq46 c = place_found is_point c.args.text.now c.loop-place.place c.loop-place-test.true c.loop-place.invariant (rw c.if-byte-eq46.true refl)

pub returns : goal.returns
returns c = place_none is_point c.args.text.now c.loop-place.place c.loop-place-test.false c.loop-place.invariant
