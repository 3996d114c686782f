use Rattle.std.proofs.Common.{◌≡◌, ℕ, ◌<◌, get_or, false}
use Rattle.gtfs_fields.specs.DegreeText.{is_point}
use Rattle.gtfs_fields.proofs.degree_text.point_place.Given as goal

abbrev pub invariant-loop-place : goal.invariant-loop-place
invariant-loop-place l = (k : ℕ) → k < l.place → is_point (get_or l.text k 0) ≡ false
