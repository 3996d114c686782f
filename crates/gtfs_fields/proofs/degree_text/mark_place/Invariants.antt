use Rattle.std.proofs.Common.{◌≡◌, ℕ, ◌<◌, get_or, false}
use Rattle.gtfs_fields.specs.DegreeText.{is_exponent_mark}
use Rattle.gtfs_fields.proofs.degree_text.mark_place.Given as goal

abbrev pub invariant-loop-place : goal.invariant-loop-place
invariant-loop-place l = (k : ℕ) → k < l.place → is_exponent_mark (get_or l.text k 0) ≡ false
