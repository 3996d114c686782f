use Rattle.std.proofs.Common.{◌≡◌, length, reverse}
use Rattle.gtfs_fields.specs.Spaces.{without_leading_spaces}
use Rattle.gtfs_fields.proofs.spaces.trim_back.Given as goal

abbrev pub invariant-loop-rest : goal.invariant-loop-rest
invariant-loop-rest l = without_leading_spaces (reverse l.rest) ≡ without_leading_spaces (reverse l.text)

abbrev pub decreases-loop-rest : goal.decreases-loop-rest
decreases-loop-rest l = length l.rest
