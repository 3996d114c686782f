use Rattle.std.proofs.Common.{length}
use Rattle.file_lookup.proofs.refused_settings.refused_set.Given as goal

abbrev pub decreases-sets : goal.decreases-sets
decreases-sets l = length l.rest
