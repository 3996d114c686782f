use Rattle.std.proofs.Common.{length}
use Rattle.user_messages.proofs.set_keys.set_value.Given as goal

abbrev pub decreases-sets : goal.decreases-sets
decreases-sets g l = length l.rest
