use Rattle.std.proofs.Common.{◌≡◌, Ok, length}
use Rattle.command_paths.specs.Sets.{sets_of}
use Rattle.map_settings.specs.Outcome.{sets_outcome}
use Rattle.command_inputs.proofs.settings.with_sets.Given as goal

-- what is left makes of these settings what all makes of the first ones
abbrev pub invariant-sets : goal.invariant-sets
invariant-sets l = sets_outcome (sets_of l.rest) (Ok l.settings) ≡ sets_outcome (sets_of l.fn.words) (Ok l.fn.base)

abbrev pub decreases-sets : goal.decreases-sets
decreases-sets l = length l.rest
