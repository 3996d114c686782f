use Rattle.std.proofs.Common.{◌≡◌, ◌≤◌, length}
use Rattle.command_paths.specs.Sets.{sets_of}
use Rattle.command_paths.proofs.sets.next_set.Given as goal

-- the words that are left have all values
abbrev pub invariant-words : goal.invariant-words
invariant-words l = (sets_of l.rest ≡ sets_of l.fn.words) × (length l.rest ≤ length l.fn.words)

abbrev pub decreases-words : goal.decreases-words
decreases-words l = length l.rest
