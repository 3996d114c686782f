-- The cause of a limit.
use Rattle.std.specs.Prelude.{◌≡◌, ℕ, ◌<◌}
use Rattle.map_base.specs.declared.limit.LimitKind.{LimitKind}
use Rattle.map_base.specs.Limits.{limit_most, limit_of}
use Rattle.map_base.specs.declared.limit_fault.LimitFault.{LimitFault}
use Rattle.map_base.specs.declared.limit_fault.LimitFault.TheVariants.{Limit as AboveLimit, NoMemory}

-- there is a limit of a kind only where there are more things, of which there are count, than are allowed
abbrev pub IsAbove : LimitKind → ℕ → LimitFault → Type 0
IsAbove kind count (AboveLimit limit) = (limit ≡ limit_of kind) × (limit_most kind < count)
IsAbove kind count NoMemory = Unit {0}
