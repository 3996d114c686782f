-- The cause of a limit.
use Rattle.std.specs.Prelude.{◌≡◌, ℕ, ◌<◌}
use Rattle.map_base.specs.declared.limit.LimitKind.{LimitKind}
use Rattle.map_base.specs.declared.limit.LimitKind.TheVariants.{Samples}
use Rattle.map_base.specs.declared.limit_fault.LimitFault.{LimitFault}
use Rattle.map_base.specs.declared.limit_fault.LimitFault.TheVariants as fault
use Rattle.map_base.specs.Limits.{limit_of}

-- a fault of sampling, as one of courses: the limit speaks of the samples of all courses
abbrev pub fault_of : LimitFault → LimitFault
fault_of (fault.Limit limit) = fault.Limit (limit_of Samples)
fault_of fault.NoMemory = fault.NoMemory

-- there is a limit of a kind only where there are more things than most, of which there are count
abbrev pub IsAbove : LimitKind → ℕ → ℕ → LimitFault → Type 0
IsAbove kind most count (fault.Limit limit) = (limit ≡ limit_of kind) × (most < count)
IsAbove kind most count fault.NoMemory = Unit {0}
