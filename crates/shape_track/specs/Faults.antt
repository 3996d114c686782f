-- The cause of each fault of sampling.
use Rattle.std.specs.Prelude.{◌≡◌, ℕ, ◌+◌, ◌-◌, ◌^◌, ◌<◌, min}
use Rattle.map_base.specs.declared.limit.Limit.{Limit}
use Rattle.map_base.specs.declared.limit.LimitKind.TheVariants.{Samples}
use Rattle.map_base.specs.declared.limit_fault.LimitFault.{LimitFault}
use Rattle.map_base.specs.declared.limit_fault.LimitFault.TheVariants.{Limit as AboveLimit, NoMemory}

-- what is reported of more samples than the greatest allowed number: counting stops one above it
abbrev pub limit_of : ℕ → Limit
limit_of most = record { what = Samples; found = min (most + 1) (2 ^ 64 - 1); most = most }

-- a fault has its cause: there is a limit only where there are more samples than the greatest allowed number
abbrev pub HasCause : ℕ → ℕ → LimitFault → Type 0
HasCause most count (AboveLimit limit) = (limit ≡ limit_of most) × (most < count)
HasCause most count NoMemory = Unit {0}
