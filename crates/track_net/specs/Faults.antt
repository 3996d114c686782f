use Rattle.std.specs.Prelude.{◌≡◌, ℕ, ◌<◌}
use Rattle.map_base.specs.declared.limit.Limit.{Limit}
use Rattle.map_base.specs.declared.limit.LimitKind.TheVariants.{NetPoints}
use Rattle.map_base.specs.declared.limit_fault.LimitFault.{LimitFault}
use Rattle.map_base.specs.declared.limit_fault.LimitFault.TheVariants.{Limit as AboveLimit, NoMemory}

-- what is reported of more than 100,000 net points: counting stops one above
abbrev pub limit_of_points : Limit
limit_of_points = record { what = NetPoints; found = 100001; most = 100000 }

-- a fault has its cause: there is a limit only where there are more than 100,000 net points
abbrev pub HasCause : ℕ → LimitFault → Type 0
HasCause count (AboveLimit limit) = (limit ≡ limit_of_points) × (100000 < count)
HasCause count NoMemory = Unit {0}
