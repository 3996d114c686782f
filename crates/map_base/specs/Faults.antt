-- What a call that counts what it makes may answer.
use Rattle.std.specs.Prelude.{◌≡◌, Result, Ok, Err}
use Rattle.map_base.specs.declared.limit.Limit.{Limit}
use Rattle.map_base.specs.declared.limit_fault.LimitFault.{LimitFault}
use Rattle.map_base.specs.declared.limit_fault.LimitFault.TheVariants as fault

-- the fault is the limit that is met by definition; want of memory is free
abbrev pub HasCause : {Y : Type 0} → Result Y Limit → LimitFault → Type 0
HasCause outcome (fault.Limit limit) = outcome ≡ Err limit
HasCause outcome fault.NoMemory = Unit {0}

-- what was answered, seen by view, is what comes by definition, unless memory ran out
abbrev pub Gives : {X Y : Type 0} → (X → Y) → Result X LimitFault → Result Y Limit → Type 0
Gives view (Ok x) outcome = outcome ≡ Ok (view x)
Gives view (Err e) outcome = HasCause outcome e
