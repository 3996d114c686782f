-- What readers answer beside what is read by definition; want of memory is free in each.
use Rattle.std.specs.Prelude.{◌≡◌, Option, Some, None, Result, Ok, Err}
use Rattle.map_edits.specs.declared.fault.EditStop.{EditStop}
use Rattle.map_edits.specs.declared.fault.EditStop.TheVariants as stop

-- the value is the one that is read by definition, or there is none
abbrev pub Gives : {A : Type 0} → Result A EditStop → Option A → Type 0
Gives (Ok x) there = there ≡ Some x
Gives (Err stop.BadEdit) there = there ≡ None
Gives (Err stop.NoMemory) there = Unit {0}
