-- When a count of faults is taken to have risen, and what a call may answer by it.
use Rattle.std.specs.Prelude.{◌≢◌, ℕ, ◌-◌, ◌^◌, ◌<◌, ◌≤◌, Result, IsErrOf}
use Rattle.files_door.specs.declared.stop.Stop.{Stop}
use Rattle.files_door.specs.declared.stop.Stop.TheVariants.{Failed}

-- the count rose, unless it stood at the greatest number that a u64 can have
abbrev pub Rose : ℕ → ℕ → Type 0
Rose before now = before ≢ 2 ^ 64 - 1 → before < now

-- the count never falls, and a fault is told only where it rose
pub record HasCause {T : Type 0} (before now : ℕ) (result : Result T Stop) : Type 0 where
  pub later : before ≤ now
  pub failed : IsErrOf result Failed → Rose before now
