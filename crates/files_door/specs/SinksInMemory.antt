-- Sinks in memory.
use Rattle.std.specs.Prelude.{◌≡◌, ℕ, zero, suc, List, [], ◌∷◌, map, Option, None, Some, if◌then◌else◌, Vec}
use Rattle.std.specs.Option.{option_map}
use Rattle.std.specs.declared.alloc.Global.{Global}
use Rattle.files_door.specs.declared.target.Target.{Target}
use Rattle.files_door.specs.declared.target.Target.TheVariants.{Said}
use Rattle.files_door.specs.declared.stop.Stop.{Stop}
use Rattle.files_door.specs.declared.stop.Stop.TheVariants.{Failed, NoMemory}
use Rattle.files_door.specs.Counts.{next_count}
use Rattle.files_door.specs.Targets.{same_target, Written}

-- a target with what it holds, wherever the bytes lie
abbrev pub held_in : Target × Vec ℕ Global → Target × List ℕ
held_in target = (target.0, target.1.items)

abbrev pub written_in : List (Target × Vec ℕ Global) → Written
written_in targets = map held_in targets

-- the place of a target
abbrev pub place_of : Target → Written → Option ℕ
place_of target [] = None
place_of target (entry ∷ entries) = if same_target entry.0 target then Some 0 else option_map suc (place_of target entries)

-- the target at a place
abbrev pub target_at : Written → ℕ → Target
target_at [] place = Said
target_at (entry ∷ entries) zero = entry.0
target_at (entry ∷ entries) (suc place) = target_at entries place

-- the target at this place is at no earlier one
abbrev pub IsFirst : Written → ℕ → Type 0
IsFirst written place = place_of (target_at written place) written ≡ Some place

-- what each target holds, and the current one
pub record WrittenSinks : Type 0 where
  pub written : Written
  pub current : Option Target

-- sinks with room for so many bytes
pub record RoomySinks : Type 0 where
  pub written : Written
  pub current : Option Target
  pub room : ℕ
  pub faults : ℕ

-- after a refused write: nothing was taken, and a fault was counted
abbrev pub refused : Stop → RoomySinks → RoomySinks
refused Failed sinks = record sinks { faults = next_count sinks.faults }
refused NoMemory sinks = sinks
