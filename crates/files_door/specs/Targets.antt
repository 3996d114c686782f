-- Targets, and what each one holds.
use Rattle.std.specs.Prelude.{ℕ, Bool, true, false, List, [], ◌∷◌, Option, None, Some, if◌then◌else◌}
use Rattle.std.specs.Str.{bytes_eq}
use Rattle.files_door.specs.declared.target.Target.{Target}
use Rattle.files_door.specs.declared.target.Target.TheVariants.{Said, Path}

-- both are standard output, or both are files of one path
abbrev pub same_target : Target → Target → Bool
same_target Said Said = true
same_target Said (Path b) = false
same_target (Path a) Said = false
same_target (Path a) (Path b) = bytes_eq a b

-- each target that was begun, with what it holds, in the order in which they were begun first
abbrev pub Written : Type 0
Written = List (Target × List ℕ)

-- what a target holds; none where it was never begun
abbrev pub held_by : Target → Written → Option (List ℕ)
held_by target [] = None
held_by target (entry ∷ entries) = if same_target entry.0 target then Some entry.1 else held_by target entries
