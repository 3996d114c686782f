-- What each target holds after outputs.
use Rattle.std.specs.Prelude.{◌≡◌, ℕ, ◌⊎◌, List, [], ◌∷◌, ◌++◌, take, Option, Some, if◌then◌else◌, unwrap_or}
use Rattle.files_door.specs.declared.target.Target.{Target}
use Rattle.files_door.specs.declared.target.Target.TheVariants.{Said}
use Rattle.files_door.specs.Targets.{same_target}
use Rattle.files_door.specs.Acts.{kept_by}
use Rattle.command_run.specs.declared.output.Output.{Output}
use Rattle.command_run.specs.declared.delivery.Ending.{Ending}
use Rattle.command_run.specs.declared.delivery.Ending.TheVariants.{Whole, CutShort, OutOfMemory}
use Rattle.command_run.specs.Delivered.{no_memory_line}

-- What a target holds after outputs are written whole, where it held that before: each output to it begins it,
-- which empties a file and leaves standard output as it is, and appends its bytes. Other outputs change nothing.
abbrev pub held_after : Target → List Output → Option (List ℕ) → Option (List ℕ)
held_after target [] held = held
held_after target (output ∷ outputs) held =
    held_after target outputs (if same_target output.to target then Some (kept_by output.to (unwrap_or held []) ++ output.bytes) else held)

-- a line as an output to standard output; an empty one is none
abbrev pub line_outputs : List ℕ → List Output
line_outputs [] = []
line_outputs (byte ∷ bytes) = record { to = Said; bytes = byte ∷ bytes } ∷ []

-- a beginning of outputs: whole ones, and of the next a beginning of its bytes, which may be none
abbrev pub IsBeginning : List Output → List Output → Type 0
IsBeginning [] outputs = Unit {0}
IsBeginning (front ∷ more) [] = ⊥
IsBeginning (front ∷ more) (output ∷ outputs) =
    (front.to ≡ output.to) × (((front.bytes ≡ output.bytes) × IsBeginning more outputs) ⊎ ((n : ℕ) × (front.bytes ≡ take n output.bytes) × (more ≡ [])))

-- Which outputs stand in the targets after outputs and a line are delivered, told whether the sinks' count of faults
-- rose: all of them and the line, of which only a beginning may stand where writing failed; where the outputs are cut
-- short, a beginning of them; where memory ran out, a beginning of both, and then one of `no memory`.
abbrev pub Stands : List Output → List ℕ → Type 0 → Ending → List Output → Type 0
Stands outputs line rose Whole standing =
    (front : List Output) × (standing ≡ outputs ++ front) × IsBeginning front (line_outputs line) × ((front ≡ line_outputs line) ⊎ rose)
Stands outputs line rose CutShort standing = rose × IsBeginning standing outputs
Stands outputs line rose OutOfMemory standing =
    (front : List Output) × (last : List Output) × (standing ≡ front ++ last)
    × IsBeginning front (outputs ++ line_outputs line) × IsBeginning last (line_outputs no_memory_line)
