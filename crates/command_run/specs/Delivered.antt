-- How outputs and a line are delivered: what the targets hold then.
use Rattle.std.specs.Prelude.{ℕ, ◌<◌, List, [], ◌∷◌, ◌++◌, length, take, codes, Option, Some}
use Rattle.std.specs.List.{flat_map}
use Rattle.files_door.specs.declared.target.Target.{Target}
use Rattle.files_door.specs.declared.target.Target.TheVariants.{Said}
use Rattle.files_door.specs.Targets.{Written}
use Rattle.files_door.specs.Acts.{Act, begun, puts, Does}
use Rattle.command_run.specs.declared.output.Output.{Output}
use Rattle.command_run.specs.declared.delivery.Ending.{Ending}
use Rattle.command_run.specs.declared.delivery.Ending.TheVariants.{Whole, CutShort, OutOfMemory}

-- a target is begun, and gets bytes
abbrev pub target_acts : Target → List ℕ → List Act
target_acts to bytes = begun to ∷ puts (Some to) bytes

abbrev pub output_acts : Output → List Act
output_acts output = target_acts output.to output.bytes

-- outputs, one after another
abbrev pub outputs_acts : List Output → List Act
outputs_acts outputs = flat_map output_acts outputs

-- a line on standard output; an empty one is not printed
abbrev pub line_acts : List ℕ → List Act
line_acts [] = []
line_acts (byte ∷ bytes) = target_acts Said (byte ∷ bytes)

-- `no memory`, a line
abbrev pub no_memory_line : List ℕ
no_memory_line = codes "no memory\n"

-- a line is written, or where writing failed a beginning of it; or memory ran out, and `no memory` follows
abbrev pub IsSaid : List ℕ → Type 0 → Option Written → Option Written → Ending → Type 0
IsSaid line rose old new Whole = (n : ℕ) × (n < length (line_acts line) → rose) × Does (take n (line_acts line)) old new
IsSaid line rose old new CutShort = ⊥
IsSaid line rose old new OutOfMemory = (n : ℕ) × (m : ℕ) × Does (take n (line_acts line) ++ take m (line_acts no_memory_line)) old new

-- How outputs and a line are delivered, told whether the sinks' count of faults rose. They are whole; only the line
-- may be cut short, where writing failed. Or writing failed, and the outputs are cut short. Or memory ran out: a
-- beginning of what was to be written stands there, and then a beginning of `no memory`.
abbrev pub IsDelivered : List Output → List ℕ → Type 0 → Option Written → Option Written → Ending → Type 0
IsDelivered outputs line rose old new Whole =
    (n : ℕ) × (n < length (line_acts line) → rose) × Does (outputs_acts outputs ++ take n (line_acts line)) old new
IsDelivered outputs line rose old new CutShort =
    (n : ℕ) × rose × (n < length (outputs_acts outputs)) × Does (take n (outputs_acts outputs)) old new
IsDelivered outputs line rose old new OutOfMemory =
    (n : ℕ) × (m : ℕ) × Does (take n (outputs_acts outputs ++ line_acts line) ++ take m (line_acts no_memory_line)) old new
