-- How writing stops.
use Rattle.std.specs.Prelude.{ℕ, ⊤}
use Rattle.files_door.specs.Fault.{Rose}
use Rattle.files_door.specs.declared.stop.Stop.{Stop}
use Rattle.files_door.specs.declared.stop.Stop.TheVariants as stop
use Rattle.files_door.specs.declared.writing.WriteStop.{WriteStop}
use Rattle.files_door.specs.declared.writing.WriteStop.TheVariants.{Fault, NoMemory}

-- how many bytes were written before it
abbrev pub written_before : WriteStop → ℕ
written_before (Fault written) = written
written_before (NoMemory written) = written

-- a fault is told only where the count of faults rose
abbrev pub WriteCause : ℕ → ℕ → WriteStop → Type 0
WriteCause before now (Fault written) = Rose before now
WriteCause before now (NoMemory written) = ⊤

-- what a refused call of sinks makes of writing, after so many bytes
abbrev pub stopped : Stop → ℕ → WriteStop
stopped stop.Failed written = Fault written
stopped stop.NoMemory written = NoMemory written
