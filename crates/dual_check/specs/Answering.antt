-- What the check answers.
use Rattle.std.specs.Prelude.{◌≡◌, List, Option, Some}
use Rattle.map_base.specs.declared.ids.LineId.{LineId}
use Rattle.dual_check.specs.declared.stop.DualStop.{DualStop}
use Rattle.dual_check.specs.declared.stop.DualStop.TheVariants.{Failing, NoMemory}

-- a tree is refused by the way to its first node that fails, or for want of memory
abbrev pub IsCause : Option (List LineId) → DualStop → Type 0
IsCause way (Failing lines) = way ≡ Some lines.items
IsCause way NoMemory = Unit {0}
