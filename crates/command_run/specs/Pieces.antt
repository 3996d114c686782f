-- Acts that are done as they come due.
use Rattle.std.specs.Prelude.{◌≡◌, ℕ, ◌<◌, List, length, take, Option, Result, Ok, Err}
use Rattle.files_door.specs.declared.stop.Stop.{Stop}
use Rattle.files_door.specs.declared.stop.Stop.TheVariants.{Failed}
use Rattle.files_door.specs.Targets.{Written}
use Rattle.files_door.specs.Acts.{Act, Does}

-- All the acts are done, in order; or where the call was refused, a beginning of them. A fault of writing leaves some undone;
-- memory may run out also behind the last of them.
abbrev pub DoesUpTo : {T : Type 0} → List Act → Option Written → Option Written → Result T Stop → Type 0
DoesUpTo acts old new (Ok done) = Does acts old new
DoesUpTo acts old new (Err stop) = (n : ℕ) × (stop ≡ Failed → n < length acts) × Does (take n acts) old new
