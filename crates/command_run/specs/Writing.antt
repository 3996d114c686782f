-- Acts that are done in order, all of them or a beginning.
use Rattle.std.specs.Prelude.{ℕ, ◌<◌, List, length, take, Option, Result, Ok, Err}
use Rattle.files_door.specs.Targets.{Written}
use Rattle.files_door.specs.Acts.{Act, Does}

-- all the acts are done, or where the call was refused, a beginning of them
abbrev pub DoesSome : {T E : Type 0} → List Act → Option Written → Option Written → Result T E → Type 0
DoesSome acts old new (Ok done) = Does acts old new
DoesSome acts old new (Err stop) = (n : ℕ) × (n < length acts) × Does (take n acts) old new
