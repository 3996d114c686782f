-- The status that a refusal ends with.
use Rattle.std.specs.Prelude.{ℕ, List}
use Rattle.run_status.specs.declared.input.Input.{Input}
use Rattle.run_status.specs.declared.refusal.Refusal.{Refusal}
use Rattle.run_status.specs.declared.refusal.Refusal.TheVariants as refused
use Rattle.run_status.specs.declared.status.Status.{Status}
use Rattle.run_status.specs.declared.status.Status.TheVariants as status

-- the status of a refusal; an input that is not there or can't be read is named by its path
abbrev pub status_of : (Input → List ℕ) → Refusal → Status
status_of paths (refused.BadRow table row why) = status.BadRow table row why
status_of paths (refused.NoRoute seg) = status.NoRoute seg
status_of paths (refused.Spent component branches) = status.Spent component branches
status_of paths (refused.Limit limit) = status.Limit limit
status_of paths (refused.Refuted item) = status.Refuted item
status_of paths (refused.BadSettings why) = status.BadSettings why
status_of paths (refused.BadEdit line) = status.BadEdit line
status_of paths (refused.BadGraph why) = status.BadGraph why
status_of paths (refused.Missing input) = status.Missing (paths input)
status_of paths (refused.ReadFault input) = status.ReadFault (paths input)
status_of paths refused.NoMemory = status.NoMemory
