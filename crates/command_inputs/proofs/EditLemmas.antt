-- Edits of what commands load.
use Rattle.std.proofs.Common.{ℕ, List, Result, Err, Vec, ap}
use Rattle.std.specs.declared.alloc.Global.{Global}
use Rattle.map_edits.specs.declared.edit.Edit.{Edit}
use Rattle.map_edits.specs.declared.fault.EditsFault.{EditsFault}
use Rattle.map_edits.specs.declared.fault.EditsFault.TheVariants as fault
use Rattle.map_edits.specs.Standing.{ReadsEdits}
use Rattle.run_status.specs.declared.refusal.Refusal.{Refusal}
use Rattle.run_status.specs.declared.refusal.Refusal.TheVariants as refused
use Rattle.run_status.specs.Following.{Gives}
use Rattle.run_status.specs.Refusals.{of_edits}
use Rattle.command_inputs.specs.declared.loaded.Loaded.{Loaded}
use Rattle.command_inputs.specs.Loading.{changed_by, edits_given}

-- edits as they are read
abbrev pub edits_in_vec : Vec Edit Global → List Edit
edits_in_vec edits = edits.items

-- nothing is changed where there are no edits
unchanged : (loaded : Loaded) (why : Refusal) (defined : Result (List Edit) Refusal) → Gives edits_in_vec (Err why) defined → Gives {A = Loaded} (λ (l : Loaded). l) (Err why) (changed_by loaded defined)
unchanged loaded refused.NoMemory defined gives = tt
unchanged loaded (refused.ReadFault input) defined gives = absurd gives
unchanged loaded (refused.BadRow table row why) defined gives = ap (changed_by loaded) gives
unchanged loaded (refused.NoRoute seg) defined gives = ap (changed_by loaded) gives
unchanged loaded (refused.Spent component branches) defined gives = ap (changed_by loaded) gives
unchanged loaded (refused.Limit limit) defined gives = ap (changed_by loaded) gives
unchanged loaded (refused.Refuted item) defined gives = ap (changed_by loaded) gives
unchanged loaded (refused.BadSettings bad) defined gives = ap (changed_by loaded) gives
unchanged loaded (refused.BadGraph bad) defined gives = ap (changed_by loaded) gives
unchanged loaded (refused.BadEdit line) defined gives = ap (changed_by loaded) gives
unchanged loaded (refused.Missing input) defined gives = ap (changed_by loaded) gives

-- a file of edits that is refused
fault_given : (why : EditsFault) (outcome : Result (List Edit) ℕ) → ReadsEdits edits_in_vec (Err why) outcome → Gives edits_in_vec (Err (of_edits why)) (edits_given outcome)
fault_given (fault.BadEdit line) outcome reads = ap edits_given reads
fault_given fault.NoMemory outcome reads = tt
