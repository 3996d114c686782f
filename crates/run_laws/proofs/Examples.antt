-- Answers to commands, at small cases.
use Rattle.std.proofs.Common.{◌≡◌, [], None, Some, Ok, Err, codes, refl}
use Rattle.map_method.specs.declared.defaults.Defaults.TheVariants.{Make}
use Rattle.table_rows.specs.declared.why.Table.TheVariants.{Trips}
use Rattle.run_status.specs.declared.input.Input.TheVariants as input
use Rattle.run_status.specs.declared.refusal.Refusal.TheVariants as refused
use Rattle.run_status.specs.declared.status.Status.TheVariants as status
use Rattle.run_status.specs.Outputs.{said}
use Rattle.command_words.specs.Asked.{graph}
use Rattle.command_paths.specs.Paths.{Chosen}
use Rattle.asked_inputs.specs.Inputs.{input_path}
use Rattle.map_run.specs.Answers.{alone, answer_by}

abbrev standard : Chosen
standard = record { defaults = Make; settings = None; edits = None; sets = [] }

-- an unread table is named by its path
unread_trips : answer_by (input_path (graph (codes "feed") standard)) (Err (refused.ReadFault (input.Table Trips))) ≡ alone (status.ReadFault (codes "feed/trips.txt"))
unread_trips = refl

-- a part over the budget is named, with its branch nodes
spent_line : answer_by (input_path (graph (codes "feed") standard)) (Err (refused.Spent 0 2)) ≡ alone (status.Spent 0 2)
spent_line = refl

-- a script that stops at a bad line leaves what it drew
stopped_at_6 : answer_by (λ _. []) (Ok (record { outputs = said (codes "drawn"); bad_line = Some 6 })) ≡ record { status = status.BadEdit 6; outputs = said (codes "drawn") }
stopped_at_6 = refl
