-- What `improve` does, and what it promises.
use Rattle.std.specs.Prelude.{◌≡◌, ℕ, ◌++◌, codes, List, Option, Result, Ok, Err}
use Rattle.std.specs.Fmt.{decimal}
use Rattle.map_faults.specs.declared.fault.MakeFault.{MakeFault}
use Rattle.graph_maps.specs.declared.improvement.Improvement.{Improvement}
use Rattle.graph_maps.specs.Improving.{ImprovedBytes}
use Rattle.map_engine.specs.Improving.{improve_outcome, IsImprovedMap}
use Rattle.command_run.specs.declared.output.Output.{Output}
use Rattle.command_run.specs.Work.{Work, ends, ◌>>=◌}
use Rattle.command_paths.specs.Paths.{Chosen, MapPaths}
use Rattle.run_status.specs.declared.input.Input.{Input}
use Rattle.run_status.specs.declared.refusal.Refusal.{Refusal}
use Rattle.run_status.specs.Refusals.{of_make}
use Rattle.run_status.specs.Outputs.{said}
use Rattle.command_inputs.specs.declared.loaded.Loaded.{Loaded}
use Rattle.command_inputs.specs.Inputs.{InputPaths}
use Rattle.command_inputs.specs.Loading.{load_work, Loads}
use Rattle.map_commands.specs.MapWorks.{map_outputs}

-- what `improve` prints: what the drawing weighed before the moves, what it weighs after them, and how many were made
abbrev pub improved_line : Improvement → List ℕ
improved_line moves = codes "improved " ++ (decimal moves.before ++ (codes " " ++ (decimal moves.after ++ (codes " " ++ (decimal moves.made ++ codes "\n")))))

-- an improved map and its certificate go to their files, the map first, and the line to standard output
abbrev pub improved_outputs : MapPaths → ImprovedBytes → List Output
improved_outputs paths improved = map_outputs paths improved.map ++ said (improved_line improved.improvement)

-- the outputs of a map that is improved, or why there is none
abbrev pub improved_at : MapPaths → Result ImprovedBytes MakeFault → Result (List Output) Refusal
improved_at paths (Ok improved) = Ok (improved_outputs paths improved)
improved_at paths (Err fault) = Err (of_make fault)

-- `improve`: the map of the feed is made, and its drawing is moved at most so often
abbrev pub improve_work : Chosen → MapPaths → ℕ → Work Input Refusal (List Output)
improve_work chosen paths moves = do
  loaded ← load_work chosen
  ends (improved_at paths (improve_outcome loaded.tables loaded.settings loaded.method moves))

-- The outputs of `improve` are a map and its certificate, at their paths, and the line: those that are defined for the
-- feed. The map shows exactly the line graph of the feed, in a legal drawing that is no heavier than the one of `make`, and
-- no line orders cost less; the check says yes to both files.
pub record AreOfImproved (told : Option (List (List ℕ × List ℕ))) (inputs : InputPaths) (paths : MapPaths) (moves : ℕ) (outputs : List Output) : Type 0 where
  pub loaded : Loaded
  pub loads : Loads told inputs loaded
  pub improved : ImprovedBytes
  pub defined : improve_outcome loaded.tables loaded.settings loaded.method moves ≡ Ok improved
  pub is_improved : IsImprovedMap loaded.tables loaded.settings loaded.method moves improved
  pub are : outputs ≡ improved_outputs paths improved
