-- What `improve` promises.
use Rattle.std.proofs.Common.{◌≡◌, ℕ, List, Result, Ok, Err, IfOk, ap, sym, subst}
use Rattle.command_run.specs.declared.output.Output.{Output}
use Rattle.map_faults.specs.declared.fault.MakeFault.{MakeFault}
use Rattle.map_faults.specs.declared.fault.MakeFault.TheVariants as fault
use Rattle.graph_maps.specs.Making.{HasCause}
use Rattle.graph_maps.specs.Improving.{ImprovedBytes}
use Rattle.map_engine.specs.Improving.{improve_outcome, IsImprovedMap}
use Rattle.command_inputs.specs.declared.loaded.Loaded.{Loaded}
use Rattle.run_status.specs.declared.refusal.Refusal.{Refusal}
use Rattle.command_paths.specs.Paths.{MapPaths}
use Rattle.command_inputs.specs.Inputs.{InputPaths, input_at}
use Rattle.command_inputs.specs.Loading.{load_work}
use Rattle.run_status.specs.Following.{Follows, Gives}
use Rattle.run_status.specs.Refusals.{of_make}
use Rattle.run_status.proofs.FollowLemmas.{IsRefusedAs, Told, refused_as}
use Rattle.map_commands.specs.ImproveWorks.{improved_at, improved_outputs, AreOfImproved}
use Rattle.map_commands.proofs.CheckLemmas.{same_outputs}

-- a cause why there is no map is the refusal
pub improved_refused : (paths : MapPaths) (outcome : Result ImprovedBytes MakeFault) (e : MakeFault) (result : Result (List Output) Refusal) → IsRefusedAs (of_make e) result → HasCause outcome e
    → Gives same_outputs result (improved_at paths outcome)
improved_refused paths outcome e result is cause = subst (λ (r : Result (List Output) Refusal). Gives same_outputs r (improved_at paths outcome)) (sym (refused_as (of_make e) result is)) (by_fault e cause)
  where
    by_fault : (f : MakeFault) → HasCause outcome f → Gives same_outputs (Err (of_make f)) (improved_at paths outcome)
    by_fault fault.NoMemory h = tt
    by_fault (fault.NoRoute seg) h = ap (improved_at paths) h
    by_fault (fault.Spent component branches) h = ap (improved_at paths) h
    by_fault (fault.Limit limit) h = ap (improved_at paths) h

-- a map that was improved of what was loaded
pub are_of_improved : (told : Told) (inputs : InputPaths) (rose : Type 0) (paths : MapPaths) (moves : ℕ) (loaded : Loaded) (result : Result (List Output) Refusal)
    → Follows told (input_at inputs) rose (λ (l : Loaded). l) (load_work inputs.chosen) (Ok loaded)
    → IfOk result (λ outputs. (improved : ImprovedBytes) × (improve_outcome loaded.tables loaded.settings loaded.method moves ≡ Ok improved)
    × IsImprovedMap loaded.tables loaded.settings loaded.method moves improved × (outputs ≡ improved_outputs paths improved)) → IfOk result (AreOfImproved told inputs paths moves)
are_of_improved told inputs rose paths moves loaded (Err why) loads improved = tt
are_of_improved told inputs rose paths moves loaded (Ok outputs) loads improved =
    record { loaded = loaded; loads = loads.1; improved = improved.0; defined = improved.1; is_improved = improved.2; are = improved.3 }
