-- The steps of `check`, one after another.
use Rattle.std.proofs.Common.{◌≡◌, ℕ, ◌+◌, ◌==◌, Bool, true, false, List, [], ◌∷◌, Option, None, Some, Result, Ok, Err, IfOk, IfSome, if◌then◌else◌, eqb-true, refl, sym, ap, ◌∙◌, subst}
use Rattle.std.specs.Option.{option_map}
use Rattle.graph_core.specs.declared.parts.GraphParts.{GraphParts}
use Rattle.line_graph.specs.Outcome.{graph_outcome}
use Rattle.files_door.specs.Files.{file_at}
use Rattle.map_faults.specs.declared.fault.CheckFault.{CheckFault}
use Rattle.map_faults.specs.declared.fault.CheckFault.TheVariants as refuted
use Rattle.map_faults.specs.declared.fault.CheckItem.TheVariants as found
use Rattle.graph_maps.specs.declared.checked.Checked.{Checked}
use Rattle.graph_maps.specs.declared.checked.Proved.{Proved}
use Rattle.graph_maps.specs.Checking.{PlainChecked, checked_bytes, first_difference, unless_refused, HasCause}
use Rattle.map_engine.specs.Promises.{IsCertified}
use Rattle.command_run.specs.declared.output.Output.{Output}
use Rattle.command_run.specs.Work.{Work, ends, ◌>>=◌}
use Rattle.run_status.specs.declared.input.Input.{Input}
use Rattle.run_status.specs.declared.input.Input.TheVariants as input
use Rattle.run_status.specs.declared.item.Item.TheVariants as item
use Rattle.command_inputs.specs.declared.loaded.Loaded.{Loaded}
use Rattle.run_status.specs.declared.refusal.Refusal.{Refusal}
use Rattle.run_status.specs.declared.refusal.Refusal.TheVariants as refused
use Rattle.command_paths.specs.Paths.{Chosen}
use Rattle.command_inputs.specs.Inputs.{InputPaths, input_at}
use Rattle.map_commands.specs.MapWorks.{proved_line, built, certificate_work, picture_work, check_work, checked_as}
use Rattle.run_status.specs.Outputs.{said}
use Rattle.run_status.specs.Refusals.{of_check}
use Rattle.command_inputs.specs.Loading.{load_work}
use Rattle.run_status.specs.Following.{Follows, Gives}
use Rattle.map_commands.specs.Promises.{AreOfYes, IsAccepted}
use Rattle.run_status.proofs.FollowLemmas.{IsRefusedAs, Told, follows_refused, follows_then, gives_follows, refused_as}

abbrev same_graph : GraphParts → GraphParts
same_graph graph = graph

abbrev same_loaded : Loaded → Loaded
same_loaded loaded = loaded

abbrev pub same_outputs : List Output → List Output
same_outputs outputs = outputs

-- the line graph of what is loaded, as work
abbrev pub graph_work : Loaded → Work Input Refusal GraphParts
graph_work loaded = ends (built (graph_outcome loaded.settings.near loaded.tables))

-- what comes after the line graph
abbrev pub with_graph : Loaded → GraphParts → Work Input Refusal (List Output)
with_graph loaded graph = certificate_work loaded graph >>= picture_work

-- what comes after loading
abbrev pub with_loaded : Loaded → Work Input Refusal (List Output)
with_loaded loaded = graph_work loaded >>= with_graph loaded

-- what is loaded is refused
pub refused_load : (told : Told) (paths : Input → List ℕ) (chosen : Chosen) (rose : Type 0) (why : Refusal) (result : Result (List Output) Refusal) → IsRefusedAs why result
    → Follows told paths rose same_loaded (load_work chosen) (Err why) → Follows told paths rose same_outputs (check_work chosen) result
refused_load told paths chosen rose why result is first = follows_refused told paths rose same_loaded same_outputs (load_work chosen) with_loaded why result is first

module _ (told : Told) (paths : Input → List ℕ) (chosen : Chosen) (rose : Type 0) (loaded : Loaded) (loads : Follows told paths rose same_loaded (load_work chosen) (Ok loaded)) (result : Result (List Output) Refusal) where
  -- a limit of the line graph
  pub graph_refused : (why : Refusal) → Gives same_graph (Err why) (built (graph_outcome loaded.settings.near loaded.tables)) → IsRefusedAs why result
      → Follows told paths rose same_outputs (check_work chosen) result
  graph_refused why gives is =
      let second = follows_refused told paths rose same_graph same_outputs (graph_work loaded) (with_graph loaded) why result is
      (gives_follows told paths rose same_graph (built (graph_outcome loaded.settings.near loaded.tables)) (Err why) gives) in
      follows_then told paths rose rose rose same_loaded same_outputs (load_work chosen) with_loaded loaded result (λ r. r) loads second

  module _ (graph : GraphParts) (gives : Gives same_graph (Ok graph) (built (graph_outcome loaded.settings.near loaded.tables))) (later : Type 0) (widen : later → rose) where
    -- what follows the line graph
    past_graph : Follows told paths later same_outputs (with_graph loaded graph) result → Follows told paths rose same_outputs (check_work chosen) result
    past_graph second =
        let graphed = follows_then told paths later later later same_graph same_outputs (graph_work loaded) (with_graph loaded) graph result (λ r. r)
        (gives_follows told paths later same_graph (built (graph_outcome loaded.settings.near loaded.tables)) (Ok graph) gives) second in
        follows_then told paths rose later rose same_loaded same_outputs (load_work chosen) with_loaded loaded result widen loads graphed

    -- the certificate is refused, or left unread
    pub certificate_refused : (why : Refusal) → Follows told paths later checked_bytes (certificate_work loaded graph) (Err why) → IsRefusedAs why result
        → Follows told paths rose same_outputs (check_work chosen) result
    certificate_refused why first is =
        past_graph (follows_refused told paths later checked_bytes same_outputs (certificate_work loaded graph) picture_work why result is first)

    -- the certificate is accepted, and the map follows
    pub picture_follows : (first_rose : Type 0) (checked : Checked) → Follows told paths first_rose checked_bytes (certificate_work loaded graph) (Ok checked)
        → Follows told paths later same_outputs (picture_work (checked_bytes checked)) result → Follows told paths rose same_outputs (check_work chosen) result
    picture_follows first_rose checked first second =
        past_graph (follows_then told paths first_rose later later checked_bytes same_outputs (certificate_work loaded graph) picture_work checked result (λ r. r) first second)

-- texts without a first difference are the same
pub same_text : (picture svg : List ℕ) → first_difference picture svg ≡ None → svg ≡ picture
same_text [] [] is = refl
same_text [] (y ∷ svg) is = absurd (cc)
same_text (x ∷ picture) [] is = absurd (cc)
same_text (x ∷ picture) (y ∷ svg) is = by_test (x == y) refl (first_difference picture svg) (same_text picture svg) is
  where
    by_test : (b : Bool) → (x == y) ≡ b → (rest : Option ℕ) → (rest ≡ None → svg ≡ picture) → (if b then option_map (λ at. 1 + at) rest else Some 0) ≡ None → (y ∷ svg) ≡ (x ∷ picture)
    by_test true e None same is = let head : x ≡ y = eqb-true x y e in let tail : svg ≡ picture = same refl in cc
    by_test true e (Some at) same is = absurd (cc)
    by_test false e rest same is = absurd (cc)

-- what comes of a comparison
compared : PlainChecked → Option ℕ → Result Proved Refusal
compared checked different = checked_as (unless_refused (option_map found.Picture different) (Ok checked.proved))

-- the yes of a map that is accepted
pub says_yes : (told : Told) (inputs : InputPaths) (rose : Type 0) (loaded : Loaded) (checked : Checked) (result : Result (List Output) Refusal)
    → Follows told (input_at inputs) rose same_loaded (load_work inputs.chosen) (Ok loaded) → IsAccepted told inputs loaded checked.svg.items checked.proved
    → IfOk result (λ _. IfSome told (λ all. file_at all (input_at inputs input.Picture) ≡ Some checked.svg.items))
    → IfOk result (λ outputs. outputs ≡ said (proved_line checked.proved)) → IfOk result (AreOfYes told inputs)
says_yes told inputs rose loaded checked (Err why) loads accepted lies are = tt
says_yes told inputs rose loaded checked (Ok outputs) loads accepted lies are = record {
  loaded = loaded;
  loads = loads.1;
  picture = checked.svg.items;
  lies = lies;
  proved = checked.proved;
  accepted = accepted;
  are = are;
}

-- a certificate that certifies, and lies at its path
pub accepted_by : (told : Told) (inputs : InputPaths) (loaded : Loaded) (picture : List ℕ) (proved : Proved) (bytes : Option (List ℕ))
    → IfSome told (λ all. file_at all (input_at inputs input.Certificate) ≡ bytes)
    → (certificate : List ℕ) × (bytes ≡ Some certificate)
    × IsCertified loaded.tables loaded.settings loaded.method.claim picture certificate proved
    → IsAccepted told inputs loaded picture proved
accepted_by None inputs loaded picture proved bytes lies found = (found.0, tt, found.2)
accepted_by (Some all) inputs loaded picture proved bytes lies found = (found.0, lies ∙ found.1, found.2)

-- a certificate that is refused gives its refusal
refused_given : (fault : CheckFault) (outcome : Result PlainChecked CheckFault) → HasCause outcome fault
    → Gives checked_bytes (Err (of_check fault)) (checked_as outcome)
refused_given refuted.NoMemory outcome cause = tt
refused_given (refuted.Refuted found) outcome cause = ap checked_as cause
refused_given (refuted.Limit limit) outcome cause = ap checked_as cause

pub given_refused : (fault : CheckFault) (outcome : Result PlainChecked CheckFault) (result : Result Checked Refusal)
    → IsRefusedAs (of_check fault) result → HasCause outcome fault → Gives checked_bytes result (checked_as outcome)
given_refused fault outcome result is cause = subst (λ r. Gives checked_bytes r (checked_as outcome))
    (sym (refused_as (of_check fault) result is)) (refused_given fault outcome cause)
