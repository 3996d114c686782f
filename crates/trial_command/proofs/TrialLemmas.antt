-- What a trial comes to.
use Rattle.std.proofs.Common.{◌≡◌, ◌<◌, ℕ, List, Some, Result, Ok, Err, refl, sym, ap, ◌∙◌, subst, arith}
use Rattle.files_door.specs.Fault.{Rose}
use Rattle.cert_file.specs.Plain.{PlainCertificate}
use Rattle.map_engine.specs.Making.{make_outcome}
use Rattle.graph_maps.specs.Readings.{certificate_in}
use Rattle.command_run.specs.declared.output.Output.{Output}
use Rattle.run_status.specs.declared.refusal.Refusal.{Refusal}
use Rattle.run_status.specs.declared.refusal.Refusal.TheVariants as refused
use Rattle.run_status.specs.Following.{Follows, Gives}
use Rattle.run_status.specs.Outputs.{said}
use Rattle.run_status.proofs.FollowLemmas.{IsRefusedAs, refused_as, told_gives}
use Rattle.command_inputs.specs.declared.loaded.Loaded.{Loaded}
use Rattle.command_inputs.specs.Inputs.{InputPaths, input_at}
use Rattle.command_inputs.specs.Loading.{load_work}
use Rattle.trial_feed.specs.declared.summary.Summary.{Summary}
use Rattle.trial_feed.specs.Folder.{trial_folder}
use Rattle.trial_feed.specs.Summary.{trial_line}
use Rattle.trial_command.specs.Trials.{Tells, summary_of, told_as, trial_inputs, trial_loaded, trial_outcome, tried, tried_on}

-- a count that stays at 0 doesn't rise
pub never_rose : Rose 0 0 → ⊥
never_rose rose =
    let past : 0 < 0 = rose (λ same. cc) in
    omega (arith, past)

-- what is loaded of the folder of a trial
pub loads_trial : (trial : ℕ) (inputs : InputPaths) (files : List (List ℕ × List ℕ)) (rose : Type 0) (result : Result Loaded Refusal) → (rose → ⊥) → files ≡ trial_folder trial → inputs ≡ trial_inputs
    → Follows (Some files) (input_at inputs) rose (λ (l : Loaded). l) (load_work inputs.chosen) result → Gives (λ (l : Loaded). l) result (trial_loaded trial)
unfolding trial_loaded
loads_trial trial inputs files rose result steady same lie follows =
    told_gives (trial_folder trial) (input_at trial_inputs) rose (λ (l : Loaded). l) (load_work trial_inputs.chosen) result steady
    (subst (λ (p : InputPaths). Follows (Some (trial_folder trial)) (input_at p) rose (λ (l : Loaded). l) (load_work p.chosen) result) lie
    (subst (λ (all : List (List ℕ × List ℕ)). Follows (Some all) (input_at inputs) rose (λ (l : Loaded). l) (load_work inputs.chosen) result) same follows))

-- the map of what is loaded
pub outcome_of : (trial : ℕ) (loaded : Loaded) (result : Result (List Output) Refusal) → trial_loaded trial ≡ Ok loaded
    → Gives (λ (o : List Output). o) result (tried trial (make_outcome loaded.tables loaded.settings loaded.method)) → Gives (λ (o : List Output). o) result (trial_outcome trial)
unfolding trial_outcome
outcome_of trial loaded result is gives = subst (λ (l : Result Loaded Refusal). Gives (λ (o : List Output). o) result (tried_on trial l)) (sym is) gives

-- nothing is loaded
unloaded : (trial : ℕ) (why : Refusal) → Gives (λ (l : Loaded). l) (Err why) (trial_loaded trial) → Gives {A = List Output} (λ (o : List Output). o) (Err why) (trial_outcome trial)
unfolding trial_outcome
unloaded trial refused.NoMemory gives = tt
unloaded trial (refused.ReadFault input) gives = absurd gives
unloaded trial (refused.BadRow table row why) gives = ap (tried_on trial) gives
unloaded trial (refused.NoRoute seg) gives = ap (tried_on trial) gives
unloaded trial (refused.Spent component branches) gives = ap (tried_on trial) gives
unloaded trial (refused.Limit limit) gives = ap (tried_on trial) gives
unloaded trial (refused.Refuted item) gives = ap (tried_on trial) gives
unloaded trial (refused.BadSettings bad) gives = ap (tried_on trial) gives
unloaded trial (refused.BadGraph bad) gives = ap (tried_on trial) gives
unloaded trial (refused.BadEdit line) gives = ap (tried_on trial) gives
unloaded trial (refused.Missing input) gives = ap (tried_on trial) gives

pub outcome_unloaded : (trial : ℕ) (why : Refusal) (result : Result (List Output) Refusal) → IsRefusedAs why result → Gives (λ (l : Loaded). l) (Err why) (trial_loaded trial)
    → Gives (λ (o : List Output). o) result (trial_outcome trial)
outcome_unloaded trial why result is gives =
    subst (λ (r : Result (List Output) Refusal). Gives (λ (o : List Output). o) r (trial_outcome trial)) (sym (refused_as why result is)) (unloaded trial why gives)

-- the line of a certificate
pub told_line : (trial : ℕ) (bytes text : List ℕ) (summary : Summary) (outputs : List Output) → Tells bytes summary → text ≡ trial_line trial summary → outputs ≡ said text
    → outputs ≡ told_as trial (certificate_in bytes)
told_line trial bytes text summary outputs tells line is =
    is ∙ ap said line ∙ ap (λ (s : Summary). said (trial_line trial s)) tells.2 ∙ sym (ap (told_as trial) tells.1)
