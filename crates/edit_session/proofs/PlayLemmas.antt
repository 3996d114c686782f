-- What `session` comes to, how it is written, what it promises, and how many steps it takes.
use Rattle.std.proofs.Common.{◌≡◌, ◌∙◌, ℕ, suc, List, [], ◌∷◌, take, Option, None, Some, Result, Ok, Err, refl, sym, ap, subst, arith}
use Rattle.std.proofs.lemmas.List.{append-nil}
use Rattle.std.specs.Option.{option_map}
use Rattle.std.specs.Prelude.{Vec}
use Rattle.std.specs.declared.alloc.Global.{Global}
use Rattle.files_door.specs.declared.stop.Stop.{Stop}
use Rattle.files_door.specs.declared.stop.Stop.TheVariants as stop
use Rattle.files_door.specs.declared.target.Target.{Target}
use Rattle.files_door.specs.declared.target.Target.TheVariants.{Path}
use Rattle.files_door.specs.Targets.{Written}
use Rattle.files_door.specs.Acts.{Act, begun, puts, Does}
use Rattle.files_door.proofs.Acts.{Does-append, Does-nil}
use Rattle.command_run.specs.Delivered.{outputs_acts, target_acts}
use Rattle.command_run.specs.Pieces.{DoesUpTo}
use Rattle.command_run.specs.Work.{Work, ends, ◌>>=◌}
use Rattle.command_run.proofs.PieceLemmas.{delivered_failed}
use Rattle.run_status.specs.declared.input.Input.{Input}
use Rattle.run_status.specs.declared.input.Input.TheVariants as input
use Rattle.run_status.specs.declared.refusal.Refusal.{Refusal}
use Rattle.run_status.specs.declared.refusal.Refusal.TheVariants as refused
use Rattle.run_status.specs.Following.{Follows}
use Rattle.run_status.proofs.FollowLemmas.{Told, follows_refused, follows_then, follows_value}
use Rattle.command_inputs.specs.declared.loaded.Loaded.{Loaded}
use Rattle.command_inputs.specs.Inputs.{InputPaths, input_at}
use Rattle.command_inputs.specs.Loading.{file_work, load_work}
use Rattle.edit_session.specs.declared.stop.ScriptStop.{ScriptStop}
use Rattle.edit_session.specs.declared.stop.ScriptStop.TheVariants as script_stop
use Rattle.edit_session.specs.SessionWorks.{Played, draw_outputs, played_by, script_in, script_work}
use Rattle.edit_session.specs.Promises.{IsScript, KeepDraws}
use Rattle.edit_session.specs.Playing.{IsPlayed, Plays, stopped_by}
use Rattle.edit_session.proofs.LineLemmas.{refused_due}

abbrev pub same_loaded : Loaded → Loaded
same_loaded loaded = loaded

abbrev pub same_played : Played → Played
same_played played = played

-- the bytes of a file
abbrev pub bytes_in : Vec ℕ Global → List ℕ
bytes_in bytes = bytes.items

abbrev pub bytes_of_file : Option (Vec ℕ Global) → Option (List ℕ)
bytes_of_file file = option_map bytes_in file

module _ (told : Told) (paths : Input → List ℕ) (rose : Type 0) (result : Result (Vec ℕ Global) Refusal) where
  -- it is not there
  pub missing_script : result ≡ Err (refused.BadEdit 0) → Follows told paths rose bytes_of_file (file_work input.Script) (Ok None) → Follows told paths rose bytes_in script_work result
  missing_script is first =
      subst (λ (r : Result (Vec ℕ Global) Refusal). Follows told paths rose bytes_in script_work r) (sym is)
      (follows_value told paths rose bytes_of_file bytes_in (file_work input.Script) (λ f. script_in f) None (Err (refused.BadEdit 0)) first refl)

-- the output is not begun
pub unbegun : (out text : List ℕ) (old new : Option Written) (why : Stop) (result : Result (Option ℕ) Stop) → (given : Stop) × (result ≡ Err given) × (given ≡ why) → new ≡ old
    → DoesUpTo (outputs_acts (draw_outputs out text)) old new result
unbegun out text old new why result is same = refused_due (outputs_acts (draw_outputs out text)) old new why result is (0, λ failed. omega arith, same ∙ Does-nil old)

-- it is begun, and its text is written, or a beginning
pub begun_due : (out path text : List ℕ) (current : Option Target) (old mid new : Option Written) (result : Result (Option ℕ) Stop) → path ≡ out → Does (begun (Path path) ∷ []) old mid → current ≡ Some (Path path)
    → DoesUpTo (puts current text) mid new result → DoesUpTo (outputs_acts (draw_outputs out text)) old new result
begun_due out path text current old mid new result is first to due =
    subst (λ (p : List ℕ). DoesUpTo (outputs_acts (draw_outputs p text)) old new result) is
    (subst (λ (acts : List Act). DoesUpTo acts old new result) (sym (append-nil (target_acts (Path path) text)))
    (by_result result (subst (λ (c : Option Target). DoesUpTo (puts c text) mid new result) to due)))
  where
    by_result : (r : Result (Option ℕ) Stop) → DoesUpTo (puts (Some (Path path)) text) mid new r → DoesUpTo (target_acts (Path path) text) old new r
    by_result (Ok bad) whole = Does-append (begun (Path path) ∷ []) (puts (Some (Path path)) text) old mid new first whole
    by_result (Err why) (n, fewer, front) = (suc n, λ failed. omega (arith, fewer failed), Does-append (begun (Path path) ∷ []) (take n (puts (Some (Path path)) text)) old mid new first front)

-- the refusal of a script by that of a call
pub stopped_as : (why : ScriptStop) (result : Result (Option ℕ) ScriptStop) → (given : ScriptStop) × (result ≡ Err given) × (given ≡ why) → result ≡ Err why
stopped_as why result is =
    let answer : ScriptStop → Result (Option ℕ) ScriptStop = λ s. Err s in
    is.1 ∙ ap answer is.2

-- what comes after loading
abbrev pub with_loaded : List ℕ → Loaded → Work Input Refusal Played
with_loaded out loaded = script_work >>= (λ script. ends (Ok (played_by out loaded script)))

module _ (told : Told) (inputs : InputPaths) (out : List ℕ) where
  abbrev paths : Input → List ℕ
  paths = input_at inputs

  -- nothing is begun where an input is refused
  pub load_refused : (rose sinks_rose : Type 0) (old new : Option Written) (why : Refusal) (result : Result (Option ℕ) ScriptStop) → result ≡ Err (script_stop.Refused why) → new ≡ old
      → Follows told paths rose same_loaded (load_work inputs.chosen) (Err why) → Plays told inputs out rose sinks_rose old new result
  load_refused rose sinks_rose old new why result is same first =
      subst (λ (r : Result (Option ℕ) ScriptStop). Plays told inputs out rose sinks_rose old new r) (sym is)
      (follows_refused told paths rose same_loaded same_played (load_work inputs.chosen) (with_loaded out) why (Err why) (why, refl, refl) first, same)

  module _ (first_rose later rose sinks_rose : Type 0) (widen : later → rose) (old new : Option Written) (loaded : Loaded) (loads : Follows told paths first_rose same_loaded (load_work inputs.chosen) (Ok loaded)) where
    pub script_refused : (why : Refusal) (result : Result (Option ℕ) ScriptStop) → result ≡ Err (script_stop.Refused why) → new ≡ old → Follows told paths later bytes_in script_work (Err why)
        → Plays told inputs out rose sinks_rose old new result
    script_refused why result is same second =
        subst (λ (r : Result (Option ℕ) ScriptStop). Plays told inputs out rose sinks_rose old new r) (sym is) (
          follows_then told paths first_rose later rose same_loaded same_played (load_work inputs.chosen) (with_loaded out) loaded (Err why) widen loads
              (follows_refused told paths later bytes_in same_played script_work (λ script. ends (Ok (played_by out loaded script))) why (Err why) (why, refl, refl) second),
          same,
        )

    module _ (script : Vec ℕ Global) (reads : Follows told paths later bytes_in script_work (Ok script)) where
      abbrev played : Played
      played = played_by out loaded script.items

      comes : IsPlayed told inputs out rose played
      comes =
          follows_then told paths first_rose later rose same_loaded same_played (load_work inputs.chosen) (with_loaded out) loaded (Ok played) widen loads
          (follows_value told paths later bytes_in same_played script_work (λ s. Ok (played_by out loaded s)) script (Ok played) reads refl)

      -- all draws are written
      pub script_played : (bad : Option ℕ) (result : Result (Option ℕ) ScriptStop) → result ≡ Ok bad → IsScript told inputs script.items → bad ≡ played.bad → KeepDraws loaded script.items
          → DoesUpTo {T = Option ℕ} (outputs_acts played.outputs) old new (Ok bad) → Plays told inputs out rose sinks_rose old new result
      script_played bad result is lies same kept does =
          subst (λ (r : Result (Option ℕ) ScriptStop). Plays told inputs out rose sinks_rose old new r) (sym is)
          (played, comes, record { loaded = loaded; loads = loads.1; script = script.items; lies = lies; are = refl; kept = kept }, same, does)

      -- a beginning of the draws is
      pub script_left : (why : Stop) (result : Result (Option ℕ) ScriptStop) → result ≡ Err (stopped_by why) → (why ≡ stop.Failed → sinks_rose)
          → DoesUpTo {T = Option ℕ} (outputs_acts played.outputs) old new (Err why) → Plays told inputs out rose sinks_rose old new result
      script_left stop.Failed result is cause does =
          subst (λ (r : Result (Option ℕ) ScriptStop). Plays told inputs out rose sinks_rose old new r) (sym is)
          (played, comes, delivered_failed (Option ℕ) played.outputs sinks_rose old new (cause refl) does)
      script_left stop.NoMemory result is cause does =
          subst (λ (r : Result (Option ℕ) ScriptStop). Plays told inputs out rose sinks_rose old new r) (sym is)
          (played, comes, (does.0, does.2))
