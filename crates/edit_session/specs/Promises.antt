-- What `session` promises of its draws and its steps, in the words of the feed.
use Rattle.std.specs.Prelude.{◌≡◌, ◌≤◌, ◌⊎◌, ℕ, ◌+◌, List, All, Option, Some, IfOk, IfSome}
use Rattle.files_door.specs.Files.{file_at}
use Rattle.map_base.specs.Settings.{Choices}
use Rattle.map_method.specs.Methods.{MethodChoices}
use Rattle.transit_feed.specs.Feeds.{Feed}
use Rattle.map_edits.specs.declared.edit.Edit.{Edit}
use Rattle.map_edits.specs.Effects.{feed_after, choices_after}
use Rattle.map_engine.specs.Promises.{IsMade}
use Rattle.edit_session.specs.Scripts.{followed_in, draw_with, branches_to_follow}
use Rattle.run_status.specs.declared.input.Input.TheVariants as input
use Rattle.command_inputs.specs.declared.loaded.Loaded.{Loaded}
use Rattle.command_inputs.specs.Inputs.{InputPaths, input_at}
use Rattle.command_inputs.specs.Loading.{Loads}
use Rattle.edit_session.specs.SessionWorks.{Played, played_by}

-- Where a draw with these edits is not refused, its map shows exactly the line graph of the feed that they make, in a legal
-- drawing, and no line orders cost less than the bound that its certificate proves; the check says yes to the two.
abbrev pub KeepsPromise : Feed → Choices → MethodChoices → List Edit → Type 0
KeepsPromise feed choices method standing = IfOk (draw_with feed choices method standing) (IsMade (feed_after standing feed) (choices_after standing choices) method.claim)

-- each draw of a script keeps it
abbrev pub KeepDraws : Loaded → List ℕ → Type 0
KeepDraws loaded script = All (KeepsPromise loaded.tables loaded.settings loaded.method) (followed_in loaded.tables script).draws

-- the counter of steps rises by at most the branch nodes of the searches of the parts of each draw of a script that no
-- earlier draw finished
abbrev pub SearchDraws : Loaded → List ℕ → ℕ → ℕ → Type 0
SearchDraws loaded script before now = now ≤ before + branches_to_follow loaded.tables loaded.settings loaded.method script

-- this is the script at its path
abbrev pub IsScript : Option (List (List ℕ × List ℕ)) → InputPaths → List ℕ → Type 0
IsScript told inputs script = IfSome told (λ files. file_at files (input_at inputs input.Script) ≡ Some script)

-- What `session` came to is what is defined for the feed and the script: each draw has the bytes of a fresh map with the
-- edits that stand there, and keeps the promise of such a map.
pub record AreOfSession (told : Option (List (List ℕ × List ℕ))) (inputs : InputPaths) (out : List ℕ) (played : Played) : Type 0 where
  pub loaded : Loaded
  pub loads : Loads told inputs loaded
  pub script : List ℕ
  pub lies : IsScript told inputs script
  pub are : played ≡ played_by out loaded script
  pub kept : KeepDraws loaded script

-- the counter of steps rises by at most as much for the script of a command, and stays where nothing is followed
abbrev pub TakesSessionSteps : Option (List (List ℕ × List ℕ)) → InputPaths → ℕ → ℕ → Type 0
TakesSessionSteps told inputs before now =
    (now ≡ before) ⊎ ((loaded : Loaded) × (script : List ℕ) × Loads told inputs loaded × IsScript told inputs script
    × SearchDraws loaded script before now)
