-- What `make` and `check` promise of their outputs, in the words of the feed.
use Rattle.std.specs.Prelude.{◌≡◌, ◌≤◌, ◌⊎◌, ℕ, ◌+◌, List, [], Option, Some, Ok, IfSome}
use Rattle.files_door.specs.Files.{file_at}
use Rattle.command_run.specs.declared.output.Output.{Output}
use Rattle.graph_maps.specs.declared.checked.Proved.{Proved}
use Rattle.graph_maps.specs.Making.{MapBytes}
use Rattle.map_engine.specs.Making.{make_outcome}
use Rattle.map_engine.specs.Keeping.{branches_left}
use Rattle.map_engine.specs.Promises.{IsMade, IsCertified}
use Rattle.map_engine.specs.Postering.{IsPoster}
use Rattle.command_paths.specs.Paths.{NewPaths}
use Rattle.run_status.specs.Outputs.{said}
use Rattle.command_inputs.specs.declared.loaded.Loaded.{Loaded}
use Rattle.command_inputs.specs.Inputs.{InputPaths}
use Rattle.command_inputs.specs.Loading.{Loads}
use Rattle.map_commands.specs.MapWorks.{proved_line, new_outputs, poster_due}

-- The outputs of `make` are a map and its certificate, at their paths, and the page of its poster where one is named: those
-- that are defined for the feed. The map shows exactly the line graph of the feed, in a legal drawing, and no line orders
-- cost less than the bound that the certificate proves, which is the cost where best orders are claimed; the check says yes
-- to both. The poster is the one by this certificate, and is always there.
pub record AreOfMap (told : Option (List (List ℕ × List ℕ))) (inputs : InputPaths) (paths : NewPaths) (outputs : List Output) : Type 0 where
  pub loaded : Loaded
  pub loads : Loads told inputs loaded
  pub made : MapBytes
  pub defined : make_outcome loaded.tables loaded.settings loaded.method ≡ Ok made
  pub is_made : IsMade loaded.tables loaded.settings loaded.method.claim made
  pub poster : List ℕ
  pub postered : poster_due loaded made ≡ Ok poster
  pub is_poster : IsPoster loaded.tables loaded.settings loaded.method.claim poster made.certificate
  pub are : outputs ≡ new_outputs paths (Ok poster) made

-- The certificate at its path certifies this map, this cost and this bound. Its walks are a legal drawing of exactly the
-- line graph of the feed, its orders have this cost, and none cost less than the bound; the map is the picture of both.
abbrev pub IsAccepted : Option (List (List ℕ × List ℕ)) → InputPaths → Loaded → List ℕ → Proved → Type 0
IsAccepted told inputs loaded picture proved =
    (certificate : List ℕ) × IfSome told (λ files. file_at files (inputs.files.certificate) ≡ Some certificate)
    × IsCertified loaded.tables loaded.settings loaded.method.claim picture certificate proved

-- The output of `check` is what is proved of the map that lies at its path, and that is accepted with its certificate.
pub record AreOfYes (told : Option (List (List ℕ × List ℕ))) (inputs : InputPaths) (outputs : List Output) : Type 0 where
  pub loaded : Loaded
  pub loads : Loads told inputs loaded
  pub picture : List ℕ
  pub lies : IfSome told (λ files. file_at files (inputs.files.picture) ≡ Some picture)
  pub proved : Proved
  pub accepted : IsAccepted told inputs loaded picture proved
  pub are : outputs ≡ said (proved_line proved)

-- the counter of steps rises by at most the branch nodes of the searches of all parts of the feed's problem
abbrev pub SearchesParts : Option (List (List ℕ × List ℕ)) → InputPaths → ℕ → ℕ → Type 0
SearchesParts told inputs before now =
    (now ≡ before) ⊎ ((loaded : Loaded) × Loads told inputs loaded × (now ≤ before + branches_left [] loaded.tables loaded.settings loaded.method))
