-- What words give to commands.
use Rattle.std.specs.Prelude.{ℕ, List, Option, option_map}
use Rattle.map_method.specs.declared.defaults.Defaults.{Defaults}
use Rattle.command_paths.specs.Sets.{sets_of}
use Rattle.command_paths.specs.declared.map_files.MapFiles.{MapFiles}
use Rattle.command_paths.specs.declared.new_files.NewFiles.{NewFiles}
use Rattle.command_paths.specs.declared.options.Options.{Options}

-- where a map and its certificate lie
pub record MapPaths : Type 0 where
  pub picture : List ℕ
  pub certificate : List ℕ

-- where a new map and its certificate are to lie, and its page, if one is asked for
pub record NewPaths : Type 0 where
  pub map : MapPaths
  pub page : Option (List ℕ)

-- what a user chose: which settings hold where no file sets them, a file of settings, and one of edits, if any; and texts
-- whose keys take the place of those of the file
pub record Chosen : Type 0 where
  pub defaults : Defaults
  pub settings : Option (List ℕ)
  pub edits : Option (List ℕ)
  pub sets : List (List ℕ)

-- the paths of a map and its certificate in the program
abbrev pub paths_by : MapFiles → MapPaths
paths_by files = record { picture = files.picture.now; certificate = files.certificate.now }

-- the paths of a new map in the program
abbrev pub new_paths_by : NewFiles → NewPaths
new_paths_by files = record { map = paths_by files.map; page = option_map (λ path. path.now) files.page }

-- the options of a command in the program
abbrev pub options_by : Options → Chosen
options_by options = record { defaults = options.defaults; settings = option_map (λ path. path.now) options.settings; edits = option_map (λ path. path.now) options.edits; sets = sets_of options.words.now }
