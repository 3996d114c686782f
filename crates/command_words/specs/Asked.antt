-- What words may ask for.
use Rattle.std.specs.Prelude.{ℕ, List}
use Rattle.command_paths.specs.Paths.{Chosen, MapPaths, NewPaths, new_paths_by, options_by, paths_by}
use Rattle.command_paths.specs.declared.picture.Picture.{Picture}
use Rattle.command_words.specs.declared.command.Command.{Command}
use Rattle.command_words.specs.declared.command.Command.TheVariants as command

-- a command with what it works on
pub data Asked : Type 0 where
  stations : List ℕ → Asked
  graph : List ℕ → Chosen → Asked
  export : List ℕ → List ℕ → Chosen → Asked
  imported : List ℕ → MapPaths → Chosen → Asked
  make : List ℕ → NewPaths → Chosen → Asked
  improve : List ℕ → MapPaths → ℕ → Chosen → Asked
  check : List ℕ → MapPaths → Chosen → Asked
  depict : Picture → List ℕ → List ℕ → List ℕ → Chosen → Asked
  session : List ℕ → List ℕ → List ℕ → Chosen → Asked
  trial : ℕ → Asked
  page : List ℕ → List ℕ → Asked

-- what a command of the program stands for
abbrev pub asked_by : Command → Asked
asked_by (command.Stations feed) = stations feed.now
asked_by (command.Graph feed options) = graph feed.now (options_by options)
asked_by (command.Export feed out options) = export feed.now out.now (options_by options)
asked_by (command.Import json files options) = imported json.now (paths_by files) (options_by options)
asked_by (command.Make feed files options) = make feed.now (new_paths_by files) (options_by options)
asked_by (command.Improve feed files moves options) = improve feed.now (paths_by files) moves (options_by options)
asked_by (command.Check feed files options) = check feed.now (paths_by files) (options_by options)
asked_by (command.Depict kind feed certificate out options) = depict kind feed.now certificate.now out.now (options_by options)
asked_by (command.Session feed script out options) = session feed.now script.now out.now (options_by options)
asked_by (command.Trial number) = trial number
asked_by (command.Page shown html) = page shown.now html.now
