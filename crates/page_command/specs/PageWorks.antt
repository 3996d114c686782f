-- What `page` does.
use Rattle.std.specs.Prelude.{ℕ, List, [], ◌∷◌, Option, None, Some, Result, Ok, Err, if◌then◌else◌}
use Rattle.files_door.specs.declared.target.Target.TheVariants.{Path}
use Rattle.map_page.specs.Pages.{is_picture, page_bytes}
use Rattle.command_run.specs.declared.output.Output.{Output}
use Rattle.command_run.specs.Work.{Work, ends, ◌>>=◌}
use Rattle.run_status.specs.declared.input.Input.{Input}
use Rattle.run_status.specs.declared.input.Input.TheVariants as input
use Rattle.run_status.specs.declared.refusal.Refusal.{Refusal}
use Rattle.run_status.specs.declared.refusal.Refusal.TheVariants as refused
use Rattle.command_inputs.specs.Loading.{file_work}

-- the page of a map goes to its file
abbrev pub page_outputs : List ℕ → List ℕ → List Output
page_outputs page svg = record { to = Path page; bytes = page_bytes svg } ∷ []

-- the page of a map, which has to be there and to be a picture of octimap
abbrev pub page_at : List ℕ → Option (List ℕ) → Result (List Output) Refusal
page_at page None = Err (refused.Missing input.Picture)
page_at page (Some svg) = if is_picture svg then Ok (page_outputs page svg) else Err (refused.Missing input.Picture)

-- `page`: the map is read, and its page is written
abbrev pub page_work : List ℕ → Work Input Refusal (List Output)
page_work page = do
  file ← file_work input.Picture
  ends (page_at page file)
