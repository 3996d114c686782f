-- What the commands do that print what is in a feed, as pieces of work. One block a command.
use Rattle.std.specs.Prelude.{◌≡◌, ℕ, List, Option, Result, Ok, Err}
use Rattle.map_base.specs.declared.limit.Limit.{Limit}
use Rattle.table_rows.specs.declared.why.Table.TheVariants.{Stops}
use Rattle.transit_feed.specs.Feeds.{Feed}
use Rattle.stop_table.specs.Stops.{stops_outcome}
use Rattle.graph_core.specs.declared.parts.GraphParts.{GraphParts}
use Rattle.line_graph.specs.Outcome.{graph_outcome}
use Rattle.line_graph.specs.Rides.{KeepsLines}
use Rattle.line_graph.specs.Text.{graph_text}
use Rattle.command_run.specs.declared.output.Output.{Output}
use Rattle.command_run.specs.Work.{Work, ends, ◌>>=◌}
use Rattle.command_paths.specs.Paths.{Chosen}
use Rattle.run_status.specs.declared.input.Input.{Input}
use Rattle.run_status.specs.declared.refusal.Refusal.{Refusal}
use Rattle.run_status.specs.declared.refusal.Refusal.TheVariants as refused
use Rattle.run_status.specs.Outputs.{said}
use Rattle.command_inputs.specs.declared.loaded.Loaded.{Loaded}
use Rattle.command_inputs.specs.Inputs.{InputPaths}
use Rattle.command_inputs.specs.Loading.{load_work, table_work, Loads}
use Rattle.table_commands.specs.Stations.{stations_text}

-- `stations`: `stops.txt` alone is read, and a line printed for each station
abbrev pub stations_work : Work Input Refusal (List Output)
stations_work = do
  all ← table_work Stops stops_outcome
  ends (Ok (said (stations_text all)))

-- the text of a feed's line graph, or the limit that is met first
abbrev pub drawn : Feed → Result GraphParts Limit → Result (List Output) Refusal
drawn feed (Ok parts) = Ok (said (graph_text feed.stations parts))
drawn feed (Err limit) = Err (refused.Limit limit)

-- `graph`: the line graph of the feed is printed
abbrev pub graph_work : Chosen → Work Input Refusal (List Output)
graph_work chosen = do
  loaded ← load_work chosen
  ends (drawn loaded.tables (graph_outcome loaded.settings.near loaded.tables))

-- an output that tells the line graph of what is loaded, in which no line is lost and none is made up
pub record TellsGraph (loaded : Loaded) (outputs : List Output) : Type 0 where
  pub graph : GraphParts
  pub of_feed : graph_outcome loaded.settings.near loaded.tables ≡ Ok graph
  pub kept : KeepsLines loaded.settings.near loaded.tables graph
  pub are : outputs ≡ said (graph_text loaded.tables.stations graph)

-- what `graph` promises of its output, in the words of the feed
pub record AreOfGraph (told : Option (List (List ℕ × List ℕ))) (inputs : InputPaths) (outputs : List Output) : Type 0 where
  pub loaded : Loaded
  pub loads : Loads told inputs loaded
  pub tells : TellsGraph loaded outputs
