-- The lines that name how a run ended.
use Rattle.std.specs.Prelude.{ℕ, List, [], ◌++◌, codes, Option, Some, None}
use Rattle.std.specs.Fmt.{decimal}
use Rattle.map_base.specs.Limits.{limit_name}
use Rattle.table_rows.specs.Folder.{file_name}
use Rattle.table_rows.specs.declared.why.Why.{Why}
use Rattle.table_rows.specs.declared.why.Why.TheVariants.{MissingFile, MissingColumn, WrongFields, NotUtf8, EmptyId, RepeatedId, BadLatitude, BadLongitude, BadType, BadColour, BadWhole, UnknownParent, UnknownRoute, UnknownTrip, UnknownStop, RepeatedSequence}
use Rattle.map_settings.specs.declared.fault.SettingsWhy.{SettingsWhy}
use Rattle.map_settings.specs.declared.fault.SettingsWhy.TheVariants as settings
use Rattle.command_run.specs.Delivered.{no_memory_line}
use Rattle.run_status.specs.declared.graph_why.GraphWhy.{GraphWhy}
use Rattle.run_status.specs.declared.graph_why.GraphWhy.TheVariants as graph
use Rattle.run_status.specs.declared.status.Status.{Status}
use Rattle.run_status.specs.declared.status.Status.TheVariants as status
use Rattle.run_status.specs.Items.{item_text}

-- a reason in words
abbrev pub reason_text : Why → List ℕ
reason_text MissingFile = codes "missing file"
reason_text MissingColumn = codes "missing column"
reason_text WrongFields = codes "wrong number of fields"
reason_text NotUtf8 = codes "not UTF-8"
reason_text EmptyId = codes "empty id"
reason_text RepeatedId = codes "repeated id"
reason_text BadLatitude = codes "bad latitude"
reason_text BadLongitude = codes "bad longitude"
reason_text BadType = codes "bad type"
reason_text BadColour = codes "bad colour"
reason_text BadWhole = codes "bad whole number"
reason_text UnknownParent = codes "unknown parent"
reason_text UnknownRoute = codes "unknown route"
reason_text UnknownTrip = codes "unknown trip"
reason_text UnknownStop = codes "unknown stop"
reason_text RepeatedSequence = codes "repeated sequence"

-- why a file of settings gives none, in words; a bad key as it is written
abbrev pub settings_text : SettingsWhy → List ℕ
settings_text settings.Missing = codes "missing"
settings_text settings.NotToml = codes "not toml"
settings_text (settings.Key key) = key

-- why a graph file gives no graph
abbrev pub graph_why_text : GraphWhy → List ℕ
graph_why_text graph.Missing = codes "missing"
graph_why_text graph.Json = codes "json"
graph_why_text graph.Whole = codes "whole"
graph_why_text (graph.Line index) = codes "line " ++ decimal index
graph_why_text (graph.Feature index) = codes "feature " ++ decimal index

-- the number that the process ends with
abbrev pub status_number : Status → ℕ
status_number status.Done = 0
status_number (status.Refuted item) = 1
status_number status.Usage = 2
status_number (status.BadRow table row why) = 3
status_number (status.NoRoute seg) = 4
status_number (status.Spent component branches) = 5
status_number (status.Limit limit) = 6
status_number (status.ReadFault path) = 7
status_number status.WriteFault = 8
status_number status.NoMemory = 9
status_number (status.BadSettings why) = 10
status_number (status.BadEdit line) = 11
status_number (status.BadGraph why) = 12
status_number (status.Missing path) = 13

-- the line that a status prints on standard output, empty for those that print none; the text for words that
-- are not read is left open
abbrev pub status_line : Status → Option (List ℕ)
status_line status.Done = Some []
status_line (status.Refuted item) = Some (codes "refuted: " ++ (item_text item ++ codes "\n"))
status_line status.Usage = None
status_line (status.BadRow table row why) = Some (codes "bad row: " ++ (file_name table ++ (codes " " ++ (decimal row ++ (codes " " ++ (reason_text why ++ codes "\n"))))))
status_line (status.NoRoute seg) = Some (codes "no route: " ++ (decimal seg.0 ++ codes "\n"))
status_line (status.Spent component branches) = Some (codes "spent: " ++ (decimal component ++ (codes " " ++ (decimal branches ++ codes "\n"))))
status_line (status.Limit limit) = Some (codes "limit: " ++ (limit_name limit.what ++ (codes " " ++ (decimal limit.found ++ (codes " " ++ (decimal limit.most ++ codes "\n"))))))
status_line (status.Missing path) = Some (codes "missing: " ++ (path ++ codes "\n"))
status_line (status.ReadFault path) = Some (codes "read fault: " ++ (path ++ codes "\n"))
status_line status.WriteFault = Some []
status_line status.NoMemory = Some no_memory_line
status_line (status.BadSettings why) = Some (codes "bad settings: " ++ (settings_text why ++ codes "\n"))
status_line (status.BadEdit line) = Some (codes "bad edit: " ++ (decimal line ++ codes "\n"))
status_line (status.BadGraph why) = Some (codes "bad graph: " ++ (graph_why_text why ++ codes "\n"))
