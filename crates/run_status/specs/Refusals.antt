-- Refusals of the crates below, as those of a command.
use Rattle.std.specs.Prelude.{ℕ, Option, None, Result, Ok, Err, Vec}
use Rattle.std.specs.declared.alloc.Global.{Global}
use Rattle.files_door.specs.declared.reading.DoorFault.{DoorFault}
use Rattle.files_door.specs.declared.reading.DoorFault.TheVariants as door
use Rattle.table_rows.specs.declared.fault.FeedFault.{FeedFault}
use Rattle.table_rows.specs.declared.fault.FeedFault.TheVariants as feed
use Rattle.map_settings.specs.declared.fault.SettingsFault.{SettingsFault}
use Rattle.map_settings.specs.declared.fault.SettingsFault.TheVariants as settings
use Rattle.map_edits.specs.declared.fault.EditsFault.{EditsFault}
use Rattle.map_edits.specs.declared.fault.EditsFault.TheVariants as edits
use Rattle.graph_json.specs.declared.fault.JsonFault.{JsonFault}
use Rattle.graph_json.specs.declared.fault.JsonFault.TheVariants as json
use Rattle.graph_json.specs.declared.imported.Imported.{Imported}
use Rattle.run_status.specs.declared.graph_why.GraphWhy.TheVariants as why
use Rattle.map_base.specs.declared.limit_fault.LimitFault.{LimitFault}
use Rattle.map_base.specs.declared.limit_fault.LimitFault.TheVariants as limit
use Rattle.map_faults.specs.declared.fault.MakeFault.{MakeFault}
use Rattle.map_faults.specs.declared.fault.MakeFault.TheVariants as make
use Rattle.map_faults.specs.declared.fault.CheckFault.{CheckFault}
use Rattle.map_faults.specs.declared.fault.CheckFault.TheVariants as check
use Rattle.run_status.specs.declared.input.Input.{Input}
use Rattle.run_status.specs.declared.input.Input.TheVariants as input
use Rattle.run_status.specs.declared.item.Item.TheVariants as item
use Rattle.run_status.specs.declared.refusal.Refusal.{Refusal}
use Rattle.run_status.specs.declared.refusal.Refusal.TheVariants as refused

-- a feed that is refused
abbrev pub of_feed : FeedFault → Refusal
of_feed (feed.BadRow table row why) = refused.BadRow table row why
of_feed (feed.Limit limit) = refused.Limit limit
of_feed (feed.ReadFault table) = refused.ReadFault (input.Table table)
of_feed feed.NoMemory = refused.NoMemory

-- a file of settings that is refused
abbrev pub of_settings : SettingsFault → Refusal
of_settings (settings.Bad why) = refused.BadSettings why
of_settings settings.NoMemory = refused.NoMemory

-- a file of edits that is refused
abbrev pub of_edits : EditsFault → Refusal
of_edits (edits.BadEdit line) = refused.BadEdit line
of_edits edits.NoMemory = refused.NoMemory

-- a graph file that is refused
abbrev pub of_graph : JsonFault → Refusal
of_graph json.Json = refused.BadGraph why.Json
of_graph json.Whole = refused.BadGraph why.Whole
of_graph (json.Line index) = refused.BadGraph (why.Line index)
of_graph (json.Feature index) = refused.BadGraph (why.Feature index)
of_graph (json.Limit limit) = refused.Limit limit
of_graph json.NoMemory = refused.NoMemory

-- the graph that was read, or why there is none
abbrev pub graph_given : Result Imported JsonFault → Result Imported Refusal
graph_given (Ok read) = Ok read
graph_given (Err fault) = Err (of_graph fault)

-- a line graph that is refused
abbrev pub of_limit : LimitFault → Refusal
of_limit (limit.Limit l) = refused.Limit l
of_limit limit.NoMemory = refused.NoMemory

-- a map that is not made
abbrev pub of_make : MakeFault → Refusal
of_make (make.NoRoute seg) = refused.NoRoute seg
of_make (make.Spent component branches) = refused.Spent component branches
of_make (make.Limit limit) = refused.Limit limit
of_make make.NoMemory = refused.NoMemory

-- a map that is not accepted
abbrev pub of_check : CheckFault → Refusal
of_check (check.Refuted found) = refused.Refuted (item.Found found)
of_check (check.Limit limit) = refused.Limit limit
of_check check.NoMemory = refused.NoMemory

-- what a fault of the door is for a file of this role, which may be absent
abbrev pub not_read : Input → DoorFault → Result (Option (Vec ℕ Global)) Refusal
not_read role door.Absent = Ok None
not_read role door.ReadFault = Err (refused.ReadFault role)
not_read role (door.TooLong limit) = Err (refused.Limit limit)
not_read role door.NoMemory = Err refused.NoMemory
