-- Which edits of a script stand at its end, and its first line that is no edit.
use Rattle.std.specs.Prelude.{◌≡◌, ℕ, suc, ◌-◌, Bool, true, not, ◌==◌, List, [], ◌∷◌, ◌++◌, length, map, take, Option, Some, None, Result, Ok, Err, if◌then◌else◌}
use Rattle.std.specs.Str.Lines.{lines}
use Rattle.table_rows.specs.Ids.{is_among}
use Rattle.transit_feed.specs.Feeds.{Feed}
use Rattle.map_edits.specs.declared.edit.Edit.{Edit}
use Rattle.map_edits.specs.declared.edit.Edit.TheVariants.{Hide, Show, Colour, Importance, Rename, Move, Undo}
use Rattle.map_edits.specs.declared.fault.EditStop.{EditStop}
use Rattle.map_edits.specs.declared.fault.EditStop.TheVariants as stop
use Rattle.map_edits.specs.declared.fault.EditsFault.{EditsFault}
use Rattle.map_edits.specs.declared.fault.EditsFault.TheVariants as fault
use Rattle.map_edits.specs.Kinds.{is_undo}
use Rattle.map_edits.specs.Grammar.{edit_in}
use Rattle.map_edits.specs.Effects.{line_id, station_id}

-- the ids of a feed's lines, and those of its stations
pub record Named : Type 0 where
  pub lines : List (List ℕ)
  pub stations : List (List ℕ)

abbrev pub named_in : Feed → Named
named_in feed = record { lines = map line_id feed.lines; stations = map station_id feed.stations }

-- the line or station of an edit is there, hidden or not
abbrev pub is_named : Named → Edit → Bool
is_named named (Hide id) = is_among id named.lines
is_named named (Show id) = is_among id named.lines
is_named named (Colour id colour) = is_among id named.lines
is_named named (Importance id number) = is_among id named.lines
is_named named (Rename id name) = is_among id named.stations
is_named named (Move id lat lon) = is_among id named.stations
is_named named edit = true

-- an edit may come behind those that stand: it names what is there, and an undo has something to take off
abbrev pub is_due : Named → List Edit → Edit → Bool
is_due named standing Undo = not (length standing == 0)
is_due named standing edit = is_named named edit

-- the edits that stand behind another: an undo takes the last one off, and does not stand itself
abbrev pub after_edit : List Edit → Edit → List Edit
after_edit standing edit = if is_undo edit then take (length standing - 1) standing else standing ++ edit ∷ []

-- the edits that stand behind a line, where it says an edit that may come there
abbrev pub after_line : Named → List Edit → Option Edit → Option (List Edit)
after_line named standing None = None
after_line named standing (Some edit) = if is_due named standing edit then Some (after_edit standing edit) else None

-- goes on, where there is something to go on with, or else refuses this line
abbrev pub unless_bad : {A : Type 0} → ℕ → Option A → (A → Result A ℕ) → Result A ℕ
unless_bad line None next = Err line
unless_bad line (Some x) next = next x

-- The edits that stand behind lines, after so many lines and the edits that stand behind those; or the number of the
-- first bad line, from 1.
abbrev pub edits_from : Named → ℕ → List Edit → List (List ℕ) → Result (List Edit) ℕ
edits_from named done standing [] = Ok standing
edits_from named done standing (line ∷ rest) = unless_bad (suc done) (after_line named standing (edit_in line)) (λ next. edits_from named (suc done) next rest)

-- The edits that stand at the end of a script, or the number of its first line that is no edit, names no line or
-- station, or undoes with nothing left. A line ends with LF or with CR LF, and the last one also without.
abbrev pub edits_in : Feed → List ℕ → Result (List Edit) ℕ
edits_in feed script = edits_from (named_in feed) 0 [] (lines script)

-- why a script gives no edits whose line of this number gives none
abbrev pub fault_at : EditStop → ℕ → EditsFault
fault_at stop.BadEdit line = fault.BadEdit line
fault_at stop.NoMemory line = fault.NoMemory

-- the edits are those that stand behind a line by definition, or the line is bad; want of memory is free
abbrev pub AddsLine : Result (Unit {0}) EditStop → List Edit → Option (List Edit) → Type 0
AddsLine (Ok _) standing there = there ≡ Some standing
AddsLine (Err stop.BadEdit) standing there = there ≡ None
AddsLine (Err stop.NoMemory) standing there = Unit {0}

-- what was read, seen by view, is what the script says, or its first bad line is this one; want of memory is free
abbrev pub ReadsEdits : {X : Type 0} → (X → List Edit) → Result X EditsFault → Result (List Edit) ℕ → Type 0
ReadsEdits view (Ok x) outcome = outcome ≡ Ok (view x)
ReadsEdits view (Err (fault.BadEdit line)) outcome = outcome ≡ Err line
ReadsEdits view (Err fault.NoMemory) outcome = Unit {0}
