-- The lines of a script: edits, and the line `draw`.
use Rattle.std.specs.Prelude.{ℕ, ℤ, Bool, true, false, List, [], ◌∷◌, codes, Option, Some, None, option_map, if◌then◌else◌}
use Rattle.std.specs.Option.{option_and_then}
use Rattle.std.specs.Str.{bytes_eq}
use Rattle.table_rows.specs.Values.{colour_of}
use Rattle.table_rows.specs.Degrees.{latitude_of, longitude_of}
use Rattle.map_base.specs.declared.weights.Weights.{Weights}
use Rattle.map_edits.specs.Words.{words, only_word, two_words, three_words}
use Rattle.map_edits.specs.Values.{id_in, name_in, number_within, cell_in, weights_in}
use Rattle.map_edits.specs.declared.kind.Kind.{Kind}
use Rattle.map_edits.specs.declared.kind.Kind.TheVariants as kind
use Rattle.map_edits.specs.declared.edit.Edit.{Edit}
use Rattle.map_edits.specs.declared.edit.Edit.TheVariants as edit
use Rattle.map_edits.specs.declared.reading.ScriptLine.{ScriptLine}
use Rattle.map_edits.specs.declared.reading.ScriptLine.TheVariants as script

-- what the first word of a line says that the edit does, where it names a station or a line, or is the last
abbrev pub kind_with_id : List ℕ → Option Kind
kind_with_id word =
    if bytes_eq word (codes "rename") then Some kind.Rename
    else if bytes_eq word (codes "move") then Some kind.Move
    else if bytes_eq word (codes "colour") then Some kind.Colour
    else if bytes_eq word (codes "importance") then Some kind.Importance
    else if bytes_eq word (codes "undo") then Some kind.Undo
    else None

-- what the first word of a line says that the edit does
abbrev pub kind_of : List ℕ → Option Kind
kind_of word =
    if bytes_eq word (codes "hide") then Some kind.Hide
    else if bytes_eq word (codes "show") then Some kind.Show
    else if bytes_eq word (codes "weight") then Some kind.Weight
    else if bytes_eq word (codes "near") then Some kind.Near
    else if bytes_eq word (codes "cell") then Some kind.Cell
    else if bytes_eq word (codes "budget") then Some kind.Budget
    else kind_with_id word

-- the only word, where it is an id
abbrev pub one_id : List (List ℕ) → Option (List ℕ)
one_id arguments = option_and_then id_in (only_word arguments)

-- the only word, where it is a number in a range
abbrev pub one_number : ℕ → ℕ → List (List ℕ) → Option ℕ
one_number least most arguments = option_and_then (number_within least most) (only_word arguments)

-- the only word, where it is the side of a cell
abbrev pub one_cell : List (List ℕ) → Option ℕ
one_cell arguments = option_and_then cell_in (only_word arguments)

-- two values, where both are there
abbrev pub both : {A B : Type 0} → Option A → Option B → Option (A × B)
both None b = None
both (Some a) None = None
both (Some a) (Some b) = Some (a, b)

-- whether weights are those at stations
abbrev pub station_in : List ℕ → Option Bool
station_in word = if bytes_eq word (codes "station") then Some true else if bytes_eq word (codes "junction") then Some false else None

-- `weight junction LINK SPLIT SEP` and `weight station LINK SPLIT SEP`, behind the first word
abbrev pub weight_edit : List (List ℕ) → Option Edit
weight_edit [] = None
weight_edit (word ∷ numbers) = option_map (λ (w : Bool × Weights). edit.Weight w.0 w.1) (both (station_in word) (option_and_then weights_in (three_words numbers)))

-- an id and a name
abbrev pub id_and_name : List ℕ × List ℕ → Option (List ℕ × List ℕ)
id_and_name words = both (id_in words.0) (name_in words.1)

-- an id and a colour
abbrev pub id_and_colour : List ℕ × List ℕ → Option (List ℕ × List ℕ)
id_and_colour words = both (id_in words.0) (colour_of words.1)

-- an id and an importance
abbrev pub id_and_importance : List ℕ × List ℕ → Option (List ℕ × ℕ)
id_and_importance words = both (id_in words.0) (number_within 1 16 words.1)

-- an id, a latitude and a longitude
abbrev pub id_and_place : List ℕ × List ℕ × List ℕ → Option (List ℕ × (ℤ × ℤ))
id_and_place words = both (id_in words.0) (both (latitude_of words.1) (longitude_of words.2))

-- `rename ID NAME`, behind the first word
abbrev pub rename_edit : List (List ℕ) → Option Edit
rename_edit arguments = option_map (λ (x : List ℕ × List ℕ). edit.Rename x.0 x.1) (option_and_then id_and_name (two_words arguments))

-- `colour ID RRGGBB`, behind the first word
abbrev pub colour_edit : List (List ℕ) → Option Edit
colour_edit arguments = option_map (λ (x : List ℕ × List ℕ). edit.Colour x.0 x.1) (option_and_then id_and_colour (two_words arguments))

-- `importance ID N`, behind the first word
abbrev pub importance_edit : List (List ℕ) → Option Edit
importance_edit arguments = option_map (λ (x : List ℕ × ℕ). edit.Importance x.0 x.1) (option_and_then id_and_importance (two_words arguments))

-- `move ID LAT LON`, behind the first word
abbrev pub move_edit : List (List ℕ) → Option Edit
move_edit arguments = option_map (λ (x : List ℕ × (ℤ × ℤ)). edit.Move x.0 x.1.0 x.1.1) (option_and_then id_and_place (three_words arguments))

-- `undo`, behind the first word
abbrev pub undo_edit : List (List ℕ) → Option Edit
undo_edit [] = Some edit.Undo
undo_edit (word ∷ rest) = None

-- the edit of a kind that these words say
abbrev pub edit_of : List (List ℕ) → Kind → Option Edit
edit_of arguments kind.Hide = option_map (λ line. edit.Hide line) (one_id arguments)
edit_of arguments kind.Show = option_map (λ line. edit.Show line) (one_id arguments)
edit_of arguments kind.Weight = weight_edit arguments
edit_of arguments kind.Near = option_map (λ near. edit.Near near) (one_number 20 20000 arguments)
edit_of arguments kind.Cell = option_map (λ cell. edit.Cell cell) (one_cell arguments)
edit_of arguments kind.Budget = option_map (λ budget. edit.Budget budget) (one_number 1 100000 arguments)
edit_of arguments kind.Rename = rename_edit arguments
edit_of arguments kind.Move = move_edit arguments
edit_of arguments kind.Colour = colour_edit arguments
edit_of arguments kind.Importance = importance_edit arguments
edit_of arguments kind.Undo = undo_edit arguments

-- the edit that words say
abbrev pub edit_by : List (List ℕ) → Option Edit
edit_by [] = None
edit_by (word ∷ arguments) = option_and_then (edit_of arguments) (kind_of word)

-- the edit that a line says
abbrev pub edit_in : List ℕ → Option Edit
edit_in line = edit_by (words line)

-- the line `draw`, or one that says an edit
abbrev pub script_line_in : List ℕ → Option ScriptLine
script_line_in line = if bytes_eq line (codes "draw") then Some script.Draw else option_map (λ e. script.Edit e) (edit_in line)
