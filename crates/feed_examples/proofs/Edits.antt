-- The definitions at worked lines.
use Rattle.std.proofs.Common.{◌≡◌, ℕ, Bool, List, ◌∷◌, [], ◌++◌, Option, Some, None, Result, Ok, Err, map, pos, neg_ℤ, true, false, refl}
use Rattle.std.specs.Prelude.{codes}
use Rattle.std.specs.Result.{result_err}
use Rattle.std.specs.Str.{is_utf8, chars}
use Rattle.std.specs.Str.Lines.{lines}
use lib.Utf8.{encode}
use Rattle.table_rows.specs.Values.{number_of, degrees_of, colour_of}
use Rattle.map_edits.specs.declared.edit.Edit.TheVariants.{Hide, Show, Weight, Near, Cell, Budget, Rename, Move, Colour, Importance, Undo}
use Rattle.map_edits.specs.declared.reading.ScriptLine.TheVariants.{Draw}
use Rattle.map_edits.specs.Grammar.{edit_in, script_line_in}
use Rattle.map_edits.specs.Standing.{Named, edits_from, edits_in}
use Rattle.map_edits.specs.Effects.{with_pair, lines_after, choices_after, edited}
use Rattle.map_base.specs.Settings.{standard_choices}
use Rattle.transit_feed.specs.declared.line.Line.{Line}
use Rattle.transit_feed.specs.Feeds.{Feed}

-- ids and names
hide : edit_in (codes "hide\tA") ≡ Some (Hide (codes "A"))
unfolding is_utf8 chars encode
hide = refl

show_spaces : edit_in (codes "show\t A b") ≡ Some (Show (codes " A b"))
unfolding is_utf8 chars encode
show_spaces = refl

empty_id : edit_in (codes "hide\t") ≡ None
empty_id = refl

no_id : edit_in (codes "hide") ≡ None
no_id = refl

two_tabs : edit_in (codes "hide\t\tA") ≡ None
two_tabs = refl

tab_behind : edit_in (codes "hide\tA\t") ≡ None
tab_behind = refl

no_utf8 : edit_in (codes "hide\t" ++ 0xFF ∷ []) ≡ None
unfolding is_utf8 chars encode
no_utf8 = refl

capital : edit_in (codes "Hide\tA") ≡ None
capital = refl

space_for_tab : edit_in (codes "hide A") ≡ None
space_for_tab = refl

carriage_return_in_id : edit_in (codes "hide\tA\r") ≡ Some (Hide (codes "A\r"))
unfolding is_utf8 chars encode
carriage_return_in_id = refl

rename : edit_in (codes "rename\tP\tMain St") ≡ Some (Rename (codes "P") (codes "Main St"))
unfolding is_utf8 chars encode
rename = refl

empty_name : edit_in (codes "rename\tP\t") ≡ Some (Rename (codes "P") [])
unfolding is_utf8 chars encode
empty_name = refl

no_name : edit_in (codes "rename\tP") ≡ None
no_name = refl

name_with_tab : edit_in (codes "rename\tP\ta\tb") ≡ None
name_with_tab = refl

-- numbers
near_least : edit_in (codes "near\t0020") ≡ Some (Near 20)
unfolding number_of
near_least = refl

near_below : edit_in (codes "near\t19") ≡ None
unfolding number_of
near_below = refl

near_above : edit_in (codes "near\t20001") ≡ None
unfolding number_of
near_above = refl

near_spaced : edit_in (codes "near\t 500") ≡ None
near_spaced = refl

near_signed : edit_in (codes "near\t+500") ≡ None
unfolding number_of
near_signed = refl

cell_automatic : edit_in (codes "cell\t0") ≡ Some (Cell 0)
unfolding number_of
cell_automatic = refl

cell_narrow : edit_in (codes "cell\t9") ≡ None
unfolding number_of
cell_narrow = refl

cell_widest : edit_in (codes "cell\t1000000") ≡ Some (Cell 1000000)
unfolding number_of
cell_widest = refl

budget_none : edit_in (codes "budget\t0") ≡ None
unfolding number_of
budget_none = refl

budget_greatest : edit_in (codes "budget\t100000") ≡ Some (Budget 100000)
unfolding number_of
budget_greatest = refl

weight_station : edit_in (codes "weight\tstation\t7\t5\t0") ≡ Some (Weight true (record { link = 7; split = 5; sep = 0 }))
unfolding number_of
weight_station = refl

weight_junction : edit_in (codes "weight\tjunction\t0\t1000\t3") ≡ Some (Weight false (record { link = 0; split = 1000; sep = 3 }))
unfolding number_of
weight_junction = refl

weight_above : edit_in (codes "weight\tjunction\t0\t1001\t3") ≡ None
unfolding number_of
weight_above = refl

two_weights : edit_in (codes "weight\tstation\t7\t5") ≡ None
two_weights = refl

importance_greatest : edit_in (codes "importance\tB\t16") ≡ Some (Importance (codes "B") 16)
unfolding number_of is_utf8 chars encode
importance_greatest = refl

importance_none : edit_in (codes "importance\tB\t0") ≡ None
unfolding number_of is_utf8 chars encode
importance_none = refl

importance_above : edit_in (codes "importance\tB\t17") ≡ None
unfolding number_of is_utf8 chars encode
importance_above = refl

-- places and colours
move_spaced : edit_in (codes "move\tP\t 1.5 \t-0.0000019") ≡ Some (Move (codes "P") (pos 1500000) (neg_ℤ (pos 1)))
unfolding degrees_of is_utf8 chars encode
move_spaced = refl

move_rim : edit_in (codes "move\tP\t-90\t1.8e2") ≡ Some (Move (codes "P") (neg_ℤ (pos 90000000)) (pos 180000000))
unfolding degrees_of is_utf8 chars encode
move_rim = refl

move_past : edit_in (codes "move\tP\t90.000001\t0") ≡ None
unfolding degrees_of is_utf8 chars encode
move_past = refl

colour_mixed : edit_in (codes "colour\tB\tE6194b") ≡ Some (Colour (codes "B") (230 ∷ 25 ∷ 75 ∷ []))
unfolding colour_of is_utf8 chars encode
colour_mixed = refl

colour_short : edit_in (codes "colour\tB\te6194") ≡ None
unfolding colour_of is_utf8 chars encode
colour_short = refl

-- the other lines
undo : edit_in (codes "undo") ≡ Some Undo
undo = refl

undo_once_more : edit_in (codes "undo\t") ≡ None
undo_once_more = refl

empty_line : edit_in [] ≡ None
empty_line = refl

draw_is_no_edit : edit_in (codes "draw") ≡ None
draw_is_no_edit = refl

draw_line : script_line_in (codes "draw") ≡ Some Draw
draw_line = refl

draw_twice : script_line_in (codes "draw\t") ≡ None
draw_twice = refl

-- the lines of a script
line_ends : lines (codes "a\r\nb\r\r\n\nc\r") ≡ codes "a" ∷ codes "b\r" ∷ [] ∷ codes "c\r" ∷ []
line_ends = refl

last_line_end : lines (codes "a\n") ≡ codes "a" ∷ []
last_line_end = refl

no_line : lines [] ≡ []
no_line = refl

-- which edits stand
abbrev named : Named
named = record { lines = codes "A" ∷ codes "B" ∷ []; stations = codes "X" ∷ [] }

undo_stands_not : edits_from named 0 [] (codes "hide\tA" ∷ codes "near\t20" ∷ codes "undo" ∷ []) ≡ Ok (Hide (codes "A") ∷ [])
unfolding number_of is_utf8 chars encode
undo_stands_not = refl

nothing_to_undo : edits_from named 0 [] (codes "hide\tA" ∷ codes "undo" ∷ codes "undo" ∷ codes "x" ∷ []) ≡ Err 3
unfolding is_utf8 chars encode
nothing_to_undo = refl

unknown_line : edits_from named 0 [] (codes "hide\tC" ∷ []) ≡ Err 1
unfolding is_utf8 chars encode
unknown_line = refl

no_station : edits_from named 0 [] (codes "undo" ∷ codes "rename\tA\tb" ∷ []) ≡ Err 1
no_station = refl

-- what edits make
abbrev two_pairs : List (List ℕ × ℕ)
two_pairs = (codes "A", 2) ∷ (codes "C", 4) ∷ []

pair_in_front : with_pair [] 3 two_pairs ≡ ([], 3) ∷ two_pairs
pair_in_front = refl

pair_between : with_pair (codes "AB") 3 two_pairs ≡ (codes "A", 2) ∷ (codes "AB", 3) ∷ (codes "C", 4) ∷ []
pair_between = refl

pair_replaced : with_pair (codes "C") 16 two_pairs ≡ (codes "A", 2) ∷ (codes "C", 16) ∷ []
pair_replaced = refl

pair_behind : with_pair (codes "D") 1 two_pairs ≡ (codes "A", 2) ∷ (codes "C", 4) ∷ (codes "D", 1) ∷ []
pair_behind = refl

abbrev line : List ℕ → Bool → Line
line id hidden = record { id = id; name = []; colour = 1 ∷ 2 ∷ 3 ∷ []; hidden = hidden }

hidden_and_shown : lines_after (Hide (codes "A") ∷ Hide (codes "B") ∷ Show (codes "A") ∷ []) (line (codes "A") false ∷ line (codes "B") false ∷ [])
    ≡ line (codes "A") false ∷ line (codes "B") true ∷ []
hidden_and_shown = refl

station_weights : (choices_after (Weight true (record { link = 7; split = 5; sep = 0 }) ∷ []) standard_choices).weights
    ≡ record { link = 4; split = 1; sep = 3 } ∷ record { link = 7; split = 5; sep = 0 } ∷ []
station_weights = refl

-- Scripts over a feed of the station X and the line A.
abbrev sample : Feed
sample = record {
  stations = record { id = codes "X"; name = codes "North"; lat = pos 0; lon = pos 0 } ∷ [];
  lines = record { id = codes "A"; name = codes "1"; colour = 0 ∷ 0 ∷ 0 ∷ []; hidden = false } ∷ [];
  patterns = [];
  shapes = [];
}

abbrev first_bad : List (List ℕ) → List (Option ℕ)
first_bad = map (λ script. result_err (edits_in sample script))

by_line_ends : first_bad ([] ∷ codes "\n" ∷ codes "hide\tA\nshow\tA\r\n" ∷ codes "hide\tA\nshow\tA\r"
    ∷ codes "hide\tA\r\r\n" ∷ codes "hide\tA\n\nhide\tC" ∷ [])
    ≡ None ∷ Some 1 ∷ None ∷ Some 2 ∷ Some 1 ∷ Some 2 ∷ []
unfolding is_utf8 chars encode
by_line_ends = refl

by_what_they_say : first_bad (
    codes "hide\tA\nundo\nundo\nundo" ∷ codes "rename\tA\tB" ∷ codes "hide\tX" ∷ codes "draw" ∷ (0xEF ∷ 0xBB ∷ 0xBF
    ∷ codes "hide\tA") ∷ []
    ) ≡ Some 3 ∷ Some 1 ∷ Some 1 ∷ Some 1 ∷ Some 1 ∷ []
unfolding is_utf8 chars encode
by_what_they_say = refl

abbrev all_edits : List ℕ
all_edits = codes "importance\tA\t3\r\nnear\t0020\nrename\tX\t\nmove\tX\t1.5\t-2\ncolour\tA\tFF0010\nhide\tA\nundo"

-- the last one is undone
edits_stand : edits_in sample all_edits
    ≡ Ok (Importance (codes "A") 3 ∷ Near 20 ∷ Rename (codes "X") []
    ∷ Move (codes "X") (pos 1500000) (neg_ℤ (pos 2000000)) ∷ Colour (codes "A") (255 ∷ 0 ∷ 16 ∷ []) ∷ [])
unfolding number_of degrees_of colour_of is_utf8 chars encode
edits_stand = refl

all_are_made : edited sample standard_choices
    (Importance (codes "A") 3 ∷ Near 20 ∷ Rename (codes "X") [] ∷ Move (codes "X") (pos 1500000) (neg_ℤ (pos 2000000))
    ∷ Colour (codes "A") (255 ∷ 0 ∷ 16 ∷ []) ∷ [])
    ≡ (
      record sample {
        stations = record { id = codes "X"; name = []; lat = pos 1500000; lon = neg_ℤ (pos 2000000) } ∷ [];
        lines = record { id = codes "A"; name = codes "1"; colour = 255 ∷ 0 ∷ 16 ∷ []; hidden = false } ∷ [];
      },
      record standard_choices { near = 20; importance = (codes "A", 3) ∷ [] },
    )
all_are_made = refl
