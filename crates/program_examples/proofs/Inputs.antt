-- The definitions at small cases.
use Rattle.std.proofs.Common.{◌≡◌, [], None, Some, Ok, Err, codes, refl}
use Rattle.std.specs.Str.{is_utf8, chars}
use lib.Utf8.{encode}
use Rattle.table_rows.specs.Values.{number_of}
use Rattle.map_base.specs.Settings.{standard_choices}
use Rattle.map_method.specs.declared.defaults.Defaults.TheVariants.{Map}
use Rattle.map_method.specs.Defaults.{method_of}
use Rattle.command_run.specs.Work.{outcome}
use Rattle.run_status.specs.declared.refusal.Refusal.TheVariants as refused
use Rattle.command_inputs.specs.declared.loaded.Loaded.{Loaded}
use Rattle.command_inputs.specs.Loading.{changed_in, edited_by}

-- standard settings, a way of finding a map, and tables without rows
abbrev no_feed : Loaded
no_feed = record { settings = standard_choices; method = method_of Map; tables = record { stations = []; lines = []; patterns = []; shapes = [] } }

-- a file of edits that is not there is as a bad line 0
no_edits : outcome (edited_by (Some (codes "my.edits")) no_feed) (λ _. None) ≡ Err (refused.BadEdit 0)
no_edits = refl

-- none is read where none is named
no_name : outcome (edited_by None no_feed) (λ _. None) ≡ Ok no_feed
no_name = refl

empty_file : changed_in no_feed (Some []) ≡ Ok no_feed
empty_file = refl

-- the second line names no line of the feed
second_line : changed_in no_feed (Some (codes "near\t20\nhide\tA\n")) ≡ Err (refused.BadEdit 2)
unfolding number_of is_utf8 chars encode
second_line = refl

-- a draw is no edit of a file
a_draw : changed_in no_feed (Some (codes "draw\n")) ≡ Err (refused.BadEdit 1)
a_draw = refl

nearer : changed_in no_feed (Some (codes "near\t20\nundo\nnear\t30\n")) ≡ Ok (record no_feed { settings = record standard_choices { near = 30 } })
unfolding number_of
nearer = refl
