-- The definitions at small cases.
use Rattle.std.proofs.Common.{◌≡◌, [], ◌∷◌, None, Some, Ok, Err, codes, refl}
use Rattle.std.specs.Fmt.{digits}
use Rattle.std.specs.Str.{is_utf8, chars}
use lib.Utf8.{encode}
use Rattle.table_rows.specs.Values.{number_of}
use Rattle.map_base.specs.declared.limit.LimitKind.TheVariants.{Cells}
use Rattle.map_base.specs.Settings.{standard_choices}
use Rattle.map_method.specs.declared.defaults.Defaults.TheVariants.{Make}
use Rattle.map_method.specs.Defaults.{method_of}
use Rattle.map_faults.specs.declared.fault.MakeFault.TheVariants as fault
use Rattle.run_status.specs.declared.refusal.Refusal.TheVariants as refused
use Rattle.command_inputs.specs.declared.loaded.Loaded.{Loaded}
use Rattle.edit_session.specs.DrawTexts.{draw_text, draws_text}
use Rattle.edit_session.specs.SessionWorks.{draw_outputs, played_by, script_in}

a_map : draw_text 11 (Ok (record { svg = codes "<svg/>\n"; certificate = codes "ab" })) ≡ codes "draw 11 7 2\n<svg/>\nab"
unfolding digits
a_map = refl

a_limit : draw_text 2 (Err (fault.Limit (record { what = Cells; found = 4453; most = 400 }))) ≡ codes "draw 2 refused: limit: cells 4453 400\n"
unfolding digits
a_limit = refl

no_walk : draw_text 1 (Err (fault.NoRoute (record { 0 = 54 }))) ≡ codes "draw 1 refused: no route: 54\n"
unfolding digits
no_walk = refl

-- a refused draw counts as one
two_draws : draws_text 1 (Err (fault.Spent 3 20001) ∷ Ok (record { svg = codes "a"; certificate = [] }) ∷ []) ≡ codes "draw 1 refused: spent: 3 20001\ndraw 2 1 0\na"
unfolding digits
two_draws = refl

-- standard settings, and tables without rows
abbrev no_feed : Loaded
no_feed = record { settings = standard_choices; method = method_of Make; tables = record { stations = []; lines = []; patterns = []; shapes = [] } }

missing_script : script_in None ≡ Err (refused.BadEdit 0)
missing_script = refl

empty_script : played_by (codes "out") no_feed [] ≡ record { outputs = draw_outputs (codes "out") []; bad = None }
empty_script = refl

-- no line of the feed has this id
no_line : played_by (codes "out") no_feed (codes "near\t20\nhide\tA\ndraw\n") ≡ record { outputs = draw_outputs (codes "out") []; bad = Some 2 }
unfolding number_of is_utf8 chars encode
no_line = refl
