-- The definitions at small cases.
use Rattle.std.proofs.Common.{◌≡◌, [], ◌∷◌, true, false, None, Some, Ok, Err, codes, refl}
use Rattle.std.specs.Fmt.{digits}
use Rattle.map_method.specs.declared.defaults.Defaults.TheVariants.{Make}
use Rattle.files_door.specs.declared.target.Target.TheVariants.{Path}
use Rattle.table_rows.specs.declared.why.Table.TheVariants.{Routes, Trips, StopTimes}
use Rattle.table_rows.specs.declared.why.Why.TheVariants.{MissingFile}
use Rattle.command_run.specs.Work.{outcome, Runs}
use Rattle.map_settings.specs.declared.fault.SettingsWhy.TheVariants as why
use Rattle.map_faults.specs.declared.fault.MakeFault.TheVariants as fault
use Rattle.map_faults.specs.declared.fault.CheckItem.TheVariants as found
use Rattle.order_check.specs.declared.refusal.ProofItem.TheVariants as proof
use Rattle.run_status.specs.declared.input.Input.TheVariants as input
use Rattle.run_status.specs.declared.item.Item.TheVariants as item
use Rattle.run_status.specs.declared.refusal.Refusal.TheVariants as refused
use Rattle.run_status.specs.declared.status.Status.TheVariants as status
use Rattle.command_words.specs.Asked.{graph, make, check, page}
use Rattle.map_page.specs.Pages.{is_picture, page_bytes}
use Rattle.command_paths.specs.Paths.{Chosen, MapPaths, NewPaths}
use Rattle.page_command.specs.PageWorks.{page_at, page_work}
use Rattle.asked_inputs.specs.Inputs.{input_path}
use Rattle.run_status.specs.Outputs.{said}
use Rattle.table_commands.specs.TableWorks.{graph_work}
use Rattle.command_inputs.specs.declared.loaded.Loaded.{Loaded}
use Rattle.map_commands.specs.MapWorks.{check_work, picture_work, made_at, new_outputs, best_line, bound_line, proved_line}
use Rattle.run_status.specs.Items.{item_text}
use Rattle.run_status.specs.Lines.{status_line, status_number}

abbrev standard : Chosen
standard = record { defaults = Make; settings = None; edits = None; sets = [] }

abbrev by_mine : Chosen
by_mine = record { defaults = Make; settings = Some (codes "my.toml"); edits = None; sets = [] }

-- where a table lies
table_path : input_path (graph (codes "feed") standard) (input.Table StopTimes) ≡ codes "feed/stop_times.txt"
table_path = refl

read_fault_line : status_line (status.ReadFault (codes "feed/trips.txt")) ≡ Some (codes "read fault: feed/trips.txt\n")
read_fault_line = refl

-- where the routes are missing, no other table is read
no_routes : outcome (graph_work standard) (λ _. None) ≡ Err (refused.BadRow Routes 0 MissingFile)
no_routes = refl

routes_alone : Runs refused.ReadFault (graph_work standard) ((input.Table Routes, None) ∷ []) (Err (refused.BadRow Routes 0 MissingFile))
routes_alone = (refl, refl)

-- the routes themselves may be left unread, and a later table may not be before them
routes_unread : Runs refused.ReadFault (graph_work standard) [] (Err (refused.ReadFault (input.Table Routes)))
routes_unread = refl

-- a map and its certificate are two files

places : MapPaths
places = record { picture = codes "map.svg"; certificate = codes "map.cert" }

-- the same of a map that is made, without a page
new_places : NewPaths
new_places = record { map = places; page = None }

-- what is checked lies at the two paths, and what is made is no input
certificate_path : input_path (check (codes "feed") places standard) input.Certificate ≡ codes "map.cert"
unfolding places
certificate_path = refl

picture_path : input_path (check (codes "feed") places standard) input.Picture ≡ codes "map.svg"
unfolding places
picture_path = refl

-- the map goes before its certificate, each to its file
both_files : (loaded : Loaded) → made_at new_places loaded (Ok (record { svg = codes "s"; certificate = codes "c" })) ≡ Ok (record { to = Path (codes "map.svg"); bytes = codes "s" } ∷ record { to = Path (codes "map.cert"); bytes = codes "c" } ∷ [])
unfolding places new_places
both_files loaded = refl

-- and then the page of its poster, where one is named
page_too : new_outputs (record { map = places; page = Some (codes "map.html") }) (Ok (codes "p")) (record { svg = codes "s"; certificate = codes "c" })
    ≡ record { to = Path (codes "map.svg"); bytes = codes "s" } ∷ record { to = Path (codes "map.cert"); bytes = codes "c" } ∷ record { to = Path (codes "map.html"); bytes = page_bytes (codes "p") } ∷ []
unfolding places
page_too = refl

-- a part over the budget is named, with its branch nodes
spent_part : (loaded : Loaded) → made_at new_places loaded (Err (fault.Spent 0 2)) ≡ Err (refused.Spent 0 2)
unfolding places new_places
spent_part loaded = refl

spent_text : status_line (status.Spent 0 2) ≡ Some (codes "spent: 0 2\n")
unfolding digits
spent_text = refl

no_route_text : status_line (status.NoRoute (record { 0 = 46 })) ≡ Some (codes "no route: 46\n")
unfolding digits
no_route_text = refl

-- what is proved: that orders are best, where the bound is their cost, or both
best_text : proved_line (record { cost = 21; bound = 21 }) ≡ codes "best 21\n"
unfolding digits
best_text = refl

bound_text : proved_line (record { cost = 21; bound = 9 }) ≡ codes "cost 21 bound 9\n"
unfolding digits
bound_text = refl

-- items by their names

refuted_text : status_line (status.Refuted (item.Found (found.Text 177))) ≡ Some (codes "refuted: text 177\n")
unfolding digits
refuted_text = refl

part_text : item_text (item.Found (found.Proof (proof.Part 0 (record { 0 = 1 } ∷ [])))) ≡ codes "part 0 after 1 1"
unfolding digits
part_text = refl

whole_part_text : item_text (item.Found (found.Proof (proof.Part 3 []))) ≡ codes "part 3 after 0"
unfolding digits
whole_part_text = refl

missing_text : item_text (item.Missing false) ≡ codes "certificate missing"
missing_text = refl

missing_picture_text : item_text (item.Missing true) ≡ codes "picture missing"
missing_picture_text = refl

refuted_number : status_number (status.Refuted (item.Found found.Graph)) ≡ 1
refuted_number = refl

-- where the routes are missing, neither map nor certificate is read
no_routes_checked : outcome (check_work standard) (λ _. None) ≡ Err (refused.BadRow Routes 0 MissingFile)
no_routes_checked = refl

-- a certificate that is accepted is no yes where the map is missing
map_missing : outcome (picture_work (record { proved = record { cost = 0; bound = 0 }; svg = codes "s" })) (λ _. None) ≡ Err (refused.Refuted (item.Missing true))
map_missing = refl

map_the_same : outcome (picture_work (record { proved = record { cost = 7; bound = 7 }; svg = codes "s" })) (λ _. Some (codes "s")) ≡ Ok (said (best_line 7))
map_the_same = refl

map_with_a_bound : outcome (picture_work (record { proved = record { cost = 7; bound = 4 }; svg = codes "s" })) (λ _. Some (codes "s")) ≡ Ok (said (bound_line 7 4))
map_with_a_bound = refl

-- the first byte that differs
map_differs : outcome (picture_work (record { proved = record { cost = 7; bound = 7 }; svg = codes "abc" })) (λ _. Some (codes "abd")) ≡ Err (refused.Refuted (item.Found (found.Picture 2)))
map_differs = refl

-- a file of settings comes first, and has to be there
no_settings : outcome (graph_work by_mine) (λ _. None) ≡ Err (refused.BadSettings why.Missing)
no_settings = refl

settings_unread : Runs refused.ReadFault (graph_work by_mine) [] (Err (refused.ReadFault input.Settings))
settings_unread = refl

settings_path : input_path (graph (codes "feed") by_mine) input.Settings ≡ codes "my.toml"
settings_path = refl

bad_key_text : status_line (status.BadSettings (why.Key (codes "near"))) ≡ Some (codes "bad settings: near\n")
bad_key_text = refl

bad_settings_number : status_number (status.BadSettings why.NotToml) ≡ 10
bad_settings_number = refl

-- a file of edits lies at its path, and a bad line is named
edits_path : input_path (graph (codes "feed") (record { defaults = Make; settings = None; edits = Some (codes "my.edits"); sets = [] })) input.Edits ≡ codes "my.edits"
edits_path = refl

bad_edit_text : status_line (status.BadEdit 2) ≡ Some (codes "bad edit: 2\n")
unfolding digits
bad_edit_text = refl

bad_edit_number : status_number (status.BadEdit 2) ≡ 11
bad_edit_number = refl

-- a map that is to be shown has to be there
no_map_to_show : outcome (page_work (codes "m.html")) (λ _. None) ≡ Err (refused.Missing input.Picture)
no_map_to_show = refl

-- and it has to be a picture: a certificate is none
no_picture_to_show : page_at (codes "m.html") (Some (codes "octimap 1\n")) ≡ Err (refused.Missing input.Picture)
unfolding is_picture
no_picture_to_show = refl

shown_path : input_path (page (codes "m.svg") (codes "m.html")) input.Picture ≡ codes "m.svg"
shown_path = refl

missing_map_text : status_line (status.Missing (codes "m.svg")) ≡ Some (codes "missing: m.svg\n")
missing_map_text = refl

missing_map_number : status_number (status.Missing (codes "m.svg")) ≡ 13
missing_map_number = refl
