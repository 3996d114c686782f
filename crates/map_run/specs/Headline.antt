-- What a user may rely on where a run ends with status 0, in the words of the feed. The line graph of a feed's tables is
-- the one that is defined for them, and no line is lost in it: `of_feed` and `kept` of `IsCertified`, on which each record
-- but that of `import` stands.
use Rattle.std.specs.Prelude.{◌≡◌, ℕ, None, List, [], ◌++◌, length, Option, Some, IfSome, unwrap_or, true, ⊤, Ok}
use Rattle.map_base.specs.declared.limit.LimitKind.TheVariants.{File}
use Rattle.map_base.specs.Limits.{is_within}
use Rattle.map_method.specs.declared.defaults.Defaults.TheVariants.{Make}
use Rattle.files_door.specs.declared.target.Target.TheVariants.{Said, Path}
use Rattle.files_door.specs.Files.{file_at}
use Rattle.files_door.specs.Targets.{Written, held_by}
use Rattle.table_rows.specs.declared.why.Table.{Table}
use Rattle.table_rows.specs.Folder.{path_in}
use Rattle.graph_maps.specs.Making.{MapBytes, made_on}
use Rattle.map_engine.specs.Making.{make_outcome}
use Rattle.map_engine.specs.Promises.{IsMade}
use Rattle.map_engine.specs.Postering.{IsPoster}
use Rattle.graph_maps.specs.Improving.{ImprovedBytes}
use Rattle.map_engine.specs.Improving.{improve_outcome, IsImprovedMap}
use Rattle.command_paths.specs.declared.picture.Picture.{Picture}
use Rattle.picture_command.specs.PictureWorks.{IsPicture}
use Rattle.edit_session.specs.Scripts.{followed_in}
use Rattle.edit_session.specs.SessionWorks.{session_text}
use Rattle.edit_session.specs.Promises.{KeepDraws}
use Rattle.command_inputs.specs.declared.loaded.Loaded.{Loaded}
use Rattle.command_words.specs.Asked.{Asked, stations, graph, make, improve, check, depict, session, trial, page, export, imported}
use Rattle.command_paths.specs.Paths.{Chosen, MapPaths, NewPaths}
use Rattle.map_page.specs.Pages.{page_bytes}
use Rattle.map_commands.specs.MapWorks.{proved_line, poster_due}
use Rattle.graph_maps.specs.declared.checked.Proved.{Proved}
use Rattle.map_commands.specs.ImproveWorks.{improved_line}
use Rattle.command_inputs.specs.Loading.{Loads}
use Rattle.map_method.specs.declared.map_settings.MapSettings.{MapSettings}
use Rattle.graph_json.specs.declared.imported.Imported.{Imported}
use Rattle.graph_core.specs.declared.parts.GraphParts.{GraphParts}
use Rattle.line_graph.specs.Outcome.{graph_outcome}
use Rattle.line_graph.specs.Rides.{KeepsLines}
use Rattle.line_graph.specs.Text.{graph_text}
use Rattle.export_command.specs.Exchanged.{IsExported}
use Rattle.graph_maps.specs.Promises.{IsMadeOn}
use Rattle.graph_maps.specs.Subjects.{told_by}
use Rattle.command_run.specs.Told.{IsRun}
use Rattle.run_status.specs.declared.refusal.Refusal.TheVariants as refused
use Rattle.map_commands.specs.ImportWorks.{read_work}
use Rattle.asked_inputs.specs.Inputs.{inputs_of, input_path}
use Rattle.map_commands.specs.Promises.{IsAccepted}

-- The map of a feed is written, and its certificate: those that are defined for the feed's tables. The map shows exactly
-- the line graph of these tables, in a legal drawing; no line orders cost less than the bound that the certificate proves, which
-- is the cost where best orders are claimed: the check says yes to both. The two files hold the two, and a third one, where it
-- is named, the page of the poster by this certificate.
pub record IsMapWritten (told : Option (List (List ℕ × List ℕ))) (asked : Asked) (paths : NewPaths) (new : Written) : Type 0 where
  pub loaded : Loaded
  pub loads : Loads told (inputs_of asked) loaded
  pub made : MapBytes
  pub defined : make_outcome loaded.tables loaded.settings loaded.method ≡ Ok made
  pub is_made : IsMade loaded.tables loaded.settings loaded.method.claim made
  pub map : held_by (Path paths.map.picture) new ≡ Some made.svg
  pub certificate : held_by (Path paths.map.certificate) new ≡ Some made.certificate
  pub poster : List ℕ
  pub postered : poster_due loaded made ≡ Ok poster
  pub is_poster : IsPoster loaded.tables loaded.settings loaded.method.claim poster made.certificate
  pub page : IfSome paths.page (λ path. held_by (Path path) new ≡ Some (page_bytes poster))

-- The map of a feed is written after more moves on its drawing, and its certificate: those that are defined for the feed's
-- tables. The map shows exactly the line graph of these tables, in a legal drawing that is no heavier than that of `make`; no
-- line orders cost less than the bound that the certificate proves, and the check says yes to both. The two files hold the
-- two, and the line that tells of the moves is printed behind what standard output held.
pub record IsImprovedMapWritten (told : Option (List (List ℕ × List ℕ))) (asked : Asked) (paths : MapPaths) (moves : ℕ) (old new : Written) : Type 0 where
  pub loaded : Loaded
  pub loads : Loads told (inputs_of asked) loaded
  pub improved : ImprovedBytes
  pub defined : improve_outcome loaded.tables loaded.settings loaded.method moves ≡ Ok improved
  pub is_improved : IsImprovedMap loaded.tables loaded.settings loaded.method moves improved
  pub map : held_by (Path paths.picture) new ≡ Some improved.map.svg
  pub certificate : held_by (Path paths.certificate) new ≡ Some improved.map.certificate
  pub printed : held_by Said new ≡ Some (unwrap_or (held_by Said old) [] ++ improved_line improved.improvement)

-- The map of a graph file is written, and its certificate: those that are defined for what was read. The map shows exactly
-- the line graph that was read, in a legal drawing; no line orders cost less than the bound that the certificate proves, and
-- the check says yes to both.
pub record IsImportWritten (told : Option (List (List ℕ × List ℕ))) (asked : Asked) (paths : MapPaths) (new : Written) : Type 0 where
  pub both : MapSettings × Imported
  pub reads : IsRun refused.ReadFault told (input_path asked) (read_work (inputs_of asked).chosen) (Ok both)
  pub made : MapBytes
  pub defined : made_on (told_by both.1.names both.1.importance) both.0.settings both.0.method both.1.graph ≡ Ok made
  pub promised : IsMadeOn (told_by both.1.names both.1.importance) both.0.settings both.0.method.claim both.1.graph made
  pub map : held_by (Path paths.picture) new ≡ Some made.svg
  pub certificate : held_by (Path paths.certificate) new ≡ Some made.certificate

-- what is proved is printed behind what standard output held
abbrev pub SaysProved : Written → Written → Proved → Type 0
SaysProved old new proved = held_by Said new ≡ Some (unwrap_or (held_by Said old) [] ++ proved_line proved)

-- The map that lies at the path of `check` is accepted with its certificate, whoever made the two: it shows exactly the line
-- graph of the feed's tables, in a legal drawing, with line orders of the cost that is printed, and none cost less than the bound
-- that is printed, or than this cost where it is printed as the best.
pub record IsMapAccepted (told : Option (List (List ℕ × List ℕ))) (asked : Asked) (paths : MapPaths) (old new : Written) : Type 0 where
  pub loaded : Loaded
  pub loads : Loads told (inputs_of asked) loaded
  pub picture : List ℕ
  pub lies : IfSome told (λ files. file_at files paths.picture ≡ Some picture)
  pub proved : Proved
  pub accepted : IsAccepted told (inputs_of asked) loaded picture proved
  pub printed : SaysProved old new proved

-- A picture is written, by the certificate that lies at its path, whoever made that: it shows exactly the line graph of the
-- feed's tables, with what the certificate proves of its line orders. A map with its names shows a legal drawing, with names
-- at free places; a geographic map shows the orders along the ways that lines take on the ground; a poster shows a legal
-- drawing to be printed, its stations marked at the lines that call there.
pub record IsPictureWritten (kind : Picture) (told : Option (List (List ℕ × List ℕ))) (asked : Asked) (path out : List ℕ) (new : Written) : Type 0 where
  pub loaded : Loaded
  pub loads : Loads told (inputs_of asked) loaded
  pub certificate : List ℕ
  pub lies : IfSome told (λ files. file_at files path ≡ Some certificate)
  pub map : List ℕ
  pub is_picture : IsPicture kind loaded.tables loaded.settings loaded.method.claim map certificate
  pub holds : held_by (Path out) new ≡ Some map

-- A script was followed to its end, and its draws are written: each has the bytes of a fresh map with the edits that stand
-- there, which shows exactly the line graph that these make, in a legal drawing, and no line orders cost less than the bound
-- that its certificate proves.
pub record IsSessionWritten (told : Option (List (List ℕ × List ℕ))) (asked : Asked) (path out : List ℕ) (new : Written) : Type 0 where
  pub loaded : Loaded
  pub loads : Loads told (inputs_of asked) loaded
  pub script : List ℕ
  pub lies : IfSome told (λ files. file_at files path ≡ Some script)
  pub followed : (followed_in loaded.tables script).bad ≡ None
  pub kept : KeepDraws loaded script
  pub holds : held_by (Path out) new ≡ Some (session_text loaded script)

-- The line graph of a feed is printed behind what standard output held: exactly that of the feed's tables, in which no line
-- is lost, and none is made up.
pub record IsGraphPrinted (told : Option (List (List ℕ × List ℕ))) (asked : Asked) (old new : Written) : Type 0 where
  pub loaded : Loaded
  pub loads : Loads told (inputs_of asked) loaded
  pub graph : GraphParts
  pub of_feed : graph_outcome loaded.settings.near loaded.tables ≡ Ok graph
  pub kept : KeepsLines loaded.settings.near loaded.tables graph
  pub printed : held_by Said new ≡ Some (unwrap_or (held_by Said old) [] ++ graph_text loaded.tables.stations graph)

-- The line graph of a feed is written as a graph file: exactly that of the feed's tables, in which no line is lost. It is
-- read as this graph, and of what is read the map is made that is made of the feed, under settings that agree.
pub record IsExportWritten (told : Option (List (List ℕ × List ℕ))) (asked : Asked) (out : List ℕ) (new : Written) : Type 0 where
  pub loaded : Loaded
  pub loads : Loads told (inputs_of asked) loaded
  pub text : List ℕ
  pub exported : IsExported loaded.tables loaded.settings text
  pub holds : held_by (Path out) new ≡ Some text

-- what status 0 means, by the command
abbrev pub MeansDone : Option (List (List ℕ × List ℕ)) → Asked → Written → Written → Type 0
MeansDone told (stations feed) old new = ⊤
MeansDone told (graph feed chosen) old new = IsGraphPrinted told (graph feed chosen) old new
MeansDone told (export feed out chosen) old new = IsExportWritten told (export feed out chosen) out new
MeansDone told (imported json paths chosen) old new = IsImportWritten told (imported json paths chosen) paths new
MeansDone told (make feed paths chosen) old new = IsMapWritten told (make feed paths chosen) paths new
MeansDone told (improve feed paths moves chosen) old new = IsImprovedMapWritten told (improve feed paths moves chosen) paths moves old new
MeansDone told (depict kind feed certificate out chosen) old new = IsPictureWritten kind told (depict kind feed certificate out chosen) certificate out new
MeansDone told (session feed script out chosen) old new = IsSessionWritten told (session feed script out chosen) script out new
MeansDone told (trial number) old new = ⊤
MeansDone told (page shown html) old new = ⊤
MeansDone told (check feed paths chosen) old new = IsMapAccepted told (check feed paths chosen) paths old new

-- what is chosen for a check of a map: the files that were chosen for the map
abbrev pub to_check : Chosen → Chosen
to_check chosen = record chosen { defaults = Make }

-- Later files: the feed and the files of settings and of edits, if they are named, are as they were, and the map and the certificate lie at their paths as a run of `make`
-- left them, none of the two longer than a file may be.
pub record LieAsMade (files later : List (List ℕ × List ℕ)) (feed : List ℕ) (paths : MapPaths) (chosen : Chosen) (new : Written) : Type 0 where
  pub same_feed : (table : Table) → file_at later (path_in feed table) ≡ file_at files (path_in feed table)
  pub same_settings : IfSome chosen.settings (λ path. file_at later path ≡ file_at files path)
  pub same_edits : IfSome chosen.edits (λ path. file_at later path ≡ file_at files path)
  pub map : file_at later paths.picture ≡ held_by (Path paths.picture) new
  pub certificate : file_at later paths.certificate ≡ held_by (Path paths.certificate) new
  pub map_fits : IfSome (held_by (Path paths.picture) new) (λ bytes. is_within File (length bytes) ≡ true)
  pub certificate_fits : IfSome (held_by (Path paths.certificate) new) (λ bytes. is_within File (length bytes) ≡ true)
