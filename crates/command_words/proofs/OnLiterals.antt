-- What a proof unfolds to compute with the definition of the program, and with words that are written out.
use Rattle.std.specs.Prelude.{⊤}
use Rattle.clap.proofs.OnLiterals.{clap_on_literals}
use Rattle.command_words.specs.Program.{export_app, feed_app, graph_app, import_app, improve_app, map_app, new_map_app, octimap_alone, octimap_app, octimap_graphs, octimap_made, octimap_maps, page_app, picture_app, plain_app, session_app, trial_app, with_files, with_map, with_options, with_settings}
use Rattle.command_words.specs.Words.{asked, asked_as, asked_else, check_in, export_in, faults, graph_in, import_in, improve_in, make_in, met, new_paths_in, options_in, page_in, paths_in, picture_in, session_in, settings_in, stations_in, trial_in, two_paths_in}

unfoldable pub octimap_written_out : ⊤
unfolding octimap_app octimap_graphs octimap_maps octimap_made octimap_alone new_map_app map_app improve_app picture_app session_app graph_app export_app import_app trial_app page_app feed_app plain_app with_settings with_options with_files with_map
octimap_written_out = tt

unfoldable pub rows_written_out : ⊤
unfolding asked_as asked_else make_in improve_in check_in picture_in session_in graph_in export_in import_in stations_in page_in trial_in new_paths_in two_paths_in paths_in options_in settings_in
rows_written_out = tt

unfoldable pub words_written_out : ⊤
unfolding clap_on_literals octimap_written_out rows_written_out asked faults met
words_written_out = tt
