use Rattle.command_words.specs.Program.{export_app, graph_app, import_app, octimap_graphs, octimap_maps, with_command}
use Rattle.command_words.proofs.program.over_graphs.Goals as goal

pub returns : goal.returns
unfolding octimap_graphs
returns c =
    let one = c.in_ok-program-2.ensures octimap_maps graph_app c.in_ok-program.ensures c.graph.ensures.app c.graph.ensures.local in
    let two = c.in_ok-program-3.ensures (with_command octimap_maps graph_app) export_app one c.export.ensures.app c.export.ensures.local in
    c.with_command-3.ensures (with_command (with_command octimap_maps graph_app) export_app) import_app two c.import.ensures.app c.import.ensures.local
