use Rattle.std.proofs.Common.{codes}
use Rattle.command_words.specs.Program.{improve_app, new_map_app, octimap_alone, octimap_made, with_command}
use Rattle.command_words.proofs.program.made.Goals as goal

pub returns : goal.returns
unfolding octimap_made
returns c =
    let one = c.in_ok-program-2.ensures octimap_alone (new_map_app (codes "map")) c.in_ok-program.ensures c.map.ensures.app c.map.ensures.local in
    let two = c.in_ok-program-3.ensures (with_command octimap_alone (new_map_app (codes "map"))) (new_map_app (codes "make")) one c.make.ensures.app c.make.ensures.local in
    c.with_command-3.ensures (with_command (with_command octimap_alone (new_map_app (codes "map"))) (new_map_app (codes "make"))) improve_app two c.improve.ensures.app c.improve.ensures.local
