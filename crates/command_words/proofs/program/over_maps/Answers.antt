use Rattle.std.proofs.Common.{codes}
use Rattle.command_words.specs.Program.{map_app, octimap_made, octimap_maps, picture_app, session_app, with_command}
use Rattle.command_words.proofs.program.over_maps.Goals as goal

pub returns : goal.returns
unfolding octimap_maps
returns c =
    let one = c.in_ok-program-2.ensures octimap_made (map_app (codes "check")) c.in_ok-program.ensures c.check.ensures.app c.check.ensures.local in
    let checked = with_command octimap_made (map_app (codes "check")) in
    let two = c.in_ok-program-3.ensures checked (picture_app (codes "labels")) one c.labels.ensures.app c.labels.ensures.local in
    let labelled = with_command checked (picture_app (codes "labels")) in
    let three = c.in_ok-program-4.ensures labelled (picture_app (codes "geo")) two c.geo.ensures.app c.geo.ensures.local in
    let drawn = with_command labelled (picture_app (codes "geo")) in
    let four = c.in_ok-program-5.ensures drawn (picture_app (codes "poster")) three c.poster.ensures.app c.poster.ensures.local in
    c.with_command-5.ensures (with_command drawn (picture_app (codes "poster"))) session_app four c.session.ensures.app c.session.ensures.local
