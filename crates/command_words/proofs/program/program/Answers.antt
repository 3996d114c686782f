use Rattle.std.proofs.Common.{codes}
use Rattle.command_words.specs.Program.{feed_app, octimap_app, octimap_graphs, page_app, trial_app, with_command}
use Rattle.command_words.proofs.program.program.Goals as goal

pub returns : goal.returns
unfolding octimap_app
returns c =
    let one = c.in_ok-program-2.ensures octimap_graphs (feed_app (codes "stations")) c.in_ok-program.ensures c.stations.ensures.app c.stations.ensures.local in
    let two = c.in_ok-program-3.ensures (with_command octimap_graphs (feed_app (codes "stations"))) page_app one c.page.ensures.app c.page.ensures.local in
    c.with_command-3.ensures (with_command (with_command octimap_graphs (feed_app (codes "stations"))) page_app) trial_app two c.trial.ensures.app c.trial.ensures.local
