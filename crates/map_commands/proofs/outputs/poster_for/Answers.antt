use Rattle.std.proofs.Common.{ℕ, subst, Vec}
use Rattle.std.specs.Global.{Global}
use Rattle.graph_maps.specs.Readings.{certificate_in}
use Rattle.graph_maps.specs.Checking.{Gives}
use Rattle.map_engine.specs.Postering.{postered_items}
use Rattle.map_commands.proofs.outputs.poster_for.Goals as goal

pub returns : goal.returns
returns c =
    subst (λ claim. Gives (λ (v : Vec ℕ Global). v.items) c.poster_on_graph.result
    (postered_items c.args.loaded.now.tables c.args.loaded.now.settings claim c.args.graph.now (certificate_in c.args.certificate.now)))
    c.claim-claim.ensures c.poster_on_graph.ensures.outcome
