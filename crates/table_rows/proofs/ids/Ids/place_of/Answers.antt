use Rattle.std.proofs.Common.{◌∙◌, ap}
use Rattle.table_rows.specs.Ids.{place_among}
use Rattle.table_rows.proofs.IdLemmas.{place_among-pointed}
use Rattle.table_rows.proofs.ids.Ids.place_of.Goals as goal

pub returns-clause-place : goal.returns-clause-place
returns-clause-place c =
    c.get_index_of.ensures.index ∙ place_among-pointed c.args.id.now c.self.inside.held.keys ∙ ap (λ ids. place_among ids c.args.id.now) c.self.view_is
