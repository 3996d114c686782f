use Rattle.std.proofs.Common.{◌∙◌, ap}
use Rattle.table_rows.specs.Ids.{is_among}
use Rattle.table_rows.proofs.IdLemmas.{is_among-pointed}
use Rattle.table_rows.proofs.ids.Ids.contains.Goals as goal

pub returns : goal.returns
returns c =
    c.contains.ensures ∙ is_among-pointed c.args.id.now c.self.inside.held.keys ∙ ap (is_among c.args.id.now) c.self.view_is
