use Rattle.std.proofs.Common.{◌∙◌, ap, not, map}
use Rattle.table_rows.specs.Ids.{is_among, noted}
use Rattle.table_rows.proofs.IdLemmas.{is_among-pointed, noted-pointed, is_among-noted, pointed}
use Rattle.table_rows.proofs.ids.Ids.note.Goals as goal

pub returns-clause-new : goal.returns-clause-new
returns-clause-new c =
    c.in_ok-insert.ensures.added
    ∙ ap not (is_among-pointed c.args.id.now c.self.inside.held.keys ∙ ap (is_among c.args.id.now) c.self.view_is)

pub returns-clause-noted : goal.returns-clause-noted
returns-clause-noted c =
    ap (λ keys. map pointed keys) c.in_ok-insert.ensures.keys
    ∙ noted-pointed c.self.inside.held.keys c.args.id
    ∙ ap (λ ids. noted ids c.args.id.now) c.self.view_is

pub returns-clause-among : goal.returns-clause-among
returns-clause-among c other =
    ap (is_among other) (returns-clause-noted c) ∙ is_among-noted c.args.self.now c.args.id.now other
