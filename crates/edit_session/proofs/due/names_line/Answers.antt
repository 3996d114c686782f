use Rattle.std.proofs.Common.{List, map, ap, ◌∙◌}
use Rattle.table_rows.specs.Ids.{is_among}
use Rattle.transit_feed.specs.Feeds.{Feed}
use Rattle.transit_feed.specs.declared.line.Line.{Line}
use Rattle.map_edits.specs.Effects.{line_id}
use Rattle.edit_session.proofs.SessionLemmas.{line_among}
use Rattle.edit_session.proofs.due.names_line.Goals as goal

pub returns : goal.returns
returns c =
    c.has_line.ensures ∙ line_among c.args.id.now c.as_slice.result.now
    ∙ ap (λ (lines : List Line). is_among c.args.id.now (map line_id lines)) (c.as_slice.ensures.value ∙ ap (λ (f : Feed). f.lines) c.tables.view_is)
