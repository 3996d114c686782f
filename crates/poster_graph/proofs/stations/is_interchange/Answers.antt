use Rattle.std.proofs.Common.{List, ◌&&◌, length, ap, ◌∙◌}
use Rattle.std.specs.Prelude.{nat_le}
use Rattle.map_base.specs.declared.ids.LineId.{LineId}
use Rattle.map_base.specs.declared.ids.SegId.{SegId}
use Rattle.svg_writer.specs.Picture.{round_at}
use Rattle.poster_graph.proofs.stations.is_interchange.Goals as goal

pub returns : goal.returns
returns c =
    c.has_changes.ensures
    ∙ ap (λ (round : List SegId). nat_le 3 (length round) && nat_le 2 (length c.callers_at-lines.result.now)) c.round_of-segments.ensures
    ∙ ap (λ (lines : List LineId). nat_le 3 (length (round_at c.args.graph.now.rounds c.args.n.0)) && nat_le 2 (length lines)) c.callers_at-lines.ensures
