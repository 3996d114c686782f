use Rattle.std.proofs.Common.{ap, sym, ◌∙◌}
use Rattle.std.specs.List.{list_any}
use Rattle.svg_writer.specs.Picture.{are_one}
use Rattle.poster_picture.proofs.Gathering.{corner_known, corner_new}
use Rattle.poster_picture.proofs.stations.put_foot.Goals as goal

pub returns-then-has_corner : goal.returns-then-has_corner
returns-then-has_corner c =
    corner_known c.args.path.now.items c.args.foot (sym (c.has_corner.ensures ∙ ap (list_any (are_one c.args.foot)) c.as_slice.ensures.value) ∙ c.if-has_corner.true)

pub returns : goal.returns
returns c =
    corner_new c.args.path.now.items c.push.new.self.items c.args.foot (sym (c.has_corner.ensures ∙ ap (list_any (are_one c.args.foot)) c.as_slice.ensures.value) ∙ c.if-has_corner.false) c.in_ok-push.ensures.items
