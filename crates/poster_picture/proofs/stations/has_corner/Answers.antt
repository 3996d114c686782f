use Rattle.std.proofs.Common.{◌∙◌, ap, sym, pos, arith}
use Rattle.std.specs.List.{list_any}
use Rattle.std.proofs.lemmas.List.{take_all}
use Rattle.line_offsets.specs.declared.corner.Corner.{Corner}
use Rattle.svg_writer.specs.Picture.{are_one}
use Rattle.poster_picture.proofs.Gathering.{any_here, none_more}
use Rattle.poster_picture.proofs.stations.has_corner.Goals as goal

abbrev origin : Corner
origin = record { x = pos 0; y = pos 0 }

pub loop-known-preserved : goal.loop-known-preserved
loop-known-preserved c =
    none_more (are_one c.args.corner) c.args.path.now c.loop-known.known-index origin c.loop-known-test.true c.loop-known.invariant (sym c.are_one.ensures ∙ c.if-are_one.false)

pub returns-then-are_one : goal.returns-then-are_one
returns-then-are_one c = sym (any_here (are_one c.args.corner) c.args.path.now c.loop-known.known-index origin c.loop-known-test.true (sym c.are_one.ensures ∙ c.if-are_one.true))

pub returns : goal.returns
returns c = sym c.loop-known.invariant ∙ ap (list_any (are_one c.args.corner)) (take_all c.loop-known.known-index c.args.path.now (omega arith))
