use Rattle.std.proofs.Common.{◌≡◌, take, fold, None}
use Rattle.std.specs.Prelude.{IfSome}
use Rattle.std.specs.List.{flat_map}
use Rattle.octi_grid.specs.Walks.{points_of}
use Rattle.svg_writer.specs.Elements.{AreBounds}
use Rattle.svg_writer.specs.Picture.{bounds_with}
use Rattle.svg_writer.proofs.walked.bounds_of.Given as goal

abbrev pub invariant-loop-walk : goal.invariant-loop-walk
invariant-loop-walk l = (l.bounds ≡ fold bounds_with None (flat_map points_of (take l.walk-index l.walks))) × IfSome l.bounds AreBounds
