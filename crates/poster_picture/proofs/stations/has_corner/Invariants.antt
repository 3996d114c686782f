use Rattle.std.proofs.Common.{◌≡◌, false, take}
use Rattle.std.specs.List.{list_any}
use Rattle.svg_writer.specs.Picture.{are_one}
use Rattle.poster_picture.proofs.stations.has_corner.Given as goal

-- it is none of those so far
abbrev pub invariant-loop-known : goal.invariant-loop-known
invariant-loop-known l = list_any (are_one l.corner) (take l.known-index l.path) ≡ false
