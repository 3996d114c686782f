use Rattle.std.proofs.Common.{◌≡◌, [], take}
use Rattle.std.specs.List.{flat_map}
use Rattle.poster_rules.specs.Posters.{stands_on}
use Rattle.poster_picture.specs.Feet.{with_stands, Gathered}
use Rattle.poster_picture.specs.Sheets.{plain}
use Rattle.poster_picture.proofs.stations.feet_at.Given as goal

-- the feet on the segments so far
abbrev pub invariant-loop-i : goal.invariant-loop-i
invariant-loop-i l =
    (let g : Gathered = record { seen = l.seen.items; path = l.path.items } in g)
    ≡ with_stands (plain l.sheet) l.n.0 l.callers (record { seen = []; path = [] }) (flat_map (stands_on (plain l.sheet)) (take l.i l.segments.items))
