use Rattle.std.proofs.Common.{◌≡◌, map, take}
use Rattle.map_base.specs.declared.ids.LineId.{LineId}
use Rattle.poster_rules.specs.Posters.{Stand}
use Rattle.poster_picture.specs.Feet.{with_stands, Gathered}
use Rattle.poster_picture.specs.Sheets.{plain}
use Rattle.poster_picture.proofs.stations.put_feet.Given as goal

-- the feet of the lines so far
abbrev pub invariant-loop-line : goal.invariant-loop-line
invariant-loop-line l =
    (let g : Gathered = record { seen = l.seen.items; path = l.path.items } in g)
    ≡ with_stands (plain l.sheet) l.n.0 l.callers (record { seen = l.fn.seen.items; path = l.fn.path.items })
    (map (λ (a : LineId). let t : Stand = record { seg = l.s.0; line = a } in t) (take l.line-index l.line-items))
