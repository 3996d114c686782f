use Rattle.std.proofs.Common.{◌≡◌, List, [], fold, take}
use Rattle.map_base.specs.declared.ids.SegId.{SegId}
use Rattle.poster_rules.specs.Posters.{put_in}
use Rattle.poster_picture.proofs.stations.by_size.Given as goal

-- the segments so far are sorted
abbrev pub invariant-loop-s : goal.invariant-loop-s
invariant-loop-s l = l.sorted.items ≡ fold (λ (sorted : List SegId) (a : SegId). put_in l.graph.lines a sorted) [] (take l.s-index l.round)
