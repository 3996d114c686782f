use Rattle.std.proofs.Common.{◌≡◌, ℕ, ◌<◌, get_or, false}
use Rattle.poster_rules.specs.Posters.{goes_before}
use Rattle.poster_picture.proofs.Sorting.{no_segment}
use Rattle.poster_picture.proofs.stations.place_for.Given as goal

-- it goes before none of those so far
abbrev pub invariant-loop-place : goal.invariant-loop-place
invariant-loop-place l = (k : ℕ) → k < l.place → goes_before l.graph.lines l.s (get_or l.sorted k no_segment) ≡ false
