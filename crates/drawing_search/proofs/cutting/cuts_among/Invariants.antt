use Rattle.std.proofs.Common.{◌≡◌, ◌-◌, ◌*◌, ◌/◌, length, map, get_or}
use Rattle.std.specs.List.{range_with_len}
use Rattle.drawing_search.proofs.cutting.cuts_among.Given as goal

-- the cuts so far
abbrev pub invariant-loop-i : goal.invariant-loop-i
invariant-loop-i l = l.cuts.items ≡ map (λ i. get_or l.places (i * (length l.places - 1) / l.pieces) 0) (range_with_len 0 l.i)
