use Rattle.std.proofs.Common.{◌≡◌, drop}
use Rattle.std.specs.List.{find}
use Rattle.label_place.specs.Places.{all_places}
use Rattle.label_place.specs.Signs.{is_free}
use Rattle.label_place.proofs.placing.first_free.Given as goal

-- none of the places so far is free
abbrev pub invariant-loop-place : goal.invariant-loop-place
invariant-loop-place l = find (is_free l.grid l.sign) (drop l.place-index l.place-items) ≡ find (is_free l.grid l.sign) all_places
