-- The snap as a function: the least of all lists of places.
use Rattle.std.specs.Prelude.{ℕ, ◌-◌, Bool, nat_lt, ◌==◌, ◌||◌, ◌&&◌, List, [], ◌∷◌, length, map}
use Rattle.std.specs.List.{flat_map, range_with_len}
use Rattle.map_base.specs.declared.point.Point.{Point}
use Rattle.least_path.specs.Least.{least_by}
use Rattle.shape_track.specs.Snaps.{cost_of, is_not_after}

-- all lists of non-falling places below n, one per station, from a floor on
abbrev pub all_places : ℕ → ℕ → List Point → List (List ℕ)
all_places n floor [] = [] ∷ []
all_places n floor (s ∷ ss) = flat_map (λ i. map (λ (is : List ℕ). i ∷ is) (all_places n i ss)) (range_with_len floor (n - floor))

-- places of a lesser cost are better, and of those of one cost the first in the order of dictionaries
abbrev pub is_no_worse : List Point → List Point → List ℕ → List ℕ → Bool
is_no_worse samples stations is js =
    nat_lt (cost_of samples stations is) (cost_of samples stations js)
    || ((cost_of samples stations is == cost_of samples stations js) && is_not_after is js)

-- the snap: the best of all lists of non-falling places
abbrev pub snap_of : List Point → List Point → List ℕ
snap_of samples stations = least_by (is_no_worse samples stations) [] (all_places (length samples) 0 stations)
