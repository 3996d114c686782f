-- The folder of a trial.
use Rattle.std.specs.Prelude.{ℕ, zero, suc, ◌+◌, List, [], ◌∷◌, ◌++◌, codes}
use Rattle.trial_feed.specs.declared.lattice.Place.{Place}
use Rattle.trial_feed.specs.Lattice.{side, line_count}
use Rattle.trial_feed.specs.Lines.{lines}
use Rattle.trial_feed.specs.Rows.{stop, route, trip, call}

-- the texts of the numbers below a number, one after another
abbrev pub joined : (ℕ → List ℕ) → ℕ → List ℕ
joined text zero = []
joined text (suc n) = joined text n ++ text n

-- so many stations of one number north, from the west
abbrev pub row_north : ℕ → ℕ → List ℕ
row_north north count = joined (λ east. stop (record { east = east; north = north })) count

abbrev pub stops_table : ℕ → List ℕ
stops_table side = codes "stop_id,stop_name,stop_lat,stop_lon\n" ++ joined (λ north. row_north north (side + 1)) (side + 1)

abbrev pub routes_table : ℕ → List ℕ
routes_table count = codes "route_id,route_type,route_color\n" ++ joined route count

abbrev pub trips_table : ℕ → List ℕ
trips_table count = codes "route_id,service_id,trip_id\n" ++ joined trip count

-- the calls of a line's trip, from a sequence number on
abbrev pub calls_from : ℕ → ℕ → List Place → List ℕ
calls_from number sequence [] = []
calls_from number sequence (place ∷ stops) = call number sequence place ++ calls_from number (sequence + 1) stops

-- the calls of lines, from a line's number on
abbrev pub lines_from : ℕ → List (List Place) → List ℕ
lines_from number [] = []
lines_from number (stops ∷ rest) = calls_from number 1 stops ++ lines_from (number + 1) rest

abbrev pub calls_table : List (List Place) → List ℕ
calls_table drawn = codes "trip_id,stop_id,stop_sequence\n" ++ lines_from 0 drawn

-- the folder `trial` of four tables, each file with its path
abbrev pub folder_of : List ℕ → List ℕ → List ℕ → List ℕ → List (List ℕ × List ℕ)
folder_of stops routes trips calls =
    (codes "trial/stops.txt", stops) ∷ (codes "trial/routes.txt", routes) ∷ (codes "trial/trips.txt", trips) ∷
    (codes "trial/stop_times.txt", calls) ∷ []

-- the files of the folder that a number makes
abbrev pub trial_folder : ℕ → List (List ℕ × List ℕ)
trial_folder trial =
    folder_of (stops_table (side trial)) (routes_table (line_count trial)) (trips_table (line_count trial)) (calls_table (lines trial))
