-- The rows of the four tables of a trial.
use Rattle.std.specs.Prelude.{ℕ, ◌+◌, ◌/◌, ◌%◌, List, [], ◌∷◌, ◌++◌, codes}
use Rattle.std.specs.Fmt.{decimal}
use Rattle.trial_feed.specs.declared.lattice.Place.{Place}
use Rattle.trial_feed.specs.Lattice.{microdegrees}

-- a station's id: how far east and how far north it stands
abbrev pub id : Place → List ℕ
id place = decimal place.east ++ (codes "_" ++ decimal place.north)

-- the digit of a number at a power of ten
abbrev pub digit_at : ℕ → ℕ → ℕ
digit_at number power = 48 + number / power % 10

-- the last six digits of a number
abbrev pub six_digits : ℕ → List ℕ
six_digits number =
    digit_at number 100000 ∷ digit_at number 10000 ∷ digit_at number 1000 ∷ digit_at number 100 ∷ digit_at number 10 ∷ digit_at number 1 ∷ []

-- the degrees of so many steps, to the microdegree
abbrev pub degrees : ℕ → List ℕ
degrees steps = decimal (microdegrees steps / 1000000) ++ (codes "." ++ six_digits (microdegrees steps))

-- a station's id and its name, which is the same
abbrev pub id_and_name : Place → List ℕ
id_and_name place = id place ++ (codes "," ++ id place)

-- a station's latitude and its longitude
abbrev pub position : Place → List ℕ
position place = degrees place.north ++ (codes "," ++ degrees place.east)

-- a station: its id, its name, its latitude and its longitude
abbrev pub stop : Place → List ℕ
stop place = id_and_name place ++ (codes "," ++ (position place ++ codes "\n"))

-- a line: its id, the type of an underground and no colour
abbrev pub route : ℕ → List ℕ
route number = codes "R" ++ (decimal number ++ codes ",1,\n")

-- a line's one trip
abbrev pub trip : ℕ → List ℕ
trip number = codes "R" ++ (decimal number ++ (codes ",S,R" ++ (decimal number ++ codes "1\n")))

-- a call of a line's trip at a station
abbrev pub call : ℕ → ℕ → Place → List ℕ
call number sequence place = codes "R" ++ (decimal number ++ (codes "1," ++ (id place ++ (codes "," ++ (decimal sequence ++ codes "\n")))))
