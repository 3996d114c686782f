use Rattle.std.proofs.Common.{◌≡◌, ℤ, pos, negsuc, refl, Less, Equal, Greater}
use Rattle.map_base.specs.declared.point.Point.{Point}
use Rattle.fixed_plane.specs.Plane.{band_at, projected}
use Rattle.fixed_plane.specs.Measures.{dist2_of, side_of}
use Rattle.fixed_plane.specs.Directions.{clockwise_of, clockwise_from}

-- a ten-thousandth of a degree south of the origin: downwards, and so away from it
south : projected (negsuc 99) (pos 0) 0 ≡ record { x = pos 0; y = negsuc 111 }
south = refl

-- a hundredth of a degree east of it
east : projected (pos 0) (pos 10000) 0 ≡ record { x = pos 11132; y = pos 0 }
east = refl

-- at 60 degrees a degree of longitude is half as long
half : projected (pos 60000000) (pos 10000) 12 ≡ record { x = pos 5566; y = pos 66792000 }
half = refl

-- half a kilometre north, and a whole one
north : projected (pos 4492) (pos 0) 0 ≡ record { x = pos 0; y = pos 5000 }
north = refl

farther_north : projected (pos 8984) (pos 0) 0 ≡ record { x = pos 0; y = pos 10000 }
farther_north = refl

-- at the pole a step west is rounded downwards
at_the_pole : projected (pos 0) (negsuc 0) 18 ≡ record { x = negsuc 0; y = pos 0 }
at_the_pole = refl

-- a band begins half way between two steps of five degrees, and is the same on both sides of the equator
first_band : band_at (pos 2499999) ≡ 0
first_band = refl

second_band : band_at (negsuc 2499999) ≡ 1
second_band = refl

north_of_the_equator : band_at (pos 2500000) ≡ 1
north_of_the_equator = refl

tenth_band : band_at (pos 52000000) ≡ 10
tenth_band = refl

last_band : band_at (negsuc 89999999) ≡ 18
last_band = refl

-- three and four make five
far : dist2_of (record { x = pos 1; y = pos 1 }) (record { x = negsuc 1; y = pos 5 }) ≡ 25
far = refl

-- north lies left of the way east, and south right of it
left : side_of (record { x = pos 0; y = pos 0 }) (record { x = pos 2; y = pos 0 }) (record { x = pos 1; y = pos 3 }) ≡ pos 6
left = refl

right : side_of (record { x = pos 0; y = pos 0 }) (record { x = pos 2; y = pos 0 }) (record { x = pos 1; y = negsuc 2 }) ≡ negsuc 5
right = refl

on_the_way : side_of (record { x = pos 0; y = pos 0 }) (record { x = pos 40; y = pos 0 }) (record { x = negsuc 6; y = pos 0 })
    ≡ pos 0
on_the_way = refl

-- clockwise from north come east, south and west, and what lies just left of north is last
north_east : clockwise_of (record { x = pos 0; y = pos 5 }) (record { x = pos 1; y = pos 0 }) ≡ Less
north_east = refl

east_south : clockwise_of (record { x = pos 1; y = pos 0 }) (record { x = pos 0; y = negsuc 1 }) ≡ Less
east_south = refl

south_west : clockwise_of (record { x = pos 0; y = negsuc 1 }) (record { x = negsuc 2; y = pos 0 }) ≡ Less
south_west = refl

last : clockwise_of (record { x = negsuc 0; y = pos 9 }) (record { x = pos 0; y = pos 5 }) ≡ Greater
last = refl

-- a way that is twice as long is the same direction, and the opposite one is not
longer : clockwise_of (record { x = pos 3; y = negsuc 0 }) (record { x = pos 6; y = negsuc 1 }) ≡ Equal
longer = refl

opposite : clockwise_of (record { x = pos 3; y = negsuc 0 }) (record { x = negsuc 2; y = pos 1 }) ≡ Less
opposite = refl

-- the same round a point that is not the origin
abbrev at : ℤ → ℤ → Point
at x y = record { x = x; y = y }

north_first : clockwise_from (at (pos 5) (negsuc 4)) (at (pos 5) (pos 2)) (at (pos 8) (negsuc 1)) ≡ Less
north_first = refl

south_later : clockwise_from (at (pos 5) (negsuc 4)) (at (pos 5) (negsuc 5)) (at (pos 8) (negsuc 1)) ≡ Greater
south_later = refl

west_last : clockwise_from (at (pos 5) (negsuc 4)) (at (negsuc 3) (negsuc 4)) (at (pos 5) (pos 2)) ≡ Greater
west_last = refl

nearer : clockwise_from (at (pos 5) (negsuc 4)) (at (pos 8) (negsuc 1)) (at (pos 6) (negsuc 3)) ≡ Equal
nearer = refl
