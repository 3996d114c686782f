-- What names take up, and where their texts stand.
use Rattle.std.proofs.Common.{◌≡◌, ℤ, pos, negsuc, refl}
use Rattle.eight_sides.specs.declared.interval.Interval.{Interval}
use Rattle.poster_plan.specs.declared.sign.Sign.{Sign}
use Rattle.poster_plan.specs.declared.layout.Step.TheVariants.{Full, Small}
use Rattle.poster_plan.specs.declared.place.Place.TheVariants as place
use Rattle.poster_plan.specs.declared.place.Turn.TheVariants.{Level, Rising}
use Rattle.poster_plan.specs.declared.place.Anchor.TheVariants.{Middle, End}
use Rattle.poster_plan.specs.Places.{place_shape, text_spot}

-- a station of one line with a name of 47 tenths: 141 units wide in full size, 94 small
abbrev sign : Sign
sign = record { centre = record { x = pos 100; y = pos 200 }; radius = 10; tenths = 47 }

abbrev from : ℤ → ℤ → Interval
from a b = record { least = a; greatest = b }

east : ((place_shape sign Full place.E).across ≡ from (pos 116) (pos 257)) × ((place_shape sign Full place.E).down ≡ from (pos 185) (pos 215))
east = (refl, refl)

-- at a corner 12 both ways, no less than 16 / 1.414
north_west : ((place_shape sign Small place.NW).across ≡ from (negsuc 5) (pos 88)) × ((place_shape sign Small place.NW).down ≡ from (pos 168) (pos 188))
north_west = (refl, refl)

-- in the middle, rounded up
south : ((place_shape sign Full place.S).across ≡ from (pos 29) (pos 171)) × ((place_shape sign Full place.S).down ≡ from (pos 216) (pos 246))
south = (refl, refl)

-- 200 long in x - y, no less than 141 times 1.414, and 22 on each side in x + y, no less than 15 times 1.414
rising : ((place_shape sign Full place.UpEast).difference ≡ from (negsuc 45) (pos 154)) × ((place_shape sign Full place.UpEast).sum ≡ from (pos 278) (pos 322))
rising = (refl, refl)

below : text_spot sign Full place.S ≡ record { at = record { x = pos 100; y = pos 240 }; turn = Level; anchor = Middle }
below = refl

left_down : text_spot sign Small place.DownWest ≡ record { at = record { x = pos 76; y = pos 224 }; turn = Rising; anchor = End }
left_down = refl
