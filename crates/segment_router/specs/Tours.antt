-- A tour of the stops of a round, clockwise.
use Rattle.std.specs.Prelude.{ℕ, ◌+◌, ◌-◌, ◌==◌, ◌&&◌, nat_le, Bool, false, List, if◌then◌else◌, Option, Some, None}
use Rattle.std.specs.List.{list_all}
use Rattle.octi_grid.specs.declared.dir.Dir.{Dir}
use Rattle.segment_router.specs.declared.ports.Stop.{Stop as PlaceAndPort}
use Rattle.segment_router.specs.declared.ports.Tour.{Tour}
use Rattle.segment_router.specs.Ports.{are_spaced, distance_to, gaps_to, turned_over, Stop}

-- a stop as its place and its port
abbrev pub stop_of : PlaceAndPort → Stop
stop_of s = (s.place, s.port)

-- a tour that has begun goes on to a stop, if there is room for the segments between and it goes no more than once round
abbrev pub tour_past : Tour → PlaceAndPort → Option Tour
tour_past t s =
    if nat_le (s.place - t.last.place) (distance_to t.last.port s.port) && nat_le (t.turned + distance_to t.last.port s.port) 8
    then Some (record { first = t.first; last = s; turned = t.turned + distance_to t.last.port s.port }) else None

-- the same, where it may begin at the stop
abbrev pub tour_to : Option Tour → PlaceAndPort → Option Tour
tour_to None s = Some (record { first = s; last = s; turned = 0 })
tour_to (Some t) s = tour_past t s

-- the same, where there may be no stop at a place; none where the tour can't go on
abbrev pub as_tour : Option Tour → Option (Option Tour)
as_tour None = None
as_tour (Some t) = Some (Some t)

abbrev pub tour_on : Option Tour → ℕ → Option Dir → Option (Option Tour)
tour_on tour place None = Some tour
tour_on tour place (Some port) = as_tour (tour_to tour (record { place = place; port = port }))

-- whether a tour that goes on over these stops ends well
abbrev pub ends_well : ℕ → Option Tour → List Stop → Bool
ends_well count None stops = are_spaced count stops
ends_well count (Some t) stops =
    (t.turned + turned_over (gaps_to count (stop_of t.first) (stop_of t.last) stops) == 8)
    && list_all (λ (g : ℕ × ℕ). nat_le g.1 g.0) (gaps_to count (stop_of t.first) (stop_of t.last) stops)

-- the same, where it may not go on
abbrev pub may_end_well : ℕ → List Stop → Option (Option Tour) → Bool
may_end_well count stops None = false
may_end_well count stops (Some tour) = ends_well count tour stops
