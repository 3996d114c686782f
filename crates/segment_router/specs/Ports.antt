-- Which ports of a node a segment may have.
use Rattle.std.specs.Prelude.{ℕ, ◌+◌, ◌-◌, ◌^◌, ◌%◌, ◌==◌, ◌&&◌, nat_le, Bool, List, [], ◌∷◌, length, map, sum, if◌then◌else◌, Option, Some, None}
use Rattle.std.specs.List.{list_all}
use Rattle.map_base.specs.declared.ids.SegId.{SegId}
use Rattle.octi_grid.specs.declared.dir.Dir.{Dir}
use Rattle.octi_grid.specs.Ways.{number_of}
use Rattle.walk_search.specs.Routes.{directions}

-- how far clockwise the next of two ports is, 1 to 8 parts of 45 degrees: 8 from a port to itself
abbrev pub distance_to : Dir → Dir → ℕ
distance_to a b = (number_of b + 7 - number_of a) % 8 + 1

-- a segment's place in its round, and its port
abbrev pub Stop : Type 0
Stop = ℕ × Dir

-- from each stop to the next, and from the last one to the first: the distance of their ports, and how many places of a
-- round of so many segments lie from the one to the other
abbrev pub gaps_to : ℕ → Stop → Stop → List Stop → List (ℕ × ℕ)
gaps_to count first s [] = (distance_to s.1 first.1, first.0 + count - s.0) ∷ []
gaps_to count first s (t ∷ ts) = (distance_to s.1 t.1, t.0 - s.0) ∷ gaps_to count first t ts

abbrev pub gaps_of : ℕ → List Stop → List (ℕ × ℕ)
gaps_of count [] = []
gaps_of count (s ∷ ss) = gaps_to count s s ss

-- how far clockwise the gaps go together
abbrev pub turned_over : List (ℕ × ℕ) → ℕ
turned_over [] = 0
turned_over (g ∷ gs) = g.0 + turned_over gs

-- the ports go once round, and from each to the next there is room for the segments between
abbrev pub are_spaced : ℕ → List Stop → Bool
are_spaced count stops = (turned_over (gaps_of count stops) == 8) && list_all (λ g. nat_le g.1 g.0) (gaps_of count stops)

-- the same place with its port, and the stops after it
abbrev pub with_stop : ℕ → Option Dir → List Stop → List Stop
with_stop i None rest = rest
with_stop i (Some d) rest = (i, d) ∷ rest

-- the stops of a round from place i on: its segments that have a port
abbrev pub stops_from : ℕ → (SegId → Option Dir) → List SegId → List Stop
stops_from i port_of [] = []
stops_from i port_of (s ∷ round) = with_stop i (port_of s) (stops_from (i + 1) port_of round)

-- a segment with a new port, and the others as they are
abbrev pub with_port : SegId → Dir → (SegId → Option Dir) → SegId → Option Dir
with_port seg d port_of s = if seg.0 == s.0 then Some d else port_of s

-- a segment of a round may have a port beside those that are known
abbrev pub is_allowed : List SegId → (SegId → Option Dir) → SegId → Dir → Bool
is_allowed round port_of seg d = are_spaced (length round) (stops_from 0 (with_port seg d port_of) round)

-- the allowed ports of a segment, as bits
abbrev pub mask_of : (Dir → Bool) → ℕ
mask_of test = sum (map (λ d. if test d then 2 ^ number_of d else 0) directions)

-- the ports of a list
abbrev pub port_in : List (SegId × Dir) → SegId → Option Dir
port_in [] s = None
port_in (p ∷ ps) s = if p.0.0 == s.0 then Some p.1 else port_in ps s

abbrev pub allowed_mask : List SegId → (SegId → Option Dir) → SegId → ℕ
allowed_mask round port_of seg = mask_of (is_allowed round port_of seg)
