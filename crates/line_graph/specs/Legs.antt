-- Legs of courses, the corridors of stretches, and their paths over the net.
use Rattle.std.specs.Prelude.{ℕ, Bool, ◌==◌, ◌&&◌, List, [], ◌∷◌, ◌++◌, map, min, max, filter, fold, if◌then◌else◌}
use Rattle.std.specs.List.{flat_map, list_any}
use Rattle.map_base.specs.declared.ids.LineId.{LineId}
use Rattle.map_base.specs.declared.point.Point.{Point}
use Rattle.way_network.specs.declared.way.Way.{Way}
use Rattle.track_net.specs.Nets.{NetParts}
use Rattle.net_paths.specs.Choices.{stretch_path_of}
use Rattle.feed_courses.specs.declared.courses.Course.{Course}

-- a leg of a course: its line, the places of its first and its last station, and its samples
pub record Leg : Type 0 where
  pub line : LineId
  pub from : ℕ
  pub to : ℕ
  pub samples : List Point

-- the legs between stations that follow each other
abbrev pub legs_between : LineId → List ℕ → List (List Point) → List Leg
legs_between line [] hops = []
legs_between line (s ∷ []) hops = []
legs_between line (s ∷ t ∷ rest) [] = []
legs_between line (s ∷ t ∷ rest) (hop ∷ hops) = record { line = line; from = s; to = t; samples = hop } ∷ legs_between line (t ∷ rest) hops

abbrev pub legs_of : Course → List Leg
legs_of course = legs_between course.line course.stops course.hops

-- the legs of all courses, in order
abbrev pub all_legs : List Course → List Leg
all_legs courses = flat_map legs_of courses

-- two legs are of one stretch: of one line, between the same two stations, either way
abbrev pub are_one_stretch : Leg → Leg → Bool
are_one_stretch a b = (a.line.0 == b.line.0) && ((min a.from a.to == min b.from b.to) && (max a.from a.to == max b.from b.to))

-- the corridor of a leg's stretch: the samples of all its legs
abbrev pub corridor_of : List Leg → Leg → List Point
corridor_of legs leg = flat_map (λ (l : Leg). l.samples) (filter (are_one_stretch leg) legs)

-- one of the legs is of this leg's stretch
abbrev pub has_stretch : List Leg → Leg → Bool
has_stretch legs leg = list_any (are_one_stretch leg) legs

-- the first legs of stretches, once another leg is seen
abbrev pub with_stretch : List Leg → Leg → List Leg
with_stretch firsts leg = if has_stretch firsts leg then firsts else firsts ++ leg ∷ []

-- the first leg of each stretch, in order
abbrev pub stretches_of : List Leg → List Leg
stretches_of legs = fold with_stretch [] legs

-- the stretch path of a leg, from the lower of its two stations to the other
abbrev pub path_of : ℕ → NetParts → List Leg → Leg → List ℕ
path_of near net legs leg = stretch_path_of near (corridor_of legs leg) net (min leg.from leg.to) (max leg.from leg.to)

abbrev pub way_of : ℕ → NetParts → List Leg → Leg → Way
way_of near net legs leg = record { line = leg.line; points = path_of near net legs leg }

-- the ways of all stretches, in order
abbrev pub ways_of : ℕ → NetParts → List Leg → List Way
ways_of near net legs = map (way_of near net legs) (stretches_of legs)
