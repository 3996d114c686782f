-- When feeds of a few stations fit together.
use Rattle.std.proofs.Common.{◌≡◌, refl, sym, ◌∙◌, ap, subst, ℕ, ◌<◌, false, ℤ, pos, List, [], ◌∷◌, map, Some, None, All, bytes_eq, arith}
use Rattle.std.specs.List.{IsDistinct}
use Rattle.std.proofs.lemmas.List.Elements.{All-from_recursion}
use Rattle.std.proofs.lemmas.Map.Keys.{IsDistinct-cons, IsDistinct-from_apart}
use Rattle.map_base.specs.declared.ids.StationId.{StationId}
use Rattle.transit_feed.specs.declared.station.Station.{Station}
use Rattle.transit_feed.specs.declared.line.Line.{Line}
use Rattle.transit_feed.specs.declared.pattern.Pattern.{Pattern}
use Rattle.transit_feed.specs.declared.shape.Shape.{Shape}
use Rattle.transit_feed.specs.Feeds.{ArePlace, IsPlaced, IsShape, IsPattern, IsFeed}
use Rattle.feed_courses.specs.Outcome.{station_numbered}

-- a station with an id of one letter, at a place
pub record IsStation (letter : ℕ) (s : Station) : Type 0 where
  pub id : s.id ≡ letter ∷ []
  pub placed : IsPlaced s

pub record IsLine (letter : ℕ) (l : Line) : Type 0 where
  pub id : l.id ≡ letter ∷ []

apart_ids : (m n : ℕ) (ms ns : List ℕ) → ms ≡ m ∷ [] → ns ≡ n ∷ [] → bytes_eq (m ∷ []) (n ∷ []) ≡ false → bytes_eq ms ns ≡ false
apart_ids m n ms ns e f apart = ap (λ xs. bytes_eq xs ns) e ∙ ap (bytes_eq (m ∷ [])) f ∙ apart

none_distinct : IsDistinct bytes_eq []
none_distinct = IsDistinct-from_apart bytes_eq [] (λ i j d less below. absurd (omega arith))

pub three_ids : (m n o : ℕ) (a b c : Station) → IsStation m a → IsStation n b → IsStation o c → bytes_eq (m ∷ []) (n ∷ []) ≡ false → bytes_eq (m ∷ []) (o ∷ []) ≡ false → bytes_eq (n ∷ []) (o ∷ []) ≡ false →
    IsDistinct bytes_eq (map (λ (s : Station). s.id) (a ∷ b ∷ c ∷ []))
three_ids m n o a b c is_a is_b is_c mn mo rest =
    IsDistinct-cons bytes_eq a.id (b.id ∷ c.id ∷ []) (apart_ids m n a.id b.id is_a.id is_b.id mn, (apart_ids m o a.id c.id is_a.id is_c.id mo, tt))
    (IsDistinct-cons bytes_eq b.id (c.id ∷ []) (apart_ids n o b.id c.id is_b.id is_c.id rest, tt) (IsDistinct-cons bytes_eq c.id [] tt none_distinct))

pub three_placed : (m n o : ℕ) (a b c : Station) → IsStation m a → IsStation n b → IsStation o c → All IsPlaced (a ∷ b ∷ c ∷ [])
three_placed m n o a b c is_a is_b is_c = All-from_recursion IsPlaced (a ∷ b ∷ c ∷ []) (is_a.placed, (is_b.placed, (is_c.placed, tt)))

pub one_id : (l : Line) → IsDistinct bytes_eq (map (λ (l : Line). l.id) (l ∷ []))
one_id l = IsDistinct-cons bytes_eq l.id [] tt none_distinct

pub two_ids : (m n : ℕ) (k l : Line) → IsLine m k → IsLine n l → bytes_eq (m ∷ []) (n ∷ []) ≡ false → IsDistinct bytes_eq (map (λ (l : Line). l.id) (k ∷ l ∷ []))
two_ids m n k l is_k is_l mn = IsDistinct-cons bytes_eq k.id (l.id ∷ []) (apart_ids m n k.id l.id is_k.id is_l.id mn, tt) (IsDistinct-cons bytes_eq l.id [] tt none_distinct)

-- ---- three stations and a line along all three

abbrev along_three : Pattern
along_three = record { line = record { 0 = 0 }; stops = station_numbered 0 ∷ station_numbered 1 ∷ station_numbered 2 ∷ []; shape = None }

three_fit : (a b c : Station) (l : Line) → IsStation 65 a → IsStation 66 b → IsStation 67 c → IsFeed (record { stations = a ∷ b ∷ c ∷ []; lines = l ∷ []; patterns = along_three ∷ []; shapes = [] })
three_fit a b c l is_a is_b is_c = record {
  few_stations = omega arith;
  few_lines = omega arith;
  few_patterns = omega arith;
  few_shapes = omega arith;
  placed = three_placed 65 66 67 a b c is_a is_b is_c;
  shapes = λ k d below. absurd (omega arith);
  patterns = All-from_recursion (IsPattern (record { stations = a ∷ b ∷ c ∷ []; lines = l ∷ []; patterns = along_three ∷ []; shapes = [] })) (along_three ∷ []) (pattern, tt);
  station_ids = three_ids 65 66 67 a b c is_a is_b is_c refl refl refl;
  line_ids = one_id l;
}
  where
    pattern : IsPattern (record { stations = a ∷ b ∷ c ∷ []; lines = l ∷ []; patterns = along_three ∷ []; shapes = [] }) along_three
    pattern = record {
      line = omega arith;
      some_stops = omega arith;
      few_stops = omega arith;
      stops = All-from_recursion (λ (s : StationId). s.0 < 3) (station_numbered 0 ∷ station_numbered 1 ∷ station_numbered 2 ∷ []) (omega arith, (omega arith, (omega arith, tt)));
      apart = (λ e. absurd (omega arith), (λ e. absurd (omega arith), tt));
      shape = tt;
    }

pub three_on_a_row : (a b c : Station) (l : Line) (stops : List StationId) (stations : List Station) (lines : List Line) (patterns : List Pattern) (shapes : List Shape) → IsStation 65 a → IsStation 66 b → IsStation 67 c →
    stations ≡ a ∷ b ∷ c ∷ [] → lines ≡ l ∷ [] → stops ≡ station_numbered 0 ∷ station_numbered 1 ∷ station_numbered 2 ∷ [] → patterns ≡ record { line = record { 0 = 0 }; stops = stops; shape = None } ∷ [] → shapes ≡ [] →
    IsFeed (record { stations = stations; lines = lines; patterns = patterns; shapes = shapes })
three_on_a_row a b c l stops stations lines patterns shapes is_a is_b is_c ss ls st ps hs =
    subst IsFeed (sym (ap (λ (xs : List Station). record { stations = xs; lines = lines; patterns = patterns; shapes = shapes }) ss
    ∙ ap (λ (xs : List Line). record { stations = a ∷ b ∷ c ∷ []; lines = xs; patterns = patterns; shapes = shapes }) ls
    ∙ ap (λ (xs : List Pattern). record { stations = a ∷ b ∷ c ∷ []; lines = l ∷ []; patterns = xs; shapes = shapes }) (ps ∙ ap (λ (xs : List StationId). record { line = record { 0 = 0 }; stops = xs; shape = None } ∷ []) st)
    ∙ ap (λ (xs : List Shape). record { stations = a ∷ b ∷ c ∷ []; lines = l ∷ []; patterns = along_three ∷ []; shapes = xs }) hs)) (three_fit a b c l is_a is_b is_c)

-- ---- three stations, two lines, and a shape

abbrev aside : Pattern
aside = record { line = record { 0 = 0 }; stops = station_numbered 0 ∷ station_numbered 1 ∷ []; shape = None }

abbrev along_shape : Pattern
along_shape = record { line = record { 0 = 1 }; stops = station_numbered 1 ∷ station_numbered 2 ∷ []; shape = Some 0 }

abbrev there_and_back : Pattern
there_and_back = record { line = record { 0 = 1 }; stops = station_numbered 2 ∷ station_numbered 1 ∷ station_numbered 2 ∷ []; shape = None }

abbrev the_shape : Shape
the_shape = record { points = (pos 0, pos 0) ∷ (pos 0, pos 10000) ∷ (pos 4492, pos 0) ∷ [] }

abbrev patterns_of_three : List Pattern
patterns_of_three = aside ∷ along_shape ∷ there_and_back ∷ []

fit_patterns : (a b c : Station) (k l : Line) → IsFeed (record { stations = a ∷ b ∷ c ∷ []; lines = k ∷ l ∷ []; patterns = []; shapes = the_shape ∷ [] }) →
    IsFeed (record { stations = a ∷ b ∷ c ∷ []; lines = k ∷ l ∷ []; patterns = patterns_of_three; shapes = the_shape ∷ [] })
fit_patterns a b c k l rest = record {
  few_stations = rest.few_stations;
  few_lines = rest.few_lines;
  few_patterns = omega arith;
  few_shapes = rest.few_shapes;
  placed = rest.placed;
  shapes = rest.shapes;
  patterns = All-from_recursion (IsPattern (record { stations = a ∷ b ∷ c ∷ []; lines = k ∷ l ∷ []; patterns = patterns_of_three; shapes = the_shape ∷ [] })) patterns_of_three (first, (second, (third, tt)));
  station_ids = rest.station_ids;
  line_ids = rest.line_ids;
}
  where
    first : IsPattern (record { stations = a ∷ b ∷ c ∷ []; lines = k ∷ l ∷ []; patterns = patterns_of_three; shapes = the_shape ∷ [] }) aside
    first = record {
      line = omega arith;
      some_stops = omega arith;
      few_stops = omega arith;
      stops = All-from_recursion (λ (s : StationId). s.0 < 3) (station_numbered 0 ∷ station_numbered 1 ∷ []) (omega arith, (omega arith, tt));
      apart = (λ e. absurd (omega arith), tt);
      shape = tt;
    }

    second : IsPattern (record { stations = a ∷ b ∷ c ∷ []; lines = k ∷ l ∷ []; patterns = patterns_of_three; shapes = the_shape ∷ [] }) along_shape
    second = record {
      line = omega arith;
      some_stops = omega arith;
      few_stops = omega arith;
      stops = All-from_recursion (λ (s : StationId). s.0 < 3) (station_numbered 1 ∷ station_numbered 2 ∷ []) (omega arith, (omega arith, tt));
      apart = (λ e. absurd (omega arith), tt);
      shape = omega arith;
    }

    third : IsPattern (record { stations = a ∷ b ∷ c ∷ []; lines = k ∷ l ∷ []; patterns = patterns_of_three; shapes = the_shape ∷ [] }) there_and_back
    third = record {
      line = omega arith;
      some_stops = omega arith;
      few_stops = omega arith;
      stops = All-from_recursion (λ (s : StationId). s.0 < 3) (station_numbered 2 ∷ station_numbered 1 ∷ station_numbered 2 ∷ []) (omega arith, (omega arith, (omega arith, tt)));
      apart = (λ e. absurd (omega arith), (λ e. absurd (omega arith), tt));
      shape = tt;
    }

shape_fits : IsShape the_shape
shape_fits = record {
  some_points = omega arith;
  few_points = omega arith;
  places = All-from_recursion (λ (p : ℤ × ℤ). ArePlace p.0 p.1) ((pos 0, pos 0) ∷ (pos 0, pos 10000) ∷ (pos 4492, pos 0) ∷ [])
      (record { latitude = omega arith; longitude = omega arith }, (record { latitude = omega arith; longitude = omega arith }, (record { latitude = omega arith; longitude = omega arith }, tt)));
}

fit_without : (a b c : Station) (k l : Line) → IsStation 90 a → IsStation 88 b → IsStation 89 c → IsLine 72 k → IsLine 76 l →
    IsFeed (record { stations = a ∷ b ∷ c ∷ []; lines = k ∷ l ∷ []; patterns = []; shapes = the_shape ∷ [] })
fit_without a b c k l is_a is_b is_c is_k is_l = record {
  few_stations = omega arith;
  few_lines = omega arith;
  few_patterns = omega arith;
  few_shapes = omega arith;
  placed = three_placed 90 88 89 a b c is_a is_b is_c;
  shapes = All-from_recursion IsShape (the_shape ∷ []) (shape_fits, tt);
  patterns = λ k d below. absurd (omega arith);
  station_ids = three_ids 90 88 89 a b c is_a is_b is_c refl refl refl;
  line_ids = two_ids 72 76 k l is_k is_l refl;
}

pub three_with_shape : (a b c : Station) (k l : Line) (first second third : List StationId) (points : List (ℤ × ℤ)) (stations : List Station) (lines : List Line) (patterns : List Pattern) (shapes : List Shape) →
    IsStation 90 a → IsStation 88 b → IsStation 89 c → IsLine 72 k → IsLine 76 l → stations ≡ a ∷ b ∷ c ∷ [] → lines ≡ k ∷ l ∷ [] → first ≡ station_numbered 0 ∷ station_numbered 1 ∷ [] →
    second ≡ station_numbered 1 ∷ station_numbered 2 ∷ [] → third ≡ station_numbered 2 ∷ station_numbered 1 ∷ station_numbered 2 ∷ [] → points ≡ (pos 0, pos 0) ∷ (pos 0, pos 10000) ∷ (pos 4492, pos 0) ∷ [] →
    patterns ≡ record { line = record { 0 = 0 }; stops = first; shape = None } ∷ record { line = record { 0 = 1 }; stops = second; shape = Some 0 } ∷ record { line = record { 0 = 1 }; stops = third; shape = None } ∷ [] →
    shapes ≡ record { points = points } ∷ [] → IsFeed (record { stations = stations; lines = lines; patterns = patterns; shapes = shapes })
three_with_shape a b c k l first second third points stations lines patterns shapes is_a is_b is_c is_k is_l ss ls s1 s2 s3 pp ps hs =
    subst IsFeed (sym (ap (λ (xs : List Station). record { stations = xs; lines = lines; patterns = patterns; shapes = shapes }) ss
    ∙ ap (λ (xs : List Line). record { stations = a ∷ b ∷ c ∷ []; lines = xs; patterns = patterns; shapes = shapes }) ls
    ∙ ap (λ (xs : List Pattern). record { stations = a ∷ b ∷ c ∷ []; lines = k ∷ l ∷ []; patterns = xs; shapes = shapes })
    (ps ∙ ap (λ (xs : List StationId). record { line = record { 0 = 0 }; stops = xs; shape = None } ∷ record { line = record { 0 = 1 }; stops = second; shape = Some 0 } ∷ record { line = record { 0 = 1 }; stops = third; shape = None } ∷ []) s1
    ∙ ap (λ (xs : List StationId). aside ∷ record { line = record { 0 = 1 }; stops = xs; shape = Some 0 } ∷ record { line = record { 0 = 1 }; stops = third; shape = None } ∷ []) s2
    ∙ ap (λ (xs : List StationId). aside ∷ along_shape ∷ record { line = record { 0 = 1 }; stops = xs; shape = None } ∷ []) s3)
    ∙ ap (λ (xs : List Shape). record { stations = a ∷ b ∷ c ∷ []; lines = k ∷ l ∷ []; patterns = patterns_of_three; shapes = xs }) (hs ∙ ap (λ (xs : List (ℤ × ℤ)). record { points = xs } ∷ []) pp)))
    (fit_patterns a b c k l (fit_without a b c k l is_a is_b is_c is_k is_l))

-- ---- nothing at all

nothing_fits : IsFeed (record { stations = []; lines = []; patterns = []; shapes = [] })
nothing_fits = record {
  few_stations = omega arith;
  few_lines = omega arith;
  few_patterns = omega arith;
  few_shapes = omega arith;
  placed = λ k d below. absurd (omega arith);
  shapes = λ k d below. absurd (omega arith);
  patterns = λ k d below. absurd (omega arith);
  station_ids = none_distinct;
  line_ids = none_distinct;
}

pub nothing : (stations : List Station) (lines : List Line) (patterns : List Pattern) (shapes : List Shape) → stations ≡ [] → lines ≡ [] → patterns ≡ [] → shapes ≡ [] →
    IsFeed (record { stations = stations; lines = lines; patterns = patterns; shapes = shapes })
nothing stations lines patterns shapes ss ls ps hs =
    subst IsFeed (sym (ap (λ (xs : List Station). record { stations = xs; lines = lines; patterns = patterns; shapes = shapes }) ss
    ∙ ap (λ (xs : List Line). record { stations = []; lines = xs; patterns = patterns; shapes = shapes }) ls
    ∙ ap (λ (xs : List Pattern). record { stations = []; lines = []; patterns = xs; shapes = shapes }) ps
    ∙ ap (λ (xs : List Shape). record { stations = []; lines = []; patterns = []; shapes = xs }) hs)) nothing_fits
