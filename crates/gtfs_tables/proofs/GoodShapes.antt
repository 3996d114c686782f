-- What `shapes.txt` without a bad row keeps.
use Rattle.std.proofs.Common.{◌≡◌, ◌<◌, ◌≤◌, ◌^◌, ℕ, suc, cond, Bool, true, false, List, [], ◌∷◌, Option, Some, None, Ok, All, map, filter, drop, length, bytes_eq, nat_le, unwrap_or, refl, sym, ◌∙◌, subst, arith}
use Rattle.std.proofs.lemmas.Bool.{leb-true}
use Rattle.std.proofs.lemmas.List.{length-map}
use Rattle.std.proofs.lemmas.List.Elements.{All-nil, All-map, All-weaker, filter_passes}
use Rattle.transit_feed.specs.Feeds.{ArePlace, IsShape}
use Rattle.table_rows.specs.declared.why.Table.TheVariants.{Shapes}
use Rattle.table_rows.specs.Ids.{place_among}
use Rattle.table_rows.specs.Values.{rows_of, degrees_of}
use Rattle.table_rows.specs.Cells.{Row, field_in, ids_in}
use Rattle.table_rows.specs.Reasons.{first_bad}
use Rattle.table_rows.proofs.FirstLemmas.{filter-few, length-firsts}
use Rattle.route_tables.specs.declared.known.KnownTrips.{KnownTrips}
use Rattle.sequence_tables.specs.declared.known.KnownShapes.{KnownShapes}
use Rattle.gtfs_tables.specs.Good.{IsBelow, AreGoodTrips, AreGoodShapes}
use Rattle.ordered_entries.specs.Rising.{by_rising}
use Rattle.route_tables.specs.Trips.{is_named}
use Rattle.sequence_tables.specs.Shapes.{shape_columns, shapes_reason, sequence_in, point_in, rows_of_shape, points_of_shape, named_shapes, kept_shapes, shape_of, known_shapes, no_shapes, shapes_of_file}
use Rattle.stop_table.proofs.PlacedLemmas.{within-bound}
use Rattle.ordered_entries.proofs.RisingLists.{length-by_rising}
use Rattle.gtfs_tables.proofs.GoodRoutes.{unless_bad-ok, all_of_map, is_below-place, few_behind}

-- the points of rows are places
point_place : (rows : List Row) (row : Row) → ArePlace (point_in (shape_columns rows) row).0 (point_in (shape_columns rows) row).1
point_place rows row = record {
  latitude = within-bound 90000000 (degrees_of (field_in row (shape_columns rows).lat));
  longitude = within-bound 180000000 (degrees_of (field_in row (shape_columns rows).lon));
}

module _ (rows : List Row) (few : length rows ≤ 2 ^ 32) where
  length-points : (shape : List ℕ) → length (points_of_shape (shape_columns rows) rows shape) ≡ length (rows_of_shape (shape_columns rows) rows shape)
  length-points shape =
      let number = λ (row : Row). unwrap_or (sequence_in (shape_columns rows) row) 0 in
      length-map (by_rising number (rows_of_shape (shape_columns rows) rows shape)) (point_in (shape_columns rows)) ∙ length-by_rising number (rows_of_shape (shape_columns rows) rows shape)

  good_shape : (shape : List ℕ) → nat_le 2 (length (rows_of_shape (shape_columns rows) rows shape)) ≡ true → IsShape (shape_of (shape_columns rows) rows shape)
  good_shape shape two =
      let counted = length-points shape in
      let at_least = leb-true 2 (length (rows_of_shape (shape_columns rows) rows shape)) two in
      let kept = filter-few (λ row. bytes_eq shape (field_in row (shape_columns rows).id)) (drop 1 rows) in
      let behind = few_behind rows few in
      record {
        some_points = omega (arith, counted, at_least);
        few_points = omega (arith, counted, kept, behind);
        places = all_of_map (λ point. ArePlace point.0 point.1) (point_in (shape_columns rows)) (by_rising (λ row. unwrap_or (sequence_in (shape_columns rows) row) 0) (rows_of_shape (shape_columns rows) rows shape)) (point_place rows);
      }

few_kept : (trips : KnownTrips) (rows : List Row) → length rows ≤ 2 ^ 32 → length (kept_shapes trips (shape_columns rows) rows) < 2 ^ 32
few_kept trips rows few =
    let c = shape_columns rows in
    let ids = ids_in c.id (drop 1 rows) in
    let kept = filter-few (λ shape. nat_le 2 (length (rows_of_shape c rows shape))) (named_shapes trips c rows) in
    let seen = length-firsts bytes_eq (filter (is_named trips) ids) in
    let named = filter-few (is_named trips) ids in
    let given = length-map (drop 1 rows) (λ row. field_in row c.id) in
    let behind = few_behind rows few in
    omega (arith, kept, seen, named, given, behind)

module _ (count : ℕ) (trips : KnownTrips) (good : AreGoodTrips count trips) where
  good_known : (rows : List Row) → length rows ≤ 2 ^ 32 → AreGoodShapes trips (known_shapes trips rows)
  good_known rows few =
      let c = shape_columns rows in
      let kept = kept_shapes trips c rows in
      let counted = length-map kept (shape_of c rows) in
      let below = few_kept trips rows few in
      record {
        few = omega (arith, counted, below);
        shapes = All-map IsShape (shape_of c rows) kept
            (All-weaker (λ shape. nat_le 2 (length (rows_of_shape c rows shape)) ≡ true) (λ shape. IsShape (shape_of c rows shape)) (good_shape rows few) kept
            (filter_passes (λ shape. nat_le 2 (length (rows_of_shape c rows shape))) (named_shapes trips c rows)));
        of_trips = subst (λ n. All (IsBelow n) (map (place_among kept) trips.shapes)) (sym counted)
            (all_of_map (IsBelow (length kept)) (place_among kept) trips.shapes (is_below-place kept));
        as_many = length-map trips.shapes (place_among kept) ∙ good.as_many_shapes;
      }

  good_none : AreGoodShapes trips (no_shapes trips)
  good_none = record {
    few = omega arith;
    shapes = All-nil IsShape;
    of_trips = all_of_map (IsBelow 0) (place_among []) trips.shapes (is_below-place []);
    as_many = length-map trips.shapes (place_among []) ∙ good.as_many_shapes;
  }

  pub good_shapes : (file : Option (List ℕ)) (known : KnownShapes)
      → ((bytes : List ℕ) → file ≡ Some bytes → length (rows_of bytes) ≤ 2 ^ 32)
      → shapes_of_file trips file ≡ Ok known → AreGoodShapes trips known
  good_shapes None known few is =
      let same : no_shapes trips ≡ known = cc in
      subst (AreGoodShapes trips) same good_none
  good_shapes (Some bytes) known few is =
      let rows = rows_of bytes in
      let both = unless_bad-ok Shapes (first_bad (shapes_reason trips rows) rows) (known_shapes trips rows) known is in
      subst (AreGoodShapes trips) both.1 (good_known rows (few bytes refl))
