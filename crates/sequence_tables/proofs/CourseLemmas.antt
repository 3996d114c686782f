-- The shapes that are kept, and their points.
use Rattle.std.proofs.Common.{◌≡◌, ℕ, ℤ, pos, ◌+◌, ◌-◌, ◌<◌, ◌≤◌, ◌==◌, ◌&&◌, ◌||◌, ◌⊎◌, inl, inr, Bool, true, false, cond, eqb, nat_le, List, [], ◌∷◌, ◌++◌, length, get_or, map, filter, take, drop, bytes_eq, Option, Some, unwrap_or, refl, sym, ◌∙◌, ap, arith, true≢false, append-nil}
use Rattle.std.specs.List.{All}
use Rattle.std.proofs.lemmas.Bool.{cases_lt}
use Rattle.std.proofs.lemmas.Bool.Decides.{nat_tests}
use Rattle.std.proofs.lemmas.List.{length-append, length-map, map-append, take_more, take_all, take-append-le, get_or_append_left, get_or-append_right}
use Rattle.std.proofs.lemmas.List.Elements.{All-nil, All-cons, All-head, All-tail, All-filter, filter-append}
use Rattle.transit_feed.specs.declared.shape.Shape.{Shape}
use Rattle.ordered_entries.specs.declared.entry.Entry.{Entry}
use Rattle.ordered_entries.specs.Rising.{by_rising}
use Rattle.ordered_entries.proofs.RisingLists.{length-by_rising}
use Rattle.ordered_entries.proofs.Values.{values_in_order}
use Rattle.table_rows.specs.Firsts.{firsts, firsts_behind}
use Rattle.table_rows.specs.Ids.{is_among, place_among, noted, AreSame}
use Rattle.table_rows.specs.Cells.{Row, field_in, ids_in}
use Rattle.table_rows.proofs.FirstLemmas.{All-firsts}
use Rattle.sequence_tables.specs.declared.shape_columns.ShapeColumns.{ShapeColumns}
use Rattle.route_tables.specs.declared.known.KnownTrips.{KnownTrips}
use Rattle.sequence_tables.specs.declared.known.KnownShapes.{KnownShapes}
use Rattle.sequence_tables.specs.Shapes.{shape_columns, sequence_in, point_in, rows_of_shape, points_of_shape, named_shapes, kept_shapes, shape_of, known_shapes}
use Rattle.sequence_tables.specs.ShapeReads.{is_known, is_read, entry_in}
use Rattle.sequence_tables.specs.KeptShapes.{point_there, places_of_id, shape_at, kept_ids, shapes_of_ids, AreEachNew}
use Rattle.sequence_tables.proofs.PlaceLemmas.{same_bytes, bytes_same}
use Rattle.sequence_tables.proofs.ShapeLemmas.{known_place, same_id, named_is}
use Rattle.sequence_tables.proofs.StationLemmas.{filter_both}

-- One more id is looked at.

none_filtered : (test : List ℕ → Bool) (id : List ℕ) (ids : List (List ℕ)) → is_among id ids ≡ false → is_among id (filter test ids) ≡ false
none_filtered test id [] none = refl
none_filtered test id (x ∷ ids) none = by (bytes_eq id x) refl (test x) (none_filtered test id ids)
  where
    by : (b : Bool) → bytes_eq id x ≡ b → (t : Bool) → (is_among id ids ≡ false → is_among id (filter test ids) ≡ false)
        → is_among id (cond t (x ∷ filter test ids) (filter test ids)) ≡ false
    by true e t rest = absurd (true≢false (sym (ap (λ y. y || is_among id ids) e) ∙ none))
    by false e true rest = ap (λ y. y || is_among id (filter test ids)) e ∙ rest (sym (ap (λ y. y || is_among id ids) e) ∙ none)
    by false e false rest = rest (sym (ap (λ y. y || is_among id ids) e) ∙ none)

pub next_is_new : (named : List (List ℕ)) (entries : List Entry) (ids kept : List (List ℕ)) (k : ℕ) (id : List ℕ) → AreEachNew ids → k < length ids → id ≡ get_or ids k []
    → kept ≡ kept_ids named entries (take k ids) → is_among id kept ≡ false
next_is_new named entries ids kept k id new l is kept_is =
    ap (is_among id) kept_is
    ∙ none_filtered (λ id. nat_le 2 (length (places_of_id named entries id))) id (take k ids) (ap (λ (x : List ℕ). is_among x (take k ids)) is ∙ new.new k l)

pub kept_more : (named : List (List ℕ)) (entries : List Entry) (ids before after : List (List ℕ)) (k : ℕ) (id : List ℕ) (places : List ℕ) → k < length ids → id ≡ get_or ids k []
    → places ≡ places_of_id named entries id → before ≡ kept_ids named entries (take k ids)
    → after ≡ cond (nat_le 2 (length places)) (before ++ id ∷ []) before → after ≡ kept_ids named entries (take (k + 1) ids)
kept_more named entries ids before after k id places l is places_are so_far more =
    let big : List ℕ → Bool = λ id. nat_le 2 (length (places_of_id named entries id)) in
    more
    ∙ ap (λ (ps : List ℕ). cond (nat_le 2 (length ps)) (before ++ id ∷ []) before) places_are
    ∙ ap (λ (x : List ℕ). cond (nat_le 2 (length (places_of_id named entries x))) (before ++ x ∷ []) before) is
    ∙ ap (λ b. cond (nat_le 2 (length (places_of_id named entries (get_or ids k [])))) (b ++ get_or ids k [] ∷ []) b) so_far
    ∙ one (nat_le 2 (length (places_of_id named entries (get_or ids k []))))
    ∙ sym (filter-append (λ id. nat_le 2 (length (places_of_id named entries id))) (take k ids) (get_or ids k [] ∷ []))
    ∙ ap (kept_ids named entries) (sym (take_more ids k [] l))
  where
    one : (b : Bool) → cond b (kept_ids named entries (take k ids) ++ get_or ids k [] ∷ []) (kept_ids named entries (take k ids))
        ≡ kept_ids named entries (take k ids) ++ cond b (get_or ids k [] ∷ []) []
    one true = refl
    one false = sym (append-nil (kept_ids named entries (take k ids)))

pub shapes_more : (named : List (List ℕ)) (entries : List Entry) (points : List (ℤ × ℤ)) (ids : List (List ℕ)) (before after : List Shape) (k : ℕ) (id : List ℕ) (places : List ℕ) → k < length ids
    → id ≡ get_or ids k [] → places ≡ places_of_id named entries id → before ≡ shapes_of_ids named entries points (take k ids)
    → after ≡ cond (nat_le 2 (length places)) (before ++ shape_at points places ∷ []) before → after ≡ shapes_of_ids named entries points (take (k + 1) ids)
shapes_more named entries points ids before after k id places l is places_are so_far more =
    let shape : List ℕ → Shape = λ id. shape_at points (places_of_id named entries id) in
    more
    ∙ ap (λ (ps : List ℕ). cond (nat_le 2 (length ps)) (before ++ shape_at points ps ∷ []) before) places_are
    ∙ ap (λ (x : List ℕ). cond (nat_le 2 (length (places_of_id named entries x))) (before ++ shape_at points (places_of_id named entries x) ∷ []) before) is
    ∙ ap (λ b. cond (nat_le 2 (length (places_of_id named entries (get_or ids k [])))) (b ++ shape_at points (places_of_id named entries (get_or ids k [])) ∷ []) b) so_far
    ∙ one (nat_le 2 (length (places_of_id named entries (get_or ids k []))))
    ∙ sym (map-append (λ id. shape_at points (places_of_id named entries id)) (kept_ids named entries (take k ids)) (filter (λ id. nat_le 2 (length (places_of_id named entries id))) (get_or ids k [] ∷ [])))
    ∙ ap (map (λ id. shape_at points (places_of_id named entries id))) (sym (filter-append (λ id. nat_le 2 (length (places_of_id named entries id))) (take k ids) (get_or ids k [] ∷ [])))
    ∙ ap (shapes_of_ids named entries points) (sym (take_more ids k [] l))
  where
    one : (b : Bool) → cond b (shapes_of_ids named entries points (take k ids) ++ shape_at points (places_of_id named entries (get_or ids k [])) ∷ []) (shapes_of_ids named entries points (take k ids))
        ≡ shapes_of_ids named entries points (take k ids) ++ map (λ id. shape_at points (places_of_id named entries id)) (cond b (get_or ids k [] ∷ []) [])
    one true = refl
    one false = sym (append-nil (shapes_of_ids named entries points (take k ids)))

-- Ids in the order of first sight are each new.

each_new_noted : (ids : List (List ℕ)) (id : List ℕ) → AreEachNew ids → AreEachNew (noted ids id)
each_new_noted ids id new = by (is_among id ids) refl
  where
    pushed : is_among id ids ≡ false → (k : ℕ) → k < length (ids ++ id ∷ []) → (k < length ids) ⊎ (length ids ≤ k) → is_among (get_or (ids ++ id ∷ []) k []) (take k (ids ++ id ∷ [])) ≡ false
    pushed e k l (inl low) =
        ap (λ (x : List ℕ). is_among x (take k (ids ++ id ∷ []))) (get_or_append_left ids (id ∷ []) [] k low)
        ∙ ap (is_among (get_or ids k [])) (take-append-le k ids (id ∷ []) (omega (arith, low))) ∙ new.new k low
    pushed e k l (inr high) =
        let at : k ≡ length ids = omega (arith, l, high, length-append ids (id ∷ [])) in
        let zeroth : k - length ids ≡ 0 = omega (arith, at) in
        let here : get_or (ids ++ id ∷ []) k [] ≡ id = get_or-append_right ids (id ∷ []) (length ids) k [] refl high ∙ ap (λ (m : ℕ). get_or (id ∷ []) m []) zeroth in
        let all : take k (ids ++ id ∷ []) ≡ ids = take-append-le k ids (id ∷ []) (omega (arith, at)) ∙ take_all k ids (omega (arith, at)) in
        ap (λ (x : List ℕ). is_among x (take k (ids ++ id ∷ []))) here ∙ ap (is_among id) all ∙ e

    by : (b : Bool) → is_among id ids ≡ b → AreEachNew (cond b ids (ids ++ id ∷ []))
    by true e = new
    by false e = record { new = λ k l. pushed e k l (cases_lt k (length ids)) }

pub each_new_sighted : (seen ids : List (List ℕ)) → AreEachNew seen → AreEachNew (firsts_behind bytes_eq seen ids)
each_new_sighted seen [] new = new
each_new_sighted seen (id ∷ ids) new = each_new_sighted (noted seen id) ids (each_new_noted seen id new)

pub each_new_empty : AreEachNew []
each_new_empty = record { new = λ k l. absurd (omega (arith, l)) }

all_passed : (test : List ℕ → Bool) (ids : List (List ℕ)) → All (λ id. test id ≡ true) (filter test ids)
all_passed test [] = All-nil (λ id. test id ≡ true)
all_passed test (id ∷ ids) = by (test id) refl (all_passed test ids)
  where
    by : (b : Bool) → test id ≡ b → All (λ id. test id ≡ true) (filter test ids) → All (λ id. test id ≡ true) (cond b (id ∷ filter test ids) (filter test ids))
    by true e rest = All-cons (λ id. test id ≡ true) id (filter test ids) e rest
    by false e rest = rest

filter_alike : {A : Type 0} (P : A → Type 0) (p q : A → Bool) (xs : List A) → ((x : A) → P x → p x ≡ q x) → All P xs → filter p xs ≡ filter q xs
filter_alike P p q [] same all = refl
filter_alike P p q (x ∷ xs) same all =
    ap (λ b. cond b (x ∷ filter p xs) (filter p xs)) (same x (All-head P x xs all)) ∙ ap (λ rest. cond (q x) (x ∷ rest) rest) (filter_alike P p q xs same (All-tail P x xs all))

map_alike : {A B : Type 0} (P : A → Type 0) (f g : A → B) (xs : List A) → ((x : A) → P x → f x ≡ g x) → All P xs → map f xs ≡ map g xs
map_alike P f g [] same all = refl
map_alike P f g (x ∷ xs) same all =
    ap (λ y. y ∷ map f xs) (same x (All-head P x xs all)) ∙ ap (λ rest. g x ∷ rest) (map_alike P f g xs same (All-tail P x xs all))

filter_same : {A : Type 0} (p q : A → Bool) (xs : List A) → ((x : A) → p x ≡ q x) → filter p xs ≡ filter q xs
filter_same p q [] same = refl
filter_same p q (x ∷ xs) same = ap (λ b. cond b (x ∷ filter p xs) (filter p xs)) (same x) ∙ ap (λ rest. cond (q x) (x ∷ rest) rest) (filter_same p q xs same)

module _ (named : List (List ℕ)) (c : ShapeColumns) (rows : List Row) where
  abbrev read_rows : List Row
  read_rows = filter (is_read named c) (drop 1 rows)

  abbrev entries : List Entry
  entries = map (entry_in named c) read_rows

  abbrev points : List (ℤ × ℤ)
  points = map (point_in c) read_rows

  abbrev IsKnown : List ℕ → Type 0
  IsKnown id = is_known named id ≡ true

  -- the place of a row's shape is that of an id exactly where it has this id
  key_is : (id : List ℕ) → IsKnown id → (row : Row) → is_read named c row ≡ true → ((entry_in named c row).key == unwrap_or (place_among named id) 0) ≡ bytes_eq id (field_in row c.id)
  key_is id known row read =
      let a = known_place named (field_in row c.id) read in
      let b = known_place named id known in
      ap (λ p. eqb (unwrap_or p 0) (unwrap_or (place_among named id) 0)) a.1
      ∙ ap (λ p. eqb a.0 (unwrap_or p 0)) b.2
      ∙ by a.0 b.0 a.2 b.2 (bytes_eq id (field_in row c.id)) refl
    where
      some_is : (x y : ℕ) → Some x ≡ Some y → x ≡ y
      some_is x y e = cc

      equal : (a b : ℕ) → a ≡ b → eqb a b ≡ true
      equal a b e = grind (arith, nat_tests)

      same : (a b : ℕ) → eqb a b ≡ true → a ≡ b
      same a b e = grind (arith, nat_tests)

      apart : (a b : ℕ) → place_among named (field_in row c.id) ≡ Some a → place_among named id ≡ Some b → bytes_eq id (field_in row c.id) ≡ false → (t : Bool) → eqb a b ≡ t → t ≡ false
      apart a b e f not_same true is =
          absurd (true≢false (sym (bytes_same id (field_in row c.id) (sym (same_id named (field_in row c.id) id a b e f (same a b is)))) ∙ not_same))
      apart a b e f not_same false is = refl

      by : (a b : ℕ) → place_among named (field_in row c.id) ≡ Some a → place_among named id ≡ Some b → (t : Bool) → bytes_eq id (field_in row c.id) ≡ t → eqb a b ≡ t
      by a b e f true is =
          let one : id ≡ field_in row c.id = same_bytes id (field_in row c.id) is in
          equal a b (some_is a b (sym e ∙ ap (place_among named) (sym one) ∙ f))
      by a b e f false is = apart a b e f is (eqb a b) refl

  -- the rows read of a shape that is known are all its rows
  rows_are : (id : List ℕ) → IsKnown id → filter (λ row. (entry_in named c row).key == unwrap_or (place_among named id) 0) read_rows ≡ rows_of_shape c rows id
  rows_are id known =
      filter_both (is_read named c) (λ row. (entry_in named c row).key == unwrap_or (place_among named id) 0) (λ row. bytes_eq id (field_in row c.id)) (drop 1 rows) (key_is id known)
      ∙ filter_same (λ row. is_read named c row && bytes_eq id (field_in row c.id)) (λ row. bytes_eq id (field_in row c.id)) (drop 1 rows) (λ row. read_too row (bytes_eq id (field_in row c.id)) refl)
    where
      read_too : (row : Row) (b : Bool) → bytes_eq id (field_in row c.id) ≡ b → (is_read named c row && b) ≡ b
      read_too row true e = ap (λ r. r && true) (ap (is_known named) (sym (same_bytes id (field_in row c.id) e)) ∙ known)
      read_too row false e = none (is_read named c row)
        where
          none : (r : Bool) → (r && false) ≡ false
          none true = refl
          none false = refl

  points_are : (id : List ℕ) → IsKnown id → map (point_there points) (places_of_id named entries id) ≡ points_of_shape c rows id
  points_are id known =
      values_in_order (entry_in named c) (point_in c) (pos 0, pos 0) read_rows (unwrap_or (place_among named id) 0)
      ∙ ap (λ read. map (point_in c) (by_rising (λ row. unwrap_or (sequence_in c row) 0) read)) (rows_are id known)

  counts_are : (id : List ℕ) → IsKnown id → length (places_of_id named entries id) ≡ length (rows_of_shape c rows id)
  counts_are id known =
      sym (length-map (places_of_id named entries id) (point_there points)) ∙ ap length (points_are id known)
      ∙ length-map (by_rising (λ row. unwrap_or (sequence_in c row) 0) (rows_of_shape c rows id)) (point_in c)
      ∙ length-by_rising (λ row. unwrap_or (sequence_in c row) 0) (rows_of_shape c rows id)

  all_known : All IsKnown (firsts bytes_eq (filter (is_known named) (ids_in c.id (drop 1 rows))))
  all_known = All-firsts IsKnown bytes_eq (filter (is_known named) (ids_in c.id (drop 1 rows))) (all_passed (is_known named) (ids_in c.id (drop 1 rows)))

  abbrev ids : List (List ℕ)
  ids = firsts bytes_eq (filter (is_known named) (ids_in c.id (drop 1 rows)))

  kept_are : kept_ids named entries ids ≡ filter (λ shape. nat_le 2 (length (rows_of_shape c rows shape))) ids
  kept_are = filter_alike IsKnown (λ id. nat_le 2 (length (places_of_id named entries id))) (λ shape. nat_le 2 (length (rows_of_shape c rows shape))) ids (λ id known. ap (nat_le 2) (counts_are id known)) all_known

  shapes_are : shapes_of_ids named entries points ids ≡ map (shape_of c rows) (filter (λ shape. nat_le 2 (length (rows_of_shape c rows shape))) ids)
  shapes_are =
      ap (map (λ id. shape_at points (places_of_id named entries id))) kept_are
      ∙ map_alike IsKnown (λ id. shape_at points (places_of_id named entries id)) (shape_of c rows) (filter (λ shape. nat_le 2 (length (rows_of_shape c rows shape))) ids)
      (λ id known. ap (λ (ps : List (ℤ × ℤ)). let s : Shape = record { points = ps } in s) (points_are id known))
      (All-filter (λ shape. nat_le 2 (length (rows_of_shape c rows shape))) IsKnown ids all_known)

-- all of it is what the table gives
pub shapes_known : (trips : KnownTrips) (named : List (List ℕ)) (rows : List Row) (order kept : List (List ℕ)) (entries : List Entry) (points : List (ℤ × ℤ)) (shapes : List Shape) (of_trips : List (Option ℕ))
    → AreSame named trips.shapes → order ≡ firsts bytes_eq (filter (is_known named) (ids_in (shape_columns rows).id (drop 1 rows)))
    → entries ≡ map (entry_in named (shape_columns rows)) (filter (is_read named (shape_columns rows)) (drop 1 rows))
    → points ≡ map (point_in (shape_columns rows)) (filter (is_read named (shape_columns rows)) (drop 1 rows))
    → kept ≡ kept_ids named entries order → shapes ≡ shapes_of_ids named entries points order → of_trips ≡ map (place_among kept) trips.shapes
    → (known : KnownShapes) → known ≡ record { shapes = shapes; of_trips = of_trips } → known ≡ known_shapes trips rows
shapes_known trips named rows order kept entries_now points_now shapes of_trips same order_is entries_are points_are kept_is shapes_is of_is known is =
    let c = shape_columns rows in
    let test = named_is trips named same in
    let ids_now : firsts bytes_eq (filter (is_known named) (ids_in c.id (drop 1 rows))) ≡ named_shapes trips c rows = ap (λ t. firsts bytes_eq (filter t (ids_in c.id (drop 1 rows)))) (sym test) in
    let kept_now : kept ≡ kept_shapes trips c rows =
    kept_is ∙ ap (λ es. kept_ids named es order) entries_are ∙ ap (kept_ids named (entries named c rows)) order_is ∙ kept_are named c rows
    ∙ ap (filter (λ shape. nat_le 2 (length (rows_of_shape c rows shape)))) ids_now in
    let shapes_now : shapes ≡ map (shape_of c rows) (kept_shapes trips c rows) =
    shapes_is ∙ ap (λ es. shapes_of_ids named es points_now order) entries_are ∙ ap (λ ps. shapes_of_ids named (entries named c rows) ps order) points_are
    ∙ ap (shapes_of_ids named (entries named c rows) (points named c rows)) order_is ∙ shapes_are named c rows
    ∙ ap (λ all. map (shape_of c rows) (filter (λ shape. nat_le 2 (length (rows_of_shape c rows shape))) all)) ids_now in
    let of_now : of_trips ≡ map (place_among (kept_shapes trips c rows)) trips.shapes = of_is ∙ ap (λ k. map (place_among k) trips.shapes) kept_now in
    is ∙ (λ i. record { shapes = shapes_now i; of_trips = of_now i })
