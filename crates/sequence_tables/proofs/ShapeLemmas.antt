-- The rows of `shapes.txt`: their reasons, and which of them repeat an earlier one.
use Rattle.std.proofs.Common.{◌≡◌, ℕ, ℤ, zero, suc, ◌+◌, ◌<◌, ◌≤◌, ◌&&◌, ◌||◌, not, Bool, true, false, cond, eqb, List, [], ◌∷◌, ◌++◌, length, get_or, map, filter, bytes_eq, Option, Some, None, is_some, is_none, unwrap_or, option_map, option_to_list, MatchOption, IfSome, refl, sym, ◌∙◌, ap, subst, arith, true≢false}
use Rattle.std.proofs.lemmas.Bool.Decides.{nat_tests}
use Rattle.std.proofs.lemmas.List.{length-append}
use Rattle.std.proofs.lemmas.List.Elements.{filter-append}
use Rattle.ordered_entries.specs.declared.entry.Entry.{Entry}
use Rattle.ordered_entries.specs.Entries.{AreDistinct, IsFirstRepeat}
use Rattle.table_rows.specs.declared.why.Why.{Why}
use Rattle.table_rows.specs.declared.why.Why.TheVariants.{WrongFields, NotUtf8, BadLatitude, BadLongitude, BadWhole, RepeatedSequence}
use Rattle.table_rows.specs.declared.why.Table.TheVariants.{Shapes}
use Rattle.table_rows.specs.declared.fault.FeedFault.{FeedFault}
use Rattle.table_rows.specs.declared.fault.FeedFault.TheVariants as faults
use Rattle.table_rows.specs.Outcome.{Refuses, never}
use Rattle.table_rows.specs.Firsts.{firsts_behind}
use Rattle.table_rows.specs.Ids.{is_among, place_among, noted, AreSame}
use Rattle.table_rows.specs.Cells.{Row, row_at, rows_before, field_in, ids_in, ends_early, is_text, is_empty}
use Rattle.table_rows.specs.Reasons.{first_met, first_below, first_bad, unless_bad, header_reason}
use Rattle.table_rows.proofs.IdLemmas.{is_among-noted}
use Rattle.table_rows.proofs.RowLemmas.{ids_in_before}
use Rattle.table_rows.proofs.ReasonLemmas.{first_met-none, first_met-front, first_met-back, first_below-none}
use Rattle.sequence_tables.specs.declared.shape_columns.ShapeColumns.{ShapeColumns}
use Rattle.sequence_tables.specs.declared.reads.Read.{Read}
use Rattle.sequence_tables.specs.declared.reads.Reads.{Reads}
use Rattle.route_tables.specs.declared.known.KnownTrips.{KnownTrips}
use Rattle.sequence_tables.specs.Reads.{passes, places_before, first_refused}
use Rattle.sequence_tables.specs.Shapes.{shape_columns, required_columns, latitude_in, longitude_in, sequence_in, point_in, is_same_number, is_same_place, is_repeated, shapes_reason, shapes_of, known_shapes}
use Rattle.sequence_tables.specs.ShapeReads.{shape_place, is_known, is_read, own_reason, own_reason_at, read_by, entry_in, AreReads, sighted_before}
use Rattle.route_tables.specs.Trips.{is_named}
use Rattle.sequence_tables.proofs.PlaceLemmas.{same_bytes, bytes_same, placed_among, unplaced_among, some_before, before_some}
use Rattle.sequence_tables.proofs.ReadLemmas.{no_repeat, first_repeat, bad_by_repeat, bad_by_itself, none_bad, counted_places}

-- What is read of one more row.

entry_by : (c : ShapeColumns) (row : Row) (place : Option ℕ)
    → option_to_list (option_map (λ (r : Read (ℤ × ℤ)). r.entry) (read_by c row place)) ≡ cond (is_some place) (record { key = unwrap_or place 0; sequence = unwrap_or (sequence_in c row) 0 } ∷ []) []
entry_by c row None = refl
entry_by c row (Some place) = refl

point_by : (c : ShapeColumns) (row : Row) (place : Option ℕ)
    → option_to_list (option_map (λ (r : Read (ℤ × ℤ)). r.value) (read_by c row place)) ≡ cond (is_some place) (point_in c row ∷ []) []
point_by c row None = refl
point_by c row (Some place) = refl

read_is_by : (c : ShapeColumns) (row : Row) (place : Option ℕ) → is_some (read_by c row place) ≡ is_some place
read_is_by c row None = refl
read_is_by c row (Some place) = refl

-- what a row says, by its own shape
abbrev pub read_in : List (List ℕ) → ShapeColumns → Row → Option (Read (ℤ × ℤ))
read_in named c row = read_by c row (shape_place named (field_in row c.id))

pub entry_says : (named : List (List ℕ)) (c : ShapeColumns) (row : Row)
    → option_to_list (option_map (λ (r : Read (ℤ × ℤ)). r.entry) (read_in named c row)) ≡ cond (is_read named c row) (entry_in named c row ∷ []) []
entry_says named c row = entry_by c row (shape_place named (field_in row c.id))

pub point_says : (named : List (List ℕ)) (c : ShapeColumns) (row : Row)
    → option_to_list (option_map (λ (r : Read (ℤ × ℤ)). r.value) (read_in named c row)) ≡ cond (is_read named c row) (point_in c row ∷ []) []
point_says named c row = point_by c row (shape_place named (field_in row c.id))

pub read_says : (named : List (List ℕ)) (c : ShapeColumns) (row : Row) → is_some (read_in named c row) ≡ is_read named c row
read_says named c row = read_is_by c row (shape_place named (field_in row c.id))

pub own_behind : (named : List (List ℕ)) (rows : List Row) (place : ℕ) → 1 ≤ place
    → own_reason_at named rows place ≡ own_reason (is_read named (shape_columns rows) (row_at rows place)) (shape_columns rows) (row_at rows place)
own_behind named rows zero from = absurd (omega (arith, from))
own_behind named rows (suc n) from = refl

-- Ids in the order of first sight, one more at a time.

sighted-append : (seen xs ys : List (List ℕ)) → firsts_behind bytes_eq seen (xs ++ ys) ≡ firsts_behind bytes_eq (firsts_behind bytes_eq seen xs) ys
sighted-append seen [] ys = refl
sighted-append seen (x ∷ xs) ys = sighted-append (noted seen x) xs ys

pub sighted_more : (named : List (List ℕ)) (c : ShapeColumns) (place : ℕ) (rows : List Row) → 1 ≤ place → place < length rows
    → sighted_before named c (place + 1) rows
    ≡ cond (is_known named (field_in (row_at rows place) c.id)) (noted (sighted_before named c place rows) (field_in (row_at rows place) c.id)) (sighted_before named c place rows)
sighted_more named c place rows from within =
    ap (λ ids. firsts_behind bytes_eq [] (filter (is_known named) ids)) (ids_in_before c.id place rows from within)
    ∙ ap (firsts_behind bytes_eq []) (filter-append (is_known named) (ids_in c.id (rows_before place rows)) (field_in (row_at rows place) c.id ∷ []))
    ∙ sighted-append [] (filter (is_known named) (ids_in c.id (rows_before place rows))) (filter (is_known named) (field_in (row_at rows place) c.id ∷ []))
    ∙ one (is_known named (field_in (row_at rows place) c.id))
  where
    one : (b : Bool) → firsts_behind bytes_eq (sighted_before named c place rows) (cond b (field_in (row_at rows place) c.id ∷ []) [])
        ≡ cond b (noted (sighted_before named c place rows) (field_in (row_at rows place) c.id)) (sighted_before named c place rows)
    one true = refl
    one false = refl

-- an id that stands already is not noted again
noted_again : (ids : List (List ℕ)) (id : List ℕ) → is_among id ids ≡ true → noted ids id ≡ ids
noted_again ids id e = ap (λ b. cond b ids (ids ++ id ∷ [])) e

-- an id that is that of the row before needs no look
pub sight_is : (named order after : List (List ℕ)) (last id : List ℕ) (wanted : Bool) → (is_known named last ≡ true → is_among last order ≡ true)
    → wanted ≡ (not (bytes_eq last id) && is_known named id) → after ≡ cond wanted (noted order id) order → after ≡ cond (is_known named id) (noted order id) order
sight_is named order after last id wanted held is more = by (bytes_eq last id) refl
  where
    again : (b : Bool) → is_known named id ≡ b → last ≡ id → order ≡ cond b (noted order id) order
    again true known same = sym (noted_again order id (subst (λ (x : List ℕ). is_among x order ≡ true) same (held (ap (is_known named) same ∙ known))))
    again false known same = refl

    by : (b : Bool) → bytes_eq last id ≡ b → after ≡ cond (is_known named id) (noted order id) order
    by true e =
        more
        ∙ ap (λ w. cond w (noted order id) order) (is ∙ ap (λ b. not b && is_known named id) e)
        ∙ again (is_known named id) refl (same_bytes last id e)
    by false e = more ∙ ap (λ w. cond w (noted order id) order) (is ∙ ap (λ b. not b && is_known named id) e)

pub sight_holds : (named order after : List (List ℕ)) (id : List ℕ) (place : Option ℕ) → place ≡ shape_place named id → after ≡ cond (is_known named id) (noted order id) order
    → is_some place ≡ true → is_among id after ≡ true
sight_holds named order after id place is more known =
    let here : is_known named id ≡ true = ap is_some (sym is) ∙ known in
    ap (is_among id) (more ∙ ap (λ b. cond b (noted order id) order) here) ∙ is_among-noted order id id ∙ ap (λ b. is_among id order || b) (bytes_same id id refl) ∙ last (is_among id order)
  where
    last : (b : Bool) → (b || true) ≡ true
    last true = refl
    last false = refl

pub sight_few : (order after : List (List ℕ)) (id : List ℕ) (wanted : Bool) (n : ℕ) → after ≡ cond wanted (noted order id) order → length order ≤ n → length after ≤ n + 1
sight_few order after id wanted n is l = by wanted is
  where
    noted_few : (b : Bool) → length (cond b order (order ++ id ∷ [])) ≤ n + 1
    noted_few true = omega (arith, l)
    noted_few false = omega (arith, l, length-append order (id ∷ []))

    by : (w : Bool) → after ≡ cond w (noted order id) order → length after ≤ n + 1
    by true e = let few = noted_few (is_among id order) in omega (arith, few, ap length e)
    by false e = omega (arith, l, ap length e)

-- The reasons of a row by itself, told each test.

abbrev own : Bool → Bool → Bool → Bool → Bool → Bool → Option Why
own early text read lat lon whole = first_met (
    (early, WrongFields)
    ∷ (not text, NotUtf8)
    ∷ (read && lat, BadLatitude)
    ∷ (read && lon, BadLongitude)
    ∷ (read && whole, BadWhole)
    ∷ [])

-- a row without such a reason that is read in full has a sequence
own-whole-none : (early text read lat lon whole : Bool) → read ≡ true → own early text read lat lon whole ≡ None → whole ≡ false
own-whole-none early text read lat lon whole r none =
    let fifth : List (Bool × Why) = (read && whole, BadWhole) ∷ [] in
    let fourth : List (Bool × Why) = (read && lon, BadLongitude) ∷ fifth in
    let third : List (Bool × Why) = (read && lat, BadLatitude) ∷ fourth in
    let a = first_met-none early WrongFields ((not text, NotUtf8) ∷ third) none in
    let b = first_met-none (not text) NotUtf8 third a.1 in
    let d = first_met-none (read && lat) BadLatitude fourth b.1 in
    let e = first_met-none (read && lon) BadLongitude fifth d.1 in
    let f = first_met-none (read && whole) BadWhole [] e.1 in
    sym (ap (λ b. b && whole) r) ∙ f.0

-- an id that is known has a place
pub known_place : (named : List (List ℕ)) (id : List ℕ) → is_known named id ≡ true → (place : ℕ) × (shape_place named id ≡ Some place) × (place_among named id ≡ Some place)
known_place named id known = by (is_empty id) refl known
  where
    at : (p : Option ℕ) → is_some p ≡ true → (n : ℕ) × (p ≡ Some n)
    at None h = absurd (true≢false (sym h))
    at (Some n) h = (n, refl)

    by : (b : Bool) → is_empty id ≡ b → is_some (cond b None (place_among named id)) ≡ true → (place : ℕ) × (shape_place named id ≡ Some place) × (place_among named id ≡ Some place)
    by true e h = absurd (true≢false (sym h))
    by false e h =
        let found = at (place_among named id) h in
        (found.0, ap (λ b. cond b None (place_among named id)) e ∙ found.1, found.1)

-- two ids at one place are one
pub same_id : (named : List (List ℕ)) (a b : List ℕ) (p q : ℕ) → place_among named a ≡ Some p → place_among named b ≡ Some q → p ≡ q → a ≡ b
same_id named a b p q e f same =
    (placed_among named a p e).1 ∙ ap (λ (n : ℕ). get_or named n []) same ∙ sym (placed_among named b q f).1

module _ (named : List (List ℕ)) (c : ShapeColumns) where
  read_sequence : (row : Row) → is_read named c row ≡ true → own_reason (is_read named c row) c row ≡ None → (n : ℕ) × (sequence_in c row ≡ Some n)
  read_sequence row h none =
      by (sequence_in c row) refl
      (own-whole-none (ends_early row (required_columns c)) (is_text row) (is_read named c row) (is_none (latitude_in c row)) (is_none (longitude_in c row)) (is_none (sequence_in c row)) h none)
    where
      by : (s : Option ℕ) → sequence_in c row ≡ s → is_none (sequence_in c row) ≡ false → (n : ℕ) × (sequence_in c row ≡ Some n)
      by None e f = absurd (true≢false (sym (ap is_none e) ∙ f))
      by (Some n) e f = (n, e)

  both : (a b : Bool) → (a && b) ≡ true → (a ≡ true) × (b ≡ true)
  both true true h = (refl, refl)
  both true false h = absurd (true≢false (sym h))
  both false b h = absurd (true≢false (sym h))

  same_number : (a b : Option ℕ) → is_same_number a b ≡ true → unwrap_or b 0 ≡ unwrap_or a 0
  same_number None b h = absurd (true≢false (sym h))
  same_number (Some a) None h = absurd (true≢false (sym h))
  same_number (Some a) (Some b) h = by a b h
    where
      by : (a b : ℕ) → eqb a b ≡ true → b ≡ a
      by a b h = grind (arith, nat_tests)

  same_place_entries : (row other : Row) → is_same_place c row other ≡ true → (field_in row c.id ≡ field_in other c.id) × (entry_in named c other ≡ entry_in named c row)
  same_place_entries row other h =
      let parts = both (bytes_eq (field_in row c.id) (field_in other c.id)) (is_same_number (sequence_in c row) (sequence_in c other)) h in
      let id : field_in row c.id ≡ field_in other c.id = same_bytes (field_in row c.id) (field_in other c.id) parts.0 in
      let key : unwrap_or (shape_place named (field_in other c.id)) 0 ≡ unwrap_or (shape_place named (field_in row c.id)) 0 = ap (λ id. unwrap_or (shape_place named id) 0) (sym id) in
      let sequence : unwrap_or (sequence_in c other) 0 ≡ unwrap_or (sequence_in c row) 0 = same_number (sequence_in c row) (sequence_in c other) parts.1 in
      (id, λ i. record { key = key i; sequence = sequence i })

  entries_same_place : (row other : Row) → is_read named c row ≡ true → is_read named c other ≡ true → own_reason (is_read named c row) c row ≡ None → own_reason (is_read named c other) c other ≡ None
      → entry_in named c other ≡ entry_in named c row → is_same_place c row other ≡ true
  entries_same_place row other r o good fine same =
      let a = known_place named (field_in row c.id) r in
      let b = known_place named (field_in other c.id) o in
      let places : a.0 ≡ b.0 = sym (ap (λ p. unwrap_or p 0) a.1) ∙ sym (ap (λ (e : Entry). e.key) same) ∙ ap (λ p. unwrap_or p 0) b.1 in
      let id : field_in row c.id ≡ field_in other c.id = same_id named (field_in row c.id) (field_in other c.id) a.0 b.0 a.2 b.2 places in
      let m = read_sequence row r good in
      let n = read_sequence other o fine in
      let numbers : m.0 ≡ n.0 = sym (ap (λ p. unwrap_or p 0) m.1) ∙ sym (ap (λ (e : Entry). e.sequence) same) ∙ ap (λ p. unwrap_or p 0) n.1 in
      rw (bytes_same (field_in row c.id) (field_in other c.id) id, m.1, n.1) (equal m.0 n.0 numbers)
    where
      equal : (a b : ℕ) → a ≡ b → eqb a b ≡ true
      equal a b e = grind (arith, nat_tests)

-- Reasons of rows by their places, told which ids are named.

abbrev repeat_at : (List ℕ → Bool) → List Row → ℕ → Bool
repeat_at test rows zero = false
repeat_at test rows (suc n) = test (field_in (row_at rows (suc n)) (shape_columns rows).id) && is_repeated (shape_columns rows) rows (suc n)

abbrev front : Bool → ShapeColumns → Row → List (Bool × Why)
front read c row =
    (ends_early row (required_columns c), WrongFields)
    ∷ (not (is_text row), NotUtf8)
    ∷ (read && is_none (latitude_in c row), BadLatitude)
    ∷ (read && is_none (longitude_in c row), BadLongitude)
    ∷ (read && is_none (sequence_in c row), BadWhole)
    ∷ []

abbrev reason_with : (List ℕ → Bool) → List Row → ℕ → Option Why
reason_with test rows zero = header_reason (required_columns (shape_columns rows)) (row_at rows 0)
reason_with test rows (suc n) =
    first_met (front (test (field_in (row_at rows (suc n)) (shape_columns rows).id)) (shape_columns rows) (row_at rows (suc n)) ++ (repeat_at test rows (suc n), RepeatedSequence) ∷ [])

-- the ids that are named are those that are known
named_known : (trips : KnownTrips) (named : List (List ℕ)) → AreSame named trips.shapes → (id : List ℕ) → is_named trips id ≡ is_known named id
named_known trips named same id = by (is_empty id)
  where
    among : (p : Option ℕ) → place_among named id ≡ p → is_among id named ≡ is_some p
    among None e = unplaced_among named id e
    among (Some n) e = (placed_among named id n e).2

    by : (b : Bool) → (not b && is_among id trips.shapes) ≡ is_some (cond b None (place_among named id))
    by true = refl
    by false = sym (same.among id) ∙ among (place_among named id) refl

pub named_is : (trips : KnownTrips) (named : List (List ℕ)) → AreSame named trips.shapes → is_named trips ≡ is_known named
named_is trips named same = λ i id. named_known trips named same id i

reason_is : (trips : KnownTrips) (rows : List Row) (p : ℕ) → shapes_reason trips rows p ≡ reason_with (is_named trips) rows p
reason_is trips rows zero = refl
reason_is trips rows (suc n) = refl

module _ (named : List (List ℕ)) (rows : List Row) where
  abbrev columns : ShapeColumns
  columns = shape_columns rows

  reason_own : (p : ℕ) (why : Why) → own_reason_at named rows p ≡ Some why → reason_with (is_known named) rows p ≡ Some why
  reason_own zero why e = e
  reason_own (suc n) why e = first_met-front (front (is_read named columns (row_at rows (suc n))) columns (row_at rows (suc n))) ((repeat_at (is_known named) rows (suc n), RepeatedSequence) ∷ []) why e

  reason_repeat : (p : ℕ) → own_reason_at named rows p ≡ None → reason_with (is_known named) rows p ≡ cond (repeat_at (is_known named) rows p) (Some RepeatedSequence) None
  reason_repeat zero e = e
  reason_repeat (suc n) e = first_met-back (front (is_read named columns (row_at rows (suc n))) columns (row_at rows (suc n))) ((repeat_at (is_known named) rows (suc n), RepeatedSequence) ∷ []) e

  reads_row : (p : ℕ) → passes (is_read named columns) rows p ≡ true → (1 ≤ p) × (is_read named columns (row_at rows p) ≡ true)
  reads_row zero h = absurd (true≢false (sym h))
  reads_row (suc n) h = (omega arith, h)

  passes_row : (p : ℕ) → 1 ≤ p → is_read named columns (row_at rows p) ≡ true → passes (is_read named columns) rows p ≡ true
  passes_row zero from h = absurd (omega (arith, from))
  passes_row (suc n) from h = h

  sound : (n : ℕ) → n ≤ length rows → (p : ℕ) → p < n → repeat_at (is_known named) rows p ≡ true
      → (passes (is_read named columns) rows p ≡ true) × (q : ℕ) × (q < p) × (passes (is_read named columns) rows q ≡ true) × (entry_in named columns (row_at rows q) ≡ entry_in named columns (row_at rows p))
  sound n within zero l h = absurd (true≢false (sym h))
  sound n within (suc m) l h =
      let parts = both named columns (is_read named columns (row_at rows (suc m))) (is_repeated columns rows (suc m)) h in
      let found = some_before (is_same_place columns (row_at rows (suc m))) rows (suc m) (omega (arith, l, within)) parts.1 in
      let same = same_place_entries named columns (row_at rows (suc m)) (row_at rows found.0) found.3 in
      (parts.0, found.0, found.2, passes_row found.0 found.1 (ap (is_known named) (sym same.0) ∙ parts.0), same.1)

  complete : (n : ℕ) → n ≤ length rows → first_below (own_reason_at named rows) n ≡ None → (p q : ℕ) → p < n → q < p → passes (is_read named columns) rows q ≡ true
      → passes (is_read named columns) rows p ≡ true → entry_in named columns (row_at rows q) ≡ entry_in named columns (row_at rows p) → repeat_at (is_known named) rows p ≡ true
  complete n within good zero q l h before here same = absurd (omega (arith, h))
  complete n within good (suc m) q l h before here same =
      let q_read = reads_row q before in
      let q_good = sym (own_behind named rows q q_read.0) ∙ first_below-none (own_reason_at named rows) n q (omega (arith, h, l)) good in
      let p_good = first_below-none (own_reason_at named rows) n (suc m) l good in
      rw (
        here,
        before_some (is_same_place columns (row_at rows (suc m))) rows (suc m) q (omega (arith, l, within)) q_read.0 h
            (entries_same_place named columns (row_at rows (suc m)) (row_at rows q) here q_read.1 p_good q_good same),
      ) refl

  -- the first bad row, told the first repeat of what was read
  first_bad_with : (reads : Reads (ℤ × ℤ)) (repeat : Option ℕ) → 0 < length rows → AreReads named rows reads
      → MatchOption repeat (AreDistinct reads.entries) (IsFirstRepeat reads.entries)
      → first_bad (reason_with (is_known named) rows) rows
      ≡ first_refused (option_map (λ k. get_or reads.places k 0) repeat) (option_map (λ why. (reads.upto, why)) reads.stopped)
  first_bad_with reads repeat header are h =
      by repeat reads.stopped
      (subst (λ (es : List Entry). MatchOption repeat (AreDistinct es) (IsFirstRepeat es)) are.entries h)
      are.stopped
    where
      by : (repeat : Option ℕ) (stopped : Option Why)
          → MatchOption repeat (AreDistinct (map (entry_in named columns) (filter (is_read named columns) (rows_before reads.upto rows))))
          (IsFirstRepeat (map (entry_in named columns) (filter (is_read named columns) (rows_before reads.upto rows))))
          → MatchOption stopped (reads.upto ≡ length rows) (λ why. (reads.upto < length rows) × (own_reason_at named rows reads.upto ≡ Some why))
          → first_bad (reason_with (is_known named) rows) rows
          ≡ first_refused (option_map (λ k. get_or reads.places k 0) repeat) (option_map (λ why. (reads.upto, why)) stopped)
      by (Some k) stopped h s =
          let found = first_repeat (is_read named columns) rows reads.upto are.within (entry_in named columns) (repeat_at (is_known named) rows) (sound reads.upto are.within) (complete reads.upto are.within are.passed) k h in
          bad_by_repeat (reason_with (is_known named) rows) (own_reason_at named rows) (repeat_at (is_known named) rows) reason_own reason_repeat rows reads.upto
          (get_or (places_before (is_read named columns) reads.upto rows) k 0) are.within are.passed found.1 found.2 found.3
          ∙ ap (λ (places : List ℕ). Some (get_or places k 0, RepeatedSequence)) (sym are.places)
      by None (Some why) h s =
          bad_by_itself (reason_with (is_known named) rows) (own_reason_at named rows) (repeat_at (is_known named) rows) reason_own reason_repeat rows reads.upto why s.0 are.passed s.1
          (no_repeat (is_read named columns) rows reads.upto are.within (entry_in named columns) (repeat_at (is_known named) rows) (sound reads.upto are.within) (complete reads.upto are.within are.passed) h)
      by None None h s =
          none_bad (reason_with (is_known named) rows) (own_reason_at named rows) (repeat_at (is_known named) rows) reason_own reason_repeat rows reads.upto header s are.passed
          (no_repeat (is_read named columns) rows reads.upto are.within (entry_in named columns) (repeat_at (is_known named) rows) (sound reads.upto are.within) (complete reads.upto are.within are.passed) h)

pub first_bad_is : (trips : KnownTrips) (named : List (List ℕ)) (rows : List Row) (reads : Reads (ℤ × ℤ)) (repeat : Option ℕ) → AreSame named trips.shapes → 0 < length rows → AreReads named rows reads
    → MatchOption repeat (AreDistinct reads.entries) (IsFirstRepeat reads.entries)
    → first_bad (shapes_reason trips rows) rows
    ≡ first_refused (option_map (λ k. get_or reads.places k 0) repeat) (option_map (λ why. (reads.upto, why)) reads.stopped)
first_bad_is trips named rows reads repeat same header are h =
    ap (λ (reason : ℕ → Option Why). first_bad reason rows) (λ i p. reason_is trips rows p i)
    ∙ ap (λ test. first_bad (reason_with test rows) rows) (named_is trips named same)
    ∙ first_bad_with named rows reads repeat header are h

-- a refusal is the first bad row
pub refused : (trips : KnownTrips) (named : List (List ℕ)) (rows : List Row) (reads : Reads (ℤ × ℤ)) (repeat : Option ℕ) (bad : ℕ × Why) (fault : FeedFault) → AreSame named trips.shapes → 0 < length rows
    → AreReads named rows reads → MatchOption repeat (AreDistinct reads.entries) (IsFirstRepeat reads.entries)
    → first_refused (option_map (λ k. get_or reads.places k 0) repeat) (option_map (λ why. (reads.upto, why)) reads.stopped) ≡ Some bad
    → fault ≡ faults.BadRow Shapes (bad.0 + 1) bad.1 → Refuses never fault (shapes_of trips rows)
refused trips named rows reads repeat bad fault same header are h found is =
    subst (λ f. Refuses never f (shapes_of trips rows)) (sym is)
    (ap (λ b. unless_bad Shapes b (known_shapes trips rows)) (first_bad_is trips named rows reads repeat same header are h ∙ found))

-- the first repeat of what was read is one of the places
pub repeat_within : (named : List (List ℕ)) (rows : List Row) (reads : Reads (ℤ × ℤ)) (repeat : Option ℕ) → AreReads named rows reads
    → MatchOption repeat (AreDistinct reads.entries) (IsFirstRepeat reads.entries) → IfSome repeat (λ k. k < length reads.places)
repeat_within named rows reads None are h = tt
repeat_within named rows reads (Some k) are h =
    let c = shape_columns rows in
    let same : length reads.entries ≡ length reads.places = ap length are.entries ∙ counted_places (is_read named c) rows reads.upto are.within (entry_in named c) ∙ ap length (sym are.places) in
    omega (arith, h.within, same)

pub all_read : (named : List (List ℕ)) (rows : List Row) (reads : Reads (ℤ × ℤ)) → AreReads named rows reads → reads.stopped ≡ None → reads.upto ≡ length rows
all_read named rows reads are e =
    subst (λ s. MatchOption s (reads.upto ≡ length rows) (λ why. (reads.upto < length rows) × (own_reason_at named rows reads.upto ≡ Some why))) e are.stopped
