-- The reasons of the rows of `stops.txt`.
use Rattle.std.proofs.Common.{◌≡◌, ◌≤◌, ◌<◌, ℕ, zero, suc, Bool, true, false, not, ◌&&◌, List, [], ◌∷◌, ◌++◌, length, Some, None, is_none, refl, sym, ◌∙◌, arith}
use Rattle.table_rows.specs.declared.why.Why.{Why}
use Rattle.table_rows.specs.Reasons.{first_met, first_bad}
use Rattle.table_rows.proofs.ReasonLemmas.{first_met-past, first_met-front, first_met-none, first_bad-at, text_and_fourth}
use Rattle.std.proofs.lemmas.Option.{none-some}
use Rattle.table_rows.specs.declared.why.Why.TheVariants.{WrongFields, NotUtf8, EmptyId, RepeatedId, BadLatitude, BadLongitude, BadType, UnknownParent}
use Rattle.table_rows.specs.Ids.{is_among}
use Rattle.table_rows.specs.NewIds.{AreNew}
use Rattle.table_rows.specs.Cells.{Row, row_at, rows_before, field_in, ids_in, ends_early, is_text, is_empty}
use Rattle.stop_table.specs.Stops.{stop_columns, required_columns, is_placed, latitude_in, longitude_in, lacks_parent, type_in, stop_reason, stops_reason}

-- behind the header a row has the reasons of a row
pub stops_reason-behind : (rows : List Row) (place : ℕ) → 1 ≤ place → stops_reason rows place ≡ stop_reason (stop_columns rows) rows place
stops_reason-behind rows zero from = absurd (omega (arith, from))
stops_reason-behind rows (suc n) from = refl

-- a reason met behind four tests that fail
pub first_met-fourth : (a b c d : Bool) (v w x y : Why) (front back : List (Bool × Why)) (why : Why)
    → a ≡ false → b ≡ false → c ≡ false → d ≡ false → first_met front ≡ Some why
    → first_met ((a, v) ∷ (b, w) ∷ (c, x) ∷ (d, y) ∷ (front ++ back)) ≡ Some why
first_met-fourth a b c d v w x y front back why at bt ct dt met =
    first_met-past a v ((b, w) ∷ (c, x) ∷ (d, y) ∷ (front ++ back)) at
    ∙ first_met-past b w ((c, x) ∷ (d, y) ∷ (front ++ back)) bt
    ∙ first_met-past c x ((d, y) ∷ (front ++ back)) ct
    ∙ first_met-past d y (front ++ back) dt
    ∙ first_met-front front back why met

-- a row whose second reason, not to be text, is not met
pub is_text-none : (a text : Bool) (v w : Why) (others : List (Bool × Why)) → first_met ((a, v) ∷ (not text, w) ∷ others) ≡ None → text ≡ true
is_text-none a true v w others none = refl
is_text-none a false v w others none = absurd (none-some w (sym ((first_met-none a v ((true, w) ∷ others) none).1)))

-- a table without a bad row has text in each row behind the header
pub is_text_good : (rows : List Row) (place : ℕ) → 1 ≤ place → place < length rows → first_bad (stops_reason rows) rows ≡ None → is_text (row_at rows place) ≡ true
is_text_good rows place from within good =
    let c = stop_columns rows in
    let row = row_at rows place in
    is_text-none (ends_early row (required_columns c)) (is_text row) WrongFields NotUtf8
    ((is_empty (field_in row c.id), EmptyId)
    ∷ (is_among (field_in row c.id) (ids_in c.id (rows_before place rows)), RepeatedId)
    ∷ (is_placed (type_in c row) && is_none (latitude_in c row), BadLatitude)
    ∷ (is_placed (type_in c row) && is_none (longitude_in c row), BadLongitude)
    ∷ (is_none (type_in c row), BadType)
    ∷ (lacks_parent c rows (type_in c row) (field_in row c.parent), UnknownParent)
    ∷ [])
    (sym (stops_reason-behind rows place from) ∙ first_bad-at (stops_reason rows) rows place within good)

-- each row of a table without a bad one has an id of its own
pub stops_new : (rows : List Row) → first_bad (stops_reason rows) rows ≡ None → AreNew (stop_columns rows).id rows
stops_new rows good = record {
  new = λ place from within.
      let c = stop_columns rows in
      let row = row_at rows place in
      (text_and_fourth (ends_early row (required_columns c)) (is_text row) (is_empty (field_in row c.id)) (is_among (field_in row c.id) (ids_in c.id (rows_before place rows)))
      WrongFields NotUtf8 EmptyId RepeatedId
      ((is_placed (type_in c row) && is_none (latitude_in c row), BadLatitude)
      ∷ (is_placed (type_in c row) && is_none (longitude_in c row), BadLongitude)
      ∷ (is_none (type_in c row), BadType)
      ∷ (lacks_parent c rows (type_in c row) (field_in row c.parent), UnknownParent)
      ∷ [])
      (sym (stops_reason-behind rows place from) ∙ first_bad-at (stops_reason rows) rows place within good)).1;
}
