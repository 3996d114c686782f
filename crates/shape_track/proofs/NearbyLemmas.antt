-- The rows of all stations, and the snap along them.
use Rattle.std.proofs.Common.{◌≡◌, sym, ◌∙◌, ap, subst, ℕ, ◌+◌, ◌-◌, ◌<◌, ◌≤◌, List, [], ◌∷◌, ◌++◌, length, get_or, drop, ◌⊎◌, inl, inr, Some, arith, length-append, append_assoc}
use Rattle.std.proofs.Math.Seq.{get_or-append_seam}
use Rattle.std.proofs.Math.ListN.{get_or-append}
use Rattle.std.proofs.lemmas.Bool.{cases_lt}
use Rattle.std.proofs.lemmas.List.{drop_all}
use Rattle.map_base.specs.declared.point.Point.{Point}
use Rattle.shape_track.specs.declared.best_places.BestPlace.{BestPlace}
use Rattle.shape_track.specs.Snaps.{IsSnapFrom}
use Rattle.shape_track.specs.Sweeps.{IsLeastCost}
use Rattle.shape_track.specs.BestPlaces.{entry_at, IsRow, BeginsSnaps, AreLed, LeadsOn, IsPlaceFrom, IsRowOf, AreRowsOf}
use Rattle.shape_track.specs.Samples.{point_at}
use Rattle.shape_track.proofs.Courses.{from_place}
use Rattle.shape_track.proofs.Leading.{no_stations}
use Rattle.shape_track.proofs.RowLemmas.{one_before}

-- the row of no station: the last place, which costs nothing
last_place_row : (samples : List Point) (limit : ℕ) → 0 < length samples → IsRowOf samples [] limit (record { place = length samples - 1; cost = 0 } ∷ [])
last_place_row samples limit some = record {
  entries = record {
    falling = λ j k more below. absurd (omega (arith, more, below));
    in_range = λ k below. subst (λ (e : BestPlace). e.place < length samples) (sym (only k below)) (omega (arith, some));
    within = λ k below. subst (λ (e : BestPlace). e.cost ≤ limit) (sym (only k below)) (omega arith);
  };
  led = λ floor below. record {
    cost = λ k to. subst (λ (e : BestPlace). IsLeastCost samples [] floor e.cost) (sym (only k to.within)) (no_stations samples floor);
    begins = λ k to. tt;
    nowhere = λ none others placed. let low : length samples - 1 < floor = none 0 (omega arith) in absurd (omega (arith, low, below));
  };
}
  where
    only : (k : ℕ) → k < 1 → entry_at (record { place = length samples - 1; cost = 0 } ∷ []) k ≡ record { place = length samples - 1; cost = 0 }
    only k below = let here : k ≡ 0 = omega arith in ap (λ n. entry_at (record { place = length samples - 1; cost = 0 } ∷ []) n) here

-- the first row is that of no station
pub rows_begun : (samples stations : List Point) (limit : ℕ) (r : List BestPlace) → 0 < length samples → r ≡ record { place = length samples - 1; cost = 0 } ∷ [] → AreRowsOf samples stations limit (r ∷ [])
rows_begun samples stations limit r some is k row below at =
    let here : k ≡ 0 = omega (arith, below) in
    let same : row ≡ r = at ∙ ap (λ i. get_or (r ∷ []) i row) here in
    let none : drop (length stations - k) stations ≡ [] = drop_all (length stations - k) stations (omega (arith, here)) in
    subst (λ (v : List BestPlace). IsRowOf samples (drop (length stations - k) stations) limit v) (sym (same ∙ is))
    (subst (λ (ss : List Point). IsRowOf samples ss limit (record { place = length samples - 1; cost = 0 } ∷ [])) (sym none) (last_place_row samples limit some))

-- one more row, of the station before
pub rows_go_on : (samples stations : List Point) (limit : ℕ) (rows : List (List BestPlace)) (last r : List BestPlace) (n : ℕ) → length rows ≡ n + 1 → n < length stations → AreRowsOf samples stations limit rows →
    last ≡ get_or rows n last → IsRow (length samples) limit r → LeadsOn samples (point_at stations (length stations - 1 - n)) limit last r → AreRowsOf samples stations limit (rows ++ r ∷ [])
rows_go_on samples stations limit rows last r n count below before last_is entries leads k row under at = by_order (cases_lt k (length rows))
  where
    led : AreLed samples (point_at stations (length stations - 1 - n) ∷ drop (length stations - n) stations) limit r
    led = leads (drop (length stations - n) stations) (before n last (omega (arith, count)) last_is).led

    by_order : (k < length rows) ⊎ (length rows ≤ k) → IsRowOf samples (drop (length stations - k) stations) limit row
    by_order (inl h) = before k row h (at ∙ get_or-append rows (r ∷ []) row k h)
    by_order (inr h) =
        let here : k ≡ length rows = omega (arith, length-append rows (r ∷ []), under) in
        let same : row ≡ r = at ∙ ap (λ i. get_or (rows ++ r ∷ []) i row) here ∙ get_or-append_seam rows r [] row in
        let left : length stations - k ≡ length stations - 1 - n = omega (arith, count, here) in
        subst (λ (v : List BestPlace). IsRowOf samples (drop (length stations - k) stations) limit v) (sym same)
        (subst (λ (ss : List Point). IsRowOf samples ss limit r) (sym (ap (λ i. drop i stations) left ∙ one_before stations n below)) (record { entries = entries; led = led }))

-- the entries of a row that is there
pub row_entries : (samples stations : List Point) (limit : ℕ) (rows : List (List BestPlace)) (row : List BestPlace) (k : ℕ) → AreRowsOf samples stations limit rows → k < length rows → row ≡ get_or rows k row → IsRow (length samples) limit row
row_entries samples stations limit rows row k all below is = (all k row below is).entries

-- a place to which a row points goes on a snap
pub place_goes_on : (samples stations : List Point) (limit : ℕ) (rows : List (List BestPlace)) (row : List BestPlace) (places : List ℕ) (index floor place : ℕ) → index < length stations →
    length rows ≡ length stations + 1 → AreRowsOf samples stations limit rows → row ≡ get_or rows (length stations - index) row → floor < length samples → IsPlaceFrom row floor (Some place) →
    ((rest : List ℕ) → IsSnapFrom floor samples (drop index stations) rest → IsSnapFrom 0 samples stations (places ++ rest)) →
    (place < length samples) × ((rest : List ℕ) → IsSnapFrom place samples (drop (index + 1) stations) rest → IsSnapFrom 0 samples stations ((places ++ place ∷ []) ++ rest))
place_goes_on samples stations limit rows row places index floor place below count all is inside to leads = (within, goes_on)
  where
    back : length stations - (length stations - index) ≡ index
    back = omega arith

    first : drop (length stations - (length stations - index)) stations ≡ point_at stations index ∷ drop (index + 1) stations
    first = ap (λ i. drop i stations) back ∙ from_place stations index below

    is_row : IsRowOf samples (point_at stations index ∷ drop (index + 1) stations) limit row
    is_row = subst (λ (ss : List Point). IsRowOf samples ss limit row) first (all (length stations - index) row (omega (arith, count)) is)

    within : place < length samples
    within = subst (λ (n : ℕ). n < length samples) to.2 (is_row.entries.in_range to.0 to.1.within)

    begins : (rest : List ℕ) → IsSnapFrom place samples (drop (index + 1) stations) rest → IsSnapFrom floor samples (point_at stations index ∷ drop (index + 1) stations) (place ∷ rest)
    begins = subst (λ (n : ℕ). BeginsSnaps samples (point_at stations index ∷ drop (index + 1) stations) floor n) to.2 ((is_row.led floor inside).begins to.0 to.1)

    goes_on : (rest : List ℕ) → IsSnapFrom place samples (drop (index + 1) stations) rest → IsSnapFrom 0 samples stations ((places ++ place ∷ []) ++ rest)
    goes_on rest snap =
        subst (λ (ps : List ℕ). IsSnapFrom 0 samples stations ps) (sym (append_assoc places (place ∷ []) rest))
        (leads (place ∷ rest) (subst (λ (ss : List Point). IsSnapFrom floor samples ss (place ∷ rest)) (sym (from_place stations index below)) (begins rest snap)))
