-- Rows of choices, from the last station to the first, and the snap that they lead to.
use Rattle.std.proofs.Common.{◌≡◌, refl, sym, ◌∙◌, ap, subst, ℕ, ◌+◌, ◌-◌, ◌<◌, ◌≤◌, Bool, true, List, [], ◌∷◌, ◌++◌, length, get_or, drop, take, ◌⊎◌, inl, inr, arith, append-nil, append_assoc, length-append}
use Rattle.std.proofs.Math.ListN.{get_or-append}
use Rattle.std.proofs.Math.Seq.{get_or-append_seam}
use Rattle.std.proofs.lemmas.Bool.{cases_lt}
use Rattle.std.proofs.lemmas.List.{drop_all, take_all}
use Rattle.map_base.specs.declared.point.Point.{Point}
use Rattle.shape_track.specs.Snaps.{IsSnapFrom}
use Rattle.shape_track.specs.Sweeps.{taken_at, LeadsTo, Leads}
use Rattle.shape_track.specs.Rows.{LeadsFirst, AreRows}
use Rattle.shape_track.specs.Samples.{point_at}
use Rattle.shape_track.proofs.Courses.{from_place}

-- what is written to a whole slice of a vector is all of it
pub written_whole : (xs ys : List ℕ) (n : ℕ) → length xs ≡ n → length ys ≡ n → take n (xs ++ drop (length xs) ys) ≡ xs
written_whole xs ys n e f =
    ap (λ zs. take n (xs ++ zs)) (drop_all (length xs) ys (omega arith)) ∙ ap (take n) (append-nil xs) ∙ take_all n xs (omega arith)

-- one more row, of the station before
pub rows_pushed : (samples stations : List Point) (rows : List (List Bool)) (r : List Bool) (n : ℕ) → length rows ≡ n → AreRows samples stations rows →
    LeadsFirst samples (drop (length stations - 1 - n) stations) r → AreRows samples stations (rows ++ r ∷ [])
rows_pushed samples stations rows r n count before this k row below is = by_order (cases_lt k (length rows))
  where
    by_order : (k < length rows) ⊎ (length rows ≤ k) → LeadsFirst samples (drop (length stations - 1 - k) stations) row
    by_order (inl h) = before k row h (is ∙ get_or-append rows (r ∷ []) row k h)
    by_order (inr h) =
        let here : k ≡ length rows = omega (arith, length-append rows (r ∷ [])) in
        let same : row ≡ r = is ∙ ap (λ i. get_or (rows ++ r ∷ []) i row) here ∙ get_or-append_seam rows r [] row in
        let turn : length rows ≡ k = sym here in
        subst (λ (v : List Bool). LeadsFirst samples (drop (length stations - 1 - k) stations) v) (sym same)
        (subst (λ (i : ℕ). LeadsFirst samples (drop (length stations - 1 - i) stations) r) (sym count ∙ turn) this)

-- the station before those that are gone through, and they
pub one_before : (stations : List Point) (later : ℕ) → later < length stations →
    drop (length stations - 1 - later) stations ≡ point_at stations (length stations - 1 - later) ∷ drop (length stations - later) stations
one_before stations later below =
    let next : length stations - 1 - later + 1 ≡ length stations - later = omega arith in
    from_place stations (length stations - 1 - later) (omega arith) ∙ ap (λ n. point_at stations (length stations - 1 - later) ∷ drop n stations) next

-- a snap of no stations
pub nothing_snapped : (samples : List Point) (floor : ℕ) → IsSnapFrom floor samples [] []
nothing_snapped samples floor = record { placed = tt; least = λ others placed. omega arith; first = λ others placed same. refl }

-- a place that a row leads to goes on a snap
pub snap_goes_on : (samples stations : List Point) (places : List ℕ) (row : List Bool) (index floor place : ℕ) → index < length stations →
    LeadsFirst samples (drop index stations) row → place < length samples → LeadsTo row floor place →
    ((rest : List ℕ) → IsSnapFrom floor samples (drop index stations) rest → IsSnapFrom 0 samples stations (places ++ rest)) → (rest : List ℕ) →
    IsSnapFrom place samples (drop (index + 1) stations) rest → IsSnapFrom 0 samples stations ((places ++ place ∷ []) ++ rest)
snap_goes_on samples stations places row index floor place below leads within to whole rest snap =
    let here : drop index stations ≡ point_at stations index ∷ drop (index + 1) stations = from_place stations index below in
    let row_leads : Leads samples (point_at stations index) (drop (index + 1) stations) row =
    subst (λ (ss : List Point). LeadsFirst samples ss row) here leads in
    let begun : IsSnapFrom floor samples (point_at stations index ∷ drop (index + 1) stations) (place ∷ rest) = row_leads.begins floor place rest within to snap in
    subst (λ (ps : List ℕ). IsSnapFrom 0 samples stations ps) (sym (append_assoc places (place ∷ []) rest))
    (whole (place ∷ rest) (subst (λ (ss : List Point). IsSnapFrom floor samples ss (place ∷ rest)) (sym here) begun))

-- the row of a station that is there
pub row_at : (samples stations : List Point) (rows : List (List Bool)) (row : List Bool) (index : ℕ) → index < length stations → length rows ≡ length stations → AreRows samples stations rows →
    row ≡ get_or rows (length stations - 1 - index) row → LeadsFirst samples (drop index stations) row
row_at samples stations rows row index below count all is =
    let back : length stations - 1 - (length stations - 1 - index) ≡ index = omega arith in
    subst (λ (i : ℕ). LeadsFirst samples (drop i stations) row) back (all (length stations - 1 - index) row (omega arith) is)

-- it has a choice for each sample, and takes the last
pub row_whole : (samples stations : List Point) (row : List Bool) (index : ℕ) → index < length stations → LeadsFirst samples (drop index stations) row →
    (length row ≡ length samples) × (taken_at row (length samples - 1) ≡ true)
row_whole samples stations row index below leads =
    let row_leads : Leads samples (point_at stations index) (drop (index + 1) stations) row =
    subst (λ (ss : List Point). LeadsFirst samples ss row) (from_place stations index below) leads in
    (row_leads.count, row_leads.last)
