-- Places that are kept as runs: one more, and the one at an index.
use Rattle.std.proofs.Common.{◌≡◌, ℕ, zero, suc, ◌+◌, ◌-◌, ◌<◌, ◌≤◌, List, [], ◌∷◌, ◌++◌, length, get_or, take, refl, sym, ◌∙◌, ap, arith, append_assoc, append-nil}
use Rattle.std.specs.List.{flat_map, range_with_len}
use Rattle.std.proofs.lemmas.List.{length-append, take_more, take_all, get_or_append_left, get_or-append_right}
use Rattle.std.proofs.lemmas.List.FromFn.{length-range_with_len, get_or-range_with_len}
use Rattle.std.proofs.lemmas.List.Folds.{length-flat_map-take}
use Rattle.std.proofs.lemmas.List.Concat.{get_or-flat_map}
use Rattle.std.proofs.lemmas.Grind.{flat_map-append}
use Rattle.sequence_tables.specs.declared.place_run.PlaceRun.{PlaceRun}
use Rattle.sequence_tables.specs.PlaceRuns.{places_of_run, places_of_runs}

-- one more number at the end of a range
range_more : (first count : ℕ) → range_with_len first (suc count) ≡ range_with_len first count ++ (first + count) ∷ []
range_more first zero = ap (λ (n : ℕ). n ∷ []) (omega arith)
range_more first (suc count) =
    let next : first + 1 + count ≡ first + suc count = omega arith in
    ap (λ (rest : List ℕ). first ∷ rest) (range_more (first + 1) count ∙ ap (λ (n : ℕ). range_with_len (first + 1) count ++ n ∷ []) next)

pub longer_run : (first count more place : ℕ) → more ≡ count + 1 → first + count ≡ place → range_with_len first more ≡ range_with_len first count ++ place ∷ []
longer_run first count more place one behind =
    let next : more ≡ suc count = omega (arith, one) in
    ap (range_with_len first) next ∙ range_more first count ∙ ap (λ (n : ℕ). range_with_len first count ++ n ∷ []) behind

-- one more place, in the last run or in a run of its own
pub place_in_last : (runs : List PlaceRun) (last long : PlaceRun) (place : ℕ) → places_of_run long ≡ places_of_run last ++ place ∷ [] → places_of_runs runs long ≡ places_of_runs runs last ++ place ∷ []
place_in_last runs last long place more =
    ap (λ (ps : List ℕ). flat_map places_of_run runs ++ ps) more ∙ sym (append_assoc (flat_map places_of_run runs) (places_of_run last) (place ∷ []))

pub place_in_next : (runs more : List PlaceRun) (last : PlaceRun) (place : ℕ) → more ≡ runs ++ last ∷ [] → flat_map places_of_run more ++ place ∷ [] ≡ places_of_runs runs last ++ place ∷ []
place_in_next runs more last place is =
    ap (λ (ps : List ℕ). ps ++ place ∷ [])
    (ap (flat_map places_of_run) is ∙ flat_map-append places_of_run runs (last ∷ []) ∙ ap (λ (ps : List ℕ). flat_map places_of_run runs ++ ps) (append-nil (places_of_run last)))

-- how many places the first runs have
abbrev pub places_before_run : List PlaceRun → ℕ → ℕ
places_before_run runs k = length (flat_map places_of_run (take k runs))

-- one run is passed over
pub run_passed : (runs : List PlaceRun) (k index left after : ℕ) (d : PlaceRun) → k < length runs → index ≡ places_before_run runs k + left → (get_or runs k d).count ≤ left → after ≡ left - (get_or runs k d).count
    → index ≡ places_before_run runs (k + 1) + after
run_passed runs k index left after d l is passed rest =
    let run : PlaceRun = get_or runs k d in
    let before : List ℕ = flat_map places_of_run (take k runs) in
    let whole : places_before_run runs (k + 1) ≡ length (before ++ (places_of_run run ++ [])) =
    ap (λ (rs : List PlaceRun). length (flat_map places_of_run rs)) (take_more runs k d l) ∙ ap length (flat_map-append places_of_run (take k runs) (run ∷ [])) in
    omega (
      arith,
      is,
      passed,
      rest,
      whole,
      length-append before (places_of_run run ++ []),
      ap length (append-nil (places_of_run run)),
      length-range_with_len run.first run.count,
    )

-- the place stands in a run
pub in_this_run : (runs : List PlaceRun) (last : PlaceRun) (k index left : ℕ) (d : PlaceRun) → k < length runs → index ≡ places_before_run runs k + left → left < (get_or runs k d).count
    → (get_or runs k d).first + left ≡ get_or (places_of_runs runs last) index 0
in_this_run runs last k index left d l is low =
    let run : PlaceRun = get_or runs k d in
    let counted : length (places_of_run run) ≡ run.count = length-range_with_len run.first run.count in
    let within : left < length (places_of_run run) = omega (arith, low, counted) in
    let less : index < length (flat_map places_of_run runs) = omega (arith, is, within, length-flat_map-take places_of_run runs k d l) in
    sym (get_or_append_left (flat_map places_of_run runs) (places_of_run last) 0 index less
    ∙ ap (λ (i : ℕ). get_or (flat_map places_of_run runs) i 0) is
    ∙ get_or-flat_map places_of_run runs k left d 0 l within
    ∙ get_or-range_with_len run.first run.count left 0 low)

-- the place stands in the last run
pub within_last : (runs : List PlaceRun) (last : PlaceRun) (k index left : ℕ) → length runs ≤ k → index ≡ places_before_run runs k + left → index < length (places_of_runs runs last) → left < last.count
within_last runs last k index left all is low =
    omega (
      arith,
      is,
      low,
      ap (λ (rs : List PlaceRun). length (flat_map places_of_run rs)) (take_all k runs all),
      length-append (flat_map places_of_run runs) (places_of_run last),
      length-range_with_len last.first last.count,
    )

pub in_last_run : (runs : List PlaceRun) (last : PlaceRun) (k index left : ℕ) → length runs ≤ k → index ≡ places_before_run runs k + left → index < length (places_of_runs runs last)
    → last.first + left ≡ get_or (places_of_runs runs last) index 0
in_last_run runs last k index left all is low =
    let before : List ℕ = flat_map places_of_run runs in
    let here : places_before_run runs k ≡ length before = ap (λ (rs : List PlaceRun). length (flat_map places_of_run rs)) (take_all k runs all) in
    let behind : length before ≤ index = omega (arith, is, here) in
    let rest : index - length before ≡ left = omega (arith, is, here) in
    sym (get_or-append_right before (places_of_run last) (length before) index 0 refl behind
    ∙ ap (λ (i : ℕ). get_or (places_of_run last) i 0) rest
    ∙ get_or-range_with_len last.first last.count left 0 (within_last runs last k index left all is low))
