-- Hops that are made one by one.
use Rattle.std.proofs.Common.{◌≡◌, refl, sym, ◌∙◌, ap, ℕ, zero, suc, ◌+◌, ◌-◌, ◌<◌, ◌≤◌, List, [], ◌∷◌, ◌++◌, map, length, get_or, drop, Vec, pos, arith, drop-cons, add-one, append_assoc, length-drop}
use Rattle.std.specs.Global.{Global}
use Rattle.std.proofs.lemmas.List.{map-append}
use Rattle.std.proofs.lemmas.List.Sums.{sum_by-append}
use Rattle.map_base.specs.declared.point.Point.{Point}
use Rattle.shape_track.specs.Samples.{point_at, samples_of}
use Rattle.shape_track.specs.Snaps.{ArePlacesFrom}
use Rattle.shape_track.specs.Hops.{hop_points, hops_of, total_of}

-- ---- places

pub places_count : (floor n : ℕ) (ss : List Point) (is : List ℕ) → ArePlacesFrom floor n ss is → length is ≡ length ss
places_count floor n [] [] placed = refl
places_count floor n [] (i ∷ is) placed = absurd placed
places_count floor n (s ∷ ss) [] placed = absurd placed
places_count floor n (s ∷ ss) (i ∷ is) placed = ap suc (places_count i n ss is placed.2)

pub place_in_range : (floor n : ℕ) (ss : List Point) (is : List ℕ) (k : ℕ) → ArePlacesFrom floor n ss is → k < length ss → get_or is k 0 < n
place_in_range floor n [] is k placed below = absurd (omega arith)
place_in_range floor n (s ∷ ss) [] k placed below = absurd placed
place_in_range floor n (s ∷ ss) (i ∷ is) zero placed below = placed.1
place_in_range floor n (s ∷ ss) (i ∷ is) (suc k) placed below = place_in_range i n ss is k placed.2 (omega arith)

pub places_rise : (floor n : ℕ) (ss : List Point) (is : List ℕ) (k : ℕ) → ArePlacesFrom floor n ss is → suc k < length ss → get_or is k 0 ≤ get_or is (suc k) 0
places_rise floor n [] is k placed below = absurd (omega arith)
places_rise floor n (s ∷ ss) [] k placed below = absurd placed
places_rise floor n (s ∷ []) (i ∷ is) k placed below = absurd (omega arith)
places_rise floor n (s ∷ t ∷ ss) (i ∷ []) k placed below = absurd placed.2
places_rise floor n (s ∷ t ∷ ss) (i ∷ j ∷ is) zero placed below = placed.2.0
places_rise floor n (s ∷ t ∷ ss) (i ∷ j ∷ is) (suc k) placed below = places_rise i n (t ∷ ss) (j ∷ is) k placed.2 (omega arith)

-- ---- one hop more

from_here : {A : Type 0} (xs : List A) (d : A) (i : ℕ) → i < length xs → drop i xs ≡ get_or xs i d ∷ drop (i + 1) xs
from_here xs d i below = drop-cons xs i d below ∙ ap (λ n. get_or xs i d ∷ drop n xs) (sym (add-one i))

next_from : {A : Type 0} (xs : List A) (d : A) (i : ℕ) → i < length xs → drop (i + 1 - 1) xs ≡ get_or xs i d ∷ drop (i + 1) xs
next_from xs d i below = let here : i + 1 - 1 ≡ i = omega arith in ap (λ n. drop n xs) here ∙ from_here xs d i below

two_from : {A : Type 0} (xs : List A) (d : A) (i : ℕ) → 0 < i → i < length xs → drop (i - 1) xs ≡ get_or xs (i - 1) d ∷ (get_or xs i d ∷ drop (i + 1) xs)
two_from xs d i some below =
    let back : i - 1 + 1 ≡ i = omega arith in
    from_here xs d (i - 1) (omega arith) ∙ ap (λ n. get_or xs (i - 1) d ∷ drop n xs) back ∙ ap (λ ys. get_or xs (i - 1) d ∷ ys) (from_here xs d i below)

-- the hop to a station
unfoldable pub hop_at : ℕ → List Point → List Point → List ℕ → ℕ → List Point
hop_at near samples stations places i =
    samples_of near (hop_points samples (point_at stations (i - 1)) (get_or places (i - 1) 0) (point_at stations i) (get_or places i 0))

pub hops_of-step : (near : ℕ) (samples stations : List Point) (places : List ℕ) (i : ℕ) → 0 < i → i < length stations → length places ≡ length stations →
    hops_of near samples (drop (i - 1) stations) (drop (i - 1) places)
    ≡ hop_at near samples stations places i ∷ hops_of near samples (drop (i + 1 - 1) stations) (drop (i + 1 - 1) places)
unfolding hop_at
hops_of-step near samples stations places i some below count =
    let origin : Point = record { x = pos 0; y = pos 0 } in
    let place_below : i < length places = omega arith in
    ap (λ ss. hops_of near samples ss (drop (i - 1) places)) (two_from stations origin i some below)
    ∙ ap (λ is. hops_of near samples (point_at stations (i - 1) ∷ (point_at stations i ∷ drop (i + 1) stations)) is) (two_from places 0 i some place_below)
    ∙ sym (ap (λ ss. hop_at near samples stations places i ∷ hops_of near samples ss (drop (i + 1 - 1) places)) (next_from stations origin i below)
    ∙ ap (λ is. hop_at near samples stations places i ∷ hops_of near samples (point_at stations i ∷ drop (i + 1) stations) is) (next_from places 0 i place_below))

-- no hop begins at the last station
pub hops_of-end : (near : ℕ) (samples stations : List Point) (places : List ℕ) (i : ℕ) → length stations ≤ i → hops_of near samples (drop (i - 1) stations) places ≡ []
hops_of-end near samples stations places i end = short (drop (i - 1) stations) (omega (arith, length-drop (i - 1) stations))
  where
    short : (ss : List Point) → length ss ≤ 1 → hops_of near samples ss places ≡ []
    short [] few = refl
    short (s ∷ []) few = refl
    short (s ∷ t ∷ ss) few = absurd (omega arith)

-- the lists of points that vectors hold
abbrev pub lists_of : List (Vec Point Global) → List (List Point)
lists_of hops = map (λ hop. hop.items) hops

pub hops_pushed : (hops : List (Vec Point Global)) (hop : Vec Point Global) (near : ℕ) (samples stations : List Point) (places : List ℕ) (whole : List (List Point)) (i : ℕ) →
    0 < i → i < length stations → length places ≡ length stations → hop.items ≡ hop_at near samples stations places i →
    lists_of hops ++ hops_of near samples (drop (i - 1) stations) (drop (i - 1) places) ≡ whole →
    lists_of (hops ++ hop ∷ []) ++ hops_of near samples (drop (i + 1 - 1) stations) (drop (i + 1 - 1) places) ≡ whole
hops_pushed hops hop near samples stations places whole i some below count is kept =
    let rest = hops_of near samples (drop (i + 1 - 1) stations) (drop (i + 1 - 1) places) in
    ap (λ xs. xs ++ rest) (map-append (λ (v : Vec Point Global). v.items) hops (hop ∷ [])) ∙ append_assoc (lists_of hops) (hop.items ∷ []) rest
    ∙ ap (λ x. lists_of hops ++ (x ∷ rest)) is ∙ sym (ap (λ xs. lists_of hops ++ xs) (hops_of-step near samples stations places i some below count)) ∙ kept

pub total_pushed : (hops : List (Vec Point Global)) (hop : Vec Point Global) → total_of (lists_of (hops ++ hop ∷ [])) ≡ total_of (lists_of hops) + length hop.items
total_pushed hops hop =
    ap total_of (map-append (λ (v : Vec Point Global). v.items) hops (hop ∷ [])) ∙ sum_by-append length (lists_of hops) (hop.items ∷ []) ∙ alone (total_of (lists_of hops)) (length hop.items)
  where
    alone : (t n : ℕ) → t + (0 + n) ≡ t + n
    alone t n = omega arith

-- the hop that is made is counted of the whole
pub hop_counted : (hops : List (Vec Point Global)) (near : ℕ) (samples stations : List Point) (places : List ℕ) (whole : List (List Point)) (i : ℕ) →
    0 < i → i < length stations → length places ≡ length stations → lists_of hops ++ hops_of near samples (drop (i - 1) stations) (drop (i - 1) places) ≡ whole →
    total_of (lists_of hops) + length (hop_at near samples stations places i) ≤ total_of whole
hop_counted hops near samples stations places whole i some below count kept =
    let rest = hops_of near samples (drop (i + 1 - 1) stations) (drop (i + 1 - 1) places) in
    let all : total_of whole ≡ total_of (lists_of hops) + ((0 + length (hop_at near samples stations places i)) + total_of rest) =
    sym (ap total_of kept) ∙ ap (λ xs. total_of (lists_of hops ++ xs)) (hops_of-step near samples stations places i some below count)
    ∙ sum_by-append length (lists_of hops) (hop_at near samples stations places i ∷ rest)
    ∙ ap (λ n. total_of (lists_of hops) + n) (sum_by-append length (hop_at near samples stations places i ∷ []) rest) in
    part (total_of whole) (total_of (lists_of hops)) (length (hop_at near samples stations places i)) (total_of rest) all
  where
    part : (w t n r : ℕ) → w ≡ t + ((0 + n) + r) → t + n ≤ w
    part w t n r e = omega arith
