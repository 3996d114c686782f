-- A walk that is cut at even points of its own is split there, piece by piece.
use Rattle.std.proofs.Common.{◌≡◌, refl, sym, ◌∙◌, ap, subst, ℕ, zero, suc, ◌+◌, ◌-◌, ◌*◌, ◌/◌, ◌<◌, ◌≤◌, Bool, true, false, cond, List, [], ◌∷◌, length, map, filter, take, drop, get_or, min, inl, inr, arith, length-drop}
use Rattle.std.proofs.Math.Nat.{div-eq_of_lt, div-mul-le_self, mul-div_cancel_left, mul-le-mul_right}
use Rattle.std.proofs.lemmas.Nat.{le-div}
use Rattle.std.proofs.lemmas.Bool.{cond_both}
use Rattle.std.proofs.Math.Seq.{take-add}
use Rattle.std.proofs.lemmas.List.{length-map, length-take, take_all}
use Rattle.std.proofs.lemmas.List.Folds.{drop_split}
use Rattle.std.proofs.lemmas.List.FromFn.{length-range_with_len}
use Rattle.std.specs.List.{range_with_len}
use Rattle.octi_grid.specs.declared.dir.Dir.{Dir}
use Rattle.octi_grid.specs.declared.point.GridPoint.{GridPoint}
use Rattle.octi_grid.specs.Ways.{after, points_from, step_from}
use Rattle.octi_grid.specs.Walks.{end_point, points_of, PlainWalk}
use Rattle.octi_grid.specs.Legal.{is_even}
use Rattle.octi_grid.proofs.Members.{In}
use Rattle.octi_grid.proofs.WayLemmas.{after-append}
use Rattle.segment_router.proofs.Places.{in_at}
use Rattle.segment_router.proofs.RouteLemmas.{in_filter}
use Rattle.segment_router.proofs.SettledLemmas.{nowhere}
use Rattle.run_laying.specs.Pieces.{cut_place, even_places, even_steps, piece_between, pieces_of, point_at}
use Rattle.run_laying.proofs.Cuts.{IsSplit}
use Rattle.run_laying.proofs.LaidRuns.{IsCut}

-- ---- numbers of a range that pass a test

in_range : (a n x : ℕ) → In x (range_with_len a n) → (a ≤ x) × (x < a + n)
in_range a zero x m = absurd m
in_range a (suc n) x (inl e) = (omega (arith, e), omega (arith, e))
in_range a (suc n) x (inr m) = let rest = in_range (a + 1) n x m in (omega (arith, rest.0), omega (arith, rest.1))

abbrev passing : (ℕ → Bool) → ℕ → ℕ → List ℕ
passing p a n = filter p (range_with_len a n)

passing_at : (p : ℕ → Bool) (a n i : ℕ) → i < length (passing p a n) → (p (get_or (passing p a n) i 0) ≡ true) × (a ≤ get_or (passing p a n) i 0) × (get_or (passing p a n) i 0 < a + n)
passing_at p a n i h =
    let found = in_filter p (range_with_len a n) (get_or (passing p a n) i 0) (in_at (passing p a n) i 0 h) in
    let range = in_range a n (get_or (passing p a n) i 0) found.1 in
    (found.0, range.0, range.1)

rising : (p : ℕ → Bool) (a n i j : ℕ) → i < j → j < length (passing p a n) → get_or (passing p a n) i 0 < get_or (passing p a n) j 0
rising p a zero i j h below = absurd (omega (arith, below))
rising p a (suc n) i j h below = by_test (λ x y more under. rising p (a + 1) n x y more under) (p a) refl i j h below
  where
    ys : List ℕ
    ys = passing p (a + 1) n

    of : Bool → List ℕ
    of t = cond t (a ∷ ys) ys

    by_place : ((i j : ℕ) → i < j → j < length ys → get_or ys i 0 < get_or ys j 0) → (i j : ℕ) → i < j → j < length (a ∷ ys) → get_or (a ∷ ys) i 0 < get_or (a ∷ ys) j 0
    by_place on zero zero h below = absurd (omega arith)
    by_place on (suc i) zero h below = absurd (omega arith)
    by_place on zero (suc j) h below = let later = passing_at p (a + 1) n j (omega arith) in omega (arith, later.1)
    by_place on (suc i) (suc j) h below = on i j (omega arith) (omega arith)

    by_test : ((i j : ℕ) → i < j → j < length ys → get_or ys i 0 < get_or ys j 0) → (t : Bool) → p a ≡ t → (i j : ℕ) → i < j → j < length (of (p a)) → get_or (of (p a)) i 0 < get_or (of (p a)) j 0
    by_test on true e i j h below = subst (λ t. get_or (of t) i 0 < get_or (of t) j 0) (sym e) (by_place on i j h (subst (λ t. j < length (of t)) e below))
    by_test on false e i j h below = subst (λ t. get_or (of t) i 0 < get_or (of t) j 0) (sym e) (on i j h (subst (λ t. j < length (of t)) e below))

passing_first : (p : ℕ → Bool) (a n : ℕ) → p a ≡ true → get_or (passing p a (suc n)) 0 0 ≡ a
passing_first p a n e = ap (λ t. get_or (cond t (a ∷ passing p (a + 1) n) (passing p (a + 1) n)) 0 0) e

record HasLast (xs : List ℕ) (last : ℕ) : Type 0 where
  at : ℕ
  long : length xs ≡ suc at
  there : get_or xs at 0 ≡ last

passing_last : (p : ℕ → Bool) (a n : ℕ) → p (a + n) ≡ true → HasLast (passing p a (suc n)) (a + n)
passing_last p a zero e =
    let same : a + 0 ≡ a = omega arith in
    let here : p a ≡ true = ap p (sym same) ∙ e in
    subst (λ t. HasLast (cond t (a ∷ []) []) (a + 0)) (sym here) (record { at = 0; long = refl; there = sym same })
passing_last p a (suc n) e =
    let same : a + 1 + n ≡ a + suc n = omega arith in
    let ys : List ℕ = passing p (a + 1) (suc n) in
    let rest : HasLast ys (a + suc n) = subst (λ j. HasLast ys j) same (passing_last p (a + 1) n (ap p same ∙ e)) in
    cond_both (p a) (a ∷ ys) ys (λ xs. HasLast xs (a + suc n))
    (λ t. record { at = suc rest.at; long = ap suc rest.long; there = rest.there }) (λ t. rest)

-- ---- the places of cuts

-- i times m over the number of pieces, for m that is no less
share_rises : (i m count : ℕ) → 0 < count → count ≤ m → i * m / count < (i + 1) * m / count
share_rises i m count some enough =
    let low : i * m / count * count ≤ i * m = div-mul-le_self (i * m) count in
    let next : i * m / count + 1 ≤ (i + 1) * m / count = le-div (i * m / count + 1) ((i + 1) * m) count some (omega arith) in
    omega (arith, next)

pub share_grows : (i j m count : ℕ) → 0 < count → i ≤ j → i * m / count ≤ j * m / count
share_grows i j m count some order =
    let low : i * m / count * count ≤ i * m = div-mul-le_self (i * m) count in
    let high : i * m ≤ j * m = mul-le-mul_right m order in
    le-div (i * m / count) (j * m) count some (omega arith)

share_first : (m count : ℕ) → 0 < count → 0 * m / count ≡ 0
share_first m count some = let none : 0 * m ≡ 0 = omega arith in ap (λ k. k / count) none ∙ div-eq_of_lt some

share_last : (m count : ℕ) → 0 < count → count * m / count ≡ m
share_last m count some = mul-div_cancel_left m some

-- ---- a walk from one of its places on

pub length-points : (p : GridPoint) (ds : List Dir) → length (points_from p ds) ≡ suc (length ds)
length-points p [] = refl
length-points p (d ∷ ds) = ap suc (length-points (step_from p d) ds)

pub point_after : (p : GridPoint) (ds : List Dir) (i : ℕ) → i ≤ length ds → get_or (points_from p ds) i nowhere ≡ after p (take i ds)
point_after p [] zero h = refl
point_after p [] (suc i) h = absurd (omega arith)
point_after p (d ∷ ds) zero h = refl
point_after p (d ∷ ds) (suc i) h = point_after (step_from p d) ds i (omega arith)

abbrev pub rest_from : PlainWalk → ℕ → PlainWalk
rest_from w a = record { start = point_at (points_of w) a; steps = drop a w.steps }

abbrev piece_by : PlainWalk → (ℕ → ℕ) → ℕ → PlainWalk
piece_by w c i = piece_between w (c i) (c (i + 1))

split_at : (w : PlainWalk) (a b : ℕ) → a < b → b < length w.steps → is_even (point_at (points_of w) b) ≡ true → IsSplit (rest_from w a) (piece_between w a b) (rest_from w b)
split_at w a b order below even = record {
  start = refl;
  steps = drop_split w.steps a b (omega arith);
  next =
      point_after w.start w.steps b (omega arith)
      ∙ ap (λ n. after w.start (take n w.steps)) whole
      ∙ ap (after w.start) (take-add a (b - a) w.steps)
      ∙ after-append w.start (take a w.steps) (take (b - a) (drop a w.steps))
      ∙ ap (λ (p : GridPoint). after p (take (b - a) (drop a w.steps))) (sym (point_after w.start w.steps a (omega arith)));
  even = even;
  some = omega (arith, first, order, below);
  more = omega (arith, length-drop b w.steps, below);
}
  where
    whole : b ≡ a + (b - a)
    whole = omega arith

    first : length (take (b - a) (drop a w.steps)) ≡ min (b - a) (length w.steps - a)
    first = length-take (b - a) (drop a w.steps) ∙ ap (min (b - a)) (length-drop a w.steps)

-- places at which it may be cut, from the i-th one on
pub record AreCuts (w : PlainWalk) (c : ℕ → ℕ) (count : ℕ) : Type 0 where
  pub rises : (j : ℕ) → j < count → c j < c (j + 1)
  pub below : (j : ℕ) → j < count → c j < length w.steps
  pub last : c count ≡ length w.steps
  pub even : (j : ℕ) → j ≤ count → is_even (point_at (points_of w) (c j)) ≡ true

cut_from : (w : PlainWalk) (c : ℕ → ℕ) (count : ℕ) → AreCuts w c count → (i m : ℕ) → i + suc m ≡ count → IsCut (rest_from w (c i)) (map (piece_by w c) (range_with_len i (suc m)))
cut_from w c count cuts i zero all = (ap (λ (ds : List Dir). (let v : PlainWalk = record { start = point_at (points_of w) (c i); steps = ds } in v)) rest, omega (arith, length-drop (c i) w.steps, cuts.below i (omega arith)))
  where
    last : c (i + 1) ≡ length w.steps
    last = (let same : i + 1 ≡ count = omega arith in ap c same) ∙ cuts.last

    rest : take (c (i + 1) - c i) (drop (c i) w.steps) ≡ drop (c i) w.steps
    rest = take_all (c (i + 1) - c i) (drop (c i) w.steps) (omega (arith, length-drop (c i) w.steps, last))
cut_from w c count cuts i (suc m) all = (
  rest_from w (c (i + 1)),
  split_at w (c i) (c (i + 1)) (cuts.rises i (omega arith)) (cuts.below (i + 1) (omega arith)) (cuts.even (i + 1) (omega arith)),
  cut_from w c count cuts (i + 1) m (omega arith),
)

-- ---- the pieces of a walk

module _ (w : PlainWalk) (n : ℕ) (first_even : is_even w.start ≡ true) (last_even : is_even (end_point w) ≡ true) (enough : suc n ≤ even_steps (points_of w)) where
  abbrev count : ℕ
  count = suc n

  abbrev pts : List GridPoint
  pts = points_of w

  long : length pts ≡ suc (length w.steps)
  long = length-points w.start w.steps

  abbrev test : ℕ → Bool
  test i = is_even (point_at pts i)

  abbrev xs : List ℕ
  xs = passing test 0 (suc (length w.steps))

  places : even_places pts ≡ xs
  places = ap (λ j. filter test (range_with_len 0 j)) long

  start_is : point_at pts 0 ≡ w.start
  start_is = point_after w.start w.steps 0 (omega arith)

  end_is : point_at pts (length w.steps) ≡ end_point w
  end_is = point_after w.start w.steps (length w.steps) (omega arith) ∙ ap (after w.start) (take_all (length w.steps) w.steps (omega arith))

  last : HasLast xs (length w.steps)
  last =
      let same : 0 + length w.steps ≡ length w.steps = omega arith in
      subst (λ j. HasLast xs j) same (passing_last test 0 (length w.steps) (ap test same ∙ ap is_even end_is ∙ last_even))

  abbrev steps : ℕ
  steps = even_steps pts

  steps_is : steps ≡ last.at
  steps_is = let many : length (even_places pts) ≡ suc last.at = ap length places ∙ last.long in omega arith

  abbrev share : ℕ → ℕ
  share i = i * steps / count

  place_is : (i : ℕ) → cut_place pts count i ≡ get_or xs (share i) 0
  place_is i = ap (λ (v : List ℕ). get_or v (share i) 0) places

  share_below : (i : ℕ) → i ≤ count → share i < length xs
  share_below i h =
      let most : share i ≤ steps = omega (arith, share_grows i count steps count (omega arith) h, share_last steps count (omega arith)) in
      omega (arith, most, steps_is, last.long)

  rises : (j : ℕ) → j < count → cut_place pts count j < cut_place pts count (j + 1)
  rises j h =
      let order = rising test 0 (suc (length w.steps)) (share j) (share (j + 1)) (share_rises j steps count (omega arith) enough) (share_below (j + 1) (omega arith)) in
      omega (arith, order, place_is j, place_is (j + 1))

  cut_last : cut_place pts count count ≡ length w.steps
  cut_last = place_is count ∙ ap (λ j. get_or xs j 0) (share_last steps count (omega arith) ∙ steps_is) ∙ last.there

  cuts_are : AreCuts w (cut_place pts count) count
  cuts_are = record {
    rises = rises;
    below = λ j h.
        let more : share j < share count = omega (arith, share_rises j steps count (omega arith) enough, share_grows (j + 1) count steps count (omega arith) (omega (arith, h))) in
        let order = rising test 0 (suc (length w.steps)) (share j) (share count) more (share_below count (omega arith)) in
        omega (arith, order, place_is j, place_is count, cut_last);
    last = cut_last;
    even = λ j h. ap test (place_is j) ∙ (passing_at test 0 (suc (length w.steps)) (share j) (share_below j h)).0;
  }

  first_place : cut_place pts count 0 ≡ 0
  first_place = place_is 0 ∙ ap (λ j. get_or xs j 0) (share_first steps count (omega arith)) ∙ passing_first test 0 (length w.steps) (ap is_even start_is ∙ first_even)

  whole : rest_from w (cut_place pts count 0) ≡ w
  whole = ap (rest_from w) first_place ∙ ap (λ (p : GridPoint). (let v : PlainWalk = record { start = p; steps = w.steps } in v)) start_is

  pieces_split : IsCut w (pieces_of w count)
  pieces_split = subst (λ (v : PlainWalk). IsCut v (pieces_of w count)) whole (cut_from w (cut_place (points_of w) count) count cuts_are 0 n (omega arith))

pub pieces_cut : (w : PlainWalk) (count : ℕ) → is_even w.start ≡ true → is_even (end_point w) ≡ true → 0 < count → count ≤ even_steps (points_of w) → IsCut w (pieces_of w count)
pieces_cut w zero first_even last_even some enough = absurd (omega (arith, some))
pieces_cut w (suc n) first_even last_even some enough = pieces_split w n first_even last_even enough

pub cuts_of : (w : PlainWalk) (count : ℕ) → is_even w.start ≡ true → is_even (end_point w) ≡ true → 0 < count → count ≤ even_steps (points_of w) → AreCuts w (cut_place (points_of w) count) count
cuts_of w zero first_even last_even some enough = absurd (omega (arith, some))
cuts_of w (suc n) first_even last_even some enough = cuts_are w n first_even last_even enough

pub length-pieces : (w : PlainWalk) (count : ℕ) → length (pieces_of w count) ≡ count
length-pieces w count = length-map (range_with_len 0 count) (λ i. piece_between w (cut_place (points_of w) count i) (cut_place (points_of w) count (i + 1))) ∙ length-range_with_len 0 count
