-- A walk that is split at one of its points.
use Rattle.std.proofs.Common.{◌≡◌, refl, sym, ◌∙◌, ap, ap₂, subst, ℕ, ◌+◌, ◌-◌, ◌%◌, ◌<◌, ◌≤◌, Bool, true, nat_lt, List, [], ◌∷◌, ◌++◌, length, Some, slice_get, option_map, inl, inr, arith}
use Rattle.std.specs.List.{list_all}
use Rattle.std.proofs.lemmas.Bool.{and_from, and_parts, lt-ltb}
use Rattle.octi_grid.specs.declared.dir.Dir.{Dir}
use Rattle.octi_grid.specs.declared.point.GridPoint.{GridPoint}
use Rattle.octi_grid.specs.Costs.{clockwise_from}
use Rattle.octi_grid.specs.Ways.{after, doubled, doubled_from, number_of, points_from, reverse_of, step_from}
use Rattle.octi_grid.specs.Walks.{doubled_of, end_point, end_port, last_of, points_of, start_port, PlainWalk}
use Rattle.octi_grid.specs.Legal.{are_clockwise, are_distinct, is_even}
use Rattle.octi_grid.proofs.CostLemmas.{number_small}
use Rattle.octi_grid.proofs.Members.{in_left, in_right, In}
use Rattle.octi_grid.proofs.MeetsLemmas.{distinct_from, distinct_not_later, distinct_rest}
use Rattle.octi_grid.proofs.WayLemmas.{after-append, list_all-points-append}
use Rattle.grid_board.specs.Taking.{behind}
use Rattle.grid_board.proofs.Ways.{behind-append, doubled_from-behind, first_holds}
use Rattle.segment_router.proofs.LaidLemmas.{end_on_way, start_on_way}
use Rattle.walk_search.specs.Moves.{direction}
use Rattle.walk_search.proofs.Turning.{direction-number_of}
use Rattle.run_laying.proofs.Reversed.{middle_back}

-- a walk goes over one walk and then over another, which begins at an even point
pub record IsSplit (w v rest : PlainWalk) : Type 0 where
  pub start : v.start ≡ w.start
  pub steps : w.steps ≡ v.steps ++ rest.steps
  pub next : rest.start ≡ end_point v
  pub even : is_even rest.start ≡ true
  pub some : 0 < length v.steps
  pub more : 0 < length rest.steps

-- lists without repeats, part by part
distinct_first : (xs ys : List GridPoint) → are_distinct (xs ++ ys) ≡ true → are_distinct xs ≡ true
distinct_first [] ys e = refl
distinct_first (x ∷ xs) ys e = distinct_from x xs (λ m. distinct_not_later x (xs ++ ys) e (in_left x xs ys m)) (distinct_first xs ys (distinct_rest x (xs ++ ys) e))

distinct_second : (xs ys : List GridPoint) → are_distinct (xs ++ ys) ≡ true → are_distinct ys ≡ true
distinct_second [] ys e = e
distinct_second (x ∷ xs) ys e = distinct_second xs ys (distinct_rest x (xs ++ ys) e)

not_in_both : (xs ys : List GridPoint) (d : GridPoint) → are_distinct (xs ++ ys) ≡ true → In d xs → In d ys → ⊥
not_in_both [] ys d e m n = m
not_in_both (x ∷ xs) ys d e (inl h) n = distinct_not_later x (xs ++ ys) e (in_right x xs ys (subst (λ (q : GridPoint). In q ys) h n))
not_in_both (x ∷ xs) ys d e (inr m) n = not_in_both xs ys d (distinct_rest x (xs ++ ys) e) m n

-- where a way with a step ends is behind its start
end_behind : (p : GridPoint) (ds : List Dir) → 0 < length ds → In (doubled (after p ds)) (behind p ds)
end_behind p [] h = absurd (omega (arith, h))
end_behind p (d ∷ []) h = inr (inl refl)
end_behind p (d ∷ e ∷ es) h = inr (inr (end_behind (step_from p d) (e ∷ es) (omega arith)))

pub start_not_end : (p : GridPoint) (ds : List Dir) → 0 < length ds → are_distinct (doubled_from p ds) ≡ true → doubled p ≡ doubled (after p ds) → ⊥
start_not_end p ds some once e =
    distinct_not_later (doubled p) (behind p ds) (subst (λ (v : List GridPoint). are_distinct v ≡ true) (doubled_from-behind p ds) once) (subst (λ (q : GridPoint). In q (behind p ds)) (sym e) (end_behind p ds some))

-- the middle of the last step, seen from its end
last_middle : (p : GridPoint) (ds : List Dir) (d : Dir) → last_of ds ≡ Some d → In (step_from (doubled (after p ds)) (reverse_of d)) (doubled_from p ds)
last_middle p [] d e = cc
last_middle p (f ∷ []) d e = let same : f ≡ d = cc in subst (λ (g : Dir). In (step_from (doubled (after p (f ∷ []))) (reverse_of g)) (doubled_from p (f ∷ []))) same (inr (inl (middle_back p f)))
last_middle p (f ∷ g ∷ gs) d e = inr (inr (last_middle (step_from p f) (g ∷ gs) d e))

-- ports of a walk with more steps
first_port : (xs ys : List Dir) → 0 < length xs → slice_get xs 0 ≡ slice_get (xs ++ ys) 0
first_port [] ys h = absurd (omega (arith, h))
first_port (x ∷ xs) ys h = refl

last_port : (xs ys : List Dir) → 0 < length ys → last_of (xs ++ ys) ≡ last_of ys
last_port [] ys h = refl
last_port (x ∷ []) [] h = absurd (omega (arith, h))
last_port (x ∷ []) (y ∷ ys) h = refl
last_port (x ∷ z ∷ zs) ys h = last_port (z ∷ zs) ys h

pub some_first : (ds : List Dir) → 0 < length ds → (d : Dir) × (slice_get ds 0 ≡ Some d)
some_first [] h = absurd (omega (arith, h))
some_first (d ∷ ds) h = (d, refl)

pub some_end : (ds : List Dir) → 0 < length ds → (d : Dir) × (last_of ds ≡ Some d)
some_end [] h = absurd (omega (arith, h))
some_end (d ∷ []) h = (d, refl)
some_end (d ∷ e ∷ es) h = some_end (e ∷ es) (omega arith)

module _ (w v rest : PlainWalk) (split : IsSplit w v rest) where
  pub split_doubled : doubled_of w ≡ doubled_of v ++ behind (end_point v) rest.steps
  split_doubled =
      ap₂ doubled_from (sym split.start) split.steps
      ∙ doubled_from-behind v.start (v.steps ++ rest.steps)
      ∙ ap (λ (xs : List GridPoint). doubled v.start ∷ xs) (behind-append v.start v.steps rest.steps)
      ∙ ap (λ (xs : List GridPoint). xs ++ behind (end_point v) rest.steps) (sym (doubled_from-behind v.start v.steps))

  rest_doubled : doubled_of rest ≡ doubled (end_point v) ∷ behind (end_point v) rest.steps
  rest_doubled = ap (λ (p : GridPoint). doubled_from p rest.steps) split.next ∙ doubled_from-behind (end_point v) rest.steps

  pub split_end : end_point w ≡ end_point rest
  split_end = ap₂ after (sym split.start) split.steps ∙ after-append v.start v.steps rest.steps ∙ ap (λ (p : GridPoint). after p rest.steps) (sym split.next)

  pub in_first : (d : GridPoint) → In d (doubled_of v) → In d (doubled_of w)
  in_first d m = subst (λ (xs : List GridPoint). In d xs) (sym split_doubled) (in_left d (doubled_of v) (behind (end_point v) rest.steps) m)

  pub in_second : (d : GridPoint) → In d (doubled_of rest) → In d (doubled_of w)
  in_second d m = which (subst (λ (xs : List GridPoint). In d xs) rest_doubled m)
    where
      which : In d (doubled (end_point v) ∷ behind (end_point v) rest.steps) → In d (doubled_of w)
      which (inl e) = in_first d (subst (λ (q : GridPoint). In q (doubled_of v)) (sym e) (end_on_way v.start v.steps))
      which (inr n) = subst (λ (xs : List GridPoint). In d xs) (sym split_doubled) (in_right d (doubled_of v) (behind (end_point v) rest.steps) n)

  parts_within : (test : GridPoint → Bool) → list_all test (points_of w) ≡ true → (list_all test (points_of v) ≡ true) × (list_all test (points_from (end_point v) rest.steps) ≡ true)
  parts_within test e =
      and_parts (list_all test (points_of v)) (list_all test (points_from (end_point v) rest.steps))
      (sym (list_all-points-append test v.start v.steps rest.steps) ∙ ap (list_all test) (sym (ap₂ points_from (sym split.start) split.steps)) ∙ e)

  pub first_within : (test : GridPoint → Bool) → list_all test (points_of w) ≡ true → list_all test (points_of v) ≡ true
  first_within test e = (parts_within test e).0

  pub second_within : (test : GridPoint → Bool) → list_all test (points_of w) ≡ true → list_all test (points_of rest) ≡ true
  second_within test e = ap (λ (p : GridPoint). list_all test (points_from p rest.steps)) split.next ∙ (parts_within test e).1

  pub next_holds : (test : GridPoint → Bool) → list_all test (points_of w) ≡ true → test rest.start ≡ true
  next_holds test e = first_holds test rest.start rest.steps (second_within test e)

  pub first_start_port : start_port v ≡ start_port w
  first_start_port = first_port v.steps rest.steps split.some ∙ ap (λ (ds : List Dir). slice_get ds 0) (sym split.steps)

  pub second_end_port : end_port rest ≡ end_port w
  second_end_port = ap (option_map reverse_of) (sym (last_port v.steps rest.steps split.more) ∙ ap last_of (sym split.steps))

  module _ (once : are_distinct (doubled_of w) ≡ true) where
    parts_once : are_distinct (doubled_of v ++ behind (end_point v) rest.steps) ≡ true
    parts_once = subst (λ (xs : List GridPoint). are_distinct xs ≡ true) split_doubled once

    pub first_once : are_distinct (doubled_of v) ≡ true
    first_once = distinct_first (doubled_of v) (behind (end_point v) rest.steps) parts_once

    pub second_once : are_distinct (doubled_of rest) ≡ true
    second_once =
        subst (λ (xs : List GridPoint). are_distinct xs ≡ true) (sym rest_doubled)
        (distinct_from (doubled (end_point v)) (behind (end_point v) rest.steps)
        (λ m. not_in_both (doubled_of v) (behind (end_point v) rest.steps) (doubled (end_point v)) parts_once (end_on_way v.start v.steps) m)
        (distinct_second (doubled_of v) (behind (end_point v) rest.steps) parts_once))

    -- both parts have the point between them alone
    pub met_between : (d : GridPoint) → In d (doubled_of v) → In d (doubled_of rest) → d ≡ doubled rest.start
    met_between d m n = which (subst (λ (xs : List GridPoint). In d xs) rest_doubled n)
      where
        which : In d (doubled (end_point v) ∷ behind (end_point v) rest.steps) → d ≡ doubled rest.start
        which (inl e) = e ∙ ap doubled (sym split.next)
        which (inr k) = absurd (not_in_both (doubled_of v) (behind (end_point v) rest.steps) d parts_once m k)

    pub start_once : In (doubled w.start) (doubled_of rest) → ⊥
    start_once n =
        start_not_end v.start v.steps split.some first_once
        (ap doubled split.start ∙ met_between (doubled w.start) (subst (λ (q : GridPoint). In (doubled q) (doubled_of v)) split.start (start_on_way v.start v.steps)) n ∙ ap doubled split.next)

    pub end_once : In (doubled (end_point w)) (doubled_of v) → ⊥
    end_once m =
        let in_rest : In (doubled (end_point w)) (doubled_of rest) = subst (λ (q : GridPoint). In (doubled q) (doubled_of rest)) (sym split_end) (end_on_way rest.start rest.steps) in
        start_not_end rest.start rest.steps split.more second_once (sym (met_between (doubled (end_point w)) m in_rest) ∙ ap doubled split_end)

    -- and a walk doesn't turn back between them
    pub no_turn_back : (a b : Dir) → end_port v ≡ Some a → start_port rest ≡ Some b → a ≡ b → ⊥
    no_turn_back a b ends begins same = by_last (some_end v.steps split.some)
      where
        first_middle : (p : GridPoint) (ds : List Dir) → slice_get ds 0 ≡ Some b → In (step_from (doubled p) b) (behind p ds)
        first_middle p [] e = cc
        first_middle p (d ∷ ds) e = let is : d ≡ b = cc in inl (ap (step_from (doubled p)) (sym is))

        by_last : (d : Dir) × (last_of v.steps ≡ Some d) → ⊥
        by_last (d, last) =
            let back : Some (reverse_of d) ≡ Some a = sym (ap (option_map reverse_of) last) ∙ ends in
            let turn : reverse_of d ≡ b = (let is : reverse_of d ≡ a = cc in is ∙ same) in
            not_in_both (doubled_of v) (behind (end_point v) rest.steps) (step_from (doubled (end_point v)) b) parts_once
            (subst (λ (g : Dir). In (step_from (doubled (end_point v)) g) (doubled_of v)) turn (last_middle v.start v.steps d last))
            (first_middle (end_point v) rest.steps begins)

-- two different ports stand clockwise in either order
turn_some : (a b : ℕ) → a ≤ 7 → b ≤ 7 → (a ≡ b → ⊥) → 0 < (b + 8 - a) % 8
turn_some a b low high apart = omega (arith, apart)

pub two_clockwise : (a b : Dir) → (a ≡ b → ⊥) → are_clockwise (a ∷ b ∷ []) ≡ true
two_clockwise a b apart =
    and_from (nat_lt 0 (clockwise_from a b)) true
    (lt-ltb 0 (clockwise_from a b) (turn_some (number_of a) (number_of b) (number_small a) (number_small b) (λ e. apart (sym (direction-number_of a) ∙ ap direction e ∙ direction-number_of b)))) refl
