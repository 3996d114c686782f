-- A walk from its end to its start: the same points, and the ports exchanged.
use Rattle.std.proofs.Common.{◌≡◌, refl, sym, ◌∙◌, ap, ap₂, subst, Bool, true, inl, inr, List, [], ◌∷◌, ◌++◌, map, reverse, Some, slice_get, option_map, ℤ, pos, ◌+ℤ◌, arith}
use Rattle.std.specs.List.{list_all}
use Rattle.std.proofs.lemmas.Int.{ints}
use Rattle.std.proofs.lemmas.List.{map-append, reverse-append}
use Rattle.octi_grid.specs.declared.dir.Dir.{Dir}
use Rattle.octi_grid.specs.declared.point.GridPoint.{GridPoint}
use Rattle.octi_grid.specs.Ways.{after, doubled, doubled_from, east_of, north_of, points_from, reverse_of, step_from}
use Rattle.octi_grid.specs.Walks.{doubled_of, end_point, end_port, last_of, points_of, start_port, PlainWalk}
use Rattle.octi_grid.specs.Legal.{are_distinct}
use Rattle.octi_grid.proofs.Members.{all_at, all_from, in_append, in_left, in_right, In}
use Rattle.octi_grid.proofs.MeetsLemmas.{distinct_not_later, distinct_push, distinct_rest}
use Rattle.octi_grid.proofs.WayLemmas.{after-append, same_point}
use Rattle.walk_search.proofs.Turning.{step_back, east_back, north_back, of_eight}
use Rattle.run_laying.specs.Pieces.{reversed_walk}

-- directions back
abbrev pub turned : List Dir → List Dir
turned ds = map reverse_of (reverse ds)

turned-cons : (d : Dir) (ds : List Dir) → turned (d ∷ ds) ≡ turned ds ++ reverse_of d ∷ []
turned-cons d ds = ap (map reverse_of) (reverse-append (d ∷ []) ds) ∙ map-append reverse_of (reverse ds) (d ∷ [])

pub twice : (d : Dir) → reverse_of (reverse_of d) ≡ d
twice = of_eight (λ d. reverse_of (reverse_of d) ≡ d) refl refl refl refl refl refl refl refl

-- where they lead, and over what
pub back_to : (p : GridPoint) (ds : List Dir) → after (after p ds) (turned ds) ≡ p
back_to p [] = refl
back_to p (d ∷ ds) =
    ap (after (after (step_from p d) ds)) (turned-cons d ds)
    ∙ after-append (after (step_from p d) ds) (turned ds) (reverse_of d ∷ [])
    ∙ ap (λ (q : GridPoint). step_from q (reverse_of d)) (back_to (step_from p d) ds)
    ∙ step_back p d

middle_of : (z e f : ℤ) → (e +ℤ f) ≡ pos 0 → (((z +ℤ e) +ℤ (z +ℤ e)) +ℤ f) ≡ ((z +ℤ z) +ℤ e)
middle_of z e f h = omega (arith, ints)

pub middle_back : (p : GridPoint) (d : Dir) → step_from (doubled (step_from p d)) (reverse_of d) ≡ step_from (doubled p) d
middle_back p d = same_point (middle_of p.x (east_of d) (east_of (reverse_of d)) (east_back d)) (middle_of p.y (north_of d) (north_of (reverse_of d)) (north_back d))

doubled_from-push : (p : GridPoint) (ds : List Dir) (e : Dir) → doubled_from p (ds ++ e ∷ []) ≡ doubled_from p ds ++ step_from (doubled (after p ds)) e ∷ doubled (step_from (after p ds) e) ∷ []
doubled_from-push p [] e = refl
doubled_from-push p (d ∷ ds) e = ap (λ (v : List GridPoint). doubled p ∷ step_from (doubled p) d ∷ v) (doubled_from-push (step_from p d) ds e)

points_from-push : (p : GridPoint) (ds : List Dir) (e : Dir) → points_from p (ds ++ e ∷ []) ≡ points_from p ds ++ step_from (after p ds) e ∷ []
points_from-push p [] e = refl
points_from-push p (d ∷ ds) e = ap (λ (v : List GridPoint). p ∷ v) (points_from-push (step_from p d) ds e)

doubled_back : (p : GridPoint) (ds : List Dir) → doubled_from (after p ds) (turned ds) ≡ reverse (doubled_from p ds)
doubled_back p [] = refl
doubled_back p (d ∷ ds) =
    ap (doubled_from a) (turned-cons d ds)
    ∙ doubled_from-push a (turned ds) (reverse_of d)
    ∙ ap₂ (λ (u v : List GridPoint). u ++ v) (doubled_back q ds)
    (ap (λ (r : GridPoint). step_from (doubled r) (reverse_of d) ∷ doubled (step_from r (reverse_of d)) ∷ []) (back_to q ds)
    ∙ ap₂ (λ (x y : GridPoint). x ∷ y ∷ []) (middle_back p d) (ap doubled (step_back p d)))
    ∙ sym (reverse-append (doubled p ∷ step_from (doubled p) d ∷ []) (doubled_from q ds))
  where
    q : GridPoint
    q = step_from p d

    a : GridPoint
    a = after q ds

points_back : (p : GridPoint) (ds : List Dir) → points_from (after p ds) (turned ds) ≡ reverse (points_from p ds)
points_back p [] = refl
points_back p (d ∷ ds) =
    ap (points_from (after (step_from p d) ds)) (turned-cons d ds)
    ∙ points_from-push (after (step_from p d) ds) (turned ds) (reverse_of d)
    ∙ ap₂ (λ (u v : List GridPoint). u ++ v) (points_back (step_from p d) ds)
    (ap (λ (r : GridPoint). step_from r (reverse_of d) ∷ []) (back_to (step_from p d) ds) ∙ ap (λ (x : GridPoint). x ∷ []) (step_back p d))
    ∙ sym (reverse-append (p ∷ []) (points_from (step_from p d) ds))

-- lists from back to front
in_back : (xs : List GridPoint) (x : GridPoint) → In x (reverse xs) → In x xs
in_back [] x m = m
in_back (y ∷ ys) x m =
    elim (in_append x (reverse ys) (y ∷ []) (subst (λ (v : List GridPoint). In x v) (reverse-append (y ∷ []) ys) m)) [
      | inl k ↦ inr (in_back ys x k)
      | inr k ↦ elim k [ inl e ↦ inl e | inr n ↦ absurd n ]
    ]

to_back : (xs : List GridPoint) (x : GridPoint) → In x xs → In x (reverse xs)
to_back [] x m = m
to_back (y ∷ ys) x (inl e) =
    subst (λ (v : List GridPoint). In x v) (sym (reverse-append (y ∷ []) ys)) (in_right x (reverse ys) (y ∷ []) (inl e))
to_back (y ∷ ys) x (inr m) =
    subst (λ (v : List GridPoint). In x v) (sym (reverse-append (y ∷ []) ys))
    (in_left x (reverse ys) (y ∷ []) (to_back ys x m))

distinct_back : (ps : List GridPoint) → are_distinct ps ≡ true → are_distinct (reverse ps) ≡ true
distinct_back [] e = refl
distinct_back (p ∷ ps) e =
    subst (λ (v : List GridPoint). are_distinct v ≡ true) (sym (reverse-append (p ∷ []) ps))
    (distinct_push (reverse ps) p (distinct_back ps (distinct_rest p ps e)) (λ m. distinct_not_later p ps e (in_back ps p m)))

-- so a walk from its end
pub back_end : (w : PlainWalk) → end_point (reversed_walk w) ≡ w.start
back_end w = back_to w.start w.steps

-- and back again
turned-push : (ds : List Dir) (e : Dir) → turned (ds ++ e ∷ []) ≡ reverse_of e ∷ turned ds
turned-push ds e = ap (map reverse_of) (reverse-append ds (e ∷ []))

turned_again : (ds : List Dir) → turned (turned ds) ≡ ds
turned_again [] = refl
turned_again (d ∷ ds) = ap turned (turned-cons d ds) ∙ turned-push (turned ds) (reverse_of d) ∙ ap₂ (λ (e : Dir) (es : List Dir). e ∷ es) (twice d) (turned_again ds)

pub back_again : (w : PlainWalk) → reversed_walk (reversed_walk w) ≡ w
back_again w = ap₂ (λ (p : GridPoint) (ds : List Dir). (let v : PlainWalk = record { start = p; steps = ds } in v)) (back_end w) (turned_again w.steps)

pub back_doubled : (w : PlainWalk) (d : GridPoint) → In d (doubled_of (reversed_walk w)) → In d (doubled_of w)
back_doubled w d m = in_back (doubled_of w) d (subst (λ (v : List GridPoint). In d v) (doubled_back w.start w.steps) m)

pub doubled_there : (w : PlainWalk) (d : GridPoint) → In d (doubled_of w) → In d (doubled_of (reversed_walk w))
doubled_there w d m = subst (λ (v : List GridPoint). In d v) (sym (doubled_back w.start w.steps)) (to_back (doubled_of w) d m)

pub back_once : (w : PlainWalk) → are_distinct (doubled_of w) ≡ true → are_distinct (doubled_of (reversed_walk w)) ≡ true
back_once w e = subst (λ (v : List GridPoint). are_distinct v ≡ true) (sym (doubled_back w.start w.steps)) (distinct_back (doubled_of w) e)

pub back_within : (test : GridPoint → Bool) (w : PlainWalk) → list_all test (points_of w) ≡ true → list_all test (points_of (reversed_walk w)) ≡ true
back_within test w e =
    all_from test (points_of (reversed_walk w)) (λ x m. all_at test (points_of w) x e (in_back (points_of w) x (subst (λ (v : List GridPoint). In x v) (points_back w.start w.steps) m)))

-- and its ports
first_stays : (xs : List Dir) (x y : Dir) → slice_get xs 0 ≡ Some x → slice_get (xs ++ y ∷ []) 0 ≡ slice_get xs 0
first_stays [] x y e = cc
first_stays (z ∷ zs) x y e = refl

last_push : (xs : List Dir) (y : Dir) → last_of (xs ++ y ∷ []) ≡ Some y
last_push [] y = refl
last_push (x ∷ []) y = refl
last_push (x ∷ z ∷ zs) y = last_push (z ∷ zs) y

some_last : (d : Dir) (ds : List Dir) → (e : Dir) × (last_of (d ∷ ds) ≡ Some e)
some_last d [] = (d, refl)
some_last d (e ∷ es) = some_last e es

start_back : (ds : List Dir) → slice_get (turned ds) 0 ≡ option_map reverse_of (last_of ds)
start_back [] = refl
start_back (d ∷ []) = refl
start_back (d ∷ e ∷ es) =
    let last = some_last e es in
    let before = start_back (e ∷ es) in
    ap (λ (v : List Dir). slice_get v 0) (turned-cons d (e ∷ es))
    ∙ first_stays (turned (e ∷ es)) (reverse_of last.0) (reverse_of d) (before ∙ ap (option_map reverse_of) last.1)
    ∙ before

end_back : (ds : List Dir) → option_map reverse_of (last_of (turned ds)) ≡ slice_get ds 0
end_back [] = refl
end_back (d ∷ ds) =
    ap (λ (v : List Dir). option_map reverse_of (last_of v)) (turned-cons d ds)
    ∙ ap (option_map reverse_of) (last_push (turned ds) (reverse_of d))
    ∙ ap (λ (e : Dir). Some e) (twice d)

pub back_start_port : (w : PlainWalk) → start_port (reversed_walk w) ≡ end_port w
back_start_port w = start_back w.steps

pub back_end_port : (w : PlainWalk) → end_port (reversed_walk w) ≡ start_port w
back_end_port w = end_back w.steps
