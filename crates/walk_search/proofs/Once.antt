-- A route has no doubled point twice.
use Rattle.std.proofs.Common.{◌≡◌, refl, sym, ◌∙◌, ap, subst, ◌⊎◌, inl, inr, true, not, ◌&&◌, List, [], ◌∷◌, ◌++◌, append_assoc, Some, arith, ◌<◌}
use Rattle.std.proofs.lemmas.Bool.{and_from, not_from_false}
use Rattle.octi_grid.specs.declared.dir.Dir.{Dir}
use Rattle.octi_grid.specs.declared.point.GridPoint.{GridPoint}
use Rattle.octi_grid.specs.Ways.{after, doubled, doubled_from, step_from}
use Rattle.octi_grid.specs.Walks.{PlainWalk, doubled_of}
use Rattle.octi_grid.specs.Legal.{are_distinct, is_among}
use Rattle.octi_grid.proofs.Members.{In, not_among}
use Rattle.octi_grid.proofs.WayLemmas.{after-append}
use Rattle.walk_search.specs.Routes.{route, total_of}
use Rattle.walk_search.specs.Moves.{Question, IsQuestion}
use Rattle.walk_search.proofs.FreeWalks.{never_middle, same_doubled}
use Rattle.walk_search.proofs.Best.{route_cheapest, route_free}
use Rattle.walk_search.proofs.Crossing.{Crosses, meeting}
use Rattle.walk_search.proofs.Cutting.{HasCheaper, IsFreeBy, cut_crossing, cut_loop, free_by}

-- a doubled point of a way is that of one of its points, or the middle of a step
record IsPointOf (r p : GridPoint) (ds : List Dir) : Type 0 where
  before : List Dir
  rest : List Dir
  splits : ds ≡ before ++ rest
  is : r ≡ doubled (after p before)

record IsMiddleOf (r p : GridPoint) (ds : List Dir) : Type 0 where
  before : List Dir
  step : Dir
  rest : List Dir
  splits : ds ≡ before ++ step ∷ rest
  is : r ≡ step_from (doubled (after p before)) step

where_doubled : (r p : GridPoint) (ds : List Dir) → In r (doubled_from p ds) → IsPointOf r p ds ⊎ IsMiddleOf r p ds
where_doubled r p [] (inl e) = inl (record { before = []; rest = []; splits = refl; is = e })
where_doubled r p [] (inr h) = absurd h
where_doubled r p (d ∷ ds) (inl e) = inl (record { before = []; rest = d ∷ ds; splits = refl; is = e })
where_doubled r p (d ∷ ds) (inr (inl e)) = inr (record { before = []; step = d; rest = ds; splits = refl; is = e })
where_doubled r p (d ∷ ds) (inr (inr h)) = elim (where_doubled r (step_from p d) ds h) [
  | inl a ↦ inl (record { before = d ∷ a.before; rest = a.rest; splits = ap (λ es. d ∷ es) a.splits; is = a.is })
  | inr a ↦ inr (record { before = d ∷ a.before; step = a.step; rest = a.rest; splits = ap (λ es. d ∷ es) a.splits; is = a.is })
]

-- where a walk has a doubled point twice, there is one that costs less
point_again : (q : Question) → IsQuestion q → (start : GridPoint) (us : List Dir) (d : Dir) (ds : List Dir) → IsFreeBy q start (us ++ d ∷ ds) → IsPointOf (doubled (after start us)) (step_from (after start us) d) ds →
    HasCheaper q start (us ++ d ∷ ds)
point_again q h start us d ds f a =
    subst (λ (es : List Dir). HasCheaper q start (us ++ d ∷ es)) (sym a.splits)
    (cut_loop q h start us d a.before a.rest (subst (λ (es : List Dir). IsFreeBy q start (us ++ d ∷ es)) a.splits f)
    (sym (same_doubled (after start us) (after (step_from (after start us) d) a.before) a.is)))

middle_again : (q : Question) → IsQuestion q → (start : GridPoint) (us : List Dir) (d : Dir) (ds : List Dir) → IsFreeBy q start (us ++ d ∷ ds) → IsMiddleOf (step_from (doubled (after start us)) d) (step_from (after start us) d) ds →
    HasCheaper q start (us ++ d ∷ ds)
middle_again q h start us d ds f a =
    subst (λ (es : List Dir). HasCheaper q start (us ++ d ∷ es)) (sym a.splits) (of_meeting (subst (λ (es : List Dir). IsFreeBy q start (us ++ d ∷ es)) a.splits f) (meeting here d there a.step a.is))
  where
    here : GridPoint
    here = after start us

    there : GridPoint
    there = after (step_from (after start us) d) a.before

    longer : a.before ++ a.step ∷ a.rest ≡ (a.before ++ a.step ∷ []) ++ a.rest
    longer = sym (append_assoc a.before (a.step ∷ []) a.rest)

    of_meeting : IsFreeBy q start (us ++ d ∷ (a.before ++ a.step ∷ a.rest)) → (here ≡ there) ⊎ ((here ≡ step_from there a.step) ⊎ Crosses here d there a.step) → HasCheaper q start (us ++ d ∷ (a.before ++ a.step ∷ a.rest))
    of_meeting g (inl same) = cut_loop q h start us d a.before (a.step ∷ a.rest) g (sym same)
    of_meeting g (inr (inl back)) =
        subst (λ (es : List Dir). HasCheaper q start (us ++ d ∷ es)) (sym longer)
        (cut_loop q h start us d (a.before ++ a.step ∷ []) a.rest (subst (λ (es : List Dir). IsFreeBy q start (us ++ d ∷ es)) longer g)
        (after-append (step_from (after start us) d) a.before (a.step ∷ []) ∙ sym back))
    of_meeting g (inr (inr cross)) = cut_crossing q h start us d a.before a.step a.rest g cross

-- so a free walk than which none costs less has none
distinct_from : (q : Question) → IsQuestion q → (start : GridPoint) (steps : List Dir) → IsFreeBy q start steps → (HasCheaper q start steps → ⊥) → (us rest : List Dir) → steps ≡ us ++ rest →
    are_distinct (doubled_from (after start us) rest) ≡ true
distinct_from q h start steps f least us [] e = refl
distinct_from q h start steps f least us (d ∷ ds) e =
    and_from (not (is_among (middle ∷ doubled_from (step_from here d) ds) (doubled here))) (not (is_among (doubled_from (step_from here d) ds) middle) && are_distinct (doubled_from (step_from here d) ds))
    (not_from_false (is_among (middle ∷ doubled_from (step_from here d) ds) (doubled here)) (not_among (middle ∷ doubled_from (step_from here d) ds) (doubled here) no_point))
    (and_from (not (is_among (doubled_from (step_from here d) ds) middle)) (are_distinct (doubled_from (step_from here d) ds))
    (not_from_false (is_among (doubled_from (step_from here d) ds) middle) (not_among (doubled_from (step_from here d) ds) middle no_middle))
    (subst (λ (p : GridPoint). are_distinct (doubled_from p ds) ≡ true) (after-append start us (d ∷ []))
    (distinct_from q h start steps f least (us ++ d ∷ []) ds (e ∙ sym (append_assoc us (d ∷ []) ds)))))
  where
    here : GridPoint
    here = after start us

    middle : GridPoint
    middle = step_from (doubled (after start us)) d

    whole : IsFreeBy q start (us ++ d ∷ ds)
    whole = subst (IsFreeBy q start) e f

    none : HasCheaper q start (us ++ d ∷ ds) → ⊥
    none c = least (subst (HasCheaper q start) (sym e) c)

    no_point : In (doubled here) (middle ∷ doubled_from (step_from here d) ds) → ⊥
    no_point (inl k) = never_middle here here d k
    no_point (inr k) = elim (where_doubled (doubled here) (step_from here d) ds k) [
      | inl a ↦ none (point_again q h start us d ds whole a)
      | inr a ↦ never_middle here (after (step_from here d) a.before) a.step a.is
    ]

    no_middle : In middle (doubled_from (step_from here d) ds) → ⊥
    no_middle k = elim (where_doubled middle (step_from here d) ds k) [
      | inl a ↦ never_middle (after (step_from here d) a.before) here d (sym a.is)
      | inr a ↦ none (middle_again q h start us d ds whole a)
    ]

pub route_once : (q : Question) → IsQuestion q → (r : PlainWalk) → route q.board q.from q.to ≡ Some r → are_distinct (doubled_of r) ≡ true
route_once q h r e = distinct_from q h r.start r.steps (free_by q h r.start r.steps (route_free q r e)) least [] r.steps refl
  where
    least : HasCheaper q r.start r.steps → ⊥
    least c =
        let less : total_of q.from q.to c.walk < total_of q.from q.to r = c.less in
        omega (arith, less, route_cheapest q h r c.walk e c.free)
