-- What holds of names that are placed one after another.
use Rattle.std.proofs.Common.{◌≡◌, ℕ, Bool, true, false, ◌&&◌, not, List, [], ◌∷◌, cond, fold, Option, Some, None, refl, ap, sym, ◌∙◌}
use Rattle.std.specs.Prelude.{All}
use Rattle.std.specs.List.{find, list_all}
use Rattle.std.proofs.lemmas.Bool.{and_from}
use Rattle.std.proofs.lemmas.List.Elements.{All-head, All-tail}
use Rattle.poster_plan.specs.declared.plan.Plan.{Plan}
use Rattle.poster_plan.specs.declared.place.Place.{Place}
use Rattle.poster_plan.specs.declared.layout.Step.{Step}
use Rattle.poster_plan.specs.declared.layout.Printed.{Printed}
use Rattle.poster_plan.specs.Places.{places_in}
use Rattle.poster_plan.specs.Placing.{is_free, mark_numbered, place_names, place_next, with_place, Placing}
use Rattle.poster_plan.specs.Laws.{HasNoPlace}

-- what is found passes the test
pub found_passes : {A : Type 0} (test : A → Bool) (xs : List A) (x : A) → find test xs ≡ Some x → test x ≡ true
found_passes test [] x e = absurd cc
found_passes test (y ∷ ys) x e = by_test (found_passes test ys x) (test y) refl e
  where
    by_test : (find test ys ≡ Some x → test x ≡ true) → (b : Bool) → test y ≡ b → cond b (Some y) (find test ys) ≡ Some x → test x ≡ true
    by_test later true is f = let same : y ≡ x = cc in ap test (sym same) ∙ is
    by_test later false is f = later f

-- where nothing is found, nothing passes
pub none_passes : {A : Type 0} (test : A → Bool) (xs : List A) → find test xs ≡ None → list_all (λ x. not (test x)) xs ≡ true
none_passes test [] e = refl
none_passes test (y ∷ ys) e = by_test (none_passes test ys) (test y) refl e
  where
    by_test : (find test ys ≡ None → list_all (λ x. not (test x)) ys ≡ true) → (b : Bool) → test y ≡ b → cond b (Some y) (find test ys) ≡ None → (not (test y) && list_all (λ x. not (test x)) ys) ≡ true
    by_test later true is f = absurd cc
    by_test later false is f = and_from _ _ (ap not is) (later f)

-- A fact of placings that the name of each of these marks keeps, whether it finds a place that is free or none, holds after
-- all.
pub placings_keep : (u : ℕ) (plan : Plan) (z : Step) (P : Placing → Type 0) (Q : ℕ → Type 0)
    → ((so_far : Placing) (i : ℕ) (p : Place) → Q i → P so_far → is_free u plan so_far.printed z i p ≡ true → P (with_place z i (Some p) so_far))
    → ((so_far : Placing) (i : ℕ) → P so_far → HasNoPlace u plan z so_far.printed i → P (with_place z i None so_far))
    → (marks : List ℕ) (printed : List Printed) → All Q marks → P (record { printed = printed; left = [] }) → P (place_names u plan z marks printed)
placings_keep u plan z P Q some none marks printed of_marks start = along marks (record { printed = printed; left = [] }) of_marks start
  where
    next : (so_far : Placing) (i : ℕ) → Q i → P so_far → P (place_next u plan z so_far i)
    next so_far i is h = by_place (find (is_free u plan so_far.printed z i) (places_in z (mark_numbered plan.marks i).level)) refl
      where
        by_place : (o : Option Place) → find (is_free u plan so_far.printed z i) (places_in z (mark_numbered plan.marks i).level) ≡ o → P (with_place z i o so_far)
        by_place (Some p) e = some so_far i p is h (found_passes (is_free u plan so_far.printed z i) (places_in z (mark_numbered plan.marks i).level) p e)
        by_place None e = none so_far i h (none_passes (is_free u plan so_far.printed z i) (places_in z (mark_numbered plan.marks i).level) e)

    along : (ms : List ℕ) (so_far : Placing) → All Q ms → P so_far → P (fold (place_next u plan z) so_far ms)
    along [] so_far all h = h
    along (i ∷ ms) so_far all h = along ms (place_next u plan z so_far i) (All-tail Q i ms all) (next so_far i (All-head Q i ms all) h)

-- no more than a number
abbrev pub AnyMark : ℕ → Type 0
AnyMark i = Unit {0}

pub any_marks : (marks : List ℕ) → All AnyMark marks
any_marks marks k d lt = tt
