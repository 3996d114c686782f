-- Walks step by step: their points, and what lies on them between two places.
use Rattle.std.proofs.Common.{◌≡◌, sym, ◌∙◌, ap, subst, ℕ, zero, suc, ◌+◌, ◌-◌, ◌<◌, ◌≤◌, Bool, true, List, [], ◌∷◌, ◌++◌, length, map, take, drop, reverse, get_or, arith, length-drop}
use Rattle.std.proofs.Math.Seq.{take-add}
use Rattle.run_laying.proofs.EvenCuts.{point_after}
use Rattle.drawing_search.proofs.Common.{after, after-append, and_parts, drop_more, end_point, get_or-drop}
use Rattle.drawing_search.proofs.Common.{length-points, list_all, list_all-points-append, map-append, piece_along}
use Rattle.drawing_search.proofs.Common.{point_at, points_from, points_of, reverse-append, reverse_of, step_from}
use Rattle.drawing_search.proofs.Common.{take-append-drop, take_more, AllByRecursion, Dir, GridPoint, IsTrack, IsWithin}

within_at : (P : GridPoint → Type 0) (p : GridPoint) (ds : List Dir) (i : ℕ) → i ≤ length ds → AllByRecursion P (points_from p ds) → P (point_at (points_from p ds) i)
within_at P p [] zero h all = all.0
within_at P p [] (suc i) h all = absurd (omega arith)
within_at P p (d ∷ ds) zero h all = all.0
within_at P p (d ∷ ds) (suc i) h all = within_at P (step_from p d) ds i (omega arith) all.1

module _ (points : List GridPoint) (steps : List Dir) (t : IsTrack points steps) where
  pub long : length points ≡ suc (length steps)
  long = ap length t.points_are ∙ length-points (point_at points 0) steps

  -- the point after so many steps
  at_is : (i : ℕ) → i ≤ length steps → point_at points i ≡ after (point_at points 0) (take i steps)
  at_is i h = ap (λ (ps : List GridPoint). point_at ps i) t.points_are ∙ point_after (point_at points 0) steps i h

  pub point_within : (i : ℕ) → i ≤ length steps → IsWithin (point_at points i)
  point_within i h = subst (λ (ps : List GridPoint). IsWithin (point_at ps i)) (sym t.points_are) (within_at IsWithin (point_at points 0) steps i h t.walk.within)

  pub on_step : (i : ℕ) (d : Dir) → i < length steps → point_at points (i + 1) ≡ step_from (point_at points i) (get_or steps i d)
  on_step i d h =
      at_is (i + 1) (omega arith)
      ∙ ap (after (point_at points 0)) (take_more steps i d h)
      ∙ after-append (point_at points 0) (take i steps) (get_or steps i d ∷ [])
      ∙ ap (λ (p : GridPoint). step_from p (get_or steps i d)) (sym (at_is i (omega arith)))

  -- a piece leads from the one place to the other
  pub piece_end : (a b : ℕ) → a ≤ b → b ≤ length steps → end_point (piece_along points steps a b) ≡ point_at points b
  piece_end a b order h =
      ap (λ (p : GridPoint). after p (take (b - a) (drop a steps))) (at_is a (omega arith))
      ∙ sym (after-append (point_at points 0) (take a steps) (take (b - a) (drop a steps)))
      ∙ ap (after (point_at points 0)) (sym (take-add a (b - a) steps))
      ∙ ap (λ n. after (point_at points 0) (take n steps)) whole
      ∙ sym (at_is b h)
    where
      whole : a + (b - a) ≡ b
      whole = omega arith

  -- what holds of all points holds of those of a piece
  pub piece_all : (test : GridPoint → Bool) (a b : ℕ) → a ≤ b → b ≤ length steps → list_all test points ≡ true → list_all test (points_of (piece_along points steps a b)) ≡ true
  piece_all test a b order h all =
      let start = point_at points 0 in
      let joined : list_all test (points_from start (take a steps ++ drop a steps)) ≡ true =
      ap (λ (ds : List Dir). list_all test (points_from start ds)) (take-append-drop a steps) ∙ sym (ap (list_all test) t.points_are) ∙ all in
      let rest = (and_parts (list_all test (points_from start (take a steps))) (list_all test (points_from (after start (take a steps)) (drop a steps))) (sym (list_all-points-append test start (take a steps) (drop a steps)) ∙ joined)).1 in
      let parted : list_all test (points_from (after start (take a steps)) (take (b - a) (drop a steps) ++ drop (b - a) (drop a steps))) ≡ true =
      ap (λ (ds : List Dir). list_all test (points_from (after start (take a steps)) ds)) (take-append-drop (b - a) (drop a steps)) ∙ rest in
      ap (λ (p : GridPoint). list_all test (points_from p (take (b - a) (drop a steps)))) (at_is a (omega arith))
      ∙ (and_parts (list_all test (points_from (after start (take a steps)) (take (b - a) (drop a steps)))) (list_all test (points_from (after (after start (take a steps)) (take (b - a) (drop a steps))) (drop (b - a) (drop a steps))))
      (sym (list_all-points-append test (after start (take a steps)) (take (b - a) (drop a steps)) (drop (b - a) (drop a steps))) ∙ parted)).0

  -- and with a step more at its end
  pub piece_more : (a b : ℕ) (d : Dir) → a ≤ b → b < length steps → take (b + 1 - a) (drop a steps) ≡ take (b - a) (drop a steps) ++ get_or steps b d ∷ []
  piece_more a b d order h =
      ap (λ n. take n (drop a steps)) more
      ∙ take_more (drop a steps) (b - a) d (omega (arith, length-drop a steps))
      ∙ ap (λ (e : Dir). take (b - a) (drop a steps) ++ e ∷ []) (get_or-drop a steps (b - a) d ∙ ap (λ n. get_or steps n d) whole)
    where
      more : b + 1 - a ≡ b - a + 1
      more = omega arith

      whole : a + (b - a) ≡ b
      whole = omega arith

  -- or one more at its start, walked back
  pub back_more : (a b : ℕ) (d : Dir) → a + 1 ≤ b → b ≤ length steps
      → map reverse_of (reverse (take (b - a) (drop a steps))) ≡ map reverse_of (reverse (take (b - (a + 1)) (drop (a + 1) steps))) ++ reverse_of (get_or steps a d) ∷ []
  back_more a b d order h =
      ap (λ (ds : List Dir). map reverse_of (reverse (take (b - a) ds))) (drop_more steps a d (omega arith))
      ∙ ap (λ n. map reverse_of (reverse (take n (get_or steps a d ∷ drop (a + 1) steps)))) one_more
      ∙ ap (map reverse_of) (reverse-append (get_or steps a d ∷ []) (take (b - (a + 1)) (drop (a + 1) steps)))
      ∙ map-append reverse_of (reverse (take (b - (a + 1)) (drop (a + 1) steps))) (get_or steps a d ∷ [])
    where
      one_more : b - a ≡ suc (b - (a + 1))
      one_more = omega arith
