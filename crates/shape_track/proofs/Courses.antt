-- The pieces of a course are kept one by one.
use Rattle.std.proofs.Common.{◌≡◌, sym, ◌∙◌, ap, subst, ℕ, ◌+◌, ◌-◌, ◌<◌, ◌≤◌, List, [], ◌∷◌, length, drop, None, pos, arith, drop-cons, add-one}
use Rattle.std.proofs.lemmas.List.{drop_all}
use Rattle.map_base.specs.declared.point.Point.{Point}
use Rattle.shape_track.specs.Samples.{point_at, piece_points, cut_points, samples_of}
use Rattle.shape_track.specs.Sampling.{Kept, with_point, with_points}
use Rattle.shape_track.proofs.Keeping.{with_points-append, points-with_points, count-with_points_is, count-with_points}

-- a list from a place on begins with what stands there
pub from_place : (ps : List Point) (i : ℕ) → i < length ps → drop i ps ≡ point_at ps i ∷ drop (i + 1) ps
from_place ps i below = drop-cons ps i (record { x = pos 0; y = pos 0 }) below ∙ ap (λ n. point_at ps i ∷ drop n ps) (sym (add-one i))

-- what is kept after a piece, and what then is left, come to the whole course
pub course_step : (near : ℕ) (ps : List Point) (i : ℕ) (k w : Kept) → 0 < i → i < length ps → with_points k (cut_points near (drop (i - 1) ps)) ≡ w →
    with_points (with_points k (piece_points near (point_at ps (i - 1)) (point_at ps i))) (cut_points near (drop (i + 1 - 1) ps)) ≡ w
course_step near ps i k w some below whole =
    let p = point_at ps (i - 1) in
    let q = point_at ps i in
    let here : i + 1 - 1 ≡ i = omega arith in
    let back : i - 1 + 1 ≡ i = omega arith in
    let rest : drop i ps ≡ q ∷ drop (i + 1) ps = from_place ps i below in
    let both : drop (i - 1) ps ≡ p ∷ (q ∷ drop (i + 1) ps) =
    from_place ps (i - 1) (omega arith) ∙ ap (λ n. p ∷ drop n ps) back ∙ ap (λ xs. p ∷ xs) rest in
    ap (λ n. with_points (with_points k (piece_points near p q)) (cut_points near (drop n ps))) here
    ∙ ap (λ xs. with_points (with_points k (piece_points near p q)) (cut_points near xs)) rest
    ∙ sym (with_points-append k (piece_points near p q) (cut_points near (q ∷ drop (i + 1) ps)))
    ∙ sym (ap (λ xs. with_points k (cut_points near xs)) both) ∙ whole

-- at the last point only that is left
pub course_end : (near : ℕ) (ps : List Point) (i : ℕ) (k w : Kept) → i ≡ length ps → 0 < length ps → with_points k (cut_points near (drop (i - 1) ps)) ≡ w →
    with_point k (point_at ps (length ps - 1)) ≡ w
course_end near ps i k w at_end some whole =
    let n = length ps - 1 in
    let last : n ≡ i - 1 = omega arith in
    let only : drop n ps ≡ point_at ps n ∷ [] = from_place ps n (omega arith) ∙ ap (λ xs. point_at ps n ∷ xs) (drop_all (n + 1) ps (omega arith)) in
    sym (ap (λ xs. with_points k (cut_points near xs)) only) ∙ ap (λ m. with_points k (cut_points near (drop m ps))) last ∙ whole

-- a course that is kept from nothing on are its samples, counted
pub kept_from_nothing : (near count : ℕ) (ps : List Point) (k : Kept) → with_points (record { points = []; before = None; count = count }) (cut_points near ps) ≡ k →
    (k.points ≡ samples_of near ps) × (k.count ≡ count + length (samples_of near ps))
kept_from_nothing near count ps k is =
    let start : Kept = record { points = []; before = None; count = count } in (
      sym (ap (λ (w : Kept). w.points) is) ∙ points-with_points start (cut_points near ps),
      sym (ap (λ (w : Kept). w.count) is) ∙ count-with_points_is start (cut_points near ps),
    )

-- what is kept of a part of a course is counted of the whole
pub kept_of_part : (k w : Kept) (ps : List Point) → with_points k ps ≡ w → k.count ≤ w.count
kept_of_part k w ps is = subst (λ (v : Kept). k.count ≤ v.count) is (count-with_points k ps)
