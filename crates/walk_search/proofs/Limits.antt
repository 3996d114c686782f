-- Routes up to a limit.
use Rattle.std.proofs.Common.{◌≡◌, refl, sym, ◌∙◌, ap, ap₂, ℕ, ◌+◌, ◌*◌, ◌^◌, ◌<◌, inl, inr, true, false, cond, List, ◌∷◌, length, map, Option, Some, None, ℤ, ◌-ℤ◌, unsigned_abs, arith}
use Rattle.std.specs.Prelude.{IfSome}
use Rattle.std.proofs.lemmas.Int.{ints}
use Rattle.std.proofs.lemmas.Bool.{and_parts, lt-leb}
use Rattle.octi_grid.specs.declared.point.GridPoint.{GridPoint}
use Rattle.octi_grid.specs.Ways.{number_of}
use Rattle.octi_grid.specs.Walks.{PlainWalk, cost_of, end_point}
use Rattle.state_search.specs.Goals.{PathTo}
use Rattle.state_search.specs.Searching.{IsBeyond}
use Rattle.grid_board.specs.Boards.{BoardParts}
use Rattle.walk_search.specs.declared.ends.End.{End}
use Rattle.walk_search.specs.Seats.{seat_cost}
use Rattle.walk_search.specs.Routes.{if_within, is_free, route, total_of, IsRouteUpTo}
use Rattle.walk_search.specs.Spots.{spots_of}
use Rattle.walk_search.specs.Moves.{Question, IsQuestion, space_of}
use Rattle.walk_search.specs.Walked.{IsAnswer}
use Rattle.walk_search.proofs.Best.{route_free, route_short}
use Rattle.walk_search.proofs.FreeWalks.{path_of_walk, settled_at, HasPath}
use Rattle.walk_search.proofs.Routing.{answer_is_route}

-- an answer that is the route is that up to a limit too
pub route_upto : (limit : Option ℕ) (from to : End) (r walk : Option PlainWalk) → walk ≡ r → IsRouteUpTo limit from to r walk
route_upto None from to r walk e = e
route_upto (Some limit) from to r walk e = inl e

-- and a walk of few steps
pub answer_short : (q : Question) → IsQuestion q → (o : Option PlainWalk) → IsAnswer q o → IfSome o (λ (w : PlainWalk). length w.steps < 2 ^ 60)
answer_short q h None answer = tt
answer_short q h (Some w) answer = route_short q h w (sym (answer_is_route q h (Some w) answer))

-- where no path is within a limit, no route is
pub route_beyond : (q : Question) → IsQuestion q → (limit : Option ℕ) → ((labels : List ℕ) (k : ℕ) → PathTo (space_of q) (spots_of q.board.bounds) labels k → IsBeyond limit k)
    → IsRouteUpTo limit q.from q.to (route q.board q.from q.to) None
route_beyond q h None never = answer_is_route q h None never
route_beyond q h (Some limit) beyond = inr (refl, λ w e. of_path w (path_of_walk q h w.start w.steps (route_free q w e)))
  where
    of_path : (w : PlainWalk) → HasPath q (record { start = w.start; steps = w.steps }) → limit < total_of q.from q.to w + 1
    of_path w path = beyond (path.place ∷ map number_of w.steps) (total_of q.from q.to w + 1) path.path

-- the seats of settled ends cost nothing
none_apart : (a : ℤ) → unsigned_abs (a -ℤ a) ≡ 0
none_apart a = omega (arith, ints)

no_seat_cost : (p q : GridPoint) → p ≡ q → seat_cost q p ≡ 0
no_seat_cost p q e = ap (λ (x : GridPoint). seat_cost q x) e ∙ ap₂ (λ m n. 5 * (m + n)) (none_apart q.x) (none_apart q.y)

abbrev pub settled : GridPoint → ℕ → End
settled p ports = record { at = p; is_free = false; ports = ports }

pub total_settled : (board : BoardParts) (from to : GridPoint) (m n : ℕ) (w : PlainWalk) → is_free board (settled from m) (settled to n) w ≡ true → total_of (settled from m) (settled to n) w ≡ cost_of w
total_settled board from to m n w free =
    let seven = and_parts _ _ free in
    let six = and_parts _ _ seven.0 in
    let five = and_parts _ _ six.0 in
    let four = and_parts _ _ five.0 in
    let three = and_parts _ _ four.0 in
    let two = and_parts _ _ three.0 in
    let one = and_parts _ _ two.0 in
    let start : seat_cost from w.start ≡ 0 = no_seat_cost w.start from (settled_at board (settled from m) w.start refl one.0) in
    let end : seat_cost to (end_point w) ≡ 0 = no_seat_cost (end_point w) to (settled_at board (settled to n) (end_point w) refl one.1) in
    omega (arith, start, end)

-- what a search up to a limit gives, as far as it costs at most so much
pub within_upto : (board : BoardParts) (from to : GridPoint) (m n most : ℕ) (found : Option PlainWalk) → IsRouteUpTo (Some (most + 1)) (settled from m) (settled to n) (route board (settled from m) (settled to n)) found
    → if_within most found ≡ if_within most (route board (settled from m) (settled to n))
within_upto board from to m n most found (inl e) = ap (if_within most) e
within_upto board from to m n most found (inr h) = ap (if_within most) h.0 ∙ of_route (route board (settled from m) (settled to n)) refl
  where
    q : Question
    q = record { board = board; from = settled from m; to = settled to n }

    of_route : (r : Option PlainWalk) → route board (settled from m) (settled to n) ≡ r → if_within most None ≡ if_within most r
    of_route None e = refl
    of_route (Some w) e =
        let above = h.1 w e in
        let same = total_settled board from to m n w (route_free q w e) in
        let dear : most < cost_of w = omega (arith, above, same) in
        sym (ap (λ t. cond t (Some w) None) (lt-leb (cost_of w) most dear))
