-- What a prefix knows, by the places of lines.
use Rattle.std.proofs.Common.{◌≡◌, ◌≢◌, ℕ, ◌<◌, ◌==◌, ◌||◌, ◌&&◌, nat_lt, cond, not, Bool, true, false, List, ◌∷◌, length, get_or, refl, sym, ◌∙◌, ap, Some, None, Option, arith}
use Rattle.std.specs.List.{Contains}
use Rattle.std.proofs.lemmas.List.Elements.{All-cons}
use Rattle.std.proofs.lemmas.List.{get_or-map, length-map, get_or_default}
use Rattle.map_base.specs.declared.ids.LineId.{LineId}
use Rattle.order_model.specs.Places.{has_line, place_of, no_place, place_in, places_in, are_adjacent}
use Rattle.order_model.specs.Prefixes.{is_placed, is_left, AreApart, ArePlacedLines}
use Rattle.order_model.specs.Looks.{first_of, first_at, neighbours_on, neighbours_at}
use Rattle.order_model.specs.Costs.{comes_before, are_neighbours}
use Rattle.order_model.proofs.PrefixLemmas.{few_apart, contains_placed}
use Rattle.order_model.proofs.PlaceLemmas.{no_line, place_below, line_at_place}
use Rattle.order_model.proofs.TableLemmas.{apart_once, no_place_is, before_in, beside_in}

-- what the table tells at the rank of a line
pub place_read : (lines placed : List LineId) (table : List ℕ) (a : LineId) (i n : ℕ) → Contains lines a → table ≡ places_in lines placed → i ≡ place_of lines a
    → n ≡ get_or table i n → n ≡ place_in placed a
place_read lines placed table a i n on made rank read =
    let within : i < length table = omega (arith, rank, place_below lines a on, ap length made, length-map lines (place_in placed)) in
    read ∙ get_or_default table i n 0 within ∙ ap (λ t. get_or t i 0) made ∙ ap (λ k. get_or (places_in lines placed) k 0) rank
    ∙ get_or-map (place_in placed) lines (place_of lines a) no_line 0 (place_below lines a on) ∙ ap (place_in placed) (line_at_place lines a on)

not_not : (b : Bool) → not (not b) ≡ b
not_not true = refl
not_not false = refl

-- a line has a place exactly where it is placed
pub has_place : (placed : List LineId) (a : LineId) → length placed < no_place → not (place_in placed a == no_place) ≡ is_placed placed a
has_place placed a short = ap not (no_place_is placed a short) ∙ not_not (is_placed placed a)

-- no line is left where all are placed
pub none_left : (lines placed : List LineId) (a : LineId) → ArePlacedLines lines placed → length placed ≡ length lines → false ≡ is_left lines placed a
none_left lines placed a ok whole = by_tests (has_line lines a) refl (is_placed placed a) refl
  where
    by_tests : (p : Bool) → has_line lines a ≡ p → (q : Bool) → is_placed placed a ≡ q → false ≡ (p && not q)
    by_tests false e q f = refl
    by_tests true e true f = refl
    by_tests true e false f = absurd (omega (arith, whole, few_apart (a ∷ placed) lines (f, ok.apart) (All-cons (Contains lines) a placed (contains_placed lines a e) ok.known)))

-- which of two lines stands first, by their places
pub first_by_place : (placed : List LineId) (a b : LineId) → length placed < no_place → a.0 ≢ b.0 → first_at (place_in placed a) (place_in placed b) ≡ first_of placed a b
first_by_place placed a b short differ = by_tests (place_in placed a == no_place) (place_in placed b == no_place) (is_placed placed a) (is_placed placed b) (no_place_is placed a short) (no_place_is placed b short)
  where
    here : Option Bool
    here = Some (nat_lt (place_in placed a) (place_in placed b))

    before : here ≡ Some (comes_before placed a b)
    before = ap (λ (t : Bool). Some t) (sym (before_in placed a b short differ))

    by_tests : (u v p q : Bool) → u ≡ not p → v ≡ not q → cond u (cond v None here) here ≡ cond (p || q) (Some (comes_before placed a b)) None
    by_tests u v true q e f = ap (λ t. cond t (cond v None here) here) e ∙ before
    by_tests u v false true e f = ap (λ t. cond t (cond v None here) here) e ∙ (ap (λ t. cond t None here) f ∙ before)
    by_tests u v false false e f = ap (λ t. cond t (cond v None here) here) e ∙ ap (λ t. cond t None here) f

pub neighbours_by_place : (lines placed : List LineId) (a b : LineId) → length placed < no_place → AreApart placed → a.0 ≢ b.0
    → neighbours_at (place_in placed a) (place_in placed b) (length placed) (length lines) ≡ neighbours_on lines placed a b
neighbours_by_place lines placed a b short apart differ =
    by_tests (is_placed placed a) refl (is_placed placed b) refl (no_place_is placed a short) (no_place_is placed b short)
  where
    by_tests : (p : Bool) → is_placed placed a ≡ p → (q : Bool) → is_placed placed b ≡ q
        → (place_in placed a == no_place) ≡ not (is_placed placed a) → (place_in placed b == no_place) ≡ not (is_placed placed b)
        → neighbours_at (place_in placed a) (place_in placed b) (length placed) (length lines) ≡ neighbours_on lines placed a b
    by_tests true p true q e f = rw (e, f, p, q) (let same : are_neighbours placed a b ≡ are_adjacent (place_of placed a) (place_of placed b) = rw (p, q) at (beside_in placed a b (apart_once placed apart) short differ) in ap (λ (t : Bool). Some t) (sym same))
    by_tests true p false q e f = rw (e, f, p, q) refl
    by_tests false p true q e f = rw (e, f, p, q) refl
    by_tests false p false q e f = rw (e, f, p, q) refl
