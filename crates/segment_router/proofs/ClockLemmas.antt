-- Ports that are spaced stand clockwise, and the bit of an allowed port tells that it is allowed.
use Rattle.std.proofs.Common.{◌≡◌, ℕ, ◌+◌, ◌-◌, ◌%◌, ◌<◌, ◌≤◌, Bool, true, false, cond, not, eqb, leb, ◌&&◌, List, [], ◌∷◌, map, Option, Some, None, sym, refl, ap, ◌∙◌, arith, subst}
use Rattle.std.proofs.lemmas.Bool.{and_from, and_parts, eqb-true, lt-ltb, false≢true}
use Rattle.std.specs.Int.{bit_at}
use Rattle.std.specs.List.{cons_option, filter_map, list_all}
use Rattle.map_base.specs.declared.ids.SegId.{SegId}
use Rattle.octi_grid.specs.declared.dir.Dir.{Dir}
use Rattle.octi_grid.specs.declared.dir.Dir.TheVariants as dir
use Rattle.octi_grid.specs.Costs.{clockwise_from}
use Rattle.octi_grid.specs.Legal.{are_clockwise, are_rising}
use Rattle.octi_grid.specs.Ways.{number_of}
use Rattle.octi_grid.proofs.Members.{all_at, In}
use Rattle.walk_search.specs.Routes.{allows, directions}
use Rattle.walk_search.proofs.Turning.{number_below, direction-number_of, of_eight}
use Rattle.segment_router.specs.Ports.{are_spaced, distance_to, gaps_to, mask_of, stops_from, turned_over, with_stop, Stop}
use Rattle.segment_router.proofs.MaskLemmas.{mask_agree}
use Rattle.segment_router.proofs.Places.{in_at}

-- from one port to the next, and both from a first one
clock_numbers : (a b c : ℕ) → a < 8 → b < 8 → c < 8 → (b + 8 - a) % 8 + ((c + 7 - b) % 8 + 1) ≤ 7 → (c + 8 - a) % 8 ≡ (b + 8 - a) % 8 + ((c + 7 - b) % 8 + 1)
clock_numbers a b c h k l few = omega arith

clock_step : (f s t : Dir) → clockwise_from f s + distance_to s t ≤ 7 → clockwise_from f t ≡ clockwise_from f s + distance_to s t
clock_step f s t few = clock_numbers (number_of f) (number_of s) (number_of t) (number_below f) (number_below s) (number_below t) few

clock_self : (d : Dir) → 0 ≡ clockwise_from d d
clock_self = of_eight (λ d. 0 ≡ clockwise_from d d) refl refl refl refl refl refl refl refl

abbrev pub port_of_stop : Stop → Dir
port_of_stop s = s.1

some_turn : (count : ℕ) (first s : Stop) (rest : List Stop) → 1 ≤ turned_over (gaps_to count first s rest)
some_turn count first s [] = omega arith
some_turn count first s (t ∷ ts) = omega arith

rising : (count : ℕ) (first s : Stop) (rest : List Stop) (turned : ℕ) → turned ≡ clockwise_from first.1 s.1 → turned + turned_over (gaps_to count first s rest) ≡ 8
    → are_rising turned (map (clockwise_from first.1) (map port_of_stop rest)) ≡ true
rising count first s [] turned at whole = refl
rising count first s (t ∷ ts) turned at whole =
    let some : 1 ≤ turned_over (gaps_to count first t ts) = some_turn count first t ts in
    let sum : turned + (distance_to s.1 t.1 + turned_over (gaps_to count first t ts)) ≡ 8 = whole in
    let next : clockwise_from first.1 t.1 ≡ clockwise_from first.1 s.1 + distance_to s.1 t.1 = clock_step first.1 s.1 t.1 (lower (clockwise_from first.1 s.1) turned (distance_to s.1 t.1) (turned_over (gaps_to count first t ts)) at some sum) in
    and_from _ _
    (lt-ltb _ _ (higher (clockwise_from first.1 t.1) (clockwise_from first.1 s.1) turned (distance_to s.1 t.1) at next (farther s.1 t.1)))
    (rising count first t ts (clockwise_from first.1 t.1) refl (left (clockwise_from first.1 t.1) (clockwise_from first.1 s.1) turned (distance_to s.1 t.1) (turned_over (gaps_to count first t ts)) at next sum))
  where
    farther : (a b : Dir) → 0 < distance_to a b
    farther a b = omega arith

    lower : (c turned d rest : ℕ) → turned ≡ c → 1 ≤ rest → turned + (d + rest) ≡ 8 → c + d ≤ 7
    lower c turned d rest e f g = omega arith

    higher : (n c turned d : ℕ) → turned ≡ c → n ≡ c + d → 0 < d → turned < n
    higher n c turned d e f g = omega arith

    left : (n c turned d rest : ℕ) → turned ≡ c → n ≡ c + d → turned + (d + rest) ≡ 8 → n + rest ≡ 8
    left n c turned d rest e f g = omega arith

pub spaced_clockwise : (count : ℕ) (stops : List Stop) → are_spaced count stops ≡ true → are_clockwise (map port_of_stop stops) ≡ true
spaced_clockwise count [] e = refl
spaced_clockwise count (s ∷ rest) e =
    let whole : turned_over (gaps_to count s s rest) ≡ 8 =
    eqb-true (turned_over (gaps_to count s s rest)) 8 (and_parts (eqb (turned_over (gaps_to count s s rest)) 8) (list_all (λ (g : ℕ × ℕ). leb g.1 g.0) (gaps_to count s s rest)) e).0 in
    rising count s s rest 0 (clock_self s.1) (omega (arith, whole))

-- the ports of a round's stops
pub stops_ports : (f : SegId → Option Dir) (round : List SegId) (i : ℕ) → map port_of_stop (stops_from i f round) ≡ filter_map f round
stops_ports f [] i = refl
stops_ports f (s ∷ round) i = by_port (f s) (stops_ports f round (i + 1))
  where
    by_port : (o : Option Dir) → map port_of_stop (stops_from (i + 1) f round) ≡ filter_map f round → map port_of_stop (with_stop i o (stops_from (i + 1) f round)) ≡ cons_option o (filter_map f round)
    by_port None e = e
    by_port (Some d) e = ap (λ (ds : List Dir). d ∷ ds) e

-- tests of directions, by what they say of each
abbrev test_of : Bool → Bool → Bool → Bool → Bool → Bool → Bool → Bool → Dir → Bool
test_of a b c d e f g h dir.N = a
test_of a b c d e f g h dir.NE = b
test_of a b c d e f g h dir.E = c
test_of a b c d e f g h dir.SE = d
test_of a b c d e f g h dir.S = e
test_of a b c d e f g h dir.SW = f
test_of a b c d e f g h dir.W = g
test_of a b c d e f g h dir.NW = h

abbrev each : (Bool → Bool) → Bool
each p = p true && p false

each_at : (p : Bool → Bool) → each p ≡ true → (b : Bool) → p b ≡ true
each_at p e true = (and_parts _ _ e).0
each_at p e false = (and_parts _ _ e).1

-- a bit is set where the test holds
abbrev bits_tell : (Dir → Bool) → Bool
bits_tell t = list_all (λ (d : Dir). cond (eqb (bit_at (mask_of t) (number_of d)) 1) (t d) (not (t d))) directions

all_bits : each (λ a. each (λ b. each (λ c. each (λ d. each (λ e. each (λ f. each (λ g. each (λ h. bits_tell (test_of a b c d e f g h))))))))) ≡ true
all_bits = refl

bits_of : (a b c d e f g h : Bool) → bits_tell (test_of a b c d e f g h) ≡ true
bits_of a b c d e f g h =
    each_at (λ v. bits_tell (test_of a b c d e f g v))
    (each_at (λ u. each (λ v. bits_tell (test_of a b c d e f u v)))
    (each_at (λ t. each (λ u. each (λ v. bits_tell (test_of a b c d e t u v))))
    (each_at (λ s. each (λ t. each (λ u. each (λ v. bits_tell (test_of a b c d s t u v)))))
    (each_at (λ r. each (λ s. each (λ t. each (λ u. each (λ v. bits_tell (test_of a b c r s t u v))))))
    (each_at (λ q. each (λ r. each (λ s. each (λ t. each (λ u. each (λ v. bits_tell (test_of a b q r s t u v)))))))
    (each_at (λ p. each (λ q. each (λ r. each (λ s. each (λ t. each (λ u. each (λ v. bits_tell (test_of a p q r s t u v))))))))
    (each_at (λ o. each (λ p. each (λ q. each (λ r. each (λ s. each (λ t. each (λ u. each (λ v. bits_tell (test_of o p q r s t u v)))))))))
    all_bits a) b) c) d) e) f) g) h

in_directions : (d : Dir) → In d directions
in_directions d =
    subst (λ (e : Dir). In e directions) (direction-number_of d) (in_at directions (number_of d) dir.N (number_below d))

told : (test : Dir → Bool) (d : Dir) → test d ≡ test_of (test dir.N) (test dir.NE) (test dir.E) (test dir.SE) (test dir.S) (test dir.SW) (test dir.W) (test dir.NW) d
told test =
    of_eight (λ d. test d ≡ test_of (test dir.N) (test dir.NE) (test dir.E) (test dir.SE) (test dir.S) (test dir.SW) (test dir.W) (test dir.NW) d)
    refl refl refl refl refl refl refl refl

chosen_same : (b c : Bool) → cond b c (not c) ≡ true → b ≡ c
chosen_same true true e = refl
chosen_same true false e = absurd (false≢true e)
chosen_same false true e = absurd (false≢true e)
chosen_same false false e = refl

pub bit_told : (test : Dir → Bool) (d : Dir) → eqb (bit_at (mask_of test) (number_of d)) 1 ≡ test d
bit_told test d =
    let t = test_of (test dir.N) (test dir.NE) (test dir.E) (test dir.SE) (test dir.S) (test dir.SW) (test dir.W) (test dir.NW) in
    let tells : cond (eqb (bit_at (mask_of t) (number_of d)) 1) (t d) (not (t d)) ≡ true =
    all_at (λ (v : Dir). cond (eqb (bit_at (mask_of t) (number_of v)) 1) (t v) (not (t v))) directions d
    (bits_of (test dir.N) (test dir.NE) (test dir.E) (test dir.SE) (test dir.S) (test dir.SW) (test dir.W) (test dir.NW)) (in_directions d) in
    ap (λ m. eqb (bit_at m (number_of d)) 1) (mask_agree test t (told test)) ∙ chosen_same (eqb (bit_at (mask_of t) (number_of d)) 1) (t d) tells ∙ sym (told test d)

pub allowed_by_bit : (test : Dir → Bool) (d : Dir) → allows (mask_of test) (Some d) ≡ true → test d ≡ true
allowed_by_bit test d e = sym (bit_told test d) ∙ e

-- the port that a mask allows
pub allowed_port : (test : Dir → Bool) (o : Option Dir) → allows (mask_of test) o ≡ true → (d : Dir) × (o ≡ Some d) × (test d ≡ true)
allowed_port test None e = absurd (false≢true e)
allowed_port test (Some d) e = (d, refl, allowed_by_bit test d e)
