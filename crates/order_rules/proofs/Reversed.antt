-- An order and its reverse.
use Rattle.std.proofs.Common.{◌≡◌, ◌≢◌, ℕ, ◌-◌, ◌<◌, nat_lt, Bool, true, false, not, cond, List, length, get_or, refl, sym, ap, ◌∙◌, arith}
use Rattle.std.specs.Prelude.{reverse}
use Rattle.std.specs.List.{Contains}
use Rattle.std.proofs.lemmas.Bool.Decides.{nat_tests}
use Rattle.std.proofs.lemmas.List.{length-reverse, get_or-reverse}
use Rattle.std.proofs.lemmas.List.Sorted.{sum_by-IsPermutation, IsPermutation-reverse, Contains-permutation}
use Rattle.map_base.specs.declared.ids.LineId.{LineId}
use Rattle.order_model.specs.Costs.{comes_before, are_neighbours, same_answer}
use Rattle.order_model.specs.Places.{place_of, are_adjacent}
use Rattle.order_model.proofs.PlaceLemmas.{no_line, once, AreOnce, place_below, line_at_place, place_of_line, before_is, beside_is}

-- two different lines of an order in which no line stands twice
pub record AreTwoOf (order : List LineId) (a b : LineId) : Type 0 where
  pub once : AreOnce order
  pub differ : a.0 ≢ b.0
  pub a_on : Contains order a
  pub b_on : Contains order b

once_reversed : (o : List LineId) → AreOnce o → AreOnce (reverse o)
once_reversed o h a = omega (arith, sum_by-IsPermutation (once a) o (reverse o) (IsPermutation-reverse o), h a)

place_reversed : (o : List LineId) (a : LineId) → AreOnce o → Contains o a → place_of (reverse o) a ≡ length o - 1 - place_of o a
place_reversed o a h on =
    let k : ℕ = length o - 1 - place_of o a in
    let below : place_of o a < length o = place_below o a on in
    let k_below : k < length o = omega (arith, below) in
    let back : length o - 1 - k ≡ place_of o a = omega (arith, below) in
    let at : get_or (reverse o) k no_line ≡ a = get_or-reverse o k no_line k_below ∙ (ap (λ i. get_or o i no_line) back ∙ line_at_place o a on) in
    let in_range : k < length (reverse o) = omega (arith, k_below, length-reverse o) in
    ap (place_of (reverse o)) (sym at) ∙ place_of_line (reverse o) k (once_reversed o h) in_range

lt_reversed : (n i j : ℕ) → i < n → j < n → nat_lt (n - 1 - i) (n - 1 - j) ≡ nat_lt j i
lt_reversed n i j hi hj = grind (arith, nat_tests)

adjacent_reversed : (n i j : ℕ) → i < n → j < n → are_adjacent (n - 1 - i) (n - 1 - j) ≡ are_adjacent i j
adjacent_reversed n i j hi hj = grind (arith, nat_tests)

lt_other : (i j : ℕ) → i ≢ j → nat_lt j i ≡ not (nat_lt i j)
lt_other i j n = grind (arith, nat_tests)

pub before_other : (o : List LineId) (a b : LineId) → AreTwoOf o a b → comes_before o b a ≡ not (comes_before o a b)
before_other o a b h =
    let apart : place_of o a ≢ place_of o b = λ e. h.differ (ap (λ (l : LineId). l.0) (sym (line_at_place o a h.a_on) ∙ (ap (λ i. get_or o i no_line) e ∙ line_at_place o b h.b_on))) in
    before_is o b a (λ e. h.differ (sym e)) ∙ (lt_other (place_of o a) (place_of o b) apart ∙ ap not (sym (before_is o a b h.differ)))

pub before_reversed : (o : List LineId) (a b : LineId) → AreTwoOf o a b → comes_before (reverse o) a b ≡ comes_before o b a
before_reversed o a b h =
    before_is (reverse o) a b h.differ
    ∙ (ap (λ i. nat_lt i (place_of (reverse o) b)) (place_reversed o a h.once h.a_on)
    ∙ (ap (nat_lt (length o - 1 - place_of o a)) (place_reversed o b h.once h.b_on)
    ∙ (lt_reversed (length o) (place_of o a) (place_of o b) (place_below o a h.a_on) (place_below o b h.b_on)
    ∙ sym (before_is o b a (λ e. h.differ (sym e))))))

pub beside_reversed : (o : List LineId) (a b : LineId) → AreTwoOf o a b → are_neighbours (reverse o) a b ≡ are_neighbours o a b
beside_reversed o a b h =
    let moved = IsPermutation-reverse o in
    beside_is (reverse o) a b (once_reversed o h.once) h.differ (Contains-permutation o (reverse o) a moved h.a_on) (Contains-permutation o (reverse o) b moved h.b_on)
    ∙ (ap (λ i. are_adjacent i (place_of (reverse o) b)) (place_reversed o a h.once h.a_on)
    ∙ (ap (are_adjacent (length o - 1 - place_of o a)) (place_reversed o b h.once h.b_on)
    ∙ (adjacent_reversed (length o) (place_of o a) (place_of o b) (place_below o a h.a_on) (place_below o b h.b_on)
    ∙ sym (beside_is o a b h.once h.differ h.a_on h.b_on))))

-- The order that `from` takes.

abbrev pub shared : Bool → List LineId → List LineId
shared flip o = cond flip (reverse o) o

pub shared_before : (flip : Bool) (o : List LineId) (a b : LineId) → AreTwoOf o a b → comes_before (shared flip o) a b ≡ same_answer (not flip) (comes_before o a b)
shared_before true o a b h = before_reversed o a b h ∙ before_other o a b h
shared_before false o a b h = refl

pub shared_beside : (flip : Bool) (o : List LineId) (a b : LineId) → AreTwoOf o a b → are_neighbours (shared flip o) a b ≡ are_neighbours o a b
shared_beside true o a b h = beside_reversed o a b h
shared_beside false o a b h = refl

pub two_shared : (flip : Bool) (o : List LineId) (a b : LineId) → AreTwoOf o a b → AreTwoOf (shared flip o) a b
two_shared true o a b h = record {
  once = once_reversed o h.once;
  differ = h.differ;
  a_on = Contains-permutation o (reverse o) a (IsPermutation-reverse o) h.a_on;
  b_on = Contains-permutation o (reverse o) b (IsPermutation-reverse o) h.b_on;
}
two_shared false o a b h = h
