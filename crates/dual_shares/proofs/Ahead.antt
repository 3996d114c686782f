-- Which lines are settled to stand before a line, as sets of places.
use Rattle.std.proofs.Common.{◌≡◌, ◌≢◌, ℕ, ◌^◌, ◌<◌, ◌≤◌, ◌==◌, ◌||◌, ◌&&◌, Bool, true, false, List, [], ◌∷◌, length, set, get_or, refl, sym, ◌∙◌, ap, subst, arith, ◌⊎◌, inl, inr, eq-eqb, get_or-set_same, get_or-set_other}
use Rattle.std.specs.Prelude.{slice_index}
use Rattle.std.specs.Int.{bit_at}
use Rattle.std.proofs.Math.Pow.{pow-lt}
use Rattle.std.proofs.lemmas.Bool.{cases_eq, eqb-false, ne_eqb}
use Rattle.std.proofs.lemmas.Bool.Decides.{nat_tests}
use Rattle.std.proofs.lemmas.Nat.{or_lt, pow_pos}
use Rattle.std.proofs.lemmas.Nat.Bits.{bit_at-zero}
use Rattle.map_base.specs.declared.ids.LineId.{LineId}
use Rattle.graph_core.specs.Consistent.{AreRising}
use Rattle.order_model.specs.Places.{has_line, place_of}
use Rattle.least_orders.specs.Rows.{line_at, named, is_settled}
use Rattle.least_orders.specs.Subsets.{has_place, with_place}
use Rattle.least_orders.proofs.Sets.{not_raised, with_same, with_other}
use Rattle.dual_shares.specs.RowSteps.{AreTwoOf}
use Rattle.dual_shares.specs.SettledSets.{TellAhead}
use Rattle.dual_shares.proofs.Entries.{place_known, name_at}

-- nothing is settled
pub tell_nothing : (lines : List LineId) (ahead : List ℕ) → ((j : ℕ) → slice_index ahead j ≡ 0) → TellAhead [] lines ahead
tell_nothing lines ahead h = record {
  told = λ i j here there. ap (λ n. bit_at n i == 1) (h j) ∙ ap (λ n. n == 1) (bit_at-zero i);
  known = λ j. (let some = pow_pos (length lines) in let none = h j in omega (arith, some, none));
  apart = λ j. ap (λ n. bit_at n j) (h j) ∙ bit_at-zero j;
}

flipped : (a b : ℕ) → (a == b) ≡ (b == a)
flipped a b = grind (arith, nat_tests)

-- one pair more
pub tell_more : (settled : List (LineId × LineId)) (lines : List LineId) (ahead : List ℕ) (a b : LineId) → AreRising lines → length lines ≤ length ahead
    → has_line lines a ≡ true → has_line lines b ≡ true → (a.0 == b.0) ≡ false → TellAhead settled lines ahead
    → TellAhead ((a, b) ∷ settled) lines (set ahead (place_of lines b) (with_place (slice_index ahead (place_of lines b)) (place_of lines a)))
tell_more settled lines ahead a b rising room has has_too apart tell = record {
  told = λ i j here there. by_told i j here there (cases_eq j (place_of lines b));
  known = λ j. by_known j (cases_eq j (place_of lines b));
  apart = λ j. by_apart j (cases_eq j (place_of lines b));
}
  where
    first : place_of lines a < length lines
    first = (place_known lines a has).0

    second : place_of lines b < length ahead
    second = let below = (place_known lines b has_too).0 in omega (arith, below, room)

    more : ℕ
    more = with_place (slice_index ahead (place_of lines b)) (place_of lines a)

    places_apart : (place_of lines b) ≢ (place_of lines a)
    places_apart e = eqb-false a.0 b.0 apart (ap (λ (u : LineId). u.0) (sym ((place_known lines a has).1 a) ∙ (ap (λ k. get_or lines k a) (sym e) ∙ (place_known lines b has_too).1 a)))

    here_is : (j : ℕ) → j ≡ place_of lines b → get_or (set ahead (place_of lines b) (with_place (slice_index ahead (place_of lines b)) (place_of lines a))) j 0 ≡ with_place (slice_index ahead (place_of lines b)) (place_of lines a)
    here_is j e = ap (λ k. get_or (set ahead (place_of lines b) (with_place (slice_index ahead (place_of lines b)) (place_of lines a))) k 0) e
        ∙ get_or-set_same ahead (place_of lines b) (with_place (slice_index ahead (place_of lines b)) (place_of lines a)) 0 second

    there_is : (j : ℕ) → j ≢ place_of lines b → get_or (set ahead (place_of lines b) (with_place (slice_index ahead (place_of lines b)) (place_of lines a))) j 0 ≡ get_or ahead j 0
    there_is j e = get_or-set_other ahead (place_of lines b) j (with_place (slice_index ahead (place_of lines b)) (place_of lines a)) 0 e

    by_known : (j : ℕ) → (j ≡ place_of lines b) ⊎ (j ≢ place_of lines b) → get_or (set ahead (place_of lines b) (with_place (slice_index ahead (place_of lines b)) (place_of lines a))) j 0 < 2 ^ length lines
    by_known j (inl e) = let within = or_lt (length lines) (slice_index ahead (place_of lines b)) (2 ^ place_of lines a) (tell.known (place_of lines b)) (pow-lt first) in let is = here_is j e in omega (arith, within, is)
    by_known j (inr e) = let within = tell.known j in let is = there_is j e in omega (arith, within, is)

    by_apart : (j : ℕ) → (j ≡ place_of lines b) ⊎ (j ≢ place_of lines b) → bit_at (get_or (set ahead (place_of lines b) (with_place (slice_index ahead (place_of lines b)) (place_of lines a))) j 0) j ≡ 0
    by_apart j (inr e) = ap (λ n. bit_at n j) (there_is j e) ∙ tell.apart j
    by_apart j (inl e) =
        ap (λ n. bit_at n j) (here_is j e)
        ∙ (ap (λ k. bit_at (with_place (slice_index ahead (place_of lines b)) (place_of lines a)) k) e
        ∙ not_raised (with_place (slice_index ahead (place_of lines b)) (place_of lines a)) (place_of lines b)
        (with_other (slice_index ahead (place_of lines b)) (place_of lines a) (place_of lines b) places_apart
        ∙ ap (λ n. n == 1) (tell.apart (place_of lines b))))

    by_told : (i j : ℕ) → i < length lines → j < length lines → (j ≡ place_of lines b) ⊎ (j ≢ place_of lines b)
        → (bit_at (get_or (set ahead (place_of lines b) (with_place (slice_index ahead (place_of lines b)) (place_of lines a))) j 0) i == 1)
        ≡ ((a.0 == (named lines (line_at i)).0 && b.0 == (named lines (line_at j)).0) || is_settled settled (named lines (line_at i)) (named lines (line_at j)))
    by_told i j here there (inr e) =
        ap (λ n. bit_at n i == 1) (there_is j e)
        ∙ (tell.told i j here there
        ∙ ap (λ t. t || is_settled settled (named lines (line_at i)) (named lines (line_at j)))
        (sym (ap (λ t. a.0 == (named lines (line_at i)).0 && t) (flipped b.0 (named lines (line_at j)).0 ∙ (name_at lines b j rising has_too there ∙ ne_eqb j (place_of lines b) e)) ∙ never (a.0 == (named lines (line_at i)).0))))
      where
        never : (t : Bool) → (t && false) ≡ false
        never true = refl
        never false = refl
    by_told i j here there (inl e) =
        ap (λ n. bit_at n i == 1) (here_is j e)
        ∙ (by_place (cases_eq i (place_of lines a))
        ∙ ap (λ t. t || is_settled settled (named lines (line_at i)) (named lines (line_at j)))
        (sym (ap (λ t. a.0 == (named lines (line_at i)).0 && t) (flipped b.0 (named lines (line_at j)).0 ∙ (name_at lines b j rising has_too there ∙ eq-eqb j (place_of lines b) e))
        ∙ (always (a.0 == (named lines (line_at i)).0) ∙ (flipped a.0 (named lines (line_at i)).0 ∙ name_at lines a i rising has here)))))
      where
        always : (t : Bool) → (t && true) ≡ t
        always true = refl
        always false = refl

        old : has_place (slice_index ahead (place_of lines b)) i ≡ is_settled settled (named lines (line_at i)) (named lines (line_at j))
        old = ap (λ k. bit_at (slice_index ahead k) i == 1) (sym e) ∙ tell.told i j here there

        by_place : (i ≡ place_of lines a) ⊎ (i ≢ place_of lines a)
            → has_place (with_place (slice_index ahead (place_of lines b)) (place_of lines a)) i ≡ ((i == place_of lines a) || is_settled settled (named lines (line_at i)) (named lines (line_at j)))
        by_place (inl f) =
            ap (λ k. has_place (with_place (slice_index ahead (place_of lines b)) (place_of lines a)) k) f
            ∙ (with_same (slice_index ahead (place_of lines b)) (place_of lines a) ∙ ap (λ t. t || is_settled settled (named lines (line_at i)) (named lines (line_at j))) (sym (eq-eqb i (place_of lines a) f)))
        by_place (inr f) =
            with_other (slice_index ahead (place_of lines b)) (place_of lines a) i f
            ∙ (old ∙ ap (λ t. t || is_settled settled (named lines (line_at i)) (named lines (line_at j))) (sym (ne_eqb i (place_of lines a) f)))

-- as the code has it
pub settled_more : (lines : List LineId) (ahead : List ℕ) (a b : LineId) (i j v : ℕ) → AreRising lines → length lines ≤ length ahead → AreTwoOf lines a b → i ≡ place_of lines a → j ≡ place_of lines b
    → v ≡ with_place (slice_index ahead j) i → (settled : List (LineId × LineId)) → TellAhead settled lines ahead → TellAhead ((a, b) ∷ settled) lines (set ahead j v)
settled_more lines ahead a b i j v rising room two first second is settled tell =
    subst (λ (l : List ℕ). TellAhead ((a, b) ∷ settled) lines l)
    (sym (ap (set ahead j) (is ∙ ap (with_place (slice_index ahead j)) first) ∙ ap (λ k. set ahead k (with_place (slice_index ahead k) (place_of lines a))) second))
    (tell_more settled lines ahead a b rising room two.first_on two.second_on two.differ tell)
