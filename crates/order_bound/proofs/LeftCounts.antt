-- Lines of which none stands twice are exactly those left where each of them is left and there are as many.
use Rattle.std.proofs.Common.{◌≡◌, ℕ, zero, suc, ◌+◌, ◌<◌, ◌≤◌, ◌==◌, ◌||◌, ◌&&◌, Bool, true, false, List, [], ◌∷◌, ◌++◌, length, get_or, refl, sym, ◌∙◌, ap, arith, true≢false, eq-eqb, eqb-true, length-append}
use Rattle.std.specs.List.{All, Contains, list_all}
use Rattle.std.proofs.lemmas.List.Elements.{All-nil, All-cons, All-head, All-tail, All-append}
use Rattle.map_base.specs.declared.ids.LineId.{LineId}
use Rattle.graph_core.specs.Consistent.{AreRising}
use Rattle.order_model.specs.Prefixes.{is_placed, is_unplaced, is_left, AreApart, ArePlacedLines}
use Rattle.order_model.proofs.RisingLines.{few_rising}
use Rattle.order_model.proofs.PrefixLemmas.{few_apart, contains_placed}
use Rattle.order_proof.specs.Trees.{is_among, AreDistinct}
use Rattle.order_bound.specs.Accepting.{are_those_left}
use Rattle.order_model.proofs.Lines.{both_true, neither, not_true, all_has, has_append}

-- Placed lines, and after them lines that are left.

-- what a test tells of each line that passes it
all_of : (P : LineId → Type 0) (p : LineId → Bool) (xs : List LineId) → ((a : LineId) → p a ≡ true → P a) → list_all p xs ≡ true → All P xs
all_of P p [] each h = All-nil P
all_of P p (x ∷ xs) each h = let both = both_true (p x) (list_all p xs) h in All-cons P x xs (each x both.0) (all_of P p xs each both.1)

distinct_apart : (xs : List LineId) → AreDistinct xs → AreApart xs
distinct_apart [] h = tt
distinct_apart (x ∷ xs) h = (h.0, distinct_apart xs h.1)

apart_append : (xs ys : List LineId) → AreApart xs → AreApart ys → ((a : LineId) → is_placed ys a ≡ true → is_placed xs a ≡ false) → AreApart (xs ++ ys)
apart_append [] ys xs_apart ys_apart none = ys_apart
apart_append (x ∷ xs) ys xs_apart ys_apart none = (
  has_append xs ys x ∙ rw (xs_apart.0, not_after (is_placed ys x) refl) refl,
  apart_append xs ys xs_apart.1 ys_apart (λ a h. (neither (x.0 == a.0) (is_placed xs a) (none a h)).1),
)
  where
    not_after : (b : Bool) → is_placed ys x ≡ b → b ≡ false
    not_after false e = refl
    not_after true e = absurd (true≢false (sym (eq-eqb x.0 x.0 refl) ∙ (neither (x.0 == x.0) (is_placed xs x) (none x e)).0))

module _ (lines placed these : List LineId) (rising : AreRising lines) (ok : ArePlacedLines lines placed) (distinct : AreDistinct these)
    (left : list_all (is_left lines placed) these ≡ true) where
  abbrev both : List LineId
  both = placed ++ these

  known : All (Contains lines) both
  known = All-append (Contains lines) placed these ok.known (all_of (Contains lines) (is_left lines placed) these (λ a h.
      contains_placed lines a (both_true (is_placed lines a) (is_unplaced placed a) h).0) left)

  apart : AreApart both
  apart = apart_append placed these ok.apart (distinct_apart these distinct) (λ a h.
      not_true (is_placed placed a) (both_true (is_placed lines a) (is_unplaced placed a) (all_has (is_left lines placed) these a left h)).1)

  few : length placed + length these ≤ length lines
  few = omega (arith, few_apart both lines apart known, length-append placed these)

  abbrev is_met : LineId → Bool
  is_met b = is_placed placed b || is_among these b

  -- where each line is met, there are as many
  pub as_many : list_all is_met lines ≡ true → (length these + length placed == length lines) ≡ true
  as_many all =
      let within : length lines ≤ length both = few_rising lines both rising (all_of (Contains both) is_met lines (λ a h.
      contains_placed both a (has_append placed these a ∙ h)) all) in
      eq-eqb (length these + length placed) (length lines) (omega (arith, few, within, length-append placed these))

  -- where there are as many, each line is met: else there would be more apart than there are
  pub all_met : (length these + length placed == length lines) ≡ true → (xs : List LineId) → All (Contains lines) xs → list_all is_met xs ≡ true
  all_met same [] in_lines = refl
  all_met same (x ∷ xs) in_lines = rw (by_test (is_met x) refl, all_met same xs (All-tail (Contains lines) x xs in_lines)) refl
    where
      by_test : (b : Bool) → is_met x ≡ b → b ≡ true
      by_test true e = refl
      by_test false e =
          let more : length (x ∷ both) ≤ length lines = few_apart (x ∷ both) lines (has_append placed these x ∙ e, apart)
          (All-cons (Contains lines) x both (All-head (Contains lines) x xs in_lines) known) in
          absurd (omega (arith, more, eqb-true (length these + length placed) (length lines) same, length-append placed these))

pub those_left_by_count : (lines placed these : List LineId) → AreRising lines → ArePlacedLines lines placed → AreDistinct these
    → are_those_left lines placed these ≡ ((length these + length placed == length lines) && list_all (is_left lines placed) these)
those_left_by_count lines placed these rising ok distinct = by_test (list_all (is_left lines placed) these) refl
  where
    each : All (Contains lines) lines
    each k d below = (k, below, own lines k d below)
      where
        own : (xs : List LineId) (k : ℕ) (d : LineId) → k < length xs → get_or xs k (get_or xs k d) ≡ get_or xs k d
        own [] k d below = absurd (omega (arith, below))
        own (x ∷ xs) zero d below = refl
        own (x ∷ xs) (suc k) d below = own xs k d (omega (arith, below))

    same : (a b : Bool) → (a ≡ true → b ≡ true) → (b ≡ true → a ≡ true) → a ≡ (b && true)
    same true b there back = sym (ap (λ c. c && true) (there refl))
    same false true there back = back refl
    same false false there back = refl

    neither_way : (b : Bool) → false ≡ (b && false)
    neither_way true = refl
    neither_way false = refl

    by_test : (b : Bool) → list_all (is_left lines placed) these ≡ b
        → (b && list_all (λ a. is_placed placed a || is_among these a) lines) ≡ ((length these + length placed == length lines) && b)
    by_test true e = same (list_all (λ a. is_placed placed a || is_among these a) lines) (length these + length placed == length lines)
        (as_many lines placed these rising ok distinct e) (λ h. all_met lines placed these rising ok distinct e h lines each)
    by_test false e = neither_way (length these + length placed == length lines)
