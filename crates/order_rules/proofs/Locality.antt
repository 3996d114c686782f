-- What can be done at segments that see nothing of a change of terms is what could be done before; a merge is such a change.
use Rattle.std.proofs.Common.{◌≡◌, ℕ, ◌*◌, ◌==◌, nat_le, Bool, true, false, not, ◌||◌, ◌&&◌, List, [], ◌∷◌, length, map, Some, None, refl, sym, ap, ◌∙◌, true≢false}
use Rattle.std.specs.Prelude.{filter, slice_set, if◌then◌else◌}
use Rattle.std.specs.List.{AllByRecursion, list_any, list_all}
use Rattle.std.proofs.lemmas.Bool.{eqb-false}
use Rattle.std.proofs.lemmas.List.{get_or-set_other}
use Rattle.map_base.specs.declared.ids.SegId.{SegId}
use Rattle.map_base.specs.declared.ids.LineId.{LineId}
use Rattle.order_values.specs.declared.rule.Rule.TheVariants.{Merge, Divide}
use Rattle.order_model.specs.declared.term.Term.{Term}
use Rattle.order_model.specs.declared.problem.ProblemParts.{ProblemParts}
use Rattle.order_model.specs.Problems.{lines_on}
use Rattle.order_model.specs.Costs.{weight_of}
use Rattle.order_model.specs.Parts.{is_between}
use Rattle.order_model.proofs.Lines.{neither}
use Rattle.order_rules.specs.PairWeights.{is_side, is_link, is_apart, is_on, is_of_lines, weight_where, all_pairs, most_over_pairs}
use Rattle.order_rules.specs.Merging.{same_lines, is_link_between, has_flip, is_joining, is_beside, link_weight, apart_weight, weight_beside, aparts_beside, outweighs, merge_applies, moved, merged}
use Rattle.order_rules.specs.Dividing.{are_none, others, most_apart, is_against, can_part, grown, closure}
use Rattle.order_rules.specs.Untangling.{divide_of}
use Rattle.order_rules.specs.Touching.{IsLocal}
use Rattle.order_rules.proofs.Unchanged.{AreAlike, IsUnseen, IsKeptOrUnseen, any_same, all_same, weight_same, pairs_alike, most_alike, grown_alike}
use Rattle.order_rules.proofs.FarTerms.{IsFar, moved_alike, between_unseen, not_turned}

each_of : {A : Type 0} (P Q : A → Type 0) (xs : List A) → ((x : A) → P x → Q x) → AllByRecursion P xs → AllByRecursion Q xs
each_of P Q [] h all = tt
each_of P Q (x ∷ xs) h all = (h x all.0, each_of P Q xs h all.1)

and_none : (a : Bool) → (a && false) ≡ false
and_none true = refl
and_none false = refl

two : (a b p q : Bool) → a ≡ p → b ≡ q → (a && b) ≡ (p && q)
two a b p q h k = cc

three : (a b c p q r : Bool) → a ≡ p → b ≡ q → c ≡ r → (a && (b && c)) ≡ (p && (q && r))
three a b c p q r h k l = cc

beside : (a b c d p q r s : Bool) → a ≡ p → b ≡ q → c ≡ r → d ≡ s → (a && ((b && not c) && d)) ≡ (p && ((q && not r) && s))
beside a b c d p q r s h k l m = cc

in_turn : (a b c p q r : Bool) → a ≡ p → b ≡ q → c ≡ r → (a && b && c) ≡ (p && q && r)
in_turn a b c p q r h k l = cc

on_none : (a b c : Bool) → b ≡ false → (a && b && c) ≡ false
on_none true true c h = absurd (true≢false h)
on_none true false c h = refl
on_none false true c h = refl
on_none false false c h = refl

middle_none : (a b c : Bool) → b ≡ false → (a && (b && c)) ≡ false
middle_none a b c h = ap (λ (x : Bool). a && (x && c)) h ∙ and_none a

first_none : (a b c d : Bool) → b ≡ false → (a && ((b && c) && d)) ≡ false
first_none a b c d h = ap (λ (x : Bool). a && ((x && c) && d)) h ∙ and_none a

module _ (far : SegId → Type 0) (keep : Term → Bool) (change : Term → Term) (terms : List Term) (each : AllByRecursion (IsKeptOrUnseen far keep change) terms) where
  abbrev after : List Term
  after = map change (filter keep terms)

  weights : (test : Term → Bool) → ((t : Term) → AreAlike far t (change t) → test (change t) ≡ test t) → ((t : Term) → IsUnseen far t → test t ≡ false)
      → weight_where test after ≡ weight_where test terms
  weights test alike none =
      weight_same keep change test terms
      (each_of (IsKeptOrUnseen far keep change) (λ t. (keep t ≡ true → (test (change t) ≡ test t) × (weight_of (change t) ≡ weight_of t)) × (keep t ≡ false → test t ≡ false)) terms
      (λ t o. (λ h. (alike t (o.kept h), (o.kept h).weight), λ h. none t (o.dropped h))) each)

  module _ (e f : SegId) (far_e : far e) (far_f : far f) where
    link_same : (t u : Term) → AreAlike far t u → is_link_between e f u ≡ is_link_between e f t
    link_same t u h = two (is_link u) (is_between u e.0 f.0) (is_link t) (is_between t e.0 f.0) h.link (h.between e f far_e far_f)

    link_none : (t : Term) → IsUnseen far t → is_link_between e f t ≡ false
    link_none t h = ap (λ (c : Bool). is_link t && c) (h.between e f far_e far_f) ∙ and_none (is_link t)

    some_link : list_any (is_link_between e f) after ≡ list_any (is_link_between e f) terms
    some_link =
        any_same keep change (is_link_between e f) terms
        (each_of (IsKeptOrUnseen far keep change) (λ t. (keep t ≡ true → is_link_between e f (change t) ≡ is_link_between e f t) × (keep t ≡ false → is_link_between e f t ≡ false)) terms
        (λ t o. (λ h. link_same t (change t) (o.kept h), λ h. link_none t (o.dropped h))) each)

    flip_same : (flip : Bool) (t u : Term) → AreAlike far t u → (not (is_link_between e f u) || has_flip flip u) ≡ (not (is_link_between e f t) || has_flip flip t)
    flip_same flip t u h = by_test (is_link_between e f t) refl
      where
        by_test : (c : Bool) → is_link_between e f t ≡ c → (not (is_link_between e f u) || has_flip flip u) ≡ (not (is_link_between e f t) || has_flip flip t)
        by_test true k =
            ap (λ (b : Bool). not b || has_flip flip u) (link_same t u h ∙ k) ∙ (h.flip e f flip far_e far_f k ∙ sym (ap (λ (b : Bool). not b || has_flip flip t) k))
        by_test false k =
            ap (λ (b : Bool). not b || has_flip flip u) (link_same t u h ∙ k) ∙ sym (ap (λ (b : Bool). not b || has_flip flip t) k)

    flips_all : (flip : Bool) → list_all (λ t. not (is_link_between e f t) || has_flip flip t) after ≡ list_all (λ t. not (is_link_between e f t) || has_flip flip t) terms
    flips_all flip =
        all_same keep change (λ t. not (is_link_between e f t) || has_flip flip t) terms
        (each_of (IsKeptOrUnseen far keep change)
        (λ t. (keep t ≡ true → (not (is_link_between e f (change t)) || has_flip flip (change t)) ≡ (not (is_link_between e f t) || has_flip flip t))
        × (keep t ≡ false → (not (is_link_between e f t) || has_flip flip t) ≡ true)) terms
        (λ t o. (λ h. flip_same flip t (change t) (o.kept h), λ h. ap (λ (b : Bool). not b || has_flip flip t) (link_none t (o.dropped h)))) each)

    links_weigh : (a b : LineId) → link_weight e f after a b ≡ link_weight e f terms a b
    links_weigh a b = weights (λ t. is_link t && is_joining e f a b t)
        (λ t h. three (is_link (change t)) (is_between (change t) e.0 f.0) (is_of_lines a b (change t)) (is_link t) (is_between t e.0 f.0) (is_of_lines a b t)
        h.link (h.between e f far_e far_f) (h.lines a b))
        (λ t h. middle_none (is_link t) (is_between t e.0 f.0) (is_of_lines a b t) (h.between e f far_e far_f))

    aparts_weigh : (a b : LineId) → apart_weight e f after a b ≡ apart_weight e f terms a b
    aparts_weigh a b = weights (λ t. is_apart t && is_joining e f a b t)
        (λ t h. three (is_apart (change t)) (is_between (change t) e.0 f.0) (is_of_lines a b (change t)) (is_apart t) (is_between t e.0 f.0) (is_of_lines a b t)
        h.apart (h.between e f far_e far_f) (h.lines a b))
        (λ t h. middle_none (is_apart t) (is_between t e.0 f.0) (is_of_lines a b t) (h.between e f far_e far_f))

    beside_weigh : (a b : LineId) → weight_beside e f after a b ≡ weight_beside e f terms a b
    beside_weigh a b = weights (λ t. not (is_apart t) && is_beside e f a b t)
        (λ t h. beside (not (is_apart (change t))) (is_on f (change t)) (is_between (change t) e.0 f.0) (is_of_lines a b (change t))
        (not (is_apart t)) (is_on f t) (is_between t e.0 f.0) (is_of_lines a b t) (ap not h.apart) (h.on f far_f) (h.between e f far_e far_f) (h.lines a b))
        (λ t h. first_none (not (is_apart t)) (is_on f t) (not (is_between t e.0 f.0)) (is_of_lines a b t) (h.on f far_f))

    next_weigh : (a b : LineId) → aparts_beside e f after a b ≡ aparts_beside e f terms a b
    next_weigh a b = weights (λ t. is_apart t && is_beside e f a b t)
        (λ t h. beside (is_apart (change t)) (is_on f (change t)) (is_between (change t) e.0 f.0) (is_of_lines a b (change t))
        (is_apart t) (is_on f t) (is_between t e.0 f.0) (is_of_lines a b t) h.apart (h.on f far_f) (h.between e f far_e far_f) (h.lines a b))
        (λ t h. first_none (is_apart t) (is_on f t) (not (is_between t e.0 f.0)) (is_of_lines a b t) (h.on f far_f))

    outweighs_same : (a b : LineId) → outweighs e f after a b ≡ outweighs e f terms a b
    outweighs_same a b =
        by_weights (weight_beside e f after a b) (link_weight e f after a b) (aparts_beside e f after a b) (apart_weight e f after a b)
        (weight_beside e f terms a b) (link_weight e f terms a b) (aparts_beside e f terms a b) (apart_weight e f terms a b)
        (beside_weigh a b) (links_weigh a b) (next_weigh a b) (aparts_weigh a b)
      where
        by_weights : (i j k l m n o q : ℕ) → i ≡ m → j ≡ n → k ≡ o → l ≡ q → (nat_le i j && nat_le k l) ≡ (nat_le m n && nat_le o q)
        by_weights i j k l m n o q h1 h2 h3 h4 = cc

    pub merge_same : (segs news : List (List LineId)) → lines_on news e ≡ lines_on segs e → lines_on news f ≡ lines_on segs f → (flip : Bool)
        → merge_applies (record { segs = news; terms = after }) e f flip ≡ merge_applies (record { segs = segs; terms = terms }) e f flip
    merge_same segs news at_e at_f flip =
        by_parts (not (e.0 == f.0)) (same_lines (lines_on news e) (lines_on news f)) (list_any (is_link_between e f) after)
        (list_all (λ t. not (is_link_between e f t) || has_flip flip t) after) (all_pairs (outweighs e f after) (lines_on news f))
        (same_lines (lines_on segs e) (lines_on segs f)) (list_any (is_link_between e f) terms)
        (list_all (λ t. not (is_link_between e f t) || has_flip flip t) terms) (all_pairs (outweighs e f terms) (lines_on segs f))
        (ap (λ (xs : List LineId). same_lines xs (lines_on news f)) at_e ∙ ap (same_lines (lines_on segs e)) at_f) some_link (flips_all flip)
        (pairs_alike (outweighs e f after) (outweighs e f terms) (lines_on news f) outweighs_same ∙ ap (all_pairs (outweighs e f terms)) at_f)
      where
        by_parts : (a b c d k b' c' d' k' : Bool) → b ≡ b' → c ≡ c' → d ≡ d' → k ≡ k' → (a && b && (c && d) && k) ≡ (a && b' && (c' && d') && k')
        by_parts a b c d k b' c' d' k' h1 h2 h3 h4 = cc

  module _ (e : SegId) (far_e : far e) (segs news : List (List LineId)) (at_e : lines_on news e ≡ lines_on segs e) where
    most_same : most_apart news after e ≡ most_apart segs terms e
    most_same =
        most_alike (λ a b. weight_where (λ t. is_apart t && is_on e t && is_of_lines a b t) after) (λ a b. weight_where (λ t. is_apart t && is_on e t && is_of_lines a b t) terms) (lines_on news e)
        (λ a b. weights (λ t. is_apart t && is_on e t && is_of_lines a b t)
        (λ t h. in_turn (is_apart (change t)) (is_on e (change t)) (is_of_lines a b (change t)) (is_apart t) (is_on e t) (is_of_lines a b t) h.apart (h.on e far_e) (h.lines a b))
        (λ t h. on_none (is_apart t) (is_on e t) (is_of_lines a b t) (h.on e far_e)))
        ∙ ap (λ (xs : List LineId). most_over_pairs (λ a b. weight_where (λ t. is_apart t && is_on e t && is_of_lines a b t) terms) xs) at_e

    part_same : (a b : LineId) → can_part (most_apart news after e) after e a b ≡ can_part (most_apart segs terms e) terms e a b
    part_same a b =
        by_parts (list_all (λ t. not (is_against e a b t)) after) (list_all (λ t. not (is_against e a b t)) terms) (most_apart news after e) (most_apart segs terms e)
        (weight_where (λ t. is_side t && is_on e t && is_of_lines a b t) after) (weight_where (λ t. is_side t && is_on e t && is_of_lines a b t) terms)
        (all_same keep change (λ t. not (is_against e a b t)) terms
        (each_of (IsKeptOrUnseen far keep change)
        (λ t. (keep t ≡ true → not (is_against e a b (change t)) ≡ not (is_against e a b t)) × (keep t ≡ false → not (is_against e a b t) ≡ true)) terms
        (λ t o. (λ h. ap not ((o.kept h).against e a b far_e), λ h. ap not ((o.dropped h).against e a b far_e))) each))
        most_same
        (weights (λ t. is_side t && is_on e t && is_of_lines a b t)
        (λ t h. in_turn (is_side (change t)) (is_on e (change t)) (is_of_lines a b (change t)) (is_side t) (is_on e t) (is_of_lines a b t) h.side (h.on e far_e) (h.lines a b))
        (λ t h. on_none (is_side t) (is_on e t) (is_of_lines a b t) (h.on e far_e)))
      where
        by_parts : (a b : Bool) (m n i j : ℕ) → a ≡ b → m ≡ n → i ≡ j → (a && nat_le (2 * m) i) ≡ (b && nat_le (2 * n) j)
        by_parts a b m n i j h1 h2 h3 = cc

    closure_same : (a : LineId) → closure (record { segs = news; terms = after }) e a ≡ closure (record { segs = segs; terms = terms }) e a
    closure_same a =
        grown_alike (most_apart news after e) (most_apart segs terms e) after terms e (lines_on news e) part_same (length (lines_on news e)) (a ∷ [])
        ∙ ap (λ (xs : List LineId). grown (most_apart segs terms e) terms e xs (length xs) (a ∷ [])) at_e

    pub divide_same : (a : LineId) → divide_of (record { segs = news; terms = after }) e a ≡ divide_of (record { segs = segs; terms = terms }) e a
    divide_same a =
        ap (λ (g : List LineId). if are_none (others (lines_on news e) g) then None else Some (Divide e g)) (closure_same a)
        ∙ ap (λ (xs : List LineId). if are_none (others xs (closure (record { segs = segs; terms = terms }) e a)) then None else Some (Divide e (closure (record { segs = segs; terms = terms }) e a))) at_e

-- A merge.

module _ (p : ProblemParts) (into from : SegId) (flip : Bool) where
  merge_each : (terms : List Term) → AllByRecursion (IsKeptOrUnseen (IsFar into from) (λ t. not (is_between t into.0 from.0)) (moved into from flip)) terms
  merge_each [] = tt
  merge_each (t ∷ terms) = (record { kept = λ h. moved_alike into from flip t; dropped = λ h. between_unseen into from t (was_true (is_between t into.0 from.0) h) }, merge_each terms)
    where
      was_true : (c : Bool) → not c ≡ false → c ≡ true
      was_true true h = refl
      was_true false h = sym h

  is_far : (s : SegId) → (s.0 == into.0 || s.0 == from.0) ≡ false → IsFar into from s
  is_far s h = let parts = neither (s.0 == into.0) (s.0 == from.0) h in (not_turned s.0 into.0 parts.0, not_turned s.0 from.0 parts.1)

  lines_stay : (s : SegId) → (s.0 == into.0 || s.0 == from.0) ≡ false → lines_on (slice_set p.segs from.0 []) s ≡ lines_on p.segs s
  lines_stay s h = get_or-set_other p.segs from.0 s.0 [] [] (eqb-false s.0 from.0 (neither (s.0 == into.0) (s.0 == from.0) h).1)

  pub merge_local : IsLocal p (Merge into from flip)
  merge_local = record {
    lines = λ e h. lines_stay e h;
    merges = λ e f h k.
        let same = merge_same (IsFar into from) (λ t. not (is_between t into.0 from.0)) (moved into from flip) p.terms (merge_each p.terms) e f (is_far e h) (is_far f k)
        p.segs (slice_set p.segs from.0 []) (lines_stay e h) (lines_stay f k) in
        ap (λ (c : Bool). if c then Some (Merge e f false) else if merge_applies (merged p into from flip) e f true then Some (Merge e f true) else None) (same false)
        ∙ ap (λ (c : Bool). if merge_applies p e f false then Some (Merge e f false) else if c then Some (Merge e f true) else None) (same true);
    divides = λ e a h.
        divide_same (IsFar into from) (λ t. not (is_between t into.0 from.0)) (moved into from flip) p.terms (merge_each p.terms) e (is_far e h)
        p.segs (slice_set p.segs from.0 []) (lines_stay e h) a;
  }
