-- What a rule leaves of terms, as it is seen from segments far from it: tests and sums that come out the same.
use Rattle.std.proofs.Common.{◌≡◌, ℕ, zero, suc, Bool, true, false, not, cond, ◌||◌, ◌&&◌, List, [], ◌∷◌, map, max, refl, sym, ap, ◌∙◌, arith}
use Rattle.std.specs.Prelude.{filter, if◌then◌else◌}
use Rattle.std.specs.List.{AllByRecursion, list_any, list_all}
use Rattle.std.proofs.lemmas.List.Sums.{sum_by-cons}
use Rattle.map_base.specs.declared.ids.SegId.{SegId}
use Rattle.map_base.specs.declared.ids.LineId.{LineId}
use Rattle.order_model.specs.declared.term.Term.{Term}
use Rattle.order_model.specs.Costs.{weight_of}
use Rattle.order_model.specs.Parts.{is_between}
use Rattle.order_model.specs.Places.{has_line}
use Rattle.order_rules.specs.PairWeights.{is_side, is_link, is_apart, is_on, is_of_lines, weight_where, all_pairs, most_by, most_over_pairs}
use Rattle.order_rules.specs.Merging.{is_link_between, has_flip}
use Rattle.order_rules.specs.Dividing.{is_against, can_part, is_held, grown}

-- from far segments the one term looks like the other
pub record AreAlike (far : SegId → Type 0) (t u : Term) : Type 0 where
  pub side : is_side u ≡ is_side t
  pub link : is_link u ≡ is_link t
  pub apart : is_apart u ≡ is_apart t
  pub weight : weight_of u ≡ weight_of t
  pub lines : (a b : LineId) → is_of_lines a b u ≡ is_of_lines a b t
  pub on : (s : SegId) → far s → is_on s u ≡ is_on s t
  pub between : (e f : SegId) → far e → far f → is_between u e.0 f.0 ≡ is_between t e.0 f.0
  pub flip : (e f : SegId) (q : Bool) → far e → far f → is_link_between e f t ≡ true → has_flip q u ≡ has_flip q t
  pub against : (s : SegId) (a b : LineId) → far s → is_against s a b u ≡ is_against s a b t

-- no far segment sees the term
pub record IsUnseen (far : SegId → Type 0) (t : Term) : Type 0 where
  pub on : (s : SegId) → far s → is_on s t ≡ false
  pub between : (e f : SegId) → far e → far f → is_between t e.0 f.0 ≡ false
  pub against : (s : SegId) (a b : LineId) → far s → is_against s a b t ≡ false

-- the terms that are kept look like what becomes of them, and those that are dropped are not seen
pub record IsKeptOrUnseen (far : SegId → Type 0) (keep : Term → Bool) (change : Term → Term) (t : Term) : Type 0 where
  pub kept : keep t ≡ true → AreAlike far t (change t)
  pub dropped : keep t ≡ false → IsUnseen far t

-- Tests over a list of which some are dropped and the others changed.

module _ (keep : Term → Bool) (change : Term → Term) where
  pub any_same : (test : Term → Bool) (terms : List Term)
      → AllByRecursion (λ t. (keep t ≡ true → test (change t) ≡ test t) × (keep t ≡ false → test t ≡ false)) terms
      → list_any test (map change (filter keep terms)) ≡ list_any test terms
  any_same test [] each = refl
  any_same test (t ∷ terms) each = by_kept (keep t) refl (any_same test terms each.1)
    where
      by_kept : (c : Bool) → keep t ≡ c → list_any test (map change (filter keep terms)) ≡ list_any test terms
          → list_any test (map change (cond c (t ∷ filter keep terms) (filter keep terms))) ≡ (test t || list_any test terms)
      by_kept true h rest = ap (λ (b : Bool). b || list_any test (map change (filter keep terms))) (each.0.0 h) ∙ ap (λ (b : Bool). test t || b) rest
      by_kept false h rest = rest ∙ ap (λ (b : Bool). b || list_any test terms) (sym (each.0.1 h))

  pub all_same : (test : Term → Bool) (terms : List Term)
      → AllByRecursion (λ t. (keep t ≡ true → test (change t) ≡ test t) × (keep t ≡ false → test t ≡ true)) terms
      → list_all test (map change (filter keep terms)) ≡ list_all test terms
  all_same test [] each = refl
  all_same test (t ∷ terms) each = by_kept (keep t) refl (all_same test terms each.1)
    where
      by_kept : (c : Bool) → keep t ≡ c → list_all test (map change (filter keep terms)) ≡ list_all test terms
          → list_all test (map change (cond c (t ∷ filter keep terms) (filter keep terms))) ≡ (test t && list_all test terms)
      by_kept true h rest = ap (λ (b : Bool). b && list_all test (map change (filter keep terms))) (each.0.0 h) ∙ ap (λ (b : Bool). test t && b) rest
      by_kept false h rest = rest ∙ ap (λ (b : Bool). b && list_all test terms) (sym (each.0.1 h))

  pub weight_same : (test : Term → Bool) (terms : List Term)
      → AllByRecursion (λ t. (keep t ≡ true → (test (change t) ≡ test t) × (weight_of (change t) ≡ weight_of t)) × (keep t ≡ false → test t ≡ false)) terms
      → weight_where test (map change (filter keep terms)) ≡ weight_where test terms
  weight_same test [] each = refl
  weight_same test (t ∷ terms) each = by_kept (keep t) refl (weight_same test terms each.1)
    where
      by_kept : (c : Bool) → keep t ≡ c → weight_where test (map change (filter keep terms)) ≡ weight_where test terms
          → weight_where test (map change (cond c (t ∷ filter keep terms) (filter keep terms))) ≡ weight_where test (t ∷ terms)
      by_kept true h rest =
          let same : (if test (change t) then weight_of (change t) else 0) ≡ (if test t then weight_of t else 0) =
          ap (λ (b : Bool). cond b (weight_of (change t)) 0) (each.0.0 h).0 ∙ ap (λ (n : ℕ). cond (test t) n 0) (each.0.0 h).1 in
          omega (arith, rest, same, sum_by-cons (λ u. if test u then weight_of u else 0) (change t) (map change (filter keep terms)), sum_by-cons (λ u. if test u then weight_of u else 0) t terms)
      by_kept false h rest =
          let none : (if test t then weight_of t else 0) ≡ 0 = ap (λ (b : Bool). cond b (weight_of t) 0) (each.0.1 h) in
          omega (arith, rest, none, sum_by-cons (λ u. if test u then weight_of u else 0) t terms)

-- Tests that agree.

pub all_alike : {A : Type 0} (f g : A → Bool) (xs : List A) → ((x : A) → f x ≡ g x) → list_all f xs ≡ list_all g xs
all_alike f g [] h = refl
all_alike f g (x ∷ xs) h = ap (λ (b : Bool). b && list_all f xs) (h x) ∙ ap (λ (b : Bool). g x && b) (all_alike f g xs h)

pub any_alike : {A : Type 0} (f g : A → Bool) (xs : List A) → ((x : A) → f x ≡ g x) → list_any f xs ≡ list_any g xs
any_alike f g [] h = refl
any_alike f g (x ∷ xs) h = ap (λ (b : Bool). b || list_any f xs) (h x) ∙ ap (λ (b : Bool). g x || b) (any_alike f g xs h)

pub filter_alike : {A : Type 0} (f g : A → Bool) (xs : List A) → ((x : A) → f x ≡ g x) → filter f xs ≡ filter g xs
filter_alike f g [] h = refl
filter_alike {A} f g (x ∷ xs) h =
    ap (λ (b : Bool). cond b (x ∷ filter f xs) (filter f xs)) (h x) ∙ ap (λ (ys : List A). cond (g x) (x ∷ ys) ys) (filter_alike f g xs h)

pub pairs_alike : (f g : LineId → LineId → Bool) (xs : List LineId) → ((a b : LineId) → f a b ≡ g a b) → all_pairs f xs ≡ all_pairs g xs
pairs_alike f g [] h = refl
pairs_alike f g (a ∷ xs) h = ap (λ (b : Bool). b && all_pairs f xs) (all_alike (f a) (g a) xs (h a)) ∙ ap (λ (b : Bool). list_all (g a) xs && b) (pairs_alike f g xs h)

most_by_alike : (f g : LineId → ℕ) (xs : List LineId) → ((a : LineId) → f a ≡ g a) → most_by f xs ≡ most_by g xs
most_by_alike f g [] h = refl
most_by_alike f g (a ∷ xs) h = ap (λ (n : ℕ). max n (most_by f xs)) (h a) ∙ ap (λ (n : ℕ). max (g a) n) (most_by_alike f g xs h)

pub most_alike : (f g : LineId → LineId → ℕ) (xs : List LineId) → ((a b : LineId) → f a b ≡ g a b) → most_over_pairs f xs ≡ most_over_pairs g xs
most_alike f g [] h = refl
most_alike f g (a ∷ xs) h =
    ap (λ (n : ℕ). max n (most_over_pairs f xs)) (most_by_alike (f a) (g a) xs (h a)) ∙ ap (λ (n : ℕ). max (most_by (g a) xs) n) (most_alike f g xs h)

-- a group grows the same way where each line can stand before the same ones
pub grown_alike : (m n : ℕ) (terms others : List Term) (e : SegId) (lines : List LineId) → ((a b : LineId) → can_part m terms e a b ≡ can_part n others e a b)
    → (k : ℕ) (group : List LineId) → grown m terms e lines k group ≡ grown n others e lines k group
grown_alike m n terms others e lines h zero group = refl
grown_alike m n terms others e lines h (suc k) group =
    let held : (b : LineId) → is_held m terms e group b ≡ is_held n others e group b =
    λ b. ap (λ (c : Bool). has_line group b || c) (any_alike (λ a. not (can_part m terms e a b)) (λ a. not (can_part n others e a b)) group (λ a. ap not (h a b))) in
    ap (grown m terms e lines k) (filter_alike (is_held m terms e group) (is_held n others e group) lines held)
    ∙ grown_alike m n terms others e lines h k (filter (is_held n others e group) lines)
