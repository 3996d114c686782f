-- The sums of two lines: what one more term adds, and that none is near its limit.
use Rattle.std.proofs.Common.{◌≡◌, ℕ, ◌+◌, ◌*◌, ◌<◌, ◌≤◌, ◌^◌, ◌==◌, Bool, true, false, not, ◌||◌, ◌&&◌, List, [], ◌∷◌, length, get_or, take, refl, sym, ap, subst, ◌∙◌, arith, true≢false}
use Rattle.std.specs.Prelude.{if◌then◌else◌}
use Rattle.std.specs.List.{list_all, list_any}
use Rattle.std.proofs.lemmas.Bool.{leb-true}
use Rattle.std.proofs.lemmas.List.{take_more}
use Rattle.std.proofs.lemmas.List.Folds.{list_any-append}
use Rattle.std.proofs.lemmas.List.Sums.{sum_by-cons, sum_by_more, sum_by-take-le}
use Rattle.map_base.specs.declared.ids.SegId.{SegId}
use Rattle.map_base.specs.declared.ids.LineId.{LineId}
use Rattle.order_model.specs.declared.term.Term.{Term}
use Rattle.order_model.specs.declared.term.Term.TheVariants.{Side, Link, Apart}
use Rattle.order_model.specs.Costs.{are_these, weight_of}
use Rattle.order_model.specs.Parts.{is_between}
use Rattle.order_model.proofs.Lines.{both_true}
use Rattle.order_rules.specs.PairWeights.{is_side, is_link, is_apart, is_on, is_of_lines, weight_where}
use Rattle.order_rules.specs.Merging.{is_joining, is_beside, link_weight, apart_weight, weight_beside, aparts_beside}
use Rattle.order_rules.specs.Dividing.{is_against}
use Rattle.order_sums.specs.declared.pair_sums.PairSums.{PairSums}
use Rattle.order_sums.specs.PairSums.{pair_sums, with_sum, weight_if, IsSmall, is_light}
use Rattle.order_sums.specs.PairTables.{line_at, IsTable, AreSmall, with_pair}

-- One more term.

weight_more : (test : Term → Bool) (terms : List Term) (i : ℕ) (d : Term) → i < length terms
    → weight_where test (take (i + 1) terms) ≡ weight_where test (take i terms) + weight_if (test (get_or terms i d)) (get_or terms i d)
weight_more test terms i d below = sum_by_more (λ t. if test t then weight_of t else 0) terms i d below

or_false : (c : Bool) → (c || false) ≡ c
or_false true = refl
or_false false = refl

any_more : (test : Term → Bool) (terms : List Term) (i : ℕ) (d : Term) → i < length terms
    → list_any test (take (i + 1) terms) ≡ (list_any test (take i terms) || test (get_or terms i d))
any_more test terms i d below =
    ap (list_any test) (take_more terms i d below)
    ∙ (list_any-append test (take i terms) (get_or terms i d ∷ []) ∙ ap (λ (c : Bool). list_any test (take i terms) || c) (or_false (test (get_or terms i d))))

-- what speaks against two lines is of the two
pub against_lines : (e : SegId) (a b : LineId) (t : Term) → is_against e a b t ≡ true → is_of_lines a b t ≡ true
against_lines e a b (Side seg first second w) h =
    let parts = both_true (seg.0 == e.0 && first.0 == b.0) (second.0 == a.0) h in
    or_second (first.0 == a.0 && second.0 == b.0) (first.0 == b.0 && second.0 == a.0)
    (ap (λ (c : Bool). c && second.0 == a.0) (both_true (seg.0 == e.0) (first.0 == b.0) parts.0).1 ∙ parts.1)
  where
    or_second : (c d : Bool) → d ≡ true → (c || d) ≡ true
    or_second true d k = refl
    or_second false d k = k
against_lines e a b (Link seg other flip x y w) h = (both_true (seg.0 == e.0 || other.0 == e.0) (are_these x y a b) h).1
against_lines e a b (Apart seg other x y w) h = (both_true (seg.0 == e.0 || other.0 == e.0) (are_these x y a b) h).1

these_turned : (x y a b : LineId) → are_these x y b a ≡ are_these x y a b
these_turned x y a b = or_turned (x.0 == b.0 && y.0 == a.0) (x.0 == a.0 && y.0 == b.0)
  where
    or_turned : (c d : Bool) → (c || d) ≡ (d || c)
    or_turned true true = refl
    or_turned true false = refl
    or_turned false true = refl
    or_turned false false = refl

-- the two lines either way round
pub lines_turned : (a b : LineId) (t : Term) → is_of_lines b a t ≡ is_of_lines a b t
lines_turned a b (Side seg first second w) = these_turned first second a b
lines_turned a b (Link seg other flip x y w) = these_turned x y a b
lines_turned a b (Apart seg other x y w) = these_turned x y a b

not_against : (e : SegId) (a b : LineId) (t : Term) → is_of_lines a b t ≡ false → is_against e a b t ≡ false
not_against e a b t off = by_test (is_against e a b t) refl
  where
    by_test : (c : Bool) → is_against e a b t ≡ c → c ≡ false
    by_test true h = absurd (true≢false (sym (against_lines e a b t h) ∙ off))
    by_test false h = refl

made : ℕ → ℕ → ℕ → ℕ → ℕ → ℕ → Bool → Bool → PairSums
made l a b n s m x y = record { links = l; aparts = a; beside = b; aparts_beside = n; sides = s; all_aparts = m; against = x; against_turned = y }

same_made : (l a b n s m l1 a1 b1 n1 s1 m1 : ℕ) (x y x1 y1 : Bool) → l ≡ l1 → a ≡ a1 → b ≡ b1 → n ≡ n1 → s ≡ s1 → m ≡ m1 → x ≡ x1 → y ≡ y1
    → made l a b n s m x y ≡ made l1 a1 b1 n1 s1 m1 x1 y1
same_made l a b n s m l1 a1 b1 n1 s1 m1 x y x1 y1 h1 h2 h3 h4 h5 h6 h7 h8 =
    ap (λ (z : ℕ). made z a b n s m x y) h1
    ∙ (ap (λ (z : ℕ). made l1 z b n s m x y) h2
    ∙ (ap (λ (z : ℕ). made l1 a1 z n s m x y) h3
    ∙ (ap (λ (z : ℕ). made l1 a1 b1 z s m x y) h4
    ∙ (ap (λ (z : ℕ). made l1 a1 b1 n1 z m x y) h5
    ∙ (ap (λ (z : ℕ). made l1 a1 b1 n1 s1 z x y) h6
    ∙ (ap (λ (z : Bool). made l1 a1 b1 n1 s1 m1 z y) h7
    ∙ ap (λ (z : Bool). made l1 a1 b1 n1 s1 m1 x1 z) h8))))))

module _ (e f : SegId) (a b : LineId) (terms : List Term) (i : ℕ) (d : Term) (below : i < length terms) where
  -- a test of the two lines' terms, one way and the other of grouping it
  abbrev inner : (Term → Bool) → (Term → Bool) → Term → Bool
  inner p q t = p t && (q t && is_of_lines a b t)

  abbrev outer : (Term → Bool) → (Term → Bool) → Term → Bool
  outer p q t = (p t && q t) && is_of_lines a b t

  inner_on : (p q c : Bool) → c ≡ true → (p && (q && c)) ≡ (p && q)
  inner_on p q c h = ap (λ (z : Bool). p && (q && z)) h ∙ ap (λ (z : Bool). p && z) (and_true q)
    where
      and_true : (z : Bool) → (z && true) ≡ z
      and_true true = refl
      and_true false = refl

  outer_on : (p q c : Bool) → c ≡ true → ((p && q) && c) ≡ (p && q)
  outer_on p q c h = ap (λ (z : Bool). (p && q) && z) h ∙ and_true (p && q)
    where
      and_true : (z : Bool) → (z && true) ≡ z
      and_true true = refl
      and_true false = refl

  inner_off : (p q c : Bool) → c ≡ false → (p && (q && c)) ≡ false
  inner_off p q c h = ap (λ (z : Bool). p && (q && z)) h ∙ (ap (λ (z : Bool). p && z) (and_false q) ∙ and_false p)
    where
      and_false : (z : Bool) → (z && false) ≡ false
      and_false true = refl
      and_false false = refl

  outer_off : (p q c : Bool) → c ≡ false → ((p && q) && c) ≡ false
  outer_off p q c h = ap (λ (z : Bool). (p && q) && z) h ∙ and_false (p && q)
    where
      and_false : (z : Bool) → (z && false) ≡ false
      and_false true = refl
      and_false false = refl

  add_zero : (n : ℕ) → n + 0 ≡ n
  add_zero n = omega arith

  sum_on : (test : Term → Bool) (p : Bool) → test (get_or terms i d) ≡ p → weight_where test (take (i + 1) terms) ≡ weight_where test (take i terms) + weight_if p (get_or terms i d)
  sum_on test p h = weight_more test terms i d below ∙ ap (λ (z : Bool). weight_where test (take i terms) + weight_if z (get_or terms i d)) h

  sum_off : (test : Term → Bool) → test (get_or terms i d) ≡ false → weight_where test (take (i + 1) terms) ≡ weight_where test (take i terms)
  sum_off test h = sum_on test false h ∙ add_zero (weight_where test (take i terms))

  any_off : (test : Term → Bool) → test (get_or terms i d) ≡ false → list_any test (take (i + 1) terms) ≡ list_any test (take i terms)
  any_off test h = any_more test terms i d below ∙ (ap (λ (z : Bool). list_any test (take i terms) || z) h ∙ or_false (list_any test (take i terms)))

  abbrev on : Term → Bool
  on t = is_on f t

  abbrev between : Term → Bool
  between t = is_between t e.0 f.0

  abbrev beside : Term → Bool
  beside t = is_on f t && not (is_between t e.0 f.0)

  abbrev old : PairSums
  old = pair_sums e f (take i terms) a b

  pub sums_more : pair_sums e f (take (i + 1) terms) a b ≡ with_pair (pair_sums e f (take i terms)) e f (get_or terms i d) a b
  unfolding made
  sums_more = by_test (is_of_lines a b (get_or terms i d)) refl
    where
      by_test : (c : Bool) → is_of_lines a b (get_or terms i d) ≡ c
          → pair_sums e f (take (i + 1) terms) a b ≡ with_pair (pair_sums e f (take i terms)) e f (get_or terms i d) a b
      by_test true h =
          same_made (link_weight e f (take (i + 1) terms) a b) (apart_weight e f (take (i + 1) terms) a b) (weight_beside e f (take (i + 1) terms) a b) (aparts_beside e f (take (i + 1) terms) a b)
          (weight_where (outer is_side on) (take (i + 1) terms)) (weight_where (outer is_apart on) (take (i + 1) terms))
          (old.links + weight_if (is_link (get_or terms i d) && between (get_or terms i d)) (get_or terms i d))
          (old.aparts + weight_if (is_apart (get_or terms i d) && between (get_or terms i d)) (get_or terms i d))
          (old.beside + weight_if (not (is_apart (get_or terms i d)) && beside (get_or terms i d)) (get_or terms i d))
          (old.aparts_beside + weight_if (is_apart (get_or terms i d) && beside (get_or terms i d)) (get_or terms i d))
          (old.sides + weight_if (is_side (get_or terms i d) && on (get_or terms i d)) (get_or terms i d))
          (old.all_aparts + weight_if (is_apart (get_or terms i d) && on (get_or terms i d)) (get_or terms i d))
          (list_any (is_against f a b) (take (i + 1) terms)) (list_any (is_against f b a) (take (i + 1) terms))
          (old.against || is_against f a b (get_or terms i d)) (old.against_turned || is_against f b a (get_or terms i d))
          (sum_on (inner is_link between) (is_link (get_or terms i d) && between (get_or terms i d)) (inner_on (is_link (get_or terms i d)) (between (get_or terms i d)) (is_of_lines a b (get_or terms i d)) h))
          (sum_on (inner is_apart between) (is_apart (get_or terms i d) && between (get_or terms i d)) (inner_on (is_apart (get_or terms i d)) (between (get_or terms i d)) (is_of_lines a b (get_or terms i d)) h))
          (sum_on (inner (λ u. not (is_apart u)) beside) (not (is_apart (get_or terms i d)) && beside (get_or terms i d)) (inner_on (not (is_apart (get_or terms i d))) (beside (get_or terms i d)) (is_of_lines a b (get_or terms i d)) h))
          (sum_on (inner is_apart beside) (is_apart (get_or terms i d) && beside (get_or terms i d)) (inner_on (is_apart (get_or terms i d)) (beside (get_or terms i d)) (is_of_lines a b (get_or terms i d)) h))
          (sum_on (outer is_side on) (is_side (get_or terms i d) && on (get_or terms i d)) (outer_on (is_side (get_or terms i d)) (on (get_or terms i d)) (is_of_lines a b (get_or terms i d)) h))
          (sum_on (outer is_apart on) (is_apart (get_or terms i d) && on (get_or terms i d)) (outer_on (is_apart (get_or terms i d)) (on (get_or terms i d)) (is_of_lines a b (get_or terms i d)) h))
          (any_more (is_against f a b) terms i d below) (any_more (is_against f b a) terms i d below)
          ∙ sym (ap (λ (z : Bool). if z then with_sum old e f a b (get_or terms i d) else old) h)
      by_test false h =
          same_made (link_weight e f (take (i + 1) terms) a b) (apart_weight e f (take (i + 1) terms) a b) (weight_beside e f (take (i + 1) terms) a b) (aparts_beside e f (take (i + 1) terms) a b)
          (weight_where (outer is_side on) (take (i + 1) terms)) (weight_where (outer is_apart on) (take (i + 1) terms))
          old.links old.aparts old.beside old.aparts_beside old.sides old.all_aparts
          (list_any (is_against f a b) (take (i + 1) terms)) (list_any (is_against f b a) (take (i + 1) terms)) old.against old.against_turned
          (sum_off (inner is_link between) (inner_off (is_link (get_or terms i d)) (between (get_or terms i d)) (is_of_lines a b (get_or terms i d)) h))
          (sum_off (inner is_apart between) (inner_off (is_apart (get_or terms i d)) (between (get_or terms i d)) (is_of_lines a b (get_or terms i d)) h))
          (sum_off (inner (λ u. not (is_apart u)) beside) (inner_off (not (is_apart (get_or terms i d))) (beside (get_or terms i d)) (is_of_lines a b (get_or terms i d)) h))
          (sum_off (inner is_apart beside) (inner_off (is_apart (get_or terms i d)) (beside (get_or terms i d)) (is_of_lines a b (get_or terms i d)) h))
          (sum_off (outer is_side on) (outer_off (is_side (get_or terms i d)) (on (get_or terms i d)) (is_of_lines a b (get_or terms i d)) h))
          (sum_off (outer is_apart on) (outer_off (is_apart (get_or terms i d)) (on (get_or terms i d)) (is_of_lines a b (get_or terms i d)) h))
          (any_off (is_against f a b) (not_against f a b (get_or terms i d) h))
          (any_off (is_against f b a) (not_against f b a (get_or terms i d) (lines_turned a b (get_or terms i d) ∙ h)))
          ∙ sym (ap (λ (z : Bool). if z then with_sum old e f a b (get_or terms i d) else old) h)

-- No sum is near its limit.

weight_few : (test : Term → Bool) (terms : List Term) → list_all is_light terms ≡ true → weight_where test terms ≤ 256000 * length terms
weight_few test [] h = omega arith
weight_few test (t ∷ terms) h =
    let parts = both_true (is_light t) (list_all is_light terms) h in
    let light : weight_of t ≤ 256000 = leb-true (weight_of t) 256000 parts.0 in
    omega (arith, sum_by-cons (λ u. if test u then weight_of u else 0) t terms, by_test (test t), light, weight_few test terms parts.1)
  where
    by_test : (c : Bool) → (if c then weight_of t else 0) ≤ weight_of t
    by_test true = omega arith
    by_test false = omega arith

far_below : (n m : ℕ) → n ≤ 256000 * m → m ≤ 4000000 → n < 2 ^ 63
far_below n m h k = omega (arith, h, k)

weight_small : (test : Term → Bool) (terms : List Term) (i : ℕ) → list_all is_light terms ≡ true → length terms ≤ 4000000 → weight_where test (take i terms) < 2 ^ 63
weight_small test terms i light few =
    far_below (weight_where test (take i terms)) (length terms)
    (omega (arith, sum_by-take-le (λ t. if test t then weight_of t else 0) terms i, weight_few test terms light)) few

pub all_weights_small : (test : Term → Bool) (terms : List Term) → list_all is_light terms ≡ true → length terms ≤ 4000000 → weight_where test terms < 2 ^ 63
all_weights_small test terms light few = far_below (weight_where test terms) (length terms) (weight_few test terms light) few

pub small_so_far : (e f : SegId) (terms : List Term) (i : ℕ) (lines : List LineId) (table : List (List PairSums)) → list_all is_light terms ≡ true → length terms ≤ 4000000
    → IsTable (pair_sums e f (take i terms)) lines table → AreSmall lines table
small_so_far e f terms i lines table light few is j k j_below k_below =
    subst IsSmall (sym (is.sums j k j_below k_below)) (small (line_at lines j) (line_at lines k))
  where
    small : (a b : LineId) → IsSmall (pair_sums e f (take i terms) a b)
    small a b = record {
      links_small = weight_small (λ t. is_link t && is_joining e f a b t) terms i light few;
      aparts_small = weight_small (λ t. is_apart t && is_joining e f a b t) terms i light few;
      beside_small = weight_small (λ t. not (is_apart t) && is_beside e f a b t) terms i light few;
      aparts_beside_small = weight_small (λ t. is_apart t && is_beside e f a b t) terms i light few;
      sides_small = weight_small (λ t. is_side t && is_on f t && is_of_lines a b t) terms i light few;
      all_aparts_small = weight_small (λ t. is_apart t && is_on f t && is_of_lines a b t) terms i light few;
    }
