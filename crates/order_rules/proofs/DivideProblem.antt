-- What a division makes of a problem is a problem, with one choice fewer.
use Rattle.std.proofs.Common.{◌≡◌, ◌≢◌, ℕ, ◌+◌, ◌<◌, ◌==◌, Bool, true, false, not, cond, ◌||◌, ◌&&◌, List, [], ◌∷◌, ◌++◌, length, get_or, refl, sym, subst, ◌∙◌, arith, inl, inr, true≢false, eqb-true, eq-eqb}
use Rattle.std.specs.Prelude.{slice_set, filter}
use Rattle.std.specs.List.{Contains, sum_by}
use Rattle.std.proofs.lemmas.Bool.{not-true, eqb-false, or_parts}
use Rattle.std.proofs.lemmas.List.{get_or-set_other, get_or_append_left, length-set, length-append}
use Rattle.std.proofs.lemmas.List.Elements.{All-set, All-push}
use Rattle.std.proofs.lemmas.List.Sums.{sum_by-set, sum_by_push}
use Rattle.std.proofs.lemmas.List.Sorted.{length_permutation}
use Rattle.map_base.specs.declared.ids.SegId.{SegId}
use Rattle.map_base.specs.declared.ids.LineId.{LineId}
use Rattle.graph_core.specs.Consistent.{AreRising}
use Rattle.order_model.specs.declared.term.Term.{Term}
use Rattle.order_model.specs.declared.term.Term.TheVariants.{Side, Link, Apart}
use Rattle.order_model.specs.declared.problem.ProblemParts.{ProblemParts}
use Rattle.order_model.specs.Problems.{lines_on, IsOn, IsTerm, IsPair, choices, IsProblem}
use Rattle.order_model.specs.Places.{has_line}
use Rattle.order_model.proofs.Lines.{either_true, both_true, same_line}
use Rattle.order_model.proofs.RisingLines.{contains_first, contains_later, rising_tail}
use Rattle.order_rules.specs.PairWeights.{is_on}
use Rattle.order_rules.specs.Merging.{renamed}
use Rattle.order_rules.specs.Dividing.{others, is_with, is_across, renumbered, sent, divided}
use Rattle.order_rules.proofs.MergeLess.{on_two}
use Rattle.order_rules.proofs.DivideCosts.{new_seg}
use Rattle.order_rules.proofs.DivideRule.{Divides, count, here, last, covers, lines_parted}
use Rattle.order_rules.proofs.MergeProblem.{AreTwoOn, link_turned, apart_turned, terms_kept, few_kept}

contained : (xs : List LineId) (a : LineId) → has_line xs a ≡ true → Contains xs a
contained [] a h = absurd (true≢false (sym h))
contained (x ∷ xs) a h = elim (either_true (x.0 == a.0) (has_line xs a) h) [
  | inl k ↦ subst (λ (l : LineId). Contains (x ∷ xs) l) (same_line x a k) (contains_first x xs)
  | inr later ↦ contains_later x a xs (contained xs a later)
]

-- what a test keeps of rising lines rises
kept_above : (p : LineId → Bool) (x : LineId) (xs : List LineId) → AreRising (x ∷ xs) → AreRising (filter p xs) → AreRising (x ∷ filter p xs)
kept_above p x [] h k = tt
kept_above p x (y ∷ xs) h k = by_test (p y) k (kept_above p x xs (skipped x y xs h))
  where
    skipped : (x y : LineId) (xs : List LineId) → AreRising (x ∷ y ∷ xs) → AreRising (x ∷ xs)
    skipped x y [] h = tt
    skipped x y (z ∷ xs) h = (omega (arith, h.0, h.1.0), h.1.1)

    by_test : (c : Bool) → AreRising (cond c (y ∷ filter p xs) (filter p xs)) → (AreRising (filter p xs) → AreRising (x ∷ filter p xs)) → AreRising (x ∷ cond c (y ∷ filter p xs) (filter p xs))
    by_test true k rest = (h.0, k)
    by_test false k rest = rest k

pub rising_kept : (p : LineId → Bool) (xs : List LineId) → AreRising xs → AreRising (filter p xs)
rising_kept p [] h = tt
rising_kept p (x ∷ xs) h = by_test (p x) (rising_kept p xs (rising_tail x xs h))
  where
    by_test : (c : Bool) → AreRising (filter p xs) → AreRising (cond c (x ∷ filter p xs) (filter p xs))
    by_test true k = kept_above p x xs h k
    by_test false k = k

either_false : (a b : Bool) → (a || b) ≡ true → a ≡ false → b ≡ true
either_false true b h k = absurd (true≢false k)
either_false false b h k = h

on_first : (seg other e : SegId) → seg.0 ≡ e.0 → (seg.0 == e.0 || other.0 == e.0) ≡ true
on_first seg other e same = let h : (seg.0 == e.0) ≡ true = eq-eqb seg.0 e.0 same in rw h refl

on_second : (seg other e : SegId) → other.0 ≡ e.0 → (seg.0 == e.0 || other.0 == e.0) ≡ true
on_second seg other e same = let h : (other.0 == e.0) ≡ true = eq-eqb other.0 e.0 same in rw h (last_true (seg.0 == e.0))
  where
    last_true : (c : Bool) → (c || true) ≡ true
    last_true true = refl
    last_true false = refl

-- two lines are of one side
record AreBoth (side : List LineId) (a b : LineId) : Type 0 where
  pub first : has_line side a ≡ true
  pub second : has_line side b ≡ true

module _ (p : ProblemParts) (e : SegId) (group : List LineId) (ok : Divides p e group) where
  abbrev lines : List LineId
  lines = lines_on p.segs e

  abbrev rest : List LineId
  rest = others lines group

  abbrev new : SegId
  new = new_seg p.segs

  abbrev R : ProblemParts
  R = divided p e group

  elsewhere : (s : SegId) → s.0 < length p.segs → s.0 ≢ e.0 → lines_on R.segs s ≡ lines_on p.segs s
  elsewhere s below n =
      let within : s.0 < length (slice_set p.segs e.0 group) = omega (arith, length-set p.segs e.0 group, below) in
      get_or_append_left (slice_set p.segs e.0 group) (rest ∷ []) [] s.0 within ∙ get_or-set_other p.segs e.0 s.0 group [] n

  -- a line that is kept where its segment is
  stays : (s : SegId) (a : LineId) → s.0 < length p.segs → (s.0 ≡ e.0 → has_line group a ≡ true) → IsOn p.segs s a → IsOn R.segs s a
  stays s a below of on = by_test (s.0 == e.0) refl
    where
      by_test : (c : Bool) → (s.0 == e.0) ≡ c → IsOn R.segs s a
      by_test true k =
          let F : ℕ → Type 0 = λ n. Contains (get_or R.segs n []) a in
          let Q : List LineId → Type 0 = λ xs. Contains xs a in
          let same : s.0 ≡ e.0 = eqb-true s.0 e.0 k in
          subst F (sym same) (subst Q (sym (here p e group ok)) (contained group a (of same)))
      by_test false k = let Q : List LineId → Type 0 = λ xs. Contains xs a in subst Q (sym (elsewhere s below (eqb-false s.0 e.0 k))) on

  -- a line of the rest goes to the new segment
  goes : (s : SegId) (a : LineId) → s.0 < length p.segs → has_line rest a ≡ true → IsOn p.segs s a → IsOn R.segs (renamed new e s) a
  goes s a below of on = by_test (s.0 == e.0) refl
    where
      by_test : (c : Bool) → (s.0 == e.0) ≡ c → IsOn R.segs (cond c new s) a
      by_test true k = let Q : List LineId → Type 0 = λ xs. Contains xs a in subst Q (sym (last p e group ok)) (contained rest a of)
      by_test false k = let Q : List LineId → Type 0 = λ xs. Contains xs a in subst Q (sym (elsewhere s below (eqb-false s.0 e.0 k))) on

  known : (s : SegId) → s.0 < length p.segs → (renamed new e s).0 < length R.segs
  known s below = by_test (s.0 == e.0)
    where
      by_test : (c : Bool) → (let x : SegId = cond c new s in x.0 < length R.segs)
      by_test true = omega (arith, count p e group ok)
      by_test false = omega (arith, count p e group ok, below)

  apart : (s o : SegId) → s.0 < o.0 → o.0 < length p.segs → (renamed new e s).0 ≢ (renamed new e o).0
  apart s o below within = by_tests (s.0 == e.0) (o.0 == e.0) refl refl
    where
      by_tests : (c d : Bool) → (s.0 == e.0) ≡ c → (o.0 == e.0) ≡ d → (let x : SegId = cond c new s in let y : SegId = cond d new o in x.0 ≢ y.0)
      by_tests true true h k = absurd (omega (arith, below, eqb-true s.0 e.0 h, eqb-true o.0 e.0 k))
      by_tests true false h k = omega (arith, within)
      by_tests false true h k = omega (arith, below, within)
      by_tests false false h k = omega (arith, below)

  -- a line of the segment that is not of the one side is of the other
  of_group : (a : LineId) → IsOn p.segs e a → has_line rest a ≡ false → has_line group a ≡ true
  of_group a on h = elim (covers p e group ok a on) [ inl k ↦ k.0 | inr k ↦ absurd (true≢false (sym k.1 ∙ h)) ]

  of_rest : (a : LineId) → IsOn p.segs e a → has_line group a ≡ false → has_line rest a ≡ true
  of_rest a on h = elim (covers p e group ok a on) [ inl k ↦ absurd (true≢false (sym k.0 ∙ h)) | inr k ↦ k.1 ]

  -- The two lines of a term on the segment are both of the rest, or both of the group.

  both_rest : (on : Bool) (a b : LineId) → on ≡ true → (on && (has_line group a || has_line group b) && (has_line rest a || has_line rest b)) ≡ false
      → (on && (has_line rest a || has_line rest b)) ≡ true → IsOn p.segs e a → IsOn p.segs e b → AreBoth rest a b
  both_rest on a b sure none some on_a on_b =
      let parts = both_true on (has_line rest a || has_line rest b) some in
      let out = or_parts (has_line group a) (has_line group b) (not_both on (has_line group a || has_line group b) (has_line rest a || has_line rest b) sure parts.1 none) in
      record { first = of_rest a on_a out.0; second = of_rest b on_b out.1 }
    where
      not_both : (x y z : Bool) → x ≡ true → z ≡ true → (x && y && z) ≡ false → y ≡ false
      not_both true true true h k n = absurd (true≢false n)
      not_both true true false h k n = absurd (true≢false (sym k))
      not_both true false z h k n = refl
      not_both false y z h k n = absurd (true≢false (sym h))

  both_group : (on : Bool) (a b : LineId) → on ≡ true → (on && (has_line rest a || has_line rest b)) ≡ false → IsOn p.segs e a → IsOn p.segs e b → AreBoth group a b
  both_group on a b sure none on_a on_b =
      let out = or_parts (has_line rest a) (has_line rest b) (not_so on (has_line rest a || has_line rest b) sure none) in
      record { first = of_group a on_a out.0; second = of_group b on_b out.1 }
    where
      not_so : (x y : Bool) → x ≡ true → (x && y) ≡ false → y ≡ false
      not_so true y h n = n
      not_so false y h n = absurd (true≢false (sym h))

  pair_gone : (s o : SegId) (a b : LineId) (w : ℕ) → IsPair p.segs s o a b w → AreBoth rest a b → AreTwoOn R.segs (renamed new e s) (renamed new e o) a b w
  pair_gone s o a b w t both =
      let s_known : s.0 < length p.segs = omega (arith, t.seg_below, t.other_known) in
      record {
        s_known = known s s_known;
        o_known = known o t.other_known;
        differ = apart s o t.seg_below t.other_known;
        below = t.a_below;
        a_on = goes s a s_known both.first t.a_on;
        b_on = goes s b s_known both.second t.b_on;
        a_on_other = goes o a t.other_known both.first t.a_on_other;
        b_on_other = goes o b t.other_known both.second t.b_on_other;
        weight = t.weight;
      }

  pair_kept : (s o : SegId) (a b : LineId) (w : ℕ) → IsPair p.segs s o a b w → ((s.0 == e.0 || o.0 == e.0) ≡ true → AreBoth group a b) → IsPair R.segs s o a b w
  pair_kept s o a b w t both =
      let s_known : s.0 < length p.segs = omega (arith, t.seg_below, t.other_known) in
      record {
        other_known = omega (arith, count p e group ok, t.other_known);
        seg_below = t.seg_below;
        a_below = t.a_below;
        a_on = stays s a s_known (λ same. (both (on_first s o e same)).first) t.a_on;
        b_on = stays s b s_known (λ same. (both (on_first s o e same)).second) t.b_on;
        a_on_other = stays o a t.other_known (λ same. (both (on_second s o e same)).first) t.a_on_other;
        b_on_other = stays o b t.other_known (λ same. (both (on_second s o e same)).second) t.b_on_other;
        weight = t.weight;
      }

  gone : (t : Term) → IsTerm p.segs t → is_across e group rest t ≡ false → (is_on e t && is_with rest t) ≡ true → IsTerm R.segs (renumbered e new t)
  gone (Side seg first second w) t none h =
      let on : (seg.0 == e.0 || seg.0 == e.0) ≡ true = (both_true (seg.0 == e.0 || seg.0 == e.0) (has_line rest first || has_line rest second) h).0 in
      let two = on_two p.segs e (Side seg first second w) t on in
      let both = both_rest (seg.0 == e.0 || seg.0 == e.0) first second on none h two.x_on two.y_on in
      record {
        seg_known = known seg t.seg_known;
        differ = t.differ;
        first_on = goes seg first t.seg_known both.first t.first_on;
        second_on = goes seg second t.seg_known both.second t.second_on;
        weight = t.weight;
      }
  gone (Link seg other turns a b w) t none h =
      let on : (seg.0 == e.0 || other.0 == e.0) ≡ true = (both_true (seg.0 == e.0 || other.0 == e.0) (has_line rest a || has_line rest b) h).0 in
      let two = on_two p.segs e (Link seg other turns a b w) t on in
      let both = both_rest (seg.0 == e.0 || other.0 == e.0) a b on none h two.x_on two.y_on in
      link_turned R.segs (renamed new e seg) (renamed new e other) turns a b w (pair_gone seg other a b w t both)
  gone (Apart seg other a b w) t none h =
      let on : (seg.0 == e.0 || other.0 == e.0) ≡ true = (both_true (seg.0 == e.0 || other.0 == e.0) (has_line rest a || has_line rest b) h).0 in
      let two = on_two p.segs e (Apart seg other a b w) t on in
      let both = both_rest (seg.0 == e.0 || other.0 == e.0) a b on none h two.x_on two.y_on in
      apart_turned R.segs (renamed new e seg) (renamed new e other) a b w (pair_gone seg other a b w t both)

  kept : (t : Term) → IsTerm p.segs t → (is_on e t && is_with rest t) ≡ false → IsTerm R.segs t
  kept (Side seg first second w) t h = record {
    seg_known = omega (arith, count p e group ok, t.seg_known);
    differ = t.differ;
    first_on = stays seg first t.seg_known (λ same. (both same).first) t.first_on;
    second_on = stays seg second t.seg_known (λ same. (both same).second) t.second_on;
    weight = t.weight;
  }
    where
      both : seg.0 ≡ e.0 → AreBoth group first second
      both same =
          let on = on_first seg seg e same in
          let two = on_two p.segs e (Side seg first second w) t on in
          both_group (seg.0 == e.0 || seg.0 == e.0) first second on h two.x_on two.y_on
  kept (Link seg other turns a b w) t h =
      pair_kept seg other a b w t (λ on. let two = on_two p.segs e (Link seg other turns a b w) t on in
      both_group (seg.0 == e.0 || other.0 == e.0) a b on h two.x_on two.y_on)
  kept (Apart seg other a b w) t h =
      pair_kept seg other a b w t (λ on. let two = on_two p.segs e (Apart seg other a b w) t on in
      both_group (seg.0 == e.0 || other.0 == e.0) a b on h two.x_on two.y_on)

  sent_term : (t : Term) → IsTerm p.segs t → not (is_across e group rest t) ≡ true → IsTerm R.segs (sent e new rest t)
  sent_term t is none = by_test (is_on e t && is_with rest t) refl
    where
      by_test : (c : Bool) → (is_on e t && is_with rest t) ≡ c → IsTerm R.segs (cond c (renumbered e new t) t)
      by_test true h = gone t is (not-true (is_across e group rest t) none) h
      by_test false h = kept t is h

  choices_kept : sum_by choices R.segs + 1 ≡ sum_by choices p.segs
  choices_kept =
      omega (
        arith,
        sum_by_push choices (slice_set p.segs e.0 group) rest,
        sum_by-set choices p.segs e.0 group [] ok.known,
        length_permutation lines (group ++ rest) (lines_parted p e group ok),
        length-append group rest,
        ok.some,
        ok.others_some,
      )

  pub fewer_choices : sum_by choices R.segs < sum_by choices p.segs
  fewer_choices = omega (arith, choices_kept)

  pub divided_problem : IsProblem p → IsProblem R
  divided_problem is = record {
    rising = All-push AreRising (slice_set p.segs e.0 group) rest (All-set AreRising p.segs e.0 group ok.group_rising is.rising) (rising_kept (λ b. not (has_line group b)) lines ok.rising);
    terms = terms_kept (IsTerm p.segs) (IsTerm R.segs) (λ t. not (is_across e group rest t)) (sent e new rest) p.terms is.terms sent_term;
    few_terms = omega (arith, few_kept (λ t. not (is_across e group rest t)) (sent e new rest) p.terms, is.few_terms);
    few_choices = omega (arith, choices_kept, count p e group ok, is.few_choices);
  }
