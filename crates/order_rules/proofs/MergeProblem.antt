-- What a merge makes of a problem is a problem, with fewer choices.
use Rattle.std.proofs.Common.{◌≡◌, ◌≢◌, ℕ, ◌<◌, ◌≤◌, ◌==◌, Bool, true, false, not, cond, ◌||◌, ◌&&◌, List, [], length, get_or, map, refl, sym, subst, arith, eqb-true, nat_lt}
use Rattle.std.specs.Prelude.{filter}
use Rattle.std.specs.List.{All, Contains, sum_by}
use Rattle.std.proofs.lemmas.Bool.{not-true, eqb-false, ltb-true}
use Rattle.std.proofs.lemmas.Bool.Decides.{nat_tests}
use Rattle.std.proofs.lemmas.List.{get_or-set_other, length-set, length-map}
use Rattle.std.proofs.lemmas.List.Elements.{All-set, All-map, All-filter, filter_passes}
use Rattle.std.proofs.lemmas.List.Filters.{length-filter_both}
use Rattle.std.proofs.lemmas.List.Sums.{sum_by-set}
use Rattle.map_base.specs.declared.ids.SegId.{SegId}
use Rattle.map_base.specs.declared.ids.LineId.{LineId}
use Rattle.graph_core.specs.Consistent.{AreRising}
use Rattle.order_model.specs.declared.term.Term.{Term}
use Rattle.order_model.specs.declared.term.Term.TheVariants.{Side, Link, Apart}
use Rattle.order_model.specs.declared.problem.ProblemParts.{ProblemParts}
use Rattle.order_model.specs.Problems.{lines_on, IsOn, IsTerm, IsPair, IsWeight, choices, IsProblem}
use Rattle.order_model.specs.Parts.{is_between, are_ends}
use Rattle.order_rules.specs.Merging.{renamed, turned, moved, merged}
use Rattle.order_rules.proofs.MergeRule.{Merges, e_lines, on_e}

-- two lines on two different segments, in either order of the segments
pub record AreTwoOn (segs : List (List LineId)) (s o : SegId) (a b : LineId) (w : ℕ) : Type 0 where
  pub s_known : s.0 < length segs
  pub o_known : o.0 < length segs
  pub differ : s.0 ≢ o.0
  pub below : a.0 < b.0
  pub a_on : IsOn segs s a
  pub b_on : IsOn segs s b
  pub a_on_other : IsOn segs o a
  pub b_on_other : IsOn segs o b
  pub weight : IsWeight w

pair_on : (segs : List (List LineId)) (s o : SegId) (a b : LineId) (w : ℕ) → AreTwoOn segs s o a b w → s.0 < o.0 → IsPair segs s o a b w
pair_on segs s o a b w t below = record {
  other_known = t.o_known;
  seg_below = below;
  a_below = t.below;
  a_on = t.a_on;
  b_on = t.b_on;
  a_on_other = t.a_on_other;
  b_on_other = t.b_on_other;
  weight = t.weight;
}

pair_back : (segs : List (List LineId)) (s o : SegId) (a b : LineId) (w : ℕ) → AreTwoOn segs s o a b w → o.0 < s.0 → IsPair segs o s a b w
pair_back segs s o a b w t below = record {
  other_known = t.s_known;
  seg_below = below;
  a_below = t.below;
  a_on = t.a_on_other;
  b_on = t.b_on_other;
  a_on_other = t.a_on;
  b_on_other = t.b_on;
  weight = t.weight;
}

not_less : (s o : ℕ) → nat_lt o s ≡ false → s ≢ o → s < o
not_less s o h n = grind (arith, nat_tests)

pub link_turned : (segs : List (List LineId)) (s o : SegId) (turns : Bool) (a b : LineId) (w : ℕ) → AreTwoOn segs s o a b w → IsTerm segs (turned (Link s o turns a b w))
link_turned segs s o turns a b w t = by_test (nat_lt o.0 s.0) refl
  where
    by_test : (c : Bool) → nat_lt o.0 s.0 ≡ c → IsTerm segs (cond c (Link o s turns a b w) (Link s o turns a b w))
    by_test true h = pair_back segs s o a b w t (ltb-true o.0 s.0 h)
    by_test false h = pair_on segs s o a b w t (not_less s.0 o.0 h t.differ)

pub apart_turned : (segs : List (List LineId)) (s o : SegId) (a b : LineId) (w : ℕ) → AreTwoOn segs s o a b w → IsTerm segs (turned (Apart s o a b w))
apart_turned segs s o a b w t = by_test (nat_lt o.0 s.0) refl
  where
    by_test : (c : Bool) → nat_lt o.0 s.0 ≡ c → IsTerm segs (cond c (Apart o s a b w) (Apart s o a b w))
    by_test true h = pair_back segs s o a b w t (ltb-true o.0 s.0 h)
    by_test false h = pair_on segs s o a b w t (not_less s.0 o.0 h t.differ)

-- a term's segments stay different where what lies between e and f goes
renamed_apart : (s o e f : SegId) → s.0 < o.0 → are_ends s.0 o.0 e.0 f.0 ≡ false → (renamed e f s).0 ≢ (renamed e f o).0
renamed_apart s o e f below none = by_tests (s.0 == f.0) (o.0 == f.0) refl refl
  where
    by_tests : (c d : Bool) → (s.0 == f.0) ≡ c → (o.0 == f.0) ≡ d → (let x : SegId = cond c e s in let y : SegId = cond d e o in x.0 ≢ y.0)
    by_tests true true h k = grind (arith, nat_tests)
    by_tests true false h k = grind (arith, nat_tests)
    by_tests false true h k = grind (arith, nat_tests)
    by_tests false false h k = grind (arith, nat_tests)

-- what a test keeps of terms, each changed so that it is a term again
pub terms_kept : (P Q : Term → Type 0) (test : Term → Bool) (f : Term → Term) (terms : List Term) → All P terms → ((t : Term) → P t → test t ≡ true → Q (f t))
    → All Q (map f (filter test terms))
terms_kept P Q test f terms all h =
    All-map Q f (filter test terms) (λ k d below. h (get_or (filter test terms) k d) (All-filter test P terms all k d below) (filter_passes test terms k d below))

pub few_kept : (test : Term → Bool) (f : Term → Term) (terms : List Term) → length (map f (filter test terms)) ≤ length terms
few_kept test f terms = omega (arith, length-map (filter test terms) f, length-filter_both test (λ t. not (test t)) (λ t. refl) terms)

module _ (p : ProblemParts) (e f : SegId) (flip : Bool) (ok : Merges p e f flip) where
  abbrev R : ProblemParts
  R = merged p e f flip

  many : length R.segs ≡ length p.segs
  many = length-set p.segs f.0 []

  elsewhere : (s : SegId) → s.0 ≢ f.0 → lines_on R.segs s ≡ lines_on p.segs s
  elsewhere s n = get_or-set_other p.segs f.0 s.0 [] [] n

  stands : (s : SegId) (a : LineId) → IsOn p.segs s a → IsOn R.segs (renamed e f s) a
  stands s a on = by_test (s.0 == f.0) refl
    where
      by_test : (c : Bool) → (s.0 == f.0) ≡ c → IsOn R.segs (cond c e s) a
      by_test true k =
          let F : ℕ → Type 0 = λ n. Contains (get_or p.segs n []) a in
          let Q : List LineId → Type 0 = λ xs. Contains xs a in
          subst Q (sym (e_lines p e f flip ok)) (on_e p e f flip ok a (subst F (eqb-true s.0 f.0 k) on))
      by_test false k = let Q : List LineId → Type 0 = λ xs. Contains xs a in subst Q (sym (elsewhere s (eqb-false s.0 f.0 k))) on

  known : (s : SegId) → s.0 < length p.segs → (renamed e f s).0 < length R.segs
  known s below = by_test (s.0 == f.0)
    where
      by_test : (c : Bool) → (let x : SegId = cond c e s in x.0 < length R.segs)
      by_test true = omega (arith, many, ok.known.e_known)
      by_test false = omega (arith, many, below)

  two_on : (s o : SegId) (a b : LineId) (w : ℕ) → IsPair p.segs s o a b w → are_ends s.0 o.0 e.0 f.0 ≡ false → AreTwoOn R.segs (renamed e f s) (renamed e f o) a b w
  two_on s o a b w t none = record {
    s_known = known s (omega (arith, t.seg_below, t.other_known));
    o_known = known o t.other_known;
    differ = renamed_apart s o e f t.seg_below none;
    below = t.a_below;
    a_on = stands s a t.a_on;
    b_on = stands s b t.b_on;
    a_on_other = stands o a t.a_on_other;
    b_on_other = stands o b t.b_on_other;
    weight = t.weight;
  }

  moved_term : (t : Term) → IsTerm p.segs t → not (is_between t e.0 f.0) ≡ true → IsTerm R.segs (moved e f flip t)
  moved_term (Side seg first second w) t none = by_test (seg.0 == f.0) flip refl
    where
      by_test : (c d : Bool) → (seg.0 == f.0) ≡ c → IsTerm R.segs (cond (c && d) (Side e second first w) (Side (renamed e f seg) first second w))
      by_test true true k = record {
        seg_known = omega (arith, many, ok.known.e_known);
        differ = λ s. t.differ (sym s);
        first_on = by_e second k t.second_on;
        second_on = by_e first k t.first_on;
        weight = t.weight;
      }
        where
          by_e : (a : LineId) → (seg.0 == f.0) ≡ true → IsOn p.segs seg a → IsOn R.segs e a
          by_e a h on = let E : Bool → Type 0 = λ c. IsOn R.segs (cond c e seg) a in subst E h (stands seg a on)
      by_test true false k = record {
        seg_known = known seg t.seg_known;
        differ = t.differ;
        first_on = stands seg first t.first_on;
        second_on = stands seg second t.second_on;
        weight = t.weight;
      }
      by_test false d k = record {
        seg_known = known seg t.seg_known;
        differ = t.differ;
        first_on = stands seg first t.first_on;
        second_on = stands seg second t.second_on;
        weight = t.weight;
      }
  moved_term (Link seg other turns a b w) t none =
      link_turned R.segs (renamed e f seg) (renamed e f other) (cond ((seg.0 == f.0 || other.0 == f.0) && flip) (not turns) turns) a b w
      (two_on seg other a b w t (not-true (are_ends seg.0 other.0 e.0 f.0) none))
  moved_term (Apart seg other a b w) t none =
      apart_turned R.segs (renamed e f seg) (renamed e f other) a b w (two_on seg other a b w t (not-true (are_ends seg.0 other.0 e.0 f.0) none))

  pub fewer_choices : sum_by choices R.segs < sum_by choices p.segs
  fewer_choices = omega (arith, sum_by-set choices p.segs f.0 [] [] ok.known.f_known, ok.known.f_wide)

  pub merged_problem : IsProblem p → IsProblem R
  merged_problem is = record {
    rising = All-set AreRising p.segs f.0 [] tt is.rising;
    terms = terms_kept (IsTerm p.segs) (IsTerm R.segs) (λ t. not (is_between t e.0 f.0)) (moved e f flip) p.terms is.terms moved_term;
    few_terms = omega (arith, few_kept (λ t. not (is_between t e.0 f.0)) (moved e f flip) p.terms, is.few_terms);
    few_choices = omega (arith, fewer_choices, many, is.few_choices);
  }
