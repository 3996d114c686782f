-- A merge that applies: what it makes is a problem, lifted orders cost the same, and some orders cost no more.
use Rattle.std.proofs.Common.{◌≡◌, ◌≢◌, ℕ, zero, suc, ◌<◌, ◌≤◌, ◌==◌, Bool, true, false, not, ◌||◌, ◌&&◌, List, [], ◌∷◌, length, get_or, refl, sym, ap, subst, ◌∙◌, arith, inl, inr, true≢false, eqb-true, eq-eqb}
use Rattle.std.specs.Prelude.{slice_set, reverse, IsPermutation}
use Rattle.std.specs.List.{All, AllByRecursion, Contains, list_any, list_all}
use Rattle.std.proofs.lemmas.Bool.{not-true}
use Rattle.std.proofs.lemmas.List.{get_or-set_other, set-set, length-set}
use Rattle.std.proofs.lemmas.List.Elements.{All-get_or}
use Rattle.std.proofs.lemmas.List.Sorted.{IsPermutation-refl, IsPermutation-trans, IsPermutation-reverse, Contains-permutation}
use Rattle.map_base.specs.declared.ids.SegId.{SegId}
use Rattle.map_base.specs.declared.ids.LineId.{LineId}
use Rattle.graph_core.specs.Consistent.{AreRising}
use Rattle.order_model.specs.declared.term.Term.{Term}
use Rattle.order_model.specs.declared.term.Term.TheVariants.{Side, Link, Apart}
use Rattle.order_model.specs.declared.problem.ProblemParts.{ProblemParts}
use Rattle.order_model.specs.Problems.{lines_on, IsOn, IsTerm, IsProblem}
use Rattle.order_model.specs.Costs.{cost_of, AreOrders}
use Rattle.order_model.proofs.Lines.{both_true, either_true, same_line}
use Rattle.order_model.proofs.OrderLemmas.{length-orders}
use Rattle.order_model.proofs.PlaceCosts.{order_at}
use Rattle.order_model.proofs.RisingLines.{contains_cases}
use Rattle.order_model.proofs.PlaceLemmas.{rising_once, order_once}
use Rattle.order_rules.specs.PairWeights.{all_pairs}
use Rattle.order_rules.specs.Merging.{same_lines, is_link_between, has_flip, have_flip, outweighs, merge_applies, merged}
use Rattle.order_rules.proofs.Reversed.{AreTwoOf, shared}
use Rattle.order_rules.proofs.MergeCosts.{AreShared, with_shared, merged_cost}
use Rattle.order_rules.proofs.MergeLess.{AreCompared, shared_less, each_of_all}

-- What the test says.

lines_same : (xs ys : List LineId) → same_lines xs ys ≡ true → xs ≡ ys
lines_same [] [] h = refl
lines_same (a ∷ xs) (b ∷ ys) h =
    let parts = both_true (a.0 == b.0) (same_lines xs ys) h in
    ap (λ (l : LineId). l ∷ xs) (same_line a b parts.0) ∙ ap (λ (zs : List LineId). b ∷ zs) (lines_same xs ys parts.1)
lines_same [] (b ∷ ys) h = absurd (true≢false (sym h))
lines_same (a ∷ xs) [] h = absurd (true≢false (sym h))

two_lines : (xs : List LineId) (a b : LineId) → Contains xs a → Contains xs b → a.0 < b.0 → 2 ≤ length xs
two_lines [] a b h k n = absurd (omega (arith, h.1))
two_lines (x ∷ []) a b h k n = elim (contains_cases x a [] h) [
  | inl one ↦ elim (contains_cases x b [] k) [
    | inl other ↦ absurd (omega (arith, n, ap (λ (l : LineId). l.0) one, ap (λ (l : LineId). l.0) other))
    | inr none ↦ absurd (omega (arith, none.1))
  ]
  | inr none ↦ absurd (omega (arith, none.1))
]
two_lines (x ∷ y ∷ xs) a b h k n = omega arith

-- two segments between which a Link lies
pub record AreLinked (segs : List (List LineId)) (e f : SegId) : Type 0 where
  pub e_known : e.0 < length segs
  pub f_known : f.0 < length segs
  pub f_wide : 2 ≤ length (lines_on segs f)

wide : (segs : List (List LineId)) (s f : SegId) (a b : LineId) → s.0 ≡ f.0 → IsOn segs s a → IsOn segs s b → a.0 < b.0 → 2 ≤ length (lines_on segs f)
wide segs s f a b same on_a on_b below =
    let W : ℕ → Type 0 = λ n. 2 ≤ length (get_or segs n []) in
    subst W same (two_lines (lines_on segs s) a b on_a on_b below)

term_linked : (segs : List (List LineId)) (e f : SegId) (t : Term) → IsTerm segs t → is_link_between e f t ≡ true → AreLinked segs e f
term_linked segs e f (Side seg first second w) t h = absurd (true≢false (sym h))
term_linked segs e f (Link seg other turns a b w) t h = elim (either_true (seg.0 == e.0 && other.0 == f.0) (seg.0 == f.0 && other.0 == e.0) h) [
  | inl k ↦ (let parts = both_true (seg.0 == e.0) (other.0 == f.0) k in
      let s : seg.0 ≡ e.0 = eqb-true seg.0 e.0 parts.0 in
      let o : other.0 ≡ f.0 = eqb-true other.0 f.0 parts.1 in
      record {
        e_known = omega (arith, s, t.seg_below, t.other_known);
        f_known = omega (arith, o, t.other_known);
        f_wide = wide segs other f a b o t.a_on_other t.b_on_other t.a_below;
      })
  | inr k ↦ (let parts = both_true (seg.0 == f.0) (other.0 == e.0) k in
      let s : seg.0 ≡ f.0 = eqb-true seg.0 f.0 parts.0 in
      let o : other.0 ≡ e.0 = eqb-true other.0 e.0 parts.1 in
      record {
        e_known = omega (arith, o, t.other_known);
        f_known = omega (arith, s, t.seg_below, t.other_known);
        f_wide = wide segs seg f a b s t.a_on t.b_on t.a_below;
      })
]
term_linked segs e f (Apart seg other a b w) t h = absurd (true≢false (sym h))

linked : (segs : List (List LineId)) (e f : SegId) (terms : List Term) → AllByRecursion (IsTerm segs) terms → list_any (is_link_between e f) terms ≡ true → AreLinked segs e f
linked segs e f [] all h = absurd (true≢false (sym h))
linked segs e f (t ∷ terms) all h = elim (either_true (is_link_between e f t) (list_any (is_link_between e f) terms) h) [
  | inl k ↦ term_linked segs e f t all.0 k
  | inr k ↦ linked segs e f terms all.1 k
]

flips_are : (e f : SegId) (flip : Bool) (terms : List Term) → list_all (λ t. not (is_link_between e f t) || has_flip flip t) terms ≡ true
    → AllByRecursion (λ t. is_link_between e f t ≡ true → has_flip flip t ≡ true) terms
flips_are e f flip [] h = tt
flips_are e f flip (t ∷ terms) h =
    let parts = both_true (not (is_link_between e f t) || has_flip flip t) (list_all (λ t. not (is_link_between e f t) || has_flip flip t) terms) h in
    (implied (is_link_between e f t) (has_flip flip t) parts.0, flips_are e f flip terms parts.1)
  where
    implied : (a b : Bool) → (not a || b) ≡ true → a ≡ true → b ≡ true
    implied true b h k = h
    implied false b h k = absurd (true≢false (sym k))

-- a merge that applies
pub record Merges (p : ProblemParts) (e f : SegId) (flip : Bool) : Type 0 where
  pub differ : e.0 ≢ f.0
  pub same : lines_on p.segs e ≡ lines_on p.segs f
  pub known : AreLinked p.segs e f
  pub terms : AllByRecursion (IsTerm p.segs) p.terms
  pub flips : AllByRecursion (λ t. is_link_between e f t ≡ true → has_flip flip t ≡ true) p.terms
  pub fits : all_pairs (outweighs e f p.terms) (lines_on p.segs f) ≡ true
  pub rising : AreRising (lines_on p.segs e)

pub merges : (p : ProblemParts) (e f : SegId) (flip : Bool) → IsProblem p → merge_applies p e f flip ≡ true → Merges p e f flip
merges p e f flip ok h =
    let differs : Bool = not (e.0 == f.0) in
    let sames : Bool = same_lines (lines_on p.segs e) (lines_on p.segs f) in
    let flipped : Bool = have_flip e f flip p.terms in
    let whole = both_true (differs && sames && flipped) (all_pairs (outweighs e f p.terms) (lines_on p.segs f)) h in
    let front = both_true (differs && sames) flipped whole.0 in
    let first = both_true differs sames front.0 in
    let links = both_true (list_any (is_link_between e f) p.terms) (list_all (λ t. not (is_link_between e f t) || has_flip flip t) p.terms) front.1 in
    let each = each_of_all (IsTerm p.segs) p.terms ok.terms in
    let are = linked p.segs e f p.terms each links.0 in
    let apart : (e.0 == f.0) ≡ false = not-true (e.0 == f.0) first.0 in
    record {
      differ = λ k. true≢false (sym (eq-eqb e.0 f.0 k) ∙ apart);
      same = lines_same (lines_on p.segs e) (lines_on p.segs f) first.1;
      known = are;
      terms = each;
      flips = flips_are e f flip p.terms links.1;
      fits = whole.1;
      rising = All-get_or AreRising p.segs e.0 [] are.e_known ok.rising;
    }

-- Orders of a list of segments of which one is changed.

pub orders_set : (segs orders : List (List LineId)) (s : ℕ) (lines order : List LineId) → AreOrders segs orders → IsPermutation lines order
    → AreOrders (slice_set segs s lines) (slice_set orders s order)
orders_set [] [] s lines order h k = tt
orders_set [] (o ∷ orders) s lines order h k = absurd h
orders_set (l ∷ segs) [] s lines order h k = absurd h
orders_set (l ∷ segs) (o ∷ orders) zero lines order h k = (k, h.1)
orders_set (l ∷ segs) (o ∷ orders) (suc s) lines order h k = (h.0, orders_set segs orders s lines order h.1 k)

pub set_itself : (segs : List (List LineId)) (s : ℕ) → slice_set segs s (get_or segs s []) ≡ segs
set_itself [] s = refl
set_itself (l ∷ segs) zero = refl
set_itself (l ∷ segs) (suc s) = ap (λ (xs : List (List LineId)). l ∷ xs) (set_itself segs s)

two_of : (segs orders : List (List LineId)) (s : SegId) (a b : LineId) → AreOrders segs orders → s.0 < length segs → AreRising (lines_on segs s)
    → IsOn segs s a → IsOn segs s b → a.0 ≢ b.0 → AreTwoOf (lines_on orders s) a b
two_of segs orders s a b h known rising on_a on_b n =
    let is = order_at segs orders s.0 h known in
    record {
      once = order_once (lines_on segs s) (lines_on orders s) rising is;
      differ = n;
      a_on = Contains-permutation (lines_on segs s) (lines_on orders s) a is on_a;
      b_on = Contains-permutation (lines_on segs s) (lines_on orders s) b is on_b;
    }

module _ (p : ProblemParts) (e f : SegId) (flip : Bool) (ok : Merges p e f flip) where
  abbrev R : ProblemParts
  R = merged p e f flip

  -- the lines of e stay
  pub e_lines : lines_on R.segs e ≡ lines_on p.segs e
  e_lines = get_or-set_other p.segs f.0 e.0 [] [] ok.differ

  pub on_e : (a : LineId) → IsOn p.segs f a → IsOn p.segs e a
  on_e a on = let P : List LineId → Type 0 = λ xs. Contains xs a in subst P (sym ok.same) on

  shares : (q : List (List LineId)) → AreOrders R.segs q → AreShared p.segs q e f
  shares q h = record {
    differ = ok.differ;
    known = omega (arith, length-orders R.segs q h, length-set p.segs f.0 [], ok.known.f_known);
    two = λ a b on_a on_b n.
        let Q : List LineId → Type 0 = λ xs. AreRising xs in
        let S : LineId → List LineId → Type 0 = λ l xs. Contains xs l in
        two_of R.segs q e a b h (omega (arith, length-set p.segs f.0 [], ok.known.e_known)) (subst Q (sym e_lines) ok.rising)
        (subst (S a) (sym e_lines) (on_e a on_a)) (subst (S b) (sym e_lines) (on_e b on_b)) n;
  }

  pub lifted_cost : (q : List (List LineId)) → All (IsTerm p.segs) p.terms → AreOrders R.segs q → cost_of p.terms (with_shared q e f flip) ≡ cost_of R.terms q
  lifted_cost q all h = merged_cost p.segs q e f flip (shares q h) p.terms all ok.flips

  shared_permutation : (o : List LineId) → IsPermutation (lines_on p.segs e) o → IsPermutation (lines_on p.segs f) (shared flip o)
  shared_permutation o h = by_flip flip
    where
      from_e : IsPermutation (lines_on p.segs f) o
      from_e = let P : List LineId → Type 0 = λ xs. IsPermutation xs o in subst P ok.same h

      by_flip : (c : Bool) → IsPermutation (lines_on p.segs f) (shared c o)
      by_flip true = IsPermutation-trans (lines_on p.segs f) o (reverse o) from_e (IsPermutation-reverse o)
      by_flip false = from_e

  pub lifted_orders : (q : List (List LineId)) → AreOrders R.segs q → AreOrders p.segs (with_shared q e f flip)
  lifted_orders q h =
      let known : e.0 < length R.segs = omega (arith, length-set p.segs f.0 [], ok.known.e_known) in
      let is : IsPermutation (lines_on R.segs e) (lines_on q e) = order_at R.segs q e.0 h known in
      let P : List LineId → Type 0 = λ xs. IsPermutation xs (lines_on q e) in
      let back : slice_set R.segs f.0 (lines_on p.segs f) ≡ p.segs = set-set p.segs f.0 [] (lines_on p.segs f) ∙ set_itself p.segs f.0 in
      let Q : List (List LineId) → Type 0 = λ xs. AreOrders xs (with_shared q e f flip) in
      subst Q back (orders_set R.segs q f.0 (lines_on p.segs f) (shared flip (lines_on q e)) h (shared_permutation (lines_on q e) (subst P e_lines is)))

  -- the orders without that of f
  abbrev pub without : List (List LineId) → List (List LineId)
  without q = slice_set q f.0 []

  pub without_orders : (q : List (List LineId)) → AreOrders p.segs q → AreOrders R.segs (without q)
  without_orders q h = orders_set p.segs q f.0 [] [] h (IsPermutation-refl [])

  compared : (q : List (List LineId)) → AreOrders p.segs q → AreCompared p.segs q e f
  compared q h =
      let Q : List LineId → Type 0 = λ xs. AreRising xs in
      let f_rising : AreRising (lines_on p.segs f) = subst Q ok.same ok.rising in
      record {
        shared = record {
          differ = ok.differ;
          known = omega (arith, length-orders p.segs q h, ok.known.f_known);
          two = λ a b on_a on_b n. two_of p.segs q e a b h ok.known.e_known ok.rising (on_e a on_a) (on_e b on_b) n;
        };
        old = λ a b on_a on_b n. two_of p.segs q f a b h ok.known.f_known f_rising on_a on_b n;
        once = rising_once (lines_on p.segs f) f_rising;
      }

  pub no_more : (q : List (List LineId)) → All (IsTerm p.segs) p.terms → AreOrders p.segs q → cost_of R.terms (without q) ≤ cost_of p.terms q
  no_more q all h =
      let same : with_shared (without q) e f flip ≡ with_shared q e f flip =
      set-set q f.0 [] (shared flip (lines_on (without q) e)) ∙ ap (λ (o : List LineId). slice_set q f.0 (shared flip o)) (get_or-set_other q f.0 e.0 [] [] ok.differ) in
      let cost = lifted_cost (without q) all (without_orders q h) in
      let less = shared_less p.segs q e f flip (compared q h) p.terms ok.terms ok.fits ok.flips in
      omega (arith, cost, less, ap (cost_of p.terms) same)
