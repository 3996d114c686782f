-- What a term costs where one segment has the order of another, or its reverse.
use Rattle.std.proofs.Common.{◌≡◌, ◌≢◌, ℕ, ◌<◌, ◌==◌, nat_lt, Bool, true, false, not, cond, ◌&&◌, List, [], ◌∷◌, length, map, refl, sym, ap, subst, ◌∙◌, arith, inl, inr, true≢false, eqb-true}
use Rattle.std.specs.Prelude.{slice_set, filter}
use Rattle.std.specs.List.{All, AllByRecursion}
use Rattle.std.proofs.lemmas.List.Elements.{All-head, All-tail}
use Rattle.std.proofs.lemmas.List.Sums.{sum_by-cons}
use Rattle.std.proofs.lemmas.Bool.{eqb-false, ne_eqb}
use Rattle.std.proofs.lemmas.List.{get_or-set_same, get_or-set_other}
use Rattle.map_base.specs.declared.ids.SegId.{SegId}
use Rattle.map_base.specs.declared.ids.LineId.{LineId}
use Rattle.order_model.specs.declared.term.Term.{Term}
use Rattle.order_model.specs.declared.term.Term.TheVariants.{Side, Link, Apart}
use Rattle.order_model.specs.Problems.{lines_on, IsOn, IsTerm}
use Rattle.order_model.specs.Costs.{comes_before, are_neighbours, same_answer, term_cost, cost_of}
use Rattle.order_model.specs.Parts.{is_between}
use Rattle.order_model.proofs.Lines.{both_true, either_true}
use Rattle.order_rules.specs.Merging.{turned, moved, has_flip, is_link_between}
use Rattle.order_rules.proofs.Reversed.{AreTwoOf, shared, before_reversed, shared_before, shared_beside}

-- What is_met computes to.

pub same_comm : (x y : Bool) → same_answer x y ≡ same_answer y x
same_comm true true = refl
same_comm true false = refl
same_comm false true = refl
same_comm false false = refl

-- a term costs the same with its two segments the other way round
pub turned_cost : (q : List (List LineId)) (t : Term) → term_cost q (turned t) ≡ term_cost q t
turned_cost q (Side seg first second w) = refl
turned_cost q (Link seg other flip a b w) = by_test (nat_lt other.0 seg.0)
  where
    by_test : (c : Bool) → term_cost q (cond c (Link other seg flip a b w) (Link seg other flip a b w)) ≡ term_cost q (Link seg other flip a b w)
    by_test true = ap (λ (m : Bool). cond (same_answer flip m) w 0) (same_comm (comes_before (lines_on q other) a b) (comes_before (lines_on q seg) a b))
    by_test false = refl
turned_cost q (Apart seg other a b w) = by_test (nat_lt other.0 seg.0)
  where
    by_test : (c : Bool) → term_cost q (cond c (Apart other seg a b w) (Apart seg other a b w)) ≡ term_cost q (Apart seg other a b w)
    by_test true = ap (λ (m : Bool). cond (not m) w 0) (same_comm (are_neighbours (lines_on q other) a b) (are_neighbours (lines_on q seg) a b))
    by_test false = refl

-- the orders in which f has the order of e, or its reverse
abbrev pub with_shared : List (List LineId) → SegId → SegId → Bool → List (List LineId)
with_shared q e f flip = slice_set q f.0 (shared flip (lines_on q e))

-- two different segments of the same lines, and orders of them
pub record AreShared (segs q : List (List LineId)) (e f : SegId) : Type 0 where
  pub differ : e.0 ≢ f.0
  pub known : f.0 < length q
  pub two : (a b : LineId) → IsOn segs f a → IsOn segs f b → a.0 ≢ b.0 → AreTwoOf (lines_on q e) a b

pub at_from : (q : List (List LineId)) (e f s : SegId) (flip : Bool) → f.0 < length q → (s.0 == f.0) ≡ true → lines_on (with_shared q e f flip) s ≡ shared flip (lines_on q e)
at_from q e f s flip known h =
    ap (λ (i : ℕ). lines_on (with_shared q e f flip) (record { 0 = i })) (eqb-true s.0 f.0 h) ∙ get_or-set_same q f.0 (shared flip (lines_on q e)) [] known

pub at_other : (q : List (List LineId)) (e f s : SegId) (flip : Bool) → (s.0 == f.0) ≡ false → lines_on (with_shared q e f flip) s ≡ lines_on q s
at_other q e f s flip h = get_or-set_other q f.0 s.0 (shared flip (lines_on q e)) [] (eqb-false s.0 f.0 h)

-- two lines whose order is read off the order that `from` takes
shared_second : (flip : Bool) (o : List LineId) (a b : LineId) → AreTwoOf o a b → comes_before (shared flip o) a b ≡ cond flip (comes_before o b a) (comes_before o a b)
shared_second true o a b h = before_reversed o a b h
shared_second false o a b h = refl

side_after : (flip : Bool) (q : List (List LineId)) (e : SegId) (first second : LineId) (w : ℕ)
    → cond (cond flip (comes_before (lines_on q e) first second) (comes_before (lines_on q e) second first)) w 0
    ≡ term_cost q (cond flip (Side e second first w) (Side e first second w))
side_after true q e first second w = refl
side_after false q e first second w = refl

link_flipped : (flip turns x y : Bool) → same_answer turns (same_answer (same_answer (not flip) x) y) ≡ same_answer (cond flip (not turns) turns) (same_answer x y)
link_flipped false turns x y = refl
link_flipped true true true true = refl
link_flipped true true true false = refl
link_flipped true true false true = refl
link_flipped true true false false = refl
link_flipped true false true true = refl
link_flipped true false true false = refl
link_flipped true false false true = refl
link_flipped true false false false = refl

link_flipped_second : (flip turns x y : Bool) → same_answer turns (same_answer y (same_answer (not flip) x)) ≡ same_answer (cond flip (not turns) turns) (same_answer y x)
link_flipped_second flip turns x y =
    ap (same_answer turns) (same_comm y (same_answer (not flip) x)) ∙ (link_flipped flip turns x y ∙ ap (same_answer (cond flip (not turns) turns)) (same_comm x y))

link_joined : (flip x : Bool) → same_answer flip (same_answer x (same_answer (not flip) x)) ≡ false
link_joined true true = refl
link_joined true false = refl
link_joined false true = refl
link_joined false false = refl

link_joined_second : (flip x : Bool) → same_answer flip (same_answer (same_answer (not flip) x) x) ≡ false
link_joined_second flip x = ap (same_answer flip) (same_comm (same_answer (not flip) x) x) ∙ link_joined flip x

pub same_self : (x : Bool) → same_answer x x ≡ true
same_self true = refl
same_self false = refl

pub flip_is : (flip turns : Bool) → same_answer flip turns ≡ true → turns ≡ flip
flip_is true turns h = h
flip_is false true h = absurd (true≢false (sym h))
flip_is false false h = refl

pub seg_is : (s t : SegId) → (s.0 == t.0) ≡ true → s ≡ t
seg_is s t h = let P : ℕ → SegId = λ n. record { 0 = n } in ap P (eqb-true s.0 t.0 h)

pub on_from : (segs : List (List LineId)) (s f : SegId) (a : LineId) → (s.0 == f.0) ≡ true → IsOn segs s a → IsOn segs f a
on_from segs s f a h on = let P : SegId → Type 0 = λ u. IsOn segs u a in subst P (seg_is s f h) on

pub differ_below : (a b : LineId) → a.0 < b.0 → a.0 ≢ b.0
differ_below a b h = λ e. omega (arith, h, e)

module _ (segs q : List (List LineId)) (e f : SegId) (flip : Bool) (ok : AreShared segs q e f) where
  abbrev L : List (List LineId)
  L = with_shared q e f flip

  abbrev o : List LineId
  o = lines_on q e

  -- A term that does not lie between the two segments costs what it costs once it is moved.

  side_moved : (seg : SegId) (first second : LineId) (w : ℕ) → IsTerm segs (Side seg first second w)
      → term_cost L (Side seg first second w) ≡ term_cost q (moved e f flip (Side seg first second w))
  side_moved seg first second w t = by_test (seg.0 == f.0) refl
    where
      by_test : (c : Bool) → (seg.0 == f.0) ≡ c → term_cost L (Side seg first second w) ≡ term_cost q (moved e f flip (Side seg first second w))
      by_test true h =
          let two : AreTwoOf o second first = ok.two second first (on_from segs seg f second h t.second_on) (on_from segs seg f first h t.first_on) (λ k. t.differ (sym k)) in
          rw h
          (ap (λ (xs : List LineId). cond (comes_before xs second first) w 0) (at_from q e f seg flip ok.known h)
          ∙ (ap (λ (m : Bool). cond m w 0) (shared_second flip o second first two) ∙ side_after flip q e first second w))
      by_test false h = rw h (ap (λ (xs : List LineId). cond (comes_before xs second first) w 0) (at_other q e f seg flip h))

  link_plain : (seg other : SegId) (turns : Bool) (a b : LineId) (w : ℕ) (xs ys : List LineId)
      → lines_on L seg ≡ xs → lines_on L other ≡ ys
      → term_cost L (Link seg other turns a b w) ≡ cond (same_answer turns (same_answer (comes_before xs a b) (comes_before ys a b))) w 0
  link_plain seg other turns a b w xs ys h k =
      ap (λ (zs : List LineId). cond (same_answer turns (same_answer (comes_before zs a b) (comes_before (lines_on L other) a b))) w 0) h
      ∙ ap (λ (zs : List LineId). cond (same_answer turns (same_answer (comes_before xs a b) (comes_before zs a b))) w 0) k

  apart_plain : (seg other : SegId) (a b : LineId) (w : ℕ) (xs ys : List LineId)
      → lines_on L seg ≡ xs → lines_on L other ≡ ys
      → term_cost L (Apart seg other a b w) ≡ cond (not (same_answer (are_neighbours xs a b) (are_neighbours ys a b))) w 0
  apart_plain seg other a b w xs ys h k =
      ap (λ (zs : List LineId). cond (not (same_answer (are_neighbours zs a b) (are_neighbours (lines_on L other) a b))) w 0) h
      ∙ ap (λ (zs : List LineId). cond (not (same_answer (are_neighbours xs a b) (are_neighbours zs a b))) w 0) k

  link_moved : (seg other : SegId) (turns : Bool) (a b : LineId) (w : ℕ) → IsTerm segs (Link seg other turns a b w)
      → term_cost L (Link seg other turns a b w) ≡ term_cost q (moved e f flip (Link seg other turns a b w))
  link_moved seg other turns a b w t = by_tests (seg.0 == f.0) (other.0 == f.0) refl refl
    where
      by_tests : (c d : Bool) → (seg.0 == f.0) ≡ c → (other.0 == f.0) ≡ d → term_cost L (Link seg other turns a b w) ≡ term_cost q (moved e f flip (Link seg other turns a b w))
      by_tests true true h k = absurd (omega (arith, eqb-true seg.0 f.0 h, eqb-true other.0 f.0 k, t.seg_below))
      by_tests true false h k =
          let two : AreTwoOf o a b = ok.two a b (on_from segs seg f a h t.a_on) (on_from segs seg f b h t.b_on) (differ_below a b t.a_below) in
          rw (h, k)
          (link_plain seg other turns a b w (shared flip o) (lines_on q other) (at_from q e f seg flip ok.known h) (at_other q e f other flip k)
          ∙ (ap (λ (m : Bool). cond (same_answer turns (same_answer m (comes_before (lines_on q other) a b))) w 0) (shared_before flip o a b two)
          ∙ (ap (λ (m : Bool). cond m w 0) (link_flipped flip turns (comes_before o a b) (comes_before (lines_on q other) a b))
          ∙ sym (turned_cost q (Link e other (cond flip (not turns) turns) a b w)))))
      by_tests false true h k =
          let two : AreTwoOf o a b = ok.two a b (on_from segs other f a k t.a_on_other) (on_from segs other f b k t.b_on_other) (differ_below a b t.a_below) in
          rw (h, k)
          (link_plain seg other turns a b w (lines_on q seg) (shared flip o) (at_other q e f seg flip h) (at_from q e f other flip ok.known k)
          ∙ (ap (λ (m : Bool). cond (same_answer turns (same_answer (comes_before (lines_on q seg) a b) m)) w 0) (shared_before flip o a b two)
          ∙ (ap (λ (m : Bool). cond m w 0) (link_flipped_second flip turns (comes_before o a b) (comes_before (lines_on q seg) a b))
          ∙ sym (turned_cost q (Link seg e (cond flip (not turns) turns) a b w)))))
      by_tests false false h k =
          rw (h, k)
          (link_plain seg other turns a b w (lines_on q seg) (lines_on q other) (at_other q e f seg flip h) (at_other q e f other flip k)
          ∙ sym (turned_cost q (Link seg other turns a b w)))

  apart_moved : (seg other : SegId) (a b : LineId) (w : ℕ) → IsTerm segs (Apart seg other a b w)
      → term_cost L (Apart seg other a b w) ≡ term_cost q (moved e f flip (Apart seg other a b w))
  apart_moved seg other a b w t = by_tests (seg.0 == f.0) (other.0 == f.0) refl refl
    where
      by_tests : (c d : Bool) → (seg.0 == f.0) ≡ c → (other.0 == f.0) ≡ d → term_cost L (Apart seg other a b w) ≡ term_cost q (moved e f flip (Apart seg other a b w))
      by_tests true true h k = absurd (omega (arith, eqb-true seg.0 f.0 h, eqb-true other.0 f.0 k, t.seg_below))
      by_tests true false h k =
          let two : AreTwoOf o a b = ok.two a b (on_from segs seg f a h t.a_on) (on_from segs seg f b h t.b_on) (differ_below a b t.a_below) in
          rw (h, k)
          (apart_plain seg other a b w (shared flip o) (lines_on q other) (at_from q e f seg flip ok.known h) (at_other q e f other flip k)
          ∙ (ap (λ (m : Bool). cond (not (same_answer m (are_neighbours (lines_on q other) a b))) w 0) (shared_beside flip o a b two)
          ∙ sym (turned_cost q (Apart e other a b w))))
      by_tests false true h k =
          let two : AreTwoOf o a b = ok.two a b (on_from segs other f a k t.a_on_other) (on_from segs other f b k t.b_on_other) (differ_below a b t.a_below) in
          rw (h, k)
          (apart_plain seg other a b w (lines_on q seg) (shared flip o) (at_other q e f seg flip h) (at_from q e f other flip ok.known k)
          ∙ (ap (λ (m : Bool). cond (not (same_answer (are_neighbours (lines_on q seg) a b) m)) w 0) (shared_beside flip o a b two)
          ∙ sym (turned_cost q (Apart seg e a b w))))
      by_tests false false h k =
          rw (h, k)
          (apart_plain seg other a b w (lines_on q seg) (lines_on q other) (at_other q e f seg flip h) (at_other q e f other flip k)
          ∙ sym (turned_cost q (Apart seg other a b w)))

  pub moved_cost : (t : Term) → IsTerm segs t → term_cost L t ≡ term_cost q (moved e f flip t)
  moved_cost (Side seg first second w) t = side_moved seg first second w t
  moved_cost (Link seg other turns a b w) t = link_moved seg other turns a b w t
  moved_cost (Apart seg other a b w) t = apart_moved seg other a b w t

  -- A term between the two segments costs nothing.

  e_stays : (s : SegId) → (s.0 == e.0) ≡ true → lines_on L s ≡ o
  e_stays s h =
      let off : (s.0 == f.0) ≡ false = ne_eqb s.0 f.0 (λ k. ok.differ (sym (eqb-true s.0 e.0 h) ∙ k)) in
      at_other q e f s flip off ∙ ap (lines_on q) (seg_is s e h)

  link_between : (seg other : SegId) (turns : Bool) (a b : LineId) (w : ℕ) → IsTerm segs (Link seg other turns a b w)
      → is_between (Link seg other turns a b w) e.0 f.0 ≡ true → turns ≡ flip → term_cost L (Link seg other turns a b w) ≡ 0
  link_between seg other turns a b w t h is = elim (either_true (seg.0 == e.0 && other.0 == f.0) (seg.0 == f.0 && other.0 == e.0) h) [
    | inl k ↦ (let parts = both_true (seg.0 == e.0) (other.0 == f.0) k in
        let two : AreTwoOf o a b = ok.two a b (on_from segs other f a parts.1 t.a_on_other) (on_from segs other f b parts.1 t.b_on_other) (differ_below a b t.a_below) in
        link_plain seg other turns a b w o (shared flip o) (e_stays seg parts.0) (at_from q e f other flip ok.known parts.1)
        ∙ (ap (λ (m : Bool). cond (same_answer turns (same_answer (comes_before o a b) m)) w 0) (shared_before flip o a b two)
        ∙ (ap (λ (m : Bool). cond (same_answer m (same_answer (comes_before o a b) (same_answer (not flip) (comes_before o a b)))) w 0) is
        ∙ ap (λ (m : Bool). cond m w 0) (link_joined flip (comes_before o a b)))))
    | inr k ↦ (let parts = both_true (seg.0 == f.0) (other.0 == e.0) k in
        let two : AreTwoOf o a b = ok.two a b (on_from segs seg f a parts.0 t.a_on) (on_from segs seg f b parts.0 t.b_on) (differ_below a b t.a_below) in
        link_plain seg other turns a b w (shared flip o) o (at_from q e f seg flip ok.known parts.0) (e_stays other parts.1)
        ∙ (ap (λ (m : Bool). cond (same_answer turns (same_answer m (comes_before o a b))) w 0) (shared_before flip o a b two)
        ∙ (ap (λ (m : Bool). cond (same_answer m (same_answer (same_answer (not flip) (comes_before o a b)) (comes_before o a b))) w 0) is
        ∙ ap (λ (m : Bool). cond m w 0) (link_joined_second flip (comes_before o a b)))))
  ]

  apart_between : (seg other : SegId) (a b : LineId) (w : ℕ) → IsTerm segs (Apart seg other a b w)
      → is_between (Apart seg other a b w) e.0 f.0 ≡ true → term_cost L (Apart seg other a b w) ≡ 0
  apart_between seg other a b w t h = elim (either_true (seg.0 == e.0 && other.0 == f.0) (seg.0 == f.0 && other.0 == e.0) h) [
    | inl k ↦ (let parts = both_true (seg.0 == e.0) (other.0 == f.0) k in
        let two : AreTwoOf o a b = ok.two a b (on_from segs other f a parts.1 t.a_on_other) (on_from segs other f b parts.1 t.b_on_other) (differ_below a b t.a_below) in
        apart_plain seg other a b w o (shared flip o) (e_stays seg parts.0) (at_from q e f other flip ok.known parts.1)
        ∙ (ap (λ (m : Bool). cond (not (same_answer (are_neighbours o a b) m)) w 0) (shared_beside flip o a b two)
        ∙ ap (λ (m : Bool). cond (not m) w 0) (same_self (are_neighbours o a b))))
    | inr k ↦ (let parts = both_true (seg.0 == f.0) (other.0 == e.0) k in
        let two : AreTwoOf o a b = ok.two a b (on_from segs seg f a parts.0 t.a_on) (on_from segs seg f b parts.0 t.b_on) (differ_below a b t.a_below) in
        apart_plain seg other a b w (shared flip o) o (at_from q e f seg flip ok.known parts.0) (e_stays other parts.1)
        ∙ (ap (λ (m : Bool). cond (not (same_answer m (are_neighbours o a b))) w 0) (shared_beside flip o a b two)
        ∙ ap (λ (m : Bool). cond (not m) w 0) (same_self (are_neighbours o a b))))
  ]

  pub between_cost : (t : Term) → IsTerm segs t → is_between t e.0 f.0 ≡ true → (is_link_between e f t ≡ true → has_flip flip t ≡ true) → term_cost L t ≡ 0
  between_cost (Side seg first second w) t h flips = absurd (true≢false (sym h))
  between_cost (Link seg other turns a b w) t h flips = link_between seg other turns a b w t h (flip_is flip turns (flips h))
  between_cost (Apart seg other a b w) t h flips = apart_between seg other a b w t h

  -- The sum.

  pub merged_cost : (terms : List Term) → All (IsTerm segs) terms → AllByRecursion (λ t. is_link_between e f t ≡ true → has_flip flip t ≡ true) terms
      → cost_of terms L ≡ cost_of (map (moved e f flip) (filter (λ t. not (is_between t e.0 f.0)) terms)) q
  merged_cost [] all flips = refl
  merged_cost (t ∷ terms) all flips =
      let here : IsTerm segs t = All-head (IsTerm segs) t terms all in
      let rest = merged_cost terms (All-tail (IsTerm segs) t terms all) flips.1 in
      by_test (is_between t e.0 f.0) refl here rest flips.0
    where
      later : List Term
      later = filter (λ t. not (is_between t e.0 f.0)) terms

      by_test : (c : Bool) → is_between t e.0 f.0 ≡ c → IsTerm segs t → cost_of terms L ≡ cost_of (map (moved e f flip) (filter (λ t. not (is_between t e.0 f.0)) terms)) q
          → (is_link_between e f t ≡ true → has_flip flip t ≡ true)
          → cost_of (t ∷ terms) L ≡ cost_of (map (moved e f flip) (filter (λ t. not (is_between t e.0 f.0)) (t ∷ terms))) q
      by_test true h here rest flips = rw h (omega (arith, sum_by-cons (term_cost L) t terms, between_cost t here h flips, rest))
      by_test false h here rest flips =
          rw h (omega (
            arith,
            sum_by-cons (term_cost L) t terms,
            moved_cost t here,
            rest,
            sum_by-cons (term_cost q) (moved e f flip t) (map (moved e f flip) (filter (λ t. not (is_between t e.0 f.0)) terms)),
          ))
