-- A pair of lines keeps its share where a placing changes nothing of it.
use Rattle.std.proofs.Common.{◌≡◌, ℕ, ◌+◌, ◌-◌, ◌<◌, ◌≤◌, ◌==◌, not, Bool, true, false, cond, ◌||◌, ◌&&◌, List, [], ◌∷◌, ◌++◌, length, take, drop, set, get_or, Option, Some, None, refl, sym, ap, subst, ◌∙◌, inl, inr, arith, eqb-true, eq-eqb, true≢false, length-append, append_assoc, get_or-append-add, get_or-set_same}
use Rattle.std.specs.Prelude.{sum_by, nat_lt}
use Rattle.std.specs.List.{All, find}
use Rattle.std.specs.Option.{option_to_list}
use Rattle.std.proofs.Math.Path.{fun_ext}
use Rattle.std.proofs.Math.Seq.{take-append_seam}
use Rattle.std.proofs.lemmas.Bool.{or_left, or_right, or_cases, or_parts, and_cases}
use Rattle.std.proofs.lemmas.List.{take-append-drop, take_all, length-take-le}
use Rattle.std.proofs.lemmas.List.Elements.{All-head, All-tail, All-weaker}
use Rattle.std.proofs.lemmas.List.Sums.{sum_by-cons}
use Rattle.map_base.specs.declared.ids.SegId.{SegId}
use Rattle.map_base.specs.declared.ids.LineId.{LineId}
use Rattle.order_model.specs.declared.term.Term.{Term}
use Rattle.order_model.specs.declared.term.Term.TheVariants.{Side, Link, Apart}
use Rattle.order_model.specs.Problems.{lines_on}
use Rattle.order_model.specs.Costs.{comes_before, same_answer, seg_of, other_of}
use Rattle.order_model.specs.Places.{has_line}
use Rattle.order_model.specs.Prefixes.{is_placed, is_unplaced, with_line, last_placed, without_last}
use Rattle.order_model.specs.Looks.{is_decided}
use Rattle.order_model.proofs.Lines.{has_append}
use Rattle.order_bound.specs.declared.pairs.Pair.{Pair}
use Rattle.order_bound.specs.declared.pairs.OpenLink.{OpenLink}
use Rattle.order_bound.specs.Pairs.{is_pair, pair_of, pair_in, is_open_on, open_segments, open_link, open_links, kept}
use Rattle.order_bound.specs.Bounds.{open_cost, slot_cost, choice_cost, least_over, pair_bound}
use Rattle.order_bound.proofs.Known.{before_known}
use Rattle.order_bound.proofs.Lists.{is_false}
use Rattle.pair_bounds.specs.Counted.{counted_cost}
use Rattle.part_bounds.specs.PairGroups.{Group, own_segments, meets, share_of, IsGroup}
use Rattle.part_bounds.specs.declared.changes.Change.{Change}
use Rattle.part_bounds.specs.Changes.{is_among_last, has_among_last, is_known, is_new_pair, is_changed, IsChange}
use Rattle.part_bounds.proofs.OwnSegments.{SameElsewhere, share_kept}
use Rattle.part_bounds.proofs.OwnUse.{not_own}
use Rattle.order_model.specs.PartTerms.{is_in, is_of}

-- What a pair sees of the placed lines of a segment.

-- both lists decide two lines or neither does, and they answer alike
pub record AreAlike (a b : LineId) (one two : List LineId) : Type 0 where
  pub decided : (is_placed one a || is_placed one b) ≡ (is_placed two a || is_placed two b)
  pub before : comes_before one a b ≡ comes_before two a b
  pub after : comes_before one b a ≡ comes_before two b a

or_turned : (x y : Bool) → (x || y) ≡ (y || x)
or_turned true true = refl
or_turned true false = refl
or_turned false true = refl
or_turned false false = refl

alike_turned : (a b : LineId) (one two : List LineId) → AreAlike a b one two → AreAlike b a one two
alike_turned a b one two h = record {
  decided = or_turned (is_placed one b) (is_placed one a) ∙ (h.decided ∙ or_turned (is_placed two a) (is_placed two b));
  before = h.after;
  after = h.before;
}

pub alike_back : (a b : LineId) (one two : List LineId) → AreAlike a b one two → AreAlike a b two one
alike_back a b one two h = record { decided = sym h.decided; before = sym h.before; after = sym h.after }

-- on each segment
abbrev pub AlikeOn : Pair → List (List LineId) → List (List LineId) → Type 0
AlikeOn p one two = (t : SegId) → AreAlike p.lesser p.greater (lines_on one t) (lines_on two t)

alike_in : (p : Pair) (a b : LineId) (one two : List LineId) → p ≡ pair_of a b → AreAlike p.lesser p.greater one two → AreAlike a b one two
alike_in p a b one two e h = by_test (nat_lt a.0 b.0) e
  where
    by_test : (t : Bool) → p ≡ cond t (record { lesser = a; greater = b }) (record { lesser = b; greater = a }) → AreAlike a b one two
    by_test true e = subst (λ (q : Pair). AreAlike q.lesser q.greater one two) e h
    by_test false e = alike_turned b a one two (subst (λ (q : Pair). AreAlike q.lesser q.greater one two) e h)

-- where a term of the pair has its ends
pub record AreSeenAlike (p : Pair) (one two : List (List LineId)) (t : Term) : Type 0 where
  pub of_pair : p ≡ pair_in t
  pub here : AreAlike p.lesser p.greater (lines_on one (seg_of t)) (lines_on two (seg_of t))
  pub there : AreAlike p.lesser p.greater (lines_on one (other_of t)) (lines_on two (other_of t))

pub all_alike : (p : Pair) (one two : List (List LineId)) (terms : List (ℕ × Term)) → All (λ (t : ℕ × Term). p ≡ pair_in t.1) terms → AlikeOn p one two → All (λ (t : ℕ × Term). AreSeenAlike p one two t.1) terms
all_alike p one two terms mine same =
    All-weaker (λ (t : ℕ × Term). p ≡ pair_in t.1) (λ (t : ℕ × Term). AreSeenAlike p one two t.1) (λ t e. record { of_pair = e; here = same (seg_of t.1); there = same (other_of t.1) }) terms mine

-- The share of a pair for which prefixes are alike.

by_four : (f : Bool → Bool → Bool → Bool → ℕ) (d e u v d2 e2 u2 v2 : Bool) → d ≡ d2 → e ≡ e2 → u ≡ u2 → v ≡ v2 → f d e u v ≡ f d2 e2 u2 v2
by_four f d e u v d2 e2 u2 v2 h i j k = ap (λ x. f x e u v) h ∙ (ap (λ x. f d2 x u v) i ∙ (ap (λ x. f d2 e2 x v) j ∙ ap (λ x. f d2 e2 u2 x) k))

counted_alike : (segs one two : List (List LineId)) (p : Pair) (t : Term) → AreSeenAlike p one two t → counted_cost segs one t ≡ counted_cost segs two t
counted_alike segs one two p (Side seg first second w) seen =
    let h = alike_in p first second (lines_on one seg) (lines_on two seg) seen.of_pair seen.here in
    ap (λ d. cond d (cond (comes_before (lines_on one seg) second first) w 0) 0) h.decided ∙ ap (λ c. cond (is_decided two seg first second) (cond c w 0) 0) h.after
counted_alike segs one two p (Link seg other flip a b w) seen =
    let h = alike_in p a b (lines_on one seg) (lines_on two seg) seen.of_pair seen.here in
    let g = alike_in p a b (lines_on one other) (lines_on two other) seen.of_pair seen.there in
    by_four (λ d e u v. cond (d && e) (cond (same_answer flip (same_answer u v)) w 0) 0) (is_decided one seg a b) (is_decided one other a b) (comes_before (lines_on one seg) a b) (comes_before (lines_on one other) a b)
    (is_decided two seg a b) (is_decided two other a b) (comes_before (lines_on two seg) a b) (comes_before (lines_on two other) a b) h.decided g.decided h.before g.before
counted_alike segs one two p (Apart seg other a b w) seen = refl

pub open_alike : (one two : List (List LineId)) (p : Pair) (s : SegId) (x : Bool) (t : Term) → AreSeenAlike p one two t → open_cost one p s x t ≡ open_cost two p s x t
open_alike one two p s x (Side seg first second w) seen =
    let h = alike_in p first second (lines_on one seg) (lines_on two seg) seen.of_pair seen.here in
    ap (λ d. cond ((is_pair p (pair_of first second) && seg.0 == s.0) && not d) (cond (same_answer (first.0 == p.lesser.0) x) 0 w) 0) h.decided
open_alike one two p s x (Link seg other flip a b w) seen =
    let h = alike_in p a b (lines_on one seg) (lines_on two seg) seen.of_pair seen.here in
    let g = alike_in p a b (lines_on one other) (lines_on two other) seen.of_pair seen.there in
    by_four (λ d e u v. cond (((is_pair p (pair_of a b) && seg.0 == s.0) && not d) && e) (cond (same_answer flip (same_answer x v)) w 0)
    (cond (((is_pair p (pair_of a b) && other.0 == s.0) && d) && not e) (cond (same_answer flip (same_answer u x)) w 0) 0))
    (is_decided one seg a b) (is_decided one other a b) (comes_before (lines_on one seg) a b) (comes_before (lines_on one other) a b)
    (is_decided two seg a b) (is_decided two other a b) (comes_before (lines_on two seg) a b) (comes_before (lines_on two other) a b) h.decided g.decided h.before g.before
open_alike one two p s x (Apart seg other a b w) seen = refl

link_alike : (one two : List (List LineId)) (p : Pair) (k : ℕ) (t : Term) → AreSeenAlike p one two t → open_link one p k t ≡ open_link two p k t
link_alike one two p k (Side seg first second w) seen = refl
link_alike one two p k (Apart seg other a b w) seen = refl
link_alike one two p k (Link seg other flip a b w) seen =
    let h = alike_in p a b (lines_on one seg) (lines_on two seg) seen.of_pair seen.here in
    let g = alike_in p a b (lines_on one other) (lines_on two other) seen.of_pair seen.there in
    let Q : Bool → List OpenLink = λ c. cond c (record { number = k; seg = seg; other = other; flip = flip; weight = w } ∷ []) [] in
    ap (λ d. Q (is_pair p (pair_of a b) && not (d || is_decided one other a b))) h.decided ∙ ap (λ d. Q (is_pair p (pair_of a b) && not (is_decided two seg a b || d))) g.decided

pub sums_alike : (P : Term → Type 0) (f g : ℕ × Term → ℕ) (terms : List (ℕ × Term)) → All (λ (t : ℕ × Term). P t.1) terms → ((t : ℕ × Term) → P t.1 → f t ≡ g t) → sum_by f terms ≡ sum_by g terms
sums_alike P f g [] mine same = refl
sums_alike P f g (t ∷ terms) mine same =
    omega (arith, same t (All-head (λ (t : ℕ × Term). P t.1) t terms mine), sums_alike P f g terms (All-tail (λ (t : ℕ × Term). P t.1) t terms mine) same, sum_by-cons f t terms, sum_by-cons g t terms)

pub links_alike : (one two : List (List LineId)) (p : Pair) (terms : List (ℕ × Term)) → All (λ (t : ℕ × Term). AreSeenAlike p one two t.1) terms → open_links one p terms ≡ open_links two p terms
links_alike one two p [] seen = refl
links_alike one two p (t ∷ terms) seen =
    ap (λ l. l ++ open_links one p terms) (link_alike one two p t.0 t.1 (All-head (λ (t : ℕ × Term). AreSeenAlike p one two t.1) t terms seen))
    ∙ ap (λ l. open_link two p t.0 t.1 ++ l) (links_alike one two p terms (All-tail (λ (t : ℕ × Term). AreSeenAlike p one two t.1) t terms seen))

pub costs_alike : (one two : List (List LineId)) (p : Pair) (terms : List (ℕ × Term)) → All (λ (t : ℕ × Term). AreSeenAlike p one two t.1) terms → slot_cost one terms p ≡ slot_cost two terms p
costs_alike one two p terms seen =
    fun_ext (λ v. fun_ext (λ x. sums_alike (AreSeenAlike p one two) (λ (t : ℕ × Term). open_cost one p v x t.1) (λ (t : ℕ × Term). open_cost two p v x t.1) terms seen (λ t h. open_alike one two p v x t.1 h)))

pub segments_alike : (segs one two : List (List LineId)) (p : Pair) (part : List SegId) → ((t : SegId) → is_in part t ≡ true → AreAlike p.lesser p.greater (lines_on one t) (lines_on two t)) → open_segments segs one part p ≡ open_segments segs two part p
segments_alike segs one two p [] same = refl
segments_alike segs one two p (t ∷ part) same =
    let h = same t (or_left (t.0 == t.0) (is_in part t) (eq-eqb t.0 t.0 refl)) in
    ap (λ d. cond ((has_line (lines_on segs t) p.lesser && has_line (lines_on segs t) p.greater) && not d) (t ∷ open_segments segs one part p) (open_segments segs one part p)) h.decided
    ∙ ap (λ l. cond (is_open_on segs two p t) (t ∷ l) l) (segments_alike segs one two p part (λ u i. same u (or_right (t.0 == u.0) (is_in part u) i)))

-- a pair keeps its share, where prefixes are alike on the part and where its terms have their ends
pub share_seen : (segs one two : List (List LineId)) (part : List SegId) (g : Group) → All (λ (t : ℕ × Term). AreSeenAlike g.0 one two t.1) g.1
    → ((t : SegId) → is_in part t ≡ true → AreAlike g.0.lesser g.0.greater (lines_on one t) (lines_on two t)) → share_of segs part one g ≡ share_of segs part two g
share_seen segs one two part g seen same =
    let p : Pair = g.0 in
    let terms : List (ℕ × Term) = g.1 in
    let decided = sums_alike (AreSeenAlike p one two) (λ (t : ℕ × Term). counted_cost segs one t.1) (λ (t : ℕ × Term). counted_cost segs two t.1) terms seen (λ t h. counted_alike segs one two p t.1 h) in
    let bounds : pair_bound segs one part terms p ≡ pair_bound segs two part terms p =
    ap (λ slots. least_over slots (λ s. true) (choice_cost slots (slot_cost one terms p) (kept (λ s. s) (open_links one p terms)))) (segments_alike segs one two p part same)
    ∙ (ap (λ cost. least_over (open_segments segs two part p) (λ s. true) (choice_cost (open_segments segs two part p) cost (kept (λ s. s) (open_links one p terms)))) (costs_alike one two p terms seen)
    ∙ ap (λ links. least_over (open_segments segs two part p) (λ s. true) (choice_cost (open_segments segs two part p) (slot_cost two terms p) (kept (λ s. s) links))) (links_alike one two p terms seen)) in
    omega (arith, decided, bounds)

pub share_alike : (segs one two : List (List LineId)) (part : List SegId) (g : Group) → All (λ (t : ℕ × Term). g.0 ≡ pair_in t.1) g.1 → AlikeOn g.0 one two → share_of segs part one g ≡ share_of segs part two g
share_alike segs one two part g mine same = share_seen segs one two part g (all_alike g.0 one two g.1 mine same) (λ t i. same t)

-- More lines placed.

pub before_none : (xs : List LineId) (a b : LineId) → is_placed xs a ≡ false → comes_before xs a b ≡ false
before_none [] a b h = refl
before_none (x ∷ xs) a b h =
    let parts = or_parts (x.0 == a.0) (is_placed xs a) h in
    by_tests (x.0 == a.0) (x.0 == b.0) parts.0 (before_none xs a b parts.1)
  where
    by_tests : (p q : Bool) → p ≡ false → comes_before xs a b ≡ false → cond p true (cond q false (comes_before xs a b)) ≡ false
    by_tests true q e rest = e
    by_tests false true e rest = refl
    by_tests false false e rest = rest

before_beside : (known rest : List LineId) (a b : LineId) → is_placed rest a ≡ false → comes_before (known ++ rest) a b ≡ comes_before known a b
before_beside [] rest a b h = before_none rest a b h
before_beside (x ∷ known) rest a b h = ap (λ c. cond (x.0 == a.0) true (cond (x.0 == b.0) false c)) (before_beside known rest a b h)

-- lists are alike where the shorter has one of the lines
alike_known : (known rest : List LineId) (a b : LineId) → (is_placed known a || is_placed known b) ≡ true → AreAlike a b known (known ++ rest)
alike_known known rest a b h = record {
  decided = h ∙ sym (more (is_placed known a) (is_placed known b) (is_placed (known ++ rest) a) (is_placed (known ++ rest) b) (is_placed rest a) (is_placed rest b) (has_append known rest a) (has_append known rest b) h);
  before = sym (before_known known rest a b h);
  after = sym (before_known known rest b a (or_turned (is_placed known b) (is_placed known a) ∙ h));
}
  where
    more : (x y v w r s : Bool) → v ≡ (x || r) → w ≡ (y || s) → (x || y) ≡ true → (v || w) ≡ true
    more x y v w r s e f h = elim (or_cases x y h) [
      | inl i ↦ or_left v w (e ∙ or_left x r i)
      | inr i ↦ or_right v w (f ∙ or_left y s i)
    ]

-- or where the lines that it has not are others
alike_beside : (known rest : List LineId) (a b : LineId) → is_placed rest a ≡ false → is_placed rest b ≡ false → AreAlike a b known (known ++ rest)
alike_beside known rest a b h g = record {
  decided = sym (ap (λ x. x || is_placed (known ++ rest) b) (none a h) ∙ ap (λ x. is_placed known a || x) (none b g));
  before = sym (before_beside known rest a b h);
  after = sym (before_beside known rest b a g);
}
  where
    or_none : (x y : Bool) → y ≡ false → (x || y) ≡ x
    or_none true y e = refl
    or_none false y e = e

    none : (c : LineId) → is_placed rest c ≡ false → is_placed (known ++ rest) c ≡ is_placed known c
    none c e = has_append known rest c ∙ or_none (is_placed known c) (is_placed rest c) e

-- The last two lines are all that a placing places.

at_end : (before after rest : List LineId) (k n : ℕ) (d : LineId) → after ≡ before ++ rest → length rest ≡ n + k → get_or after (length after - k) d ≡ get_or rest n d
at_end before after rest k n d e f =
    let place : length after - k ≡ length before + n = omega (arith, ap length e, length-append before rest, f) in
    ap (λ l. get_or l (length after - k) d) e ∙ (ap (λ i. get_or (before ++ rest) i d) place ∙ get_or-append-add before rest n d)

among_last : (before after : List LineId) (c : Change) → IsChange before after c → (rest : List LineId) → after ≡ before ++ rest → (a : LineId) → is_placed rest a ≡ true → is_among_last c a ≡ true
among_last before after c ok [] e a h = absurd (true≢false (sym h))
among_last before after c ok (x ∷ []) e a h = elim (or_cases (x.0 == a.0) false h) [
  | inl is ↦ or_left (c.last.0.0 == a.0) (c.last.1.0 == a.0) (ap (λ (l : LineId). l.0 == a.0) (ok.last_is ∙ at_end before after (x ∷ []) 1 0 c.last.0 e refl) ∙ is)
  | inr none ↦ absurd (true≢false (sym none))
]
among_last before after c ok (x ∷ y ∷ []) e a h = elim (or_cases (x.0 == a.0) (y.0 == a.0 || false) h) [
  | inl is ↦ or_right (c.last.0.0 == a.0) (c.last.1.0 == a.0) (ap (λ (l : LineId). l.0 == a.0) (ok.before_is ∙ at_end before after (x ∷ y ∷ []) 2 0 c.last.1 e refl) ∙ is)
  | inr later ↦ elim (or_cases (y.0 == a.0) false later) [
    | inl is ↦ or_left (c.last.0.0 == a.0) (c.last.1.0 == a.0) (ap (λ (l : LineId). l.0 == a.0) (ok.last_is ∙ at_end before after (x ∷ y ∷ []) 1 1 c.last.0 e refl) ∙ is)
    | inr none ↦ absurd (true≢false (sym none))
  ]
]
among_last before after c ok (x ∷ y ∷ z ∷ rest) e a h = let few = ok.few in absurd (omega (arith, few, ap length e, length-append before (x ∷ y ∷ z ∷ rest)))

-- a pair that is decided by no placing sees no change
pub alike_unchanged : (before after : List LineId) (c : Change) (p : Pair) → IsChange before after c → is_new_pair c p ≡ false → AreAlike p.lesser p.greater before after
alike_unchanged before after c p ok h =
    let begins = ok.begins in
    let rest : List LineId = begins.0 in
    subst (AreAlike p.lesser p.greater before) (sym begins.1) (elim (and_cases (has_among_last c p) (not (is_known c p)) h) [
      | inl none ↦ (let parts = or_parts (is_among_last c p.lesser) (is_among_last c p.greater) none in
          alike_beside before rest p.lesser p.greater
          (is_false (is_placed rest p.lesser) (λ i. true≢false (sym (among_last before after c ok rest begins.1 p.lesser i) ∙ parts.0)))
          (is_false (is_placed rest p.greater) (λ i. true≢false (sym (among_last before after c ok rest begins.1 p.greater i) ∙ parts.1))))
      | inr known ↦ alike_known before rest p.lesser p.greater (subst (λ l. (is_placed l p.lesser || is_placed l p.greater) ≡ true) ok.known_is (known_true (is_known c p) known))
    ])
  where
    known_true : (b : Bool) → not b ≡ false → b ≡ true
    known_true true e = refl
    known_true false e = absurd (true≢false e)

-- The shares that a placing leaves.

pub elsewhere_alike : (p : Pair) (one two : List (List LineId)) (s : SegId) → SameElsewhere s one two → AreAlike p.lesser p.greater (lines_on one s) (lines_on two s) → AlikeOn p one two
elsewhere_alike p one two s same here t = by_test (t.0 == s.0) refl
  where
    by_test : (b : Bool) → (t.0 == s.0) ≡ b → AreAlike p.lesser p.greater (lines_on one t) (lines_on two t)
    by_test true e =
        let P : ℕ → SegId = λ n. record { 0 = n } in
        subst (λ (u : SegId). AreAlike p.lesser p.greater (lines_on one u) (lines_on two u)) (ap P (sym (eqb-true t.0 s.0 e))) here
    by_test false e = subst (AreAlike p.lesser p.greater (lines_on one t)) (same t e) (record { decided = refl; before = refl; after = refl })

pub left_by_placing : (segs one two : List (List LineId)) (part : List SegId) (c : Change) (s : SegId) (g : Group) → c.seg ≡ s → SameElsewhere s two one → IsChange (lines_on one s) (lines_on two s) c
    → IsGroup segs part g → is_changed c g ≡ false → share_of segs part two g ≡ share_of segs part one g
left_by_placing segs one two part c s g here same ok fit none = elim (and_cases (is_new_pair c g.0) (meets g.1 c.seg) none) [
  | inl old ↦ share_alike segs two one part g fit.mine (elsewhere_alike g.0 two one s same (alike_back g.0.lesser g.0.greater (lines_on one s) (lines_on two s) (alike_unchanged (lines_on one s) (lines_on two s) c g.0 ok old)))
  | inr off ↦ share_kept segs two one part g s (ap (meets g.1) (sym here) ∙ off) same
]

pub left_by_taking : (segs one two : List (List LineId)) (part : List SegId) (c : Change) (s : SegId) (g : Group) → c.seg ≡ s → SameElsewhere s two one → IsChange (lines_on two s) (lines_on one s) c
    → IsGroup segs part g → is_changed c g ≡ false → share_of segs part two g ≡ share_of segs part one g
left_by_taking segs one two part c s g here same ok fit none = elim (and_cases (is_new_pair c g.0) (meets g.1 c.seg) none) [
  | inl old ↦ share_alike segs two one part g fit.mine (elsewhere_alike g.0 two one s same (alike_unchanged (lines_on two s) (lines_on one s) c g.0 ok old))
  | inr off ↦ share_kept segs two one part g s (ap (meets g.1) (sym here) ∙ off) same
]

-- a pair that is not decided anew, or has no own term on the segment, is not changed
pub unchanged : (part : List SegId) (terms : List (ℕ × Term)) (own : List SegId) (s : SegId) (new : Bool) → own ≡ own_segments part terms → All (λ (t : ℕ × Term). is_of part t.1 ≡ true) terms
    → (new && is_in own s) ≡ false → (new && meets terms s) ≡ false
unchanged part terms own s true e inside none = not_own part terms own s e inside none
unchanged part terms own s false e inside none = refl

-- Placing a line, and taking it back.

-- a few lines more, one at least
pub record IsMore (before after : List LineId) : Type 0 where
  pub rest : List LineId
  pub is : after ≡ before ++ rest
  pub some : 1 ≤ length rest
  pub most : length rest ≤ 2

-- the placed lines once a line is placed
with_line_more : (lines placed : List LineId) (a : LineId) → IsMore placed (with_line lines placed a)
with_line_more lines placed a = by_test (length (placed ++ a ∷ []) + 1 == length lines)
  where
    some_more : (f : Option LineId) → IsMore placed ((placed ++ a ∷ []) ++ option_to_list f)
    some_more None = record { rest = a ∷ []; is = append_assoc placed (a ∷ []) []; some = omega arith; most = omega arith }
    some_more (Some b) = record { rest = a ∷ b ∷ []; is = append_assoc placed (a ∷ []) (b ∷ []); some = omega arith; most = omega arith }

    by_test : (t : Bool) → IsMore placed (cond t ((placed ++ a ∷ []) ++ option_to_list (find (is_unplaced (placed ++ a ∷ [])) lines)) (placed ++ a ∷ []))
    by_test true = some_more (find (is_unplaced (placed ++ a ∷ [])) lines)
    by_test false = record { rest = a ∷ []; is = refl; some = omega arith; most = omega arith }

placed_next : (segs placed next : List (List LineId)) (s : SegId) (a : LineId) → s.0 < length placed → next ≡ set placed s.0 (with_line (lines_on segs s) (lines_on placed s) a) → IsMore (lines_on placed s) (lines_on next s)
placed_next segs placed next s a below e =
    subst (IsMore (lines_on placed s)) (sym (ap (λ l. lines_on l s) e ∙ get_or-set_same placed s.0 (with_line (lines_on segs s) (lines_on placed s) a) [] below)) (with_line_more (lines_on segs s) (lines_on placed s) a)

-- there are more of them
pub more_placed : (segs placed next : List (List LineId)) (s : SegId) (a : LineId) → s.0 < length placed → next ≡ set placed s.0 (with_line (lines_on segs s) (lines_on placed s) a) → length (lines_on placed s) < length (lines_on next s)
more_placed segs placed next s a below e =
    let more = placed_next segs placed next s a below e in
    let is = more.is in
    let some = more.some in
    omega (arith, ap length is, length-append (lines_on placed s) more.rest, some)

pub is_placing : (segs placed next : List (List LineId)) (s : SegId) (a : LineId) (c : Change) (count : ℕ) (last : LineId × LineId) → s.0 < length placed
    → next ≡ set placed s.0 (with_line (lines_on segs s) (lines_on placed s) a) → count ≡ length (lines_on placed s) → c.known.now ≡ take count (lines_on next s) → c.last ≡ last
    → last.0 ≡ get_or (lines_on next s) (length (lines_on next s) - 1) last.0 → last.1 ≡ get_or (lines_on next s) (length (lines_on next s) - 2) last.1 → IsChange (lines_on placed s) (lines_on next s) c
is_placing segs placed next s a c count last below e counted known two first second =
    let more = placed_next segs placed next s a below e in
    let is : lines_on next s ≡ lines_on placed s ++ more.rest = more.is in
    let most = more.most in
    record {
      known_is = known ∙ (ap (λ n. take n (lines_on next s)) counted ∙ (ap (take (length (lines_on placed s))) is ∙ take-append_seam (lines_on placed s) more.rest));
      begins = (more.rest, is);
      few = omega (arith, ap length is, length-append (lines_on placed s) more.rest, most);
      last_is = subst (λ (l : LineId × LineId). l.0 ≡ get_or (lines_on next s) (length (lines_on next s) - 1) l.0) (sym two) first;
      before_is = subst (λ (l : LineId × LineId). l.1 ≡ get_or (lines_on next s) (length (lines_on next s) - 2) l.1) (sym two) second;
    }

pub is_taking : (segs placed next : List (List LineId)) (s : SegId) (c : Change) (count : ℕ) (last : LineId × LineId) → s.0 < length placed
    → next ≡ set placed s.0 (without_last (lines_on segs s) (lines_on placed s)) → count ≡ length (lines_on next s) → c.known.now ≡ take count (lines_on next s) → c.last ≡ last
    → last.0 ≡ get_or (lines_on placed s) (length (lines_on placed s) - 1) last.0 → last.1 ≡ get_or (lines_on placed s) (length (lines_on placed s) - 2) last.1 → IsChange (lines_on next s) (lines_on placed s) c
is_taking segs placed next s c count last below e counted known two first second =
    let all : List LineId = lines_on placed s in
    let count_left : ℕ = length all - last_placed (lines_on segs s) all in
    let is : lines_on next s ≡ take count_left all = ap (λ l. lines_on l s) e ∙ get_or-set_same placed s.0 (without_last (lines_on segs s) all) [] below in
    let within : count_left ≤ length all = omega arith in
    record {
      known_is = known ∙ take_all count (lines_on next s) (omega (arith, counted));
      begins = (drop count_left all, sym (take-append-drop count_left all) ∙ ap (λ l. l ++ drop count_left all) (sym is));
      few = omega (arith, ap length is, length-take-le count_left all within, two_at_most (length all == length (lines_on segs s)));
      last_is = subst (λ (l : LineId × LineId). l.0 ≡ get_or all (length all - 1) l.0) (sym two) first;
      before_is = subst (λ (l : LineId × LineId). l.1 ≡ get_or all (length all - 2) l.1) (sym two) second;
    }
  where
    two_at_most : (b : Bool) → cond b 2 1 ≤ 2
    two_at_most true = omega arith
    two_at_most false = omega arith
