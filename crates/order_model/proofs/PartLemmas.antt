-- What is gathered by labels that tell the classes are the parts.
use Rattle.std.proofs.Common.{◌≡◌, ◌≢◌, ℕ, zero, suc, ◌+◌, ◌<◌, ◌≤◌, ◌==◌, Bool, true, false, cond, List, [], ◌∷◌, ◌++◌, length, map, get_or, refl, sym, ◌∙◌, ap, subst, arith, inl, inr, ◌⊎◌, true≢false, eqb-true, eq-eqb, IsTrue}
use Rattle.std.specs.List.{All, Contains}
use Rattle.std.proofs.lemmas.Bool.{eqb-false, cases_lt, le-leb}
use Rattle.std.proofs.lemmas.List.{get_or-map, length-map}
use Rattle.std.proofs.lemmas.List.Elements.{All-nil, All-cons, All-head, All-tail, All-contains, All-push, All-map, Contains-append_left, Contains-push}
use Rattle.map_base.specs.declared.ids.SegId.{SegId}
use Rattle.map_base.specs.declared.ids.LineId.{LineId}
use Rattle.order_model.specs.declared.term.Term.{Term}
use Rattle.order_model.specs.declared.term.Term.TheVariants.{Side, Link, Apart}
use Rattle.order_model.specs.Problems.{IsTerm, IsOn}
use Rattle.order_model.specs.Parts.{is_between, Reaches, is_wide, IsRisingPart, least_of, AreByLeast, AreParts, AreLabels}
use Rattle.order_model.specs.Parts.Reaches.{itself, onward}
use Rattle.order_model.specs.Gathering.{added, after_segment, gathered, AreGatherable}
use Rattle.order_model.proofs.Classes.{ends_are}

-- A segment that a Link or an Apart ends at has two lines.

two_places : (i j n : ℕ) → i < n → j < n → i ≢ j → 2 ≤ n
two_places i j n p q differ = elim (cases_lt i j) [ inl below ↦ omega arith | inr above ↦ elim (cases_lt j i) [ inl under ↦ omega arith | inr over ↦ absurd (differ (omega arith)) ] ]

any_default : (xs : List LineId) (i : ℕ) (d e : LineId) → i < length xs → get_or xs i d ≡ get_or xs i e
any_default [] i d e h = absurd (omega arith)
any_default (x ∷ xs) zero d e h = refl
any_default (x ∷ xs) (suc i) d e h = any_default xs i d e (omega arith)

one_place : (xs : List LineId) (i j : ℕ) (a b : LineId) → j < length xs → get_or xs i a ≡ a → get_or xs j b ≡ b → i ≡ j → a ≡ b
one_place xs i j a b below p q same = sym p ∙ ap (λ k. get_or xs k a) same ∙ any_default xs j a b below ∙ q

two_lines : (segs : List (List LineId)) (s : SegId) (a b : LineId) → a.0 < b.0 → IsOn segs s a → IsOn segs s b → IsTrue (is_wide segs s.0)
two_lines segs s a b below p q =
    le-leb 2 (length (get_or segs s.0 [])) (two_places p.0 q.0 (length (get_or segs s.0 [])) p.1 q.1
    (λ same. let e : a ≡ b = one_place (get_or segs s.0 []) p.0 q.0 a b q.1 p.2 q.2 same in omega (arith, ap (λ (l : LineId). l.0) e)))

abbrev seg_of : ℕ → SegId
seg_of n = record { 0 = n }

wide_end : (segs : List (List LineId)) (x : Term) (s t : ℕ) → IsTerm segs x → is_between x s t ≡ true → IsTrue (is_wide segs t)
wide_end segs (Side seg first second w) s t ok h = absurd (true≢false (sym h))
wide_end segs (Link seg other flip a b w) s t ok h = elim (ends_are seg.0 other.0 s t h) [
  | inl p ↦ subst (λ k. IsTrue (is_wide segs k)) p.1 (two_lines segs other a b ok.a_below ok.a_on_other ok.b_on_other)
  | inr p ↦ subst (λ k. IsTrue (is_wide segs k)) p.0 (two_lines segs seg a b ok.a_below ok.a_on ok.b_on)
]
wide_end segs (Apart seg other a b w) s t ok h = elim (ends_are seg.0 other.0 s t h) [
  | inl p ↦ subst (λ k. IsTrue (is_wide segs k)) p.1 (two_lines segs other a b ok.a_below ok.a_on_other ok.b_on_other)
  | inr p ↦ subst (λ k. IsTrue (is_wide segs k)) p.0 (two_lines segs seg a b ok.a_below ok.a_on ok.b_on)
]

wide_reached : (segs : List (List LineId)) (terms : List Term) (s t : ℕ) → All (IsTerm segs) terms → Reaches terms s t → IsTrue (is_wide segs s) → IsTrue (is_wide segs t)
wide_reached segs terms _ _ ok (itself s) wide = wide
wide_reached segs terms _ _ ok (onward s t u x h between r) wide =
    wide_reached segs terms t u ok r (wide_end segs x s t (All-contains (IsTerm segs) terms x ok h) between)

pub labels_gatherable : (segs : List (List LineId)) (terms : List Term) (labels : List ℕ) → All (IsTerm segs) terms
    → AreLabels terms (length segs) labels → AreGatherable segs labels
labels_gatherable segs terms labels ok tell = record {
  each = tell.each;
  lowest = tell.lowest;
  rooted = tell.rooted;
  wide = λ s known wide.
      (let low = tell.lowest s known in
      let root_known : get_or labels s 0 < length segs = omega arith in
      wide_reached segs terms s (get_or labels s 0) ok (tell.same s (get_or labels s 0) known root_known (sym (tell.rooted s known))) wide);
}

-- What is gathered so far.

abbrev IsMember : List (List LineId) → ℕ → SegId → Type 0
IsMember segs n t = (t.0 < n) × IsTrue (is_wide segs t.0)

abbrev IsLabelled : List ℕ → List SegId → Type 0
IsLabelled labels p = All (λ (t : SegId). get_or labels t.0 0 ≡ least_of p) p

record AreSoFar (segs : List (List LineId)) (labels : List ℕ) (s : ℕ) (ps : List (List SegId)) : Type 0 where
  rising : All IsRisingPart ps
  by_least : AreByLeast ps
  members : All (All (IsMember segs s)) ps
  labelled : All (IsLabelled labels) ps
  covered : (t : SegId) → t.0 < s → IsTrue (is_wide segs t.0) → (p : List SegId) × Contains ps p × Contains p t

least_is_member : (P : SegId → Type 0) (p : List SegId) → IsRisingPart p → All P p → P (seg_of (least_of p))
least_is_member P [] h all = absurd h
least_is_member P (s ∷ p) h all = All-head P s p all

rising_push : (p : List SegId) (s : ℕ) → IsRisingPart p → All (λ (t : SegId). t.0 < s) p → IsRisingPart (p ++ seg_of s ∷ [])
rising_push [] s h below = absurd h
rising_push (t ∷ []) s h below = (All-head (λ (t : SegId). t.0 < s) t [] below, tt)
rising_push (t ∷ u ∷ p) s h below = (h.0, rising_push (u ∷ p) s h.1 (All-tail (λ (t : SegId). t.0 < s) t (u ∷ p) below))

by_least_push : (ps : List (List SegId)) (q : List SegId) → AreByLeast ps → All (λ (p : List SegId). least_of p < least_of q) ps → AreByLeast (ps ++ q ∷ [])
by_least_push [] q h below = tt
by_least_push (p ∷ []) q h below = (All-head (λ (p : List SegId). least_of p < least_of q) p [] below, tt)
by_least_push (p ∷ r ∷ ps) q h below = (h.0, by_least_push (r ∷ ps) q h.1 (All-tail (λ (p : List SegId). least_of p < least_of q) p (r ∷ ps) below))

by_least_map : (f : List SegId → List SegId) (ps : List (List SegId)) → All (λ p. least_of (f p) ≡ least_of p) ps → AreByLeast ps → AreByLeast (map f ps)
by_least_map f [] same h = tt
by_least_map f (p ∷ []) same h = tt
by_least_map f (p ∷ q ∷ ps) same h =
    let rest = All-tail (λ p. least_of (f p) ≡ least_of p) p (q ∷ ps) same in (
      omega (arith, h.0, All-head (λ p. least_of (f p) ≡ least_of p) p (q ∷ ps) same, All-head (λ p. least_of (f p) ≡ least_of p) q ps rest),
      by_least_map f (q ∷ ps) rest h.1,
    )

later_members : (segs : List (List LineId)) (n : ℕ) (p : List SegId) → All (IsMember segs n) p → All (IsMember segs (n + 1)) p
later_members segs n p all k d below = (let m = all k d below in (omega (arith, m.0), m.1))

so_far_none : (segs : List (List LineId)) (labels : List ℕ) → AreSoFar segs labels 0 []
so_far_none segs labels = record {
  rising = All-nil IsRisingPart;
  by_least = tt;
  members = All-nil (All (IsMember segs 0));
  labelled = All-nil (IsLabelled labels);
  covered = λ t below wide. absurd (omega arith);
}

so_far_begin : (segs : List (List LineId)) (labels : List ℕ) (s : ℕ) (ps : List (List SegId)) → AreSoFar segs labels s ps
    → IsTrue (is_wide segs s) → get_or labels s 0 ≡ s → AreSoFar segs labels (s + 1) (ps ++ (seg_of s ∷ []) ∷ [])
so_far_begin segs labels s ps ok wide root = record {
  rising = All-push IsRisingPart ps (seg_of s ∷ []) ok.rising tt;
  by_least = by_least_push ps (seg_of s ∷ []) ok.by_least (λ k d below.
      (least_is_member (IsMember segs s) (get_or ps k d) (ok.rising k d below) (ok.members k d below)).0);
  members = All-push (All (IsMember segs (s + 1))) ps (seg_of s ∷ [])
      (λ k d below. later_members segs s (get_or ps k d) (ok.members k d below))
      (All-cons (IsMember segs (s + 1)) (seg_of s) [] (omega arith, wide) (All-nil (IsMember segs (s + 1))));
  labelled = All-push (IsLabelled labels) ps (seg_of s ∷ []) ok.labelled
      (All-cons (λ (t : SegId). get_or labels t.0 0 ≡ s) (seg_of s) [] root (All-nil (λ (t : SegId). get_or labels t.0 0 ≡ s)));
  covered = λ t below t_wide. covered_begin t below t_wide;
}
  where
    covered_begin : (t : SegId) → t.0 < s + 1 → IsTrue (is_wide segs t.0)
        → (p : List SegId) × Contains (ps ++ (seg_of s ∷ []) ∷ []) p × Contains p t
    covered_begin t below t_wide = elim (cases_lt t.0 s) [
      | inl under ↦ (let old = ok.covered t under t_wide in (old.0, Contains-append_left ps ((seg_of s ∷ []) ∷ []) old.0 old.1, old.2))
      | inr over ↦ (let e : s ≡ t.0 = omega arith in (seg_of s ∷ [], Contains-push ps (seg_of s ∷ []), (0, omega arith, ap seg_of e)))
    ]

added_rising : (segs : List (List LineId)) (label s : ℕ) (p : List SegId) → IsRisingPart p → All (IsMember segs s) p → IsRisingPart (added label s p)
added_rising segs label s p h all =
    elim (least_of p == label) as (λ b. IsRisingPart (cond b (p ++ seg_of s ∷ []) p))
    [ true ↦ rising_push p s h (λ k d below. (all k d below).0) | false ↦ h ]

added_least : (label s : ℕ) (p : List SegId) → IsRisingPart p → least_of (added label s p) ≡ least_of p
added_least label s [] h = absurd h
added_least label s (t ∷ p) h =
    elim (t.0 == label) as (λ b. least_of (cond b ((t ∷ p) ++ seg_of s ∷ []) (t ∷ p)) ≡ t.0) [ true ↦ refl | false ↦ refl ]

added_members : (segs : List (List LineId)) (label s : ℕ) (p : List SegId) → IsTrue (is_wide segs s) → All (IsMember segs s) p → All (IsMember segs (s + 1)) (added label s p)
added_members segs label s p wide all =
    elim (least_of p == label) as (λ b. All (IsMember segs (s + 1)) (cond b (p ++ seg_of s ∷ []) p))
    [ true ↦ All-push (IsMember segs (s + 1)) p (seg_of s) (later_members segs s p all) (omega arith, wide) | false ↦ later_members segs s p all ]

all_same_least : (labels : List ℕ) (p q : List SegId) → least_of q ≡ least_of p → All (λ (t : SegId). get_or labels t.0 0 ≡ least_of p) q → IsLabelled labels q
all_same_least labels p q same all k d below = all k d below ∙ sym same

added_labelled : (labels : List ℕ) (label s : ℕ) (p : List SegId) → get_or labels s 0 ≡ label → IsRisingPart p → IsLabelled labels p → IsLabelled labels (added label s p)
added_labelled labels label s p is h all =
    all_same_least labels p (added label s p) (added_least label s p h) (by_test (least_of p == label) refl)
  where
    by_test : (b : Bool) → (least_of p == label) ≡ b → All (λ (t : SegId). get_or labels t.0 0 ≡ least_of p) (cond b (p ++ seg_of s ∷ []) p)
    by_test true e = All-push (λ (t : SegId). get_or labels t.0 0 ≡ least_of p) p (seg_of s) all (is ∙ sym (eqb-true (least_of p) label e))
    by_test false e = all

added_has : (label s : ℕ) (p : List SegId) (t : SegId) → Contains p t → Contains (added label s p) t
added_has label s p t h =
    elim (least_of p == label) as (λ b. Contains (cond b (p ++ seg_of s ∷ []) p) t) [ true ↦ Contains-append_left p (seg_of s ∷ []) t h | false ↦ h ]

added_last : (label s : ℕ) (p : List SegId) → least_of p ≡ label → Contains (added label s p) (seg_of s)
added_last label s p e = rw (eq-eqb (least_of p) label e) (Contains-push p (seg_of s))

contains_map : (f : List SegId → List SegId) (ps : List (List SegId)) (p : List SegId) → Contains ps p → Contains (map f ps) (f p)
contains_map f ps p h =
    (h.0, omega (arith, h.1, length-map ps f), get_or-map f ps h.0 p (f p) h.1 ∙ ap f h.2)

so_far_join : (segs : List (List LineId)) (labels : List ℕ) (s : ℕ) (ps : List (List SegId)) → AreGatherable segs labels → s < length segs → AreSoFar segs labels s ps
    → IsTrue (is_wide segs s) → get_or labels s 0 ≢ s → AreSoFar segs labels (s + 1) (map (added (get_or labels s 0) s) ps)
so_far_join segs labels s ps tell known ok wide differ =
    let label : ℕ = get_or labels s 0 in
    let f : List SegId → List SegId = added label s in
    let low = tell.lowest s known in
    let own = ok.covered (seg_of label) (omega (arith, low, differ)) (tell.wide s known wide) in
    let own_least : least_of own.0 ≡ label =
    sym (All-contains (λ (t : SegId). get_or labels t.0 0 ≡ least_of own.0) own.0 (seg_of label) (All-contains (IsLabelled labels) ps own.0 ok.labelled own.1) own.2) ∙ tell.rooted s known in
    record {
      rising = All-map IsRisingPart f ps (λ k d below. added_rising segs label s (get_or ps k d) (ok.rising k d below) (ok.members k d below));
      by_least = by_least_map f ps (λ k d below. added_least label s (get_or ps k d) (ok.rising k d below)) ok.by_least;
      members = All-map (All (IsMember segs (s + 1))) f ps (λ k d below. added_members segs label s (get_or ps k d) wide (ok.members k d below));
      labelled = All-map (IsLabelled labels) f ps (λ k d below. added_labelled labels label s (get_or ps k d) refl (ok.rising k d below) (ok.labelled k d below));
      covered = λ t below t_wide. elim (cases_lt t.0 s) [
        | inl under ↦ (let old = ok.covered t under t_wide in (f old.0, contains_map f ps old.0 old.1, added_has label s old.0 t old.2))
        | inr over ↦ (let e : s ≡ t.0 = omega arith in
            (f own.0, contains_map f ps own.0 own.1, subst (λ u. Contains (f own.0) u) (ap seg_of e) (added_last label s own.0 own_least)))
      ];
    }

so_far_skip : (segs : List (List LineId)) (labels : List ℕ) (s : ℕ) (ps : List (List SegId)) → AreSoFar segs labels s ps → is_wide segs s ≡ false → AreSoFar segs labels (s + 1) ps
so_far_skip segs labels s ps ok narrow = record {
  rising = ok.rising;
  by_least = ok.by_least;
  members = λ k d below. later_members segs s (get_or ps k d) (ok.members k d below);
  labelled = ok.labelled;
  covered = λ t below t_wide. elim (cases_lt t.0 s) [
    | inl under ↦ ok.covered t under t_wide
    | inr over ↦ (let e : t.0 ≡ s = omega arith in absurd (true≢false (sym t_wide ∙ ap (is_wide segs) e ∙ narrow)))
  ];
}

so_far_after : (segs : List (List LineId)) (labels : List ℕ) (s : ℕ) (ps : List (List SegId)) → AreGatherable segs labels → s < length segs → AreSoFar segs labels s ps
    → AreSoFar segs labels (s + 1) (after_segment segs labels s ps)
so_far_after segs labels s ps tell known ok = by_tests (is_wide segs s) (get_or labels s 0 == s) refl refl
  where
    by_tests : (wide own : Bool) → is_wide segs s ≡ wide → (get_or labels s 0 == s) ≡ own
        → AreSoFar segs labels (s + 1) (cond wide (cond own (ps ++ (seg_of s ∷ []) ∷ []) (map (added (get_or labels s 0) s) ps)) ps)
    by_tests true true p q = so_far_begin segs labels s ps ok p (eqb-true (get_or labels s 0) s q)
    by_tests true false p q = so_far_join segs labels s ps tell known ok p (eqb-false (get_or labels s 0) s q)
    by_tests false own p q = so_far_skip segs labels s ps ok p

so_far : (segs : List (List LineId)) (labels : List ℕ) (s : ℕ) → AreGatherable segs labels → s ≤ length segs → AreSoFar segs labels s (gathered segs labels s)
so_far segs labels zero tell h = so_far_none segs labels
so_far segs labels (suc s) tell h =
    let e : s + 1 ≡ suc s = omega arith in
    subst (λ n. AreSoFar segs labels n (gathered segs labels (suc s))) e (so_far_after segs labels s (gathered segs labels s) tell (omega arith) (so_far segs labels s tell (omega arith)))

-- Parts of one least segment are one part.

pub part_cases : (q p : List SegId) (ps : List (List SegId)) → Contains (q ∷ ps) p → (q ≡ p) ⊎ Contains ps p
part_cases q p ps (zero, below, is) = inl is
part_cases q p ps (suc k, below, is) = inr (k, omega arith, is)

pub least_below_later : (p q : List SegId) (ps : List (List SegId)) → AreByLeast (p ∷ ps) → Contains ps q → least_of p < least_of q
least_below_later p q [] h c = absurd (omega (arith, c.1))
least_below_later p q (r ∷ ps) h c = elim (part_cases r q ps c)
    [ inl e ↦ subst (λ x. least_of p < least_of x) e h.0 | inr later ↦ omega (arith, h.0, least_below_later r q ps h.1 later) ]

pub by_least_tail : (p : List SegId) (ps : List (List SegId)) → AreByLeast (p ∷ ps) → AreByLeast ps
by_least_tail p [] h = tt
by_least_tail p (q ∷ ps) h = h.1

pub one_least : (ps : List (List SegId)) (p q : List SegId) → AreByLeast ps → Contains ps p → Contains ps q → least_of p ≡ least_of q → p ≡ q
one_least [] p q h a b same = absurd (omega (arith, a.1))
one_least (r ∷ ps) p q h a b same = elim (part_cases r p ps a) [
  | inl e ↦ elim (part_cases r q ps b) [
    | inl f ↦ sym e ∙ f
    | inr later ↦ absurd (omega (arith, least_below_later r q ps h later, ap least_of e, same))
  ]
  | inr later ↦ elim (part_cases r q ps b) [
    | inl f ↦ absurd (omega (arith, least_below_later r p ps h later, ap least_of f, same))
    | inr too ↦ one_least ps p q (by_least_tail r ps h) later too same
  ]
]

pub gathered_are_parts : (segs : List (List LineId)) (terms : List Term) (labels : List ℕ) → All (IsTerm segs) terms
    → AreLabels terms (length segs) labels → AreParts segs terms (gathered segs labels (length segs))
gathered_are_parts segs terms labels ok tell =
    let n : ℕ = length segs in
    let ps : List (List SegId) = gathered segs labels n in
    let all = so_far segs labels n (labels_gatherable segs terms labels ok tell) (omega arith) in
    let label_in : (p : List SegId) (t : SegId) → Contains ps p → Contains p t → get_or labels t.0 0 ≡ least_of p =
    λ p t in_ps in_p. All-contains (λ (u : SegId). get_or labels u.0 0 ≡ least_of p) p t (All-contains (IsLabelled labels) ps p all.labelled in_ps) in_p in
    let known_in : (p : List SegId) (t : SegId) → Contains ps p → Contains p t → t.0 < n =
    λ p t in_ps in_p. (All-contains (IsMember segs n) p t (All-contains (All (IsMember segs n)) ps p all.members in_ps) in_p).0 in
    record {
      rising = all.rising;
      by_least = all.by_least;
      wide = all.members;
      covered = all.covered;
      classes = λ p s t in_ps in_p t_known t_wide. (
        λ t_in. tell.same s.0 t.0 (known_in p s in_ps in_p) t_known (label_in p s in_ps in_p ∙ sym (label_in p t in_ps t_in)),
        λ r. let q = all.covered t t_known t_wide in
            let same : least_of p ≡ least_of q.0 =
            sym (label_in p s in_ps in_p) ∙ tell.reached s.0 t.0 (known_in p s in_ps in_p) t_known r ∙ label_in q.0 t q.1 q.2 in
            subst (λ x. Contains x t) (sym (one_least ps p q.0 all.by_least in_ps q.1 same)) q.2,
      );
    }
