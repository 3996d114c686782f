-- A problem has exactly one list of parts.
use Rattle.std.proofs.Common.{◌≡◌, ℕ, zero, suc, ◌<◌, List, [], ◌∷◌, ◌++◌, length, get_or, refl, sym, ◌∙◌, ap, subst, arith, inl, inr, ◌⊎◌, append_assoc, length-append, append-nil, IsTrue}
use Rattle.std.specs.List.{All, Contains}
use Rattle.std.proofs.lemmas.Bool.{cases_lt}
use Rattle.std.proofs.lemmas.List.{get_or_append_left}
use Rattle.std.proofs.Math.Seq.{get_or-append_seam}
use Rattle.std.proofs.lemmas.List.Elements.{All-nil, All-head, All-tail, All-push, All-contains}
use Rattle.map_base.specs.declared.ids.SegId.{SegId}
use Rattle.map_base.specs.declared.ids.LineId.{LineId}
use Rattle.order_model.specs.declared.term.Term.{Term}
use Rattle.order_model.specs.Problems.{IsTerm}
use Rattle.order_model.specs.Costs.{IsReadable}
use Rattle.order_model.specs.Parts.{is_wide, IsRisingPart, least_of, AreByLeast, AreParts, AreLabels, joined_by, first_labels, class_labels}
use Rattle.order_model.specs.Gathering.{problem_parts}
use Rattle.order_model.proofs.Classes.{own_labels_tell, labels_after}
use Rattle.order_model.proofs.OrderLemmas.{readable_term}
use Rattle.order_model.proofs.PartLemmas.{least_below_later, by_least_tail, gathered_are_parts}
use Rattle.order_model.proofs.Shares.{has_least}

-- Lists in which a number rises strictly are the same where their elements are.

first_of : {A : Type 0} (x : A) (xs : List A) → Contains (x ∷ xs) x
first_of x xs = (0, omega arith, refl)

later_of : {A : Type 0} (x y : A) (xs : List A) → Contains xs y → Contains (x ∷ xs) y
later_of x y xs h = (suc h.0, omega (arith, h.1), h.2)

one_of : {A : Type 0} (x y : A) (xs : List A) → Contains (x ∷ xs) y → (x ≡ y) ⊎ Contains xs y
one_of x y xs (zero, below, is) = inl is
one_of x y xs (suc k, below, is) = inr (k, omega (arith, below), is)

abbrev IsOrdered : {A : Type 0} → (A → ℕ) → List A → Type 0
IsOrdered {A} key [] = Unit {0}
IsOrdered {A} key (x ∷ xs) = ((y : A) → Contains xs y → key x < key y) × IsOrdered key xs

module _ {A : Type 0} (key : A → ℕ) where
  heads_same : (x y : A) (xs ys : List A) → IsOrdered key (x ∷ xs) → IsOrdered key (y ∷ ys) → Contains (y ∷ ys) x → Contains (x ∷ xs) y → x ≡ y
  heads_same x y xs ys up up_too there back = elim (one_of y x ys there) [
    | inl e ↦ sym e
    | inr later ↦ elim (one_of x y xs back) [
      | inl e ↦ e
      | inr too ↦ absurd (let under : key y < key x = up_too.0 x later in let over : key x < key y = up.0 y too in omega (arith, under, over))
    ]
  ]

  tail_has : (x y z : A) (xs ys : List A) → IsOrdered key (x ∷ xs) → x ≡ y → Contains xs z → Contains (y ∷ ys) z → Contains ys z
  tail_has x y z xs ys up same h there = elim (one_of y z ys there) [
    | inl e ↦ absurd (let over : key x < key z = up.0 z h in let equal : key x ≡ key z = ap key (same ∙ e) in omega (arith, over, equal))
    | inr later ↦ later
  ]

  ordered_same : (xs ys : List A) → IsOrdered key xs → IsOrdered key ys → ((z : A) → Contains xs z → Contains ys z) → ((z : A) → Contains ys z → Contains xs z) → xs ≡ ys
  ordered_same [] [] up up_too there back = refl
  ordered_same [] (y ∷ ys) up up_too there back = absurd (let h : Contains [] y = back y (first_of y ys) in omega (arith, h.1))
  ordered_same (x ∷ xs) [] up up_too there back = absurd (let h : Contains [] x = there x (first_of x xs) in omega (arith, h.1))
  ordered_same (x ∷ xs) (y ∷ ys) up up_too there back =
      let same : x ≡ y = heads_same x y xs ys up up_too (there x (first_of x xs)) (back y (first_of y ys)) in
      let rest : xs ≡ ys = ordered_same xs ys up.1 up_too.1
      (λ z h. tail_has x y z xs ys up same h (there z (later_of x z xs h)))
      (λ z h. tail_has y x z ys xs up_too (sym same) h (back z (later_of y z ys h))) in
      ap (λ w. w ∷ xs) same ∙ ap (λ ws. y ∷ ws) rest

abbrev number : SegId → ℕ
number s = s.0

rising_ordered : (p : List SegId) → IsRisingPart p → IsOrdered number p
rising_ordered [] h = absurd h
rising_ordered (s ∷ []) h = ((λ t c. absurd (omega (arith, c.1))), tt)
rising_ordered (s ∷ u ∷ p) h =
    let rest : IsOrdered number (u ∷ p) = rising_ordered (u ∷ p) h.1 in (
      (λ t c. elim (one_of u t p c) [ inl e ↦ omega (arith, h.0, ap number e) | inr later ↦ omega (arith, h.0, rest.0 t later) ]),
      rest,
    )

by_least_ordered : (ps : List (List SegId)) → AreByLeast ps → IsOrdered least_of ps
by_least_ordered [] h = tt
by_least_ordered (p ∷ ps) h = ((λ q c. least_below_later p q ps h c), by_least_ordered ps (by_least_tail p ps h))

-- Two lists of parts are one.

module _ (segs : List (List LineId)) (terms : List Term) (ps qs : List (List SegId)) (ok : AreParts segs terms ps) (ok_too : AreParts segs terms qs) where
  known_in : (p : List SegId) (s : SegId) → Contains ps p → Contains p s → (s.0 < length segs) × IsTrue (is_wide segs s.0)
  known_in p s p_in s_in = All-contains (λ (t : SegId). (t.0 < length segs) × IsTrue (is_wide segs t.0)) p s
      (All-contains (All (λ (t : SegId). (t.0 < length segs) × IsTrue (is_wide segs t.0))) ps p ok.wide p_in) s_in

  known_too : (q : List SegId) (s : SegId) → Contains qs q → Contains q s → (s.0 < length segs) × IsTrue (is_wide segs s.0)
  known_too q s q_in s_in = All-contains (λ (t : SegId). (t.0 < length segs) × IsTrue (is_wide segs t.0)) q s
      (All-contains (All (λ (t : SegId). (t.0 < length segs) × IsTrue (is_wide segs t.0))) qs q ok_too.wide q_in) s_in

  pub part_there : (p : List SegId) → Contains ps p → Contains qs p
  part_there p p_in =
      let rising : IsRisingPart p = All-contains IsRisingPart ps p ok.rising p_in in
      let s : SegId = record { 0 = least_of p } in
      let s_in : Contains p s = has_least p rising in
      let s_known = known_in p s p_in s_in in
      let q = ok_too.covered s s_known.0 s_known.1 in
      let rising_too : IsRisingPart q.0 = All-contains IsRisingPart qs q.0 ok_too.rising q.1 in
      let same : p ≡ q.0 = ordered_same number p q.0 (rising_ordered p rising) (rising_ordered q.0 rising_too)
      (λ t t_in. (let t_known = known_in p t p_in t_in in
      (ok_too.classes q.0 s t q.1 q.2 t_known.0 t_known.1).1 ((ok.classes p s t p_in s_in t_known.0 t_known.1).0 t_in)))
      (λ t t_in. (let t_known = known_too q.0 t q.1 t_in in
      (ok.classes p s t p_in s_in t_known.0 t_known.1).1 ((ok_too.classes q.0 s t q.1 q.2 t_known.0 t_known.1).0 t_in))) in
      subst (λ r. Contains qs r) (sym same) q.1

pub parts_once : (segs : List (List LineId)) (terms : List Term) (ps qs : List (List SegId)) → AreParts segs terms ps → AreParts segs terms qs → ps ≡ qs
parts_once segs terms ps qs ok ok_too =
    ordered_same least_of ps qs (by_least_ordered ps ok.by_least) (by_least_ordered qs ok_too.by_least)
    (λ p c. part_there segs terms ps qs ok ok_too p c) (λ p c. part_there segs terms qs ps ok_too ok p c)

-- The labels after all terms.

length-first_labels : (n : ℕ) → length (first_labels n) ≡ n
length-first_labels zero = refl
length-first_labels (suc n) = omega (arith, length-append (first_labels n) (n ∷ []), length-first_labels n)

first_label_at : (n s : ℕ) → s < n → get_or (first_labels n) s 0 ≡ s
first_label_at zero s h = absurd (omega (arith, h))
first_label_at (suc n) s h = elim (cases_lt s n) [
  | inl below ↦ get_or_append_left (first_labels n) (n ∷ []) 0 s (omega (arith, below, length-first_labels n)) ∙ first_label_at n s below
  | inr over ↦ (let same : length (first_labels n) ≡ s = omega (arith, over, h, length-first_labels n) in
      ap (λ k. get_or (first_labels n ++ n ∷ []) k 0) (sym same) ∙ get_or-append_seam (first_labels n) n [] 0 ∙ omega (arith, over, h))
]

labels_all : (done rest : List Term) (n : ℕ) (ls : List ℕ) → AreLabels done n ls → All (IsReadable n) done → All (IsReadable n) rest
    → AreLabels (done ++ rest) n (class_labels ls rest)
labels_all done [] n ls ok before more = subst (λ ts. AreLabels ts n ls) (sym (append-nil done)) ok
labels_all done (t ∷ rest) n ls ok before more =
    let here : IsReadable n t = All-head (IsReadable n) t rest more in
    let next : AreLabels ((done ++ t ∷ []) ++ rest) n (class_labels (joined_by ls t) rest) =
    labels_all (done ++ t ∷ []) rest n (joined_by ls t) (labels_after done n ls t ok before here) (All-push (IsReadable n) done t before here) (All-tail (IsReadable n) t rest more) in
    subst (λ ts. AreLabels ts n (class_labels (joined_by ls t) rest)) (append_assoc done (t ∷ []) rest) next

pub class_labels_tell : (n : ℕ) (terms : List Term) → All (IsReadable n) terms → AreLabels terms n (class_labels (first_labels n) terms)
class_labels_tell n terms readable =
    labels_all [] terms n (first_labels n) (own_labels_tell n (first_labels n) (length-first_labels n) (first_label_at n)) (All-nil (IsReadable n)) readable

-- The parts.

pub problem_parts_are : (segs : List (List LineId)) (terms : List Term) → All (IsTerm segs) terms → AreParts segs terms (problem_parts segs terms)
problem_parts_are segs terms ok =
    gathered_are_parts segs terms (class_labels (first_labels (length segs)) terms) ok
    (class_labels_tell (length segs) terms (λ k d below. readable_term segs (get_or terms k d) (ok k d below)))

pub parts_exactly : (segs : List (List LineId)) (terms : List Term) (parts : List (List SegId)) → All (IsTerm segs) terms
    → (AreParts segs terms parts → parts ≡ problem_parts segs terms) × (parts ≡ problem_parts segs terms → AreParts segs terms parts)
parts_exactly segs terms parts ok = (
  λ are. parts_once segs terms parts (problem_parts segs terms) are (problem_parts_are segs terms ok),
  λ is. subst (AreParts segs terms) (sym is) (problem_parts_are segs terms ok),
)
