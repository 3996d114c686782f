-- When one walk more meets nothing of those before it.
use Rattle.std.proofs.Common.{◌≡◌, ℕ, true, false, not, eqb, ◌&&◌, ◌||◌, ℤ, ◌+ℤ◌, List, [], ◌∷◌, ◌++◌, Option, Some, None, sym, refl, ap, subst, ◌∙◌, arith, ◌⊎◌, inl, inr}
use Rattle.std.proofs.lemmas.Int.{ints}
use Rattle.std.proofs.lemmas.Bool.{and_parts, and_from, or_cases, or_left, or_right, not-true, not_from_false, eqb-true, eq-eqb, cases_Bool}
use Rattle.std.specs.List.{list_all, list_any}
use Rattle.octi_grid.specs.declared.point.GridPoint.{GridPoint}
use Rattle.octi_grid.specs.Ways.{are_one, doubled}
use Rattle.octi_grid.specs.Walks.{doubled_of, end_point}
use Rattle.octi_grid.specs.Legal.{all_apart, are_apart, are_distinct, is_among, is_clear, is_common_end, meets_hold, puts_by, puts_of, Leg, Put}
use Rattle.octi_grid.specs.Taking.{are_new, claim, point_in, taken_by, taken_with}
use Rattle.octi_grid.proofs.WayLemmas.{same_point}
use Rattle.octi_grid.proofs.Members.{all_at, all_from, among_at, any_at, any_from, are_one_from, from_flat_map, in_append, in_flat_map, in_left, in_right, not_among, not_in, one_point, In}
use Rattle.octi_grid.proofs.TakingLemmas.{in_taken_with, new_apart, new_distinct, new_from, taken_before, taken_now}
use Rattle.octi_grid.proofs.LegalLemmas.{point_in-found, point_in-none, puts_of-push, some_or_none, EndsFit}

-- doubled points tell points apart
pub doubled-same : (p q : GridPoint) → doubled p ≡ doubled q → p ≡ q
doubled-same p q e = same_point (half p.x q.x (ap (λ (v : GridPoint). v.x) e)) (half p.y q.y (ap (λ (v : GridPoint). v.y) e))
  where
    half : (x y : ℤ) → x +ℤ x ≡ y +ℤ y → x ≡ y
    half x y e = omega (arith, ints)

-- distinct points
pub distinct_not_later : (p : GridPoint) (ps : List GridPoint) → are_distinct (p ∷ ps) ≡ true → In p ps → ⊥
distinct_not_later p ps e m = not_in ps p (not-true _ (and_parts _ _ e).0) m

pub distinct_rest : (p : GridPoint) (ps : List GridPoint) → are_distinct (p ∷ ps) ≡ true → are_distinct ps ≡ true
distinct_rest p ps e = (and_parts _ _ e).1

pub distinct_from : (p : GridPoint) (ps : List GridPoint) → (In p ps → ⊥) → are_distinct ps ≡ true → are_distinct (p ∷ ps) ≡ true
distinct_from p ps f e = and_from _ _ (not_from_false _ (not_among ps p f)) e

pub distinct_push : (ps : List GridPoint) (q : GridPoint) → are_distinct ps ≡ true → (In q ps → ⊥) → are_distinct (ps ++ q ∷ []) ≡ true
distinct_push [] q e f = refl
distinct_push (p ∷ ps) q e f =
    distinct_from p (ps ++ q ∷ []) (λ m. later (in_append p ps (q ∷ []) m)) (distinct_push ps q (distinct_rest p ps e) (λ m. f (inr m)))
  where
    later : In p ps ⊎ In p (q ∷ []) → ⊥
    later (inl m) = distinct_not_later p ps e m
    later (inr (inl h)) = f (inl (sym h))
    later (inr (inr m)) = m

pub distinct_front : (ps : List GridPoint) (q : GridPoint) → are_distinct (ps ++ q ∷ []) ≡ true → are_distinct ps ≡ true
distinct_front [] q e = refl
distinct_front (p ∷ ps) q e =
    distinct_from p ps (λ m. distinct_not_later p (ps ++ q ∷ []) e (in_left p ps (q ∷ []) m)) (distinct_front ps q (distinct_rest p (ps ++ q ∷ []) e))

pub distinct_last : (ps : List GridPoint) (q : GridPoint) → are_distinct (ps ++ q ∷ []) ≡ true → In q ps → ⊥
distinct_last [] q e m = m
distinct_last (p ∷ ps) q e (inl h) = distinct_not_later p (ps ++ q ∷ []) e (in_right p ps (q ∷ []) (inl (sym h)))
distinct_last (p ∷ ps) q e (inr m) = distinct_last ps q (distinct_rest p (ps ++ q ∷ []) e) m

-- a common end of two walks
pub common_from : (l m : Leg) (d : GridPoint) (p q : Put) → In p (puts_by l) → In q (puts_by m) → p.0 ≡ q.0 → doubled p.1 ≡ d → doubled q.1 ≡ d → is_common_end l m d ≡ true
common_from l m d p q a b e f g =
    any_from (λ (p : Put). are_one (doubled p.1) d && list_any (λ (q : Put). eqb p.0 q.0 && are_one (doubled q.1) d) (puts_by m)) (puts_by l) p a
    (and_from _ _ (are_one_from (doubled p.1) d f)
    (any_from (λ (q : Put). eqb p.0 q.0 && are_one (doubled q.1) d) (puts_by m) q b (and_from _ _ (eq-eqb _ _ e) (are_one_from (doubled q.1) d g))))

pub record CommonEnd (l m : Leg) (d : GridPoint) : Type 0 where
  pub one : Put
  pub other : Put
  pub of_one : In one (puts_by l)
  pub of_other : In other (puts_by m)
  pub one_node : one.0 ≡ other.0
  pub there : doubled other.1 ≡ d

pub common_at : (l m : Leg) (d : GridPoint) → is_common_end l m d ≡ true → CommonEnd l m d
common_at l m d e =
    let p = any_at (λ (p : Put). are_one (doubled p.1) d && list_any (λ (q : Put). eqb p.0 q.0 && are_one (doubled q.1) d) (puts_by m)) (puts_by l) e in
    let parts = and_parts _ _ p.2 in
    let q = any_at (λ (q : Put). eqb p.0.0 q.0 && are_one (doubled q.1) d) (puts_by m) parts.1 in
    let ends = and_parts _ _ q.2 in
    record { one = p.0; other = q.0; of_one = p.1; of_other = q.1; one_node = eqb-true _ _ ends.0; there = one_point (doubled q.0.1) d ends.1 }

-- walks that are apart share a doubled point at a common end alone
pub apart_at : (l m : Leg) (d : GridPoint) → are_apart l m ≡ true → In d (doubled_of l.1) → In d (doubled_of m.1) → CommonEnd l m d
apart_at l m d e a b = by_test (or_cases _ _ (all_at (λ d. not (is_among (doubled_of m.1) d) || is_common_end l m d) (doubled_of l.1) d e a))
  where
    by_test : (not (is_among (doubled_of m.1) d) ≡ true) ⊎ (is_common_end l m d ≡ true) → CommonEnd l m d
    by_test (inl f) = absurd (not_in (doubled_of m.1) d (not-true _ f) b)
    by_test (inr t) = common_at l m d t

pub apart_from : (l m : Leg) → ((d : GridPoint) → In d (doubled_of l.1) → In d (doubled_of m.1) → is_common_end l m d ≡ true) → are_apart l m ≡ true
apart_from l m f = all_from (λ d. not (is_among (doubled_of m.1) d) || is_common_end l m d) (doubled_of l.1) (λ d a. by_test d a (cases_Bool (is_among (doubled_of m.1) d)))
  where
    by_test : (d : GridPoint) → In d (doubled_of l.1) → (is_among (doubled_of m.1) d ≡ true) ⊎ (is_among (doubled_of m.1) d ≡ false) → (not (is_among (doubled_of m.1) d) || is_common_end l m d) ≡ true
    by_test d a (inl t) = or_right _ _ (f d a (among_at (doubled_of m.1) d t))
    by_test d a (inr e) = or_left _ _ (not_from_false _ e)

pub all_apart-push : (legs : List Leg) (l : Leg) → all_apart legs ≡ true → ((m : Leg) → In m legs → are_apart m l ≡ true) → all_apart (legs ++ l ∷ []) ≡ true
all_apart-push [] l e f = refl
all_apart-push (m ∷ legs) l e f =
    let parts = and_parts _ _ e in
    and_from _ _
    (all_from (are_apart m) (legs ++ l ∷ []) (λ n k. either n (in_append n legs (l ∷ []) k)))
    (all_apart-push legs l parts.1 (λ n k. f n (inr k)))
  where
    either : (n : Leg) → In n legs ⊎ In n (l ∷ []) → are_apart m n ≡ true
    either n (inl k) = all_at (are_apart m) legs n (and_parts _ _ e).0 k
    either n (inr (inl h)) = ap (are_apart m) h ∙ f m (inl refl)
    either n (inr (inr k)) = absurd k

pub all_apart-front : (legs : List Leg) (l : Leg) → all_apart (legs ++ l ∷ []) ≡ true → all_apart legs ≡ true
all_apart-front [] l e = refl
all_apart-front (m ∷ legs) l e =
    let parts = and_parts _ _ e in
    and_from _ _ (all_from (are_apart m) legs (λ n k. all_at (are_apart m) (legs ++ l ∷ []) n parts.0 (in_left n legs (l ∷ []) k))) (all_apart-front legs l parts.1)

pub all_apart-last : (legs : List Leg) (l m : Leg) → all_apart (legs ++ l ∷ []) ≡ true → In m legs → are_apart m l ≡ true
all_apart-last [] l m e k = absurd k
all_apart-last (n ∷ legs) l m e (inl h) = ap (λ (v : Leg). are_apart v l) h ∙ all_at (are_apart n) (legs ++ l ∷ []) l (and_parts _ _ e).0 (in_right l legs (l ∷ []) (inl refl))
all_apart-last (n ∷ legs) l m e (inr k) = all_apart-last legs l m (and_parts _ _ e).1 k

-- walks that meet nothing, as facts
pub record MeetsFit (legs : List Leg) : Type 0 where
  pub distinct : (l : Leg) → In l legs → are_distinct (doubled_of l.1) ≡ true
  pub apart : all_apart legs ≡ true
  pub clear : (l : Leg) (p : Put) → In l legs → In p (puts_of legs) → is_clear l p ≡ true

pub MeetsFit-from : (legs : List Leg) → meets_hold legs ≡ true → MeetsFit legs
MeetsFit-from legs e =
    let parts = and_parts _ _ e in
    let first = and_parts _ _ parts.0 in
    record {
      distinct = λ l m. all_at (λ (l : Leg). are_distinct (doubled_of l.1)) legs l first.0 m;
      apart = first.1;
      clear = λ l p m n. all_at (is_clear l) (puts_of legs) p (all_at (λ (l : Leg). list_all (is_clear l) (puts_of legs)) legs l parts.1 m) n;
    }

pub meets_hold-from : (legs : List Leg) → MeetsFit legs → meets_hold legs ≡ true
meets_hold-from legs fit =
    and_from _ _ (and_from _ _ (all_from (λ (l : Leg). are_distinct (doubled_of l.1)) legs fit.distinct) fit.apart)
    (all_from (λ (l : Leg). list_all (is_clear l) (puts_of legs)) legs (λ l m. all_from (is_clear l) (puts_of legs) (λ p n. fit.clear l p m n)))

-- a walk is clear of its own nodes, and of points that it doesn't meet
clear_own : (l : Leg) (p : Put) → (l.0.0.0 ≡ p.0) ⊎ (l.0.1.0 ≡ p.0) → is_clear l p ≡ true
clear_own l p (inl h) = or_left _ _ (or_left _ _ (eq-eqb _ _ h))
clear_own l p (inr h) = or_left _ _ (or_right _ _ (eq-eqb _ _ h))

clear_off : (l : Leg) (p : Put) → (In (doubled p.1) (doubled_of l.1) → ⊥) → is_clear l p ≡ true
clear_off l p f = or_right _ _ (not_from_false _ (not_among (doubled_of l.1) (doubled p.1) f))

clear_at : (l : Leg) (p : Put) → is_clear l p ≡ true → In (doubled p.1) (doubled_of l.1) → (l.0.0.0 ≡ p.0) ⊎ (l.0.1.0 ≡ p.0)
clear_at l p e m = by_test (or_cases _ _ e)
  where
    own : (eqb l.0.0.0 p.0 ≡ true) ⊎ (eqb l.0.1.0 p.0 ≡ true) → (l.0.0.0 ≡ p.0) ⊎ (l.0.1.0 ≡ p.0)
    own (inl h) = inl (eqb-true _ _ h)
    own (inr h) = inr (eqb-true _ _ h)

    by_test : ((eqb l.0.0.0 p.0 || eqb l.0.1.0 p.0) ≡ true) ⊎ (not (is_among (doubled_of l.1) (doubled p.1)) ≡ true) → (l.0.0.0 ≡ p.0) ⊎ (l.0.1.0 ≡ p.0)
    by_test (inl t) = own (or_cases _ _ t)
    by_test (inr f) = absurd (not_in (doubled_of l.1) (doubled p.1) (not-true _ f) m)

-- where a walk puts one of its nodes
put_of_own : (l : Leg) (n : ℕ) → (l.0.0.0 ≡ n) ⊎ (l.0.1.0 ≡ n) → (p : Put) × In p (puts_by l) × (p.0 ≡ n)
put_of_own l n (inl h) = ((l.0.0.0, l.1.start), inl refl, h)
put_of_own l n (inr h) = ((l.0.1.0, end_point l.1), inr (inl refl), h)

-- one walk more whose ends fit, with its doubled points: those of its ends, and those between
pub record Joins (legs : List Leg) (l : Leg) (middle : List GridPoint) : Type 0 where
  pub fit : EndsFit (puts_of legs ++ puts_by l)
  pub nodes : ¬ (l.0.0.0 ≡ l.0.1.0)
  pub way : doubled_of l.1 ≡ doubled l.1.start ∷ (middle ++ doubled (end_point l.1) ∷ [])
  pub ways : (m : Leg) (p : Put) → In m legs → In p (puts_by m) → In (doubled p.1) (doubled_of m.1)

-- the doubled point of a put is taken
put_taken : (legs : List Leg) (l : Leg) (middle : List GridPoint) → Joins legs l middle → (p : Put) → In p (puts_of legs) → In (doubled p.1) (taken_by legs)
put_taken legs l middle j p m =
    let found = from_flat_map puts_by legs p m in
    in_flat_map (λ (m : Leg). doubled_of m.1) legs found.0 (doubled p.1) found.1 (j.ways found.0 p found.1 found.2)

abbrev pub low_put : Leg → Put
low_put l = (l.0.0.0, l.1.start)

abbrev pub high_put : Leg → Put
high_put l = (l.0.1.0, end_point l.1)

ends_apart : (legs : List Leg) (l : Leg) (middle : List GridPoint) → Joins legs l middle → doubled l.1.start ≡ doubled (end_point l.1) → ⊥
ends_apart legs l middle j e =
    j.nodes (j.fit.one_node (low_put l) (high_put l) (in_right (low_put l) (puts_of legs) (puts_by l) (inl refl)) (in_right (high_put l) (puts_of legs) (puts_by l) (inr (inl refl)))
    (doubled-same l.1.start (end_point l.1) e))

-- a node of the walk that was put before is at the same point
put_before : (legs : List Leg) (l : Leg) (middle : List GridPoint) → Joins legs l middle → (r : Put) → In r (puts_by l) → (x : GridPoint) → point_in (puts_of legs) r.0 ≡ Some x
    → (In r (puts_of legs)) × In (doubled r.1) (taken_by legs)
put_before legs l middle j r m x e =
    let there = point_in-found (puts_of legs) r.0 x e in
    let same : x ≡ r.1 = j.fit.one_place (r.0, x) r (in_left (let q : Put = (r.0, x) in q) (puts_of legs) (puts_by l) there) (in_right r (puts_of legs) (puts_by l) m) refl in
    let there_too : In r (puts_of legs) = subst (λ (v : GridPoint). In (let q : Put = (r.0, v) in q) (puts_of legs)) same there in
    (there_too, put_taken legs l middle j r there_too)

-- what a walk takes at its ends, and between them
abbrev pub claims : Option GridPoint → Option GridPoint → Leg → List GridPoint → List GridPoint
claims a b l middle = claim a l.1.start ++ (claim b (end_point l.1) ++ middle)

in_claim : (a : Option GridPoint) (p d : GridPoint) → In d (claim a p) → (d ≡ doubled p) × (a ≡ None)
in_claim None p d (inl h) = (h, refl)
in_claim None p d (inr m) = absurd m
in_claim (Some x) p d m = absurd m

claimed : (a : Option GridPoint) (p : GridPoint) → a ≡ None → In (doubled p) (claim a p)
claimed None p e = inl refl
claimed (Some x) p e = cc

claim_distinct : (a : Option GridPoint) (p : GridPoint) (ps : List GridPoint) → (In (doubled p) ps → ⊥) → are_distinct ps ≡ true → are_distinct (claim a p ++ ps) ≡ true
claim_distinct None p ps f e = distinct_from (doubled p) ps f e
claim_distinct (Some x) p ps f e = e

claim_rest : (a : Option GridPoint) (p : GridPoint) (ps : List GridPoint) → are_distinct (claim a p ++ ps) ≡ true → (are_distinct ps ≡ true) × (a ≡ None → In (doubled p) ps → ⊥)
claim_rest None p ps e = (distinct_rest (doubled p) ps e, λ _ m. distinct_not_later (doubled p) ps e m)
claim_rest (Some x) p ps e = (e, λ f m. none f)
  where
    none : {X : Type 0} → (let o : Option GridPoint = Some x in o) ≡ None → X
    none f = cc

-- what follows where all that the walk takes is new
new_middle : (T : List GridPoint) (a b : Option GridPoint) (l : Leg) (middle : List GridPoint) → are_new T (claims a b l middle) ≡ true → are_distinct middle ≡ true
new_middle T a b l middle e =
    (claim_rest b (end_point l.1) middle (claim_rest a l.1.start (claim b (end_point l.1) ++ middle) (new_distinct T (claims a b l middle) e)).0).0

middle_free : (T : List GridPoint) (a b : Option GridPoint) (l : Leg) (middle : List GridPoint) → are_new T (claims a b l middle) ≡ true → (d : GridPoint) → In d middle → In d T → ⊥
middle_free T a b l middle e d m n =
    new_apart T (claims a b l middle) d e (in_right d (claim a l.1.start) (claim b (end_point l.1) ++ middle) (in_right d (claim b (end_point l.1)) middle m)) n

low_free : (T : List GridPoint) (a b : Option GridPoint) (l : Leg) (middle : List GridPoint) → are_new T (claims a b l middle) ≡ true → a ≡ None → In (doubled l.1.start) T → ⊥
low_free T a b l middle e f n =
    new_apart T (claims a b l middle) (doubled l.1.start) e (in_left (doubled l.1.start) (claim a l.1.start) (claim b (end_point l.1) ++ middle) (claimed a l.1.start f)) n

high_free : (T : List GridPoint) (a b : Option GridPoint) (l : Leg) (middle : List GridPoint) → are_new T (claims a b l middle) ≡ true → b ≡ None → In (doubled (end_point l.1)) T → ⊥
high_free T a b l middle e f n =
    new_apart T (claims a b l middle) (doubled (end_point l.1)) e
    (in_right (doubled (end_point l.1)) (claim a l.1.start) (claim b (end_point l.1) ++ middle) (in_left (doubled (end_point l.1)) (claim b (end_point l.1)) middle (claimed b (end_point l.1) f))) n

-- neither end is between them
low_outside : (legs : List Leg) (l : Leg) (middle : List GridPoint) (a b : Option GridPoint) → Joins legs l middle → a ≡ point_in (puts_of legs) l.0.0.0 → are_new (taken_by legs) (claims a b l middle) ≡ true
    → In (doubled l.1.start) middle → ⊥
low_outside legs l middle a b j f e m = by_case (some_or_none (point_in (puts_of legs) l.0.0.0))
  where
    by_case : ((x : GridPoint) × (point_in (puts_of legs) l.0.0.0 ≡ Some x)) ⊎ (point_in (puts_of legs) l.0.0.0 ≡ None) → ⊥
    by_case (inl known) = middle_free (taken_by legs) a b l middle e (doubled l.1.start) m (put_before legs l middle j (low_put l) (inl refl) known.0 known.1).1
    by_case (inr none) =
        (claim_rest a l.1.start (claim b (end_point l.1) ++ middle) (new_distinct (taken_by legs) (claims a b l middle) e)).1 (f ∙ none)
        (in_right (doubled l.1.start) (claim b (end_point l.1)) middle m)

high_outside : (legs : List Leg) (l : Leg) (middle : List GridPoint) (a b : Option GridPoint) → Joins legs l middle → b ≡ point_in (puts_of legs) l.0.1.0 → are_new (taken_by legs) (claims a b l middle) ≡ true
    → In (doubled (end_point l.1)) middle → ⊥
high_outside legs l middle a b j f e m = by_case (some_or_none (point_in (puts_of legs) l.0.1.0))
  where
    by_case : ((x : GridPoint) × (point_in (puts_of legs) l.0.1.0 ≡ Some x)) ⊎ (point_in (puts_of legs) l.0.1.0 ≡ None) → ⊥
    by_case (inl known) = middle_free (taken_by legs) a b l middle e (doubled (end_point l.1)) m (put_before legs l middle j (high_put l) (inr (inl refl)) known.0 known.1).1
    by_case (inr none) =
        (claim_rest b (end_point l.1) middle (claim_rest a l.1.start (claim b (end_point l.1) ++ middle) (new_distinct (taken_by legs) (claims a b l middle) e)).0).1 (f ∙ none) m

-- the doubled points of the walk, one by one
in_way : (legs : List Leg) (l : Leg) (middle : List GridPoint) → Joins legs l middle → (d : GridPoint) → In d (doubled_of l.1) → (d ≡ doubled l.1.start) ⊎ (In d middle ⊎ (d ≡ doubled (end_point l.1)))
in_way legs l middle j d m = split (subst (In d) j.way m)
  where
    last : In d middle ⊎ In d (doubled (end_point l.1) ∷ []) → (d ≡ doubled l.1.start) ⊎ (In d middle ⊎ (d ≡ doubled (end_point l.1)))
    last (inl n) = inr (inl n)
    last (inr (inl h)) = inr (inr h)
    last (inr (inr n)) = absurd n

    split : In d (doubled l.1.start ∷ (middle ++ doubled (end_point l.1) ∷ [])) → (d ≡ doubled l.1.start) ⊎ (In d middle ⊎ (d ≡ doubled (end_point l.1)))
    split (inl h) = inl h
    split (inr n) = last (in_append d middle (doubled (end_point l.1) ∷ []) n)

start_in_way : (legs : List Leg) (l : Leg) (middle : List GridPoint) → Joins legs l middle → In (doubled l.1.start) (doubled_of l.1)
start_in_way legs l middle j = subst (In (doubled l.1.start)) (sym j.way) (inl refl)

end_in_way : (legs : List Leg) (l : Leg) (middle : List GridPoint) → Joins legs l middle → In (doubled (end_point l.1)) (doubled_of l.1)
end_in_way legs l middle j =
    subst (In (doubled (end_point l.1))) (sym j.way) (inr (in_right (doubled (end_point l.1)) middle (doubled (end_point l.1) ∷ []) (inl refl)))

middle_in_way : (legs : List Leg) (l : Leg) (middle : List GridPoint) → Joins legs l middle → (d : GridPoint) → In d middle → In d (doubled_of l.1)
middle_in_way legs l middle j d m = subst (In d) (sym j.way) (inr (in_left d middle (doubled (end_point l.1) ∷ []) m))

-- a walk of those before, at a node's point of the new one
shared_end : (legs : List Leg) (l : Leg) (middle : List GridPoint) → Joins legs l middle → MeetsFit legs → (m : Leg) → In m legs → (r : Put) → In r (puts_by l) → In r (puts_of legs)
    → In (doubled r.1) (doubled_of m.1) → is_common_end m l (doubled r.1) ≡ true
shared_end legs l middle j meets m k r own known there =
    let at_m = put_of_own m r.0 (clear_at m r (meets.clear m r k known) there) in
    let in_puts : In at_m.0 (puts_of legs) = in_flat_map puts_by legs m at_m.0 k at_m.1 in
    let same : at_m.0.1 ≡ r.1 = j.fit.one_place at_m.0 r (in_left at_m.0 (puts_of legs) (puts_by l) in_puts) (in_left r (puts_of legs) (puts_by l) known) at_m.2 in
    common_from m l (doubled r.1) at_m.0 r at_m.1 own at_m.2 (ap (λ (p : GridPoint). doubled p) same) refl

-- what is new meets nothing
pub meets_from_new : (legs : List Leg) (l : Leg) (middle : List GridPoint) (a b : Option GridPoint) → Joins legs l middle → MeetsFit legs
    → a ≡ point_in (puts_of legs) l.0.0.0 → b ≡ point_in (puts_of legs) l.0.1.0 → are_new (taken_by legs) (claims a b l middle) ≡ true → MeetsFit (legs ++ l ∷ [])
meets_from_new legs l middle a b j meets f g e = record {
  distinct = λ m k. distinct m (in_append m legs (l ∷ []) k);
  apart = all_apart-push legs l meets.apart (λ m k. apart_from m l (λ d x y. common m k d x (in_way legs l middle j d y)));
  clear = λ m p k n. clear m p (in_append m legs (l ∷ []) k) (in_append p (puts_of legs) (puts_by l) (subst (In p) (puts_of-push legs l) n));
}
  where
    T : List GridPoint
    T = taken_by legs

    own_distinct : are_distinct (doubled_of l.1) ≡ true
    own_distinct =
        ap are_distinct j.way
        ∙ distinct_from (doubled l.1.start) (middle ++ doubled (end_point l.1) ∷ []) (λ m. not_start (in_append (doubled l.1.start) middle (doubled (end_point l.1) ∷ []) m))
        (distinct_push middle (doubled (end_point l.1)) (new_middle (taken_by legs) a b l middle e) (high_outside legs l middle a b j g e))
      where
        not_start : In (doubled l.1.start) middle ⊎ In (doubled l.1.start) (doubled (end_point l.1) ∷ []) → ⊥
        not_start (inl m) = low_outside legs l middle a b j f e m
        not_start (inr (inl h)) = ends_apart legs l middle j h
        not_start (inr (inr m)) = m

    distinct : (m : Leg) → In m legs ⊎ In m (l ∷ []) → are_distinct (doubled_of m.1) ≡ true
    distinct m (inl k) = meets.distinct m k
    distinct m (inr (inl h)) = ap (λ (v : Leg). are_distinct (doubled_of v.1)) h ∙ own_distinct
    distinct m (inr (inr k)) = absurd k

    taken : (m : Leg) → In m legs → (d : GridPoint) → In d (doubled_of m.1) → In d (taken_by legs)
    taken m k d x = in_flat_map (λ (m : Leg). doubled_of m.1) legs m d k x

    at_start : (m : Leg) → In m legs → (d : GridPoint) → In d (doubled_of m.1) → d ≡ doubled l.1.start → ((x : GridPoint) × (point_in (puts_of legs) l.0.0.0 ≡ Some x)) ⊎ (point_in (puts_of legs) l.0.0.0 ≡ None) → is_common_end m l d ≡ true
    at_start m k d x h (inl known) =
        ap (is_common_end m l) h ∙ shared_end legs l middle j meets m k (low_put l) (inl refl) (put_before legs l middle j (low_put l) (inl refl) known.0 known.1).0 (subst (λ v. In v (doubled_of m.1)) h x)
    at_start m k d x h (inr none) = absurd (low_free (taken_by legs) a b l middle e (f ∙ none) (subst (λ v. In v (taken_by legs)) h (taken m k d x)))

    at_end : (m : Leg) → In m legs → (d : GridPoint) → In d (doubled_of m.1) → d ≡ doubled (end_point l.1) → ((x : GridPoint) × (point_in (puts_of legs) l.0.1.0 ≡ Some x)) ⊎ (point_in (puts_of legs) l.0.1.0 ≡ None) → is_common_end m l d ≡ true
    at_end m k d x h (inl known) =
        ap (is_common_end m l) h ∙ shared_end legs l middle j meets m k (high_put l) (inr (inl refl)) (put_before legs l middle j (high_put l) (inr (inl refl)) known.0 known.1).0 (subst (λ v. In v (doubled_of m.1)) h x)
    at_end m k d x h (inr none) = absurd (high_free (taken_by legs) a b l middle e (g ∙ none) (subst (λ v. In v (taken_by legs)) h (taken m k d x)))

    common : (m : Leg) → In m legs → (d : GridPoint) → In d (doubled_of m.1) → (d ≡ doubled l.1.start) ⊎ (In d middle ⊎ (d ≡ doubled (end_point l.1))) → is_common_end m l d ≡ true
    common m k d x (inl h) = at_start m k d x h (some_or_none (point_in (puts_of legs) l.0.0.0))
    common m k d x (inr (inl n)) = absurd (middle_free (taken_by legs) a b l middle e d n (taken m k d x))
    common m k d x (inr (inr h)) = at_end m k d x h (some_or_none (point_in (puts_of legs) l.0.1.0))

    new_low : (m : Leg) → In m legs → ((x : GridPoint) × (point_in (puts_of legs) l.0.0.0 ≡ Some x)) ⊎ (point_in (puts_of legs) l.0.0.0 ≡ None) → is_clear m (low_put l) ≡ true
    new_low m k (inl known) = meets.clear m (low_put l) k (put_before legs l middle j (low_put l) (inl refl) known.0 known.1).0
    new_low m k (inr none) = clear_off m (low_put l) (λ x. low_free (taken_by legs) a b l middle e (f ∙ none) (taken m k (doubled l.1.start) x))

    new_high : (m : Leg) → In m legs → ((x : GridPoint) × (point_in (puts_of legs) l.0.1.0 ≡ Some x)) ⊎ (point_in (puts_of legs) l.0.1.0 ≡ None) → is_clear m (high_put l) ≡ true
    new_high m k (inl known) = meets.clear m (high_put l) k (put_before legs l middle j (high_put l) (inr (inl refl)) known.0 known.1).0
    new_high m k (inr none) = clear_off m (high_put l) (λ x. high_free (taken_by legs) a b l middle e (g ∙ none) (taken m k (doubled (end_point l.1)) x))

    own_node : (p : Put) → In p (puts_of legs) → (doubled p.1 ≡ doubled l.1.start) ⊎ (In (doubled p.1) middle ⊎ (doubled p.1 ≡ doubled (end_point l.1))) → (l.0.0.0 ≡ p.0) ⊎ (l.0.1.0 ≡ p.0)
    own_node p n (inl h) =
        inl (sym (j.fit.one_node p (low_put l) (in_left p (puts_of legs) (puts_by l) n) (in_right (low_put l) (puts_of legs) (puts_by l) (inl refl)) (doubled-same p.1 l.1.start h)))
    own_node p n (inr (inl h)) = absurd (middle_free (taken_by legs) a b l middle e (doubled p.1) h (put_taken legs l middle j p n))
    own_node p n (inr (inr h)) =
        inr (sym (j.fit.one_node p (high_put l) (in_left p (puts_of legs) (puts_by l) n) (in_right (high_put l) (puts_of legs) (puts_by l) (inr (inl refl))) (doubled-same p.1 (end_point l.1) h)))

    own_clear : (p : Put) → In p (puts_of legs) → (is_among (doubled_of l.1) (doubled p.1) ≡ true) ⊎ (is_among (doubled_of l.1) (doubled p.1) ≡ false) → is_clear l p ≡ true
    own_clear p n (inl t) = clear_own l p (own_node p n (in_way legs l middle j (doubled p.1) (among_at (doubled_of l.1) (doubled p.1) t)))
    own_clear p n (inr t) = or_right _ _ (not_from_false _ t)

    clear : (m : Leg) (p : Put) → In m legs ⊎ In m (l ∷ []) → In p (puts_of legs) ⊎ In p (puts_by l) → is_clear m p ≡ true
    clear m p (inl k) (inl n) = meets.clear m p k n
    clear m p (inl k) (inr (inl h)) = ap (is_clear m) h ∙ new_low m k (some_or_none (point_in (puts_of legs) l.0.0.0))
    clear m p (inl k) (inr (inr (inl h))) = ap (is_clear m) h ∙ new_high m k (some_or_none (point_in (puts_of legs) l.0.1.0))
    clear m p (inl k) (inr (inr (inr n))) = absurd n
    clear m p (inr (inl h)) (inl n) = ap (λ (v : Leg). is_clear v p) h ∙ own_clear p n (cases_Bool (is_among (doubled_of l.1) (doubled p.1)))
    clear m p (inr (inl h)) (inr (inl g)) = ap (λ (v : Leg). is_clear v p) h ∙ clear_own l p (inl (sym (ap (λ (v : Put). v.0) g)))
    clear m p (inr (inl h)) (inr (inr (inl g))) = ap (λ (v : Leg). is_clear v p) h ∙ clear_own l p (inr (sym (ap (λ (v : Put). v.0) g)))
    clear m p (inr (inl h)) (inr (inr (inr n))) = absurd n
    clear m p (inr (inr k)) n = absurd k

-- what meets nothing is new
pub new_from_meets : (legs : List Leg) (l : Leg) (middle : List GridPoint) (a b : Option GridPoint) → Joins legs l middle → MeetsFit (legs ++ l ∷ [])
    → a ≡ point_in (puts_of legs) l.0.0.0 → b ≡ point_in (puts_of legs) l.0.1.0 → are_new (taken_by legs) (claims a b l middle) ≡ true
new_from_meets legs l middle a b j meets f g =
    new_from (taken_by legs) (claims a b l middle)
    (claim_distinct a l.1.start (claim b (end_point l.1) ++ middle) low_alone (claim_distinct b (end_point l.1) middle high_alone (distinct_front middle (doubled (end_point l.1)) (distinct_rest (doubled l.1.start) (middle ++ doubled (end_point l.1) ∷ []) own))))
    (λ d m n. by_part d n (in_append d (claim a l.1.start) (claim b (end_point l.1) ++ middle) m))
  where
    own : are_distinct (doubled l.1.start ∷ (middle ++ doubled (end_point l.1) ∷ [])) ≡ true
    own = ap are_distinct (sym j.way) ∙ meets.distinct l (in_right l legs (l ∷ []) (inl refl))

    high_alone : In (doubled (end_point l.1)) middle → ⊥
    high_alone m = distinct_last middle (doubled (end_point l.1)) (distinct_rest (doubled l.1.start) (middle ++ doubled (end_point l.1) ∷ []) (ap are_distinct (sym j.way) ∙ meets.distinct l (in_right l legs (l ∷ []) (inl refl)))) m

    low_middle : In (doubled l.1.start) middle → ⊥
    low_middle m = distinct_not_later (doubled l.1.start) (middle ++ doubled (end_point l.1) ∷ []) (ap are_distinct (sym j.way) ∙ meets.distinct l (in_right l legs (l ∷ []) (inl refl)))
        (in_left (doubled l.1.start) middle (doubled (end_point l.1) ∷ []) m)

    low_alone : In (doubled l.1.start) (claim b (end_point l.1) ++ middle) → ⊥
    low_alone m = by_where (in_append (doubled l.1.start) (claim b (end_point l.1)) middle m)
      where
        by_where : In (doubled l.1.start) (claim b (end_point l.1)) ⊎ In (doubled l.1.start) middle → ⊥
        by_where (inl n) = ends_apart legs l middle j (in_claim b (end_point l.1) (doubled l.1.start) n).0
        by_where (inr n) = distinct_not_later (doubled l.1.start) (middle ++ doubled (end_point l.1) ∷ []) (ap are_distinct (sym j.way) ∙ meets.distinct l (in_right l legs (l ∷ []) (inl refl)))
            (in_left (doubled l.1.start) middle (doubled (end_point l.1) ∷ []) n)

    shared : (d : GridPoint) → In d (doubled_of l.1) → In d (taken_by legs) → (m : Leg) × In m legs × CommonEnd m l d
    shared d x n =
        let found = from_flat_map (λ (m : Leg). doubled_of m.1) legs d n in
        (found.0, found.1, apart_at found.0 l d (all_apart-last legs l found.0 meets.apart found.1) found.2 x)

    known : (m : Leg) → In m legs → (p : Put) → In p (puts_by m) → (n : ℕ) → p.0 ≡ n → point_in (puts_of legs) n ≡ None → ⊥
    known m k p x n e none = point_in-none (puts_of legs) n none p (in_flat_map puts_by legs m p k x) e

    at_middle : (d : GridPoint) → In d middle → (m : Leg) × In m legs × CommonEnd m l d → ⊥
    at_middle d x c = which c.2.of_other
      where
        which : In c.2.other (puts_by l) → ⊥
        which (inl h) = low_middle (subst (λ v. In v middle) (sym c.2.there ∙ ap (λ (v : Put). doubled v.1) h) x)
        which (inr (inl h)) = high_alone (subst (λ v. In v middle) (sym c.2.there ∙ ap (λ (v : Put). doubled v.1) h) x)
        which (inr (inr n)) = n

    at_low : a ≡ None → (m : Leg) × In m legs × CommonEnd m l (doubled l.1.start) → ⊥
    at_low none c = which c.2.of_other
      where
        which : In c.2.other (puts_by l) → ⊥
        which (inl h) = known c.0 c.1 c.2.one c.2.of_one l.0.0.0 (c.2.one_node ∙ ap (λ (v : Put). v.0) h) (sym f ∙ none)
        which (inr (inl h)) = ends_apart legs l middle j (sym c.2.there ∙ ap (λ (v : Put). doubled v.1) h)
        which (inr (inr n)) = n

    at_high : b ≡ None → (m : Leg) × In m legs × CommonEnd m l (doubled (end_point l.1)) → ⊥
    at_high none c = which c.2.of_other
      where
        which : In c.2.other (puts_by l) → ⊥
        which (inl h) = ends_apart legs l middle j (sym (ap (λ (v : Put). doubled v.1) h) ∙ c.2.there)
        which (inr (inl h)) = known c.0 c.1 c.2.one c.2.of_one l.0.1.0 (c.2.one_node ∙ ap (λ (v : Put). v.0) h) (sym g ∙ none)
        which (inr (inr n)) = n

    by_rest : (d : GridPoint) → In d (taken_by legs) → In d (claim b (end_point l.1)) ⊎ In d middle → ⊥
    by_rest d n (inl m) =
        let c = in_claim b (end_point l.1) d m in
        at_high c.1 (shared (doubled (end_point l.1)) (end_in_way legs l middle j) (subst (λ v. In v (taken_by legs)) c.0 n))
    by_rest d n (inr m) = at_middle d m (shared d (middle_in_way legs l middle j d m) n)

    by_part : (d : GridPoint) → In d (taken_by legs) → In d (claim a l.1.start) ⊎ In d (claim b (end_point l.1) ++ middle) → ⊥
    by_part d n (inl m) =
        let c = in_claim a l.1.start d m in
        at_low c.1 (shared (doubled l.1.start) (start_in_way legs l middle j) (subst (λ v. In v (taken_by legs)) c.0 n))
    by_part d n (inr m) = by_rest d n (in_append d (claim b (end_point l.1)) middle m)

-- what is taken with what a walk claims is what is taken with all of its doubled points
pub taken_then : (legs : List Leg) (l : Leg) (middle : List GridPoint) → Joins legs l middle → (a b : Option GridPoint) → (d : GridPoint)
    → In d (taken_with (taken_by legs) (claims a b l middle)) → In d (taken_by legs ++ doubled_of l.1)
taken_then legs l middle j a b d m = by_part (in_taken_with (taken_by legs) (claims a b l middle) d m)
  where
    own : In d (doubled_of l.1) → In d (taken_by legs ++ doubled_of l.1)
    own n = in_right d (taken_by legs) (doubled_of l.1) n

    by_rest : In d (claim b (end_point l.1)) ⊎ In d middle → In d (taken_by legs ++ doubled_of l.1)
    by_rest (inl n) = own (subst (λ v. In v (doubled_of l.1)) (sym (in_claim b (end_point l.1) d n).0) (end_in_way legs l middle j))
    by_rest (inr n) = own (middle_in_way legs l middle j d n)

    by_claim : In d (claim a l.1.start) ⊎ In d (claim b (end_point l.1) ++ middle) → In d (taken_by legs ++ doubled_of l.1)
    by_claim (inl n) = own (subst (λ v. In v (doubled_of l.1)) (sym (in_claim a l.1.start d n).0) (start_in_way legs l middle j))
    by_claim (inr n) = by_rest (in_append d (claim b (end_point l.1)) middle n)

    by_part : In d (taken_by legs) ⊎ In d (claims a b l middle) → In d (taken_by legs ++ doubled_of l.1)
    by_part (inl n) = in_left d (taken_by legs) (doubled_of l.1) n
    by_part (inr n) = by_claim (in_append d (claim a l.1.start) (claim b (end_point l.1) ++ middle) n)

pub then_taken : (legs : List Leg) (l : Leg) (middle : List GridPoint) → Joins legs l middle → (d : GridPoint) → In d (taken_by legs ++ doubled_of l.1)
    → In d (taken_with (taken_by legs) (claims (point_in (puts_of legs) l.0.0.0) (point_in (puts_of legs) l.0.1.0) l middle))
then_taken legs l middle j d m = by_part (in_append d (taken_by legs) (doubled_of l.1) m)
  where
    now : In d (claims (point_in (puts_of legs) l.0.0.0) (point_in (puts_of legs) l.0.1.0) l middle) → In d (taken_with (taken_by legs) (claims (point_in (puts_of legs) l.0.0.0) (point_in (puts_of legs) l.0.1.0) l middle))
    now n = taken_now (taken_by legs) (claims (point_in (puts_of legs) l.0.0.0) (point_in (puts_of legs) l.0.1.0) l middle) d n

    before : In d (taken_by legs) → In d (taken_with (taken_by legs) (claims (point_in (puts_of legs) l.0.0.0) (point_in (puts_of legs) l.0.1.0) l middle))
    before n = taken_before (taken_by legs) (claims (point_in (puts_of legs) l.0.0.0) (point_in (puts_of legs) l.0.1.0) l middle) d n

    at_start : d ≡ doubled l.1.start → ((x : GridPoint) × (point_in (puts_of legs) l.0.0.0 ≡ Some x)) ⊎ (point_in (puts_of legs) l.0.0.0 ≡ None)
        → In d (taken_with (taken_by legs) (claims (point_in (puts_of legs) l.0.0.0) (point_in (puts_of legs) l.0.1.0) l middle))
    at_start h (inl known) = before (subst (λ v. In v (taken_by legs)) (sym h) (put_before legs l middle j (low_put l) (inl refl) known.0 known.1).1)
    at_start h (inr none) =
        now (in_left d (claim (point_in (puts_of legs) l.0.0.0) l.1.start) (claim (point_in (puts_of legs) l.0.1.0) (end_point l.1) ++ middle)
        (subst (λ v. In v (claim (point_in (puts_of legs) l.0.0.0) l.1.start)) (sym h) (claimed (point_in (puts_of legs) l.0.0.0) l.1.start none)))

    at_end : d ≡ doubled (end_point l.1) → ((x : GridPoint) × (point_in (puts_of legs) l.0.1.0 ≡ Some x)) ⊎ (point_in (puts_of legs) l.0.1.0 ≡ None)
        → In d (taken_with (taken_by legs) (claims (point_in (puts_of legs) l.0.0.0) (point_in (puts_of legs) l.0.1.0) l middle))
    at_end h (inl known) = before (subst (λ v. In v (taken_by legs)) (sym h) (put_before legs l middle j (high_put l) (inr (inl refl)) known.0 known.1).1)
    at_end h (inr none) =
        now (in_right d (claim (point_in (puts_of legs) l.0.0.0) l.1.start) (claim (point_in (puts_of legs) l.0.1.0) (end_point l.1) ++ middle)
        (in_left d (claim (point_in (puts_of legs) l.0.1.0) (end_point l.1)) middle
        (subst (λ v. In v (claim (point_in (puts_of legs) l.0.1.0) (end_point l.1))) (sym h) (claimed (point_in (puts_of legs) l.0.1.0) (end_point l.1) none))))

    by_way : (d ≡ doubled l.1.start) ⊎ (In d middle ⊎ (d ≡ doubled (end_point l.1)))
        → In d (taken_with (taken_by legs) (claims (point_in (puts_of legs) l.0.0.0) (point_in (puts_of legs) l.0.1.0) l middle))
    by_way (inl h) = at_start h (some_or_none (point_in (puts_of legs) l.0.0.0))
    by_way (inr (inl n)) =
        now (in_right d (claim (point_in (puts_of legs) l.0.0.0) l.1.start) (claim (point_in (puts_of legs) l.0.1.0) (end_point l.1) ++ middle)
        (in_right d (claim (point_in (puts_of legs) l.0.1.0) (end_point l.1)) middle n))
    by_way (inr (inr h)) = at_end h (some_or_none (point_in (puts_of legs) l.0.1.0))

    by_part : In d (taken_by legs) ⊎ In d (doubled_of l.1) → In d (taken_with (taken_by legs) (claims (point_in (puts_of legs) l.0.0.0) (point_in (puts_of legs) l.0.1.0) l middle))
    by_part (inl n) = before n
    by_part (inr n) = by_way (in_way legs l middle j d n)
