-- Walks of a legal drawing as curves.
use Rattle.std.proofs.Common.{◌≡◌, ◌≢◌, refl, sym, ◌∙◌, ap, subst, ℕ, zero, suc, ◌-◌, ◌*◌, ◌<◌, ◌≤◌, ◌⊎◌, inl, inr, Bool, true, false, cond, leb, ◌==◌, ◌||◌, List, [], ◌∷◌, length, slice_get, Some, arith, Contains}
use Rattle.std.proofs.lemmas.Bool.{and_parts, or_cases, not-true, eqb-true, le-leb, leb-true, cases_eq, cases_lt}
use Rattle.std.proofs.Math.Nat.{mul-suc}
use Rattle.std.specs.List.{list_all}
use Rattle.octi_grid.specs.declared.dir.Dir.{Dir}
use Rattle.octi_grid.specs.declared.point.GridPoint.{GridPoint}
use Rattle.octi_grid.specs.Ways.{doubled, doubled_from, step_from}
use Rattle.octi_grid.specs.Walks.{doubled_of}
use Rattle.octi_grid.specs.Legal.{all_apart, are_apart, are_distinct, puts_by, puts_of, Leg, Put}
use Rattle.octi_grid.proofs.Members.{all_at, in_flat_map, In, not_in}
use Rattle.octi_grid.proofs.LegalLemmas.{EndsFit}
use Rattle.octi_grid.proofs.MeetsLemmas.{apart_at, distinct_not_later, distinct_rest, doubled-same, CommonEnd, MeetsFit}
use Rattle.state_search.proofs.Tables.{Contains-cases, Contains-front, Contains-behind}
use Rattle.walk_search.proofs.FreeWalks.{never_middle}
use Rattle.drawing_laws.specs.Plane.{PlanePoint, along, in_parts, on_step, point_at, IsCommonEnd}
use Rattle.drawing_laws.proofs.Steps.{not_inside, same_grid_point, same_middle, same_place, step_begins, step_ends}

-- ---- lists

pub in_contains : {X : Type 0} (x : X) (xs : List X) → Contains xs x → In x xs
in_contains x [] h = absurd (omega (arith, h.1))
in_contains x (y ∷ ys) h = elim (Contains-cases y x ys h) [
  | inl e ↦ inl (sym e)
  | inr k ↦ inr (in_contains x ys k)
]

pub contains_in : {X : Type 0} (x : X) (xs : List X) → In x xs → Contains xs x
contains_in x [] m = absurd m
contains_in x (y ∷ ys) (inl e) = subst (Contains (y ∷ ys)) (sym e) (Contains-front y ys)
contains_in x (y ∷ ys) (inr m) = Contains-behind y x ys (contains_in x ys m)

pub in_get : {X : Type 0} (xs : List X) (i : ℕ) (x : X) → slice_get xs i ≡ Some x → In x xs
in_get [] i x e = cc
in_get (y ∷ ys) zero x e = let same : y ≡ x = cc in inl (sym same)
in_get (y ∷ ys) (suc i) x e = inr (in_get ys i x e)

-- ---- where a point of a way is

-- a point of a way is one of its grid points, or lies inside one of its steps
pub data OnWay (n : ℕ) (start : GridPoint) (ds : List Dir) (q : PlanePoint) : Type 0 where
  at_grid : (g : GridPoint) → In (doubled g) (doubled_from start ds) → q ≡ in_parts n g → OnWay n start ds q
  inside : (g : GridPoint) (d : Dir) (k : ℕ) → 0 < k → k < n → In (step_from (doubled g) d) (doubled_from start ds)
      → q ≡ on_step n g d k → OnWay n start ds q

start_on : (p : GridPoint) (ds : List Dir) → In (doubled p) (doubled_from p ds)
start_on p [] = inl refl
start_on p (d ∷ ds) = inl refl

later : (n : ℕ) (p : GridPoint) (d : Dir) (ds : List Dir) (q : PlanePoint) → OnWay n (step_from p d) ds q → OnWay n p (d ∷ ds) q
later n p d ds q (at_grid g m e) = at_grid g (inr (inr m)) e
later n p d ds q (inside g e k low high m f) = inside g e k low high (inr (inr m)) f

-- what is left of a way's length after a step
rest_within : (n t m : ℕ) → n < t → t ≤ n * suc m → t - n ≤ n * m
rest_within n t m above within = let more = mul-suc n m in omega arith

-- along a way, step by step
pub along_first : (n : ℕ) (p : GridPoint) (d : Dir) (ds : List Dir) (t : ℕ) → t ≤ n → along n p (d ∷ ds) t ≡ on_step n p d t
along_first n p d ds t within = ap (λ (b : Bool). cond b (on_step n p d t) (along n (step_from p d) ds (t - n))) (le-leb t n within)

pub along_later : (n : ℕ) (p : GridPoint) (d : Dir) (ds : List Dir) (t : ℕ) → n < t → along n p (d ∷ ds) t ≡ along n (step_from p d) ds (t - n)
along_later n p d ds t above = by (leb t n) refl
  where
    by : (b : Bool) → leb t n ≡ b → cond (leb t n) (on_step n p d t) (along n (step_from p d) ds (t - n)) ≡ along n (step_from p d) ds (t - n)
    by true e = absurd (omega (arith, leb-true t n e, above))
    by false e = ap (λ (c : Bool). cond c (on_step n p d t) (along n (step_from p d) ds (t - n))) e

pub along_start : (n : ℕ) (p : GridPoint) (ds : List Dir) → along n p ds 0 ≡ in_parts n p
along_start n p [] = refl
along_start n p (d ∷ ds) = along_first n p d ds 0 (omega arith) ∙ step_begins n p d

-- a point of a step is its start or its end, or lies inside it
data OnStep (n k : ℕ) : Type 0 where
  begin : k ≡ 0 → OnStep n k
  end : k ≡ n → OnStep n k
  between : 0 < k → k < n → OnStep n k

on_one : (n k : ℕ) → k ≤ n → OnStep n k
on_one n k within = by (cases_eq k 0) (cases_eq k n)
  where
    by : (k ≡ 0) ⊎ (k ≡ 0 → ⊥) → (k ≡ n) ⊎ (k ≡ n → ⊥) → OnStep n k
    by (inl e) other = begin e
    by (inr f) (inl e) = end e
    by (inr f) (inr g) = let some : k ≢ 0 = f in let less : k ≢ n = g in between (omega arith) (omega arith)

pub on_way : (n : ℕ) (p : GridPoint) (ds : List Dir) (t : ℕ) → OnWay n p ds (along n p ds t)
on_way n p [] t = at_grid p (inl refl) refl
on_way n p (d ∷ ds) t = by (cases_lt n t) (on_way n (step_from p d) ds (t - n))
  where
    of_step : t ≤ n → OnStep n t → OnWay n p (d ∷ ds) (along n p (d ∷ ds) t)
    of_step within (begin e) = at_grid p (inl refl) (along_first n p d ds t within ∙ ap (on_step n p d) e ∙ step_begins n p d)
    of_step within (end e) =
        at_grid (step_from p d) (inr (inr (start_on (step_from p d) ds))) (along_first n p d ds t within ∙ ap (on_step n p d) e ∙ step_ends n p d)
    of_step within (between low high) = inside p d t low high (inr (inl refl)) (along_first n p d ds t within)

    by : (n < t) ⊎ (t ≤ n) → OnWay n (step_from p d) ds (along n (step_from p d) ds (t - n)) → OnWay n p (d ∷ ds) (along n p (d ∷ ds) t)
    by (inr within) rest = of_step within (on_one n t within)
    by (inl above) rest = subst (OnWay n p (d ∷ ds)) (sym (along_later n p d ds t above)) (later n p d ds (along n (step_from p d) ds (t - n)) rest)

-- ---- a walk doesn't meet itself

-- a point of the first step, but not its end, is no point of the rest of the way
not_again : (n : ℕ) (p : GridPoint) (d : Dir) (ds : List Dir) (s : ℕ) (q : PlanePoint) → 0 < n → are_distinct (doubled_from p (d ∷ ds)) ≡ true → s < n
    → on_step n p d s ≡ q → OnWay n (step_from p d) ds q → ⊥
not_again n p d ds s q some once less e way = by (on_one n s (omega (arith, less))) way
  where
    again : In (doubled p) (doubled_from (step_from p d) ds) → ⊥
    again m = distinct_not_later (doubled p) (step_from (doubled p) d ∷ doubled_from (step_from p d) ds) once (inr m)

    middle_again : In (step_from (doubled p) d) (doubled_from (step_from p d) ds) → ⊥
    middle_again m =
        distinct_not_later (step_from (doubled p) d) (doubled_from (step_from p d) ds)
        (distinct_rest (doubled p) (step_from (doubled p) d ∷ doubled_from (step_from p d) ds) once) m

    start_is : s ≡ 0 → in_parts n p ≡ q
    start_is z = sym (step_begins n p d) ∙ ap (on_step n p d) (sym z) ∙ e

    by : OnStep n s → OnWay n (step_from p d) ds q → ⊥
    by (begin z) (at_grid g m f) = again (subst (λ (v : GridPoint). In (doubled v) (doubled_from (step_from p d) ds)) (sym (same_grid_point n p g some (start_is z ∙ f))) m)
    by (begin z) (inside g c k low high m f) = not_inside n g p c k low high (sym (start_is z ∙ f))
    by (end z) other = absurd (omega (arith, z, less))
    by (between low high) (at_grid g m f) = not_inside n p g d s low high (e ∙ f)
    by (between low high) (inside g c k k0 kn m f) =
        middle_again (subst (λ (v : GridPoint). In v (doubled_from (step_from p d) ds)) (sym (same_middle n p g d c s k low high k0 kn (e ∙ f))) m)

pub one_place : (n : ℕ) (p : GridPoint) (ds : List Dir) (s t : ℕ) → 0 < n → are_distinct (doubled_from p ds) ≡ true → s ≤ n * length ds → t ≤ n * length ds
    → along n p ds s ≡ along n p ds t → s ≡ t
one_place n p [] s t some once ls lt e = omega arith
one_place n p (d ∷ ds) s t some once ls lt e =
    by (cases_lt n s) (cases_lt n t) (λ a b la lb f. one_place n (step_from p d) ds a b some
    (distinct_rest (step_from (doubled p) d) (doubled_from (step_from p d) ds) (distinct_rest (doubled p) (step_from (doubled p) d ∷ doubled_from (step_from p d) ds) once)) la lb f)
  where
    -- a point of the first step is none behind it
    apart : (a b : ℕ) → ((a b : ℕ) → a ≤ n * length ds → b ≤ n * length ds → along n (step_from p d) ds a ≡ along n (step_from p d) ds b → a ≡ b)
        → a ≤ n → n < b → b ≤ n * suc (length ds) → on_step n p d a ≡ along n (step_from p d) ds (b - n) → ⊥
    apart a b again la ab lb f = of_end (cases_eq a n)
      where
        of_end : (a ≡ n) ⊎ (a ≡ n → ⊥) → ⊥
        of_end (inl z) =
            let none : 0 ≡ b - n =
            again 0 (b - n) (omega arith) (rest_within n b (length ds) ab lb)
            (along_start n (step_from p d) ds ∙ sym (step_ends n p d) ∙ ap (on_step n p d) (sym z) ∙ f) in
            absurd (omega (arith, none, ab))
        of_end (inr g) =
            let less : a ≢ n = g in
            not_again n p d ds a (along n (step_from p d) ds (b - n)) some once (omega (arith, less, la)) f (on_way n (step_from p d) ds (b - n))

    by : (n < s) ⊎ (s ≤ n) → (n < t) ⊎ (t ≤ n)
        → ((a b : ℕ) → a ≤ n * length ds → b ≤ n * length ds → along n (step_from p d) ds a ≡ along n (step_from p d) ds b → a ≡ b) → s ≡ t
    by (inr hs) (inr ht) again = same_place n p d s t (sym (along_first n p d ds s hs) ∙ e ∙ along_first n p d ds t ht)
    by (inr hs) (inl ht) again = absurd (apart s t again hs ht lt (sym (along_first n p d ds s hs) ∙ e ∙ along_later n p d ds t ht))
    by (inl hs) (inr ht) again = absurd (apart t s again ht hs ls (sym (along_first n p d ds t ht) ∙ sym e ∙ along_later n p d ds s hs))
    by (inl hs) (inl ht) again =
        let same : s - n ≡ t - n =
        again (s - n) (t - n) (rest_within n s (length ds) hs ls) (rest_within n t (length ds) ht lt)
        (sym (along_later n p d ds s hs) ∙ e ∙ along_later n p d ds t ht) in
        omega (arith, same, hs, ht)

-- ---- two walks

-- the ends at one node, by a doubled point that they share
common_end : (legs : List Leg) → EndsFit (puts_of legs) → (n : ℕ) (l m : Leg) (g : GridPoint) (q : PlanePoint) → In l legs → In m legs → CommonEnd l m (doubled g)
    → q ≡ in_parts n g → IsCommonEnd n l m q
common_end legs fit n l m g q on_l on_m c e = record {
  node = c.one.0;
  at = c.one.1;
  of_one = contains_in c.one (puts_by l) c.of_one;
  of_other = subst (Contains (puts_by m)) (sym same) (contains_in c.other (puts_by m) c.of_other);
  there = e ∙ ap (in_parts n) (sym (point_is ∙ doubled-same c.other.1 g c.there));
}
  where
    point_is : c.one.1 ≡ c.other.1
    point_is = fit.one_place c.one c.other (in_flat_map puts_by legs l c.one on_l c.of_one) (in_flat_map puts_by legs m c.other on_m c.of_other) c.one_node

    same : c.one ≡ c.other
    same = ap (λ (k : ℕ). let p : Put = (k, c.one.1) in p) c.one_node ∙ ap (λ (v : GridPoint). let p : Put = (c.other.0, v) in p) point_is

turned : (n : ℕ) (l m : Leg) (q : PlanePoint) → IsCommonEnd n m l q → IsCommonEnd n l m q
turned n l m q c = record { node = c.node; at = c.at; of_one = c.of_other; of_other = c.of_one; there = c.there }

meet_at : (legs : List Leg) → EndsFit (puts_of legs) → (n : ℕ) (l m : Leg) (q : PlanePoint) → 0 < n → In l legs → In m legs → are_apart l m ≡ true
    → OnWay n l.1.start l.1.steps q → OnWay n m.1.start m.1.steps q → IsCommonEnd n l m q
meet_at legs fit n l m q some on_l on_m apart (at_grid g a e) (at_grid h b f) =
    let same : h ≡ g = same_grid_point n h g some (sym f ∙ e) in
    common_end legs fit n l m g q on_l on_m
    (apart_at l m (doubled g) apart a (subst (λ (v : GridPoint). In (doubled v) (doubled_of m.1)) same b)) e
meet_at legs fit n l m q some on_l on_m apart (at_grid g a e) (inside h c k low high b f) = absurd (not_inside n h g c k low high (sym f ∙ e))
meet_at legs fit n l m q some on_l on_m apart (inside g d k low high a e) (at_grid h b f) = absurd (not_inside n g h d k low high (sym e ∙ f))
meet_at legs fit n l m q some on_l on_m apart (inside g d k k0 kn a e) (inside h c j j0 jn b f) =
    let middle = same_middle n h g c d j k j0 jn k0 kn (sym f ∙ e) in
    let end = apart_at l m (step_from (doubled g) d) apart a (subst (λ (v : GridPoint). In v (doubled_of m.1)) middle b) in
    absurd (never_middle end.other.1 g d end.there)

-- two of the legs, the first before the second, are apart
apart_by_place : (legs : List Leg) (i j : ℕ) (l m : Leg) → all_apart legs ≡ true → i < j → slice_get legs i ≡ Some l → slice_get legs j ≡ Some m → are_apart l m ≡ true
apart_by_place [] i j l m all less a b = cc
apart_by_place (k ∷ ks) zero zero l m all less a b = absurd (omega arith)
apart_by_place (k ∷ ks) zero (suc j) l m all less a b =
    let same : k ≡ l = cc in
    all_at (are_apart l) ks m (subst (λ (v : Leg). list_all (are_apart v) ks ≡ true) same (and_parts _ _ all).0) (in_get ks j m b)
apart_by_place (k ∷ ks) (suc i) zero l m all less a b = absurd (omega arith)
apart_by_place (k ∷ ks) (suc i) (suc j) l m all less a b = apart_by_place ks i j l m (and_parts _ _ all).1 (omega arith) a b

pub meet_at_ends : (legs : List Leg) → EndsFit (puts_of legs) → MeetsFit legs → (i j : ℕ) (l m : Leg) (n s t : ℕ) → slice_get legs i ≡ Some l → slice_get legs j ≡ Some m
    → i ≢ j → 0 < n → point_at n l.1 s ≡ point_at n m.1 t → IsCommonEnd n l m (point_at n l.1 s)
meet_at_ends legs ends meets i j l m n s t a b other some e = by (cases_lt j i)
  where
    on_other : OnWay n m.1.start m.1.steps (point_at n l.1 s)
    on_other = subst (OnWay n m.1.start m.1.steps) (sym e) (on_way n m.1.start m.1.steps t)

    by : (j < i) ⊎ (i ≤ j) → IsCommonEnd n l m (point_at n l.1 s)
    by (inr before) =
        meet_at legs ends n l m (point_at n l.1 s) some (in_get legs i l a) (in_get legs j m b)
        (apart_by_place legs i j l m meets.apart (omega (arith, before, other)) a b) (on_way n l.1.start l.1.steps s) on_other
    by (inl behind) =
        turned n l m (point_at n l.1 s)
        (meet_at legs ends n m l (point_at n l.1 s) some (in_get legs j m b) (in_get legs i l a) (apart_by_place legs j i m l meets.apart behind b a) on_other
        (on_way n l.1.start l.1.steps s))

-- ---- a node on a walk

pub own_node : (legs : List Leg) → MeetsFit legs → (l : Leg) (p : Put) (n s : ℕ) → In l legs → In p (puts_of legs) → 0 < n → point_at n l.1 s ≡ in_parts n p.1
    → (l.0.0.0 ≡ p.0) ⊎ (l.0.1.0 ≡ p.0)
own_node legs meets l p n s on_l on_p some e = by (on_way n l.1.start l.1.steps s)
  where
    own : ((l.0.0.0 == p.0) || (l.0.1.0 == p.0)) ≡ true → (l.0.0.0 ≡ p.0) ⊎ (l.0.1.0 ≡ p.0)
    own h = elim (or_cases (l.0.0.0 == p.0) (l.0.1.0 == p.0) h) [
      | inl low ↦ inl (eqb-true l.0.0.0 p.0 low)
      | inr up ↦ inr (eqb-true l.0.1.0 p.0 up)
    ]

    clear : In (doubled p.1) (doubled_of l.1) → (l.0.0.0 ≡ p.0) ⊎ (l.0.1.0 ≡ p.0)
    clear m = elim (or_cases _ _ (meets.clear l p on_l on_p)) [
      | inl h ↦ own h
      | inr off ↦ absurd (not_in (doubled_of l.1) (doubled p.1) (not-true _ off) m)
    ]

    by : OnWay n l.1.start l.1.steps (point_at n l.1 s) → (l.0.0.0 ≡ p.0) ⊎ (l.0.1.0 ≡ p.0)
    by (at_grid g m f) = clear (subst (λ (v : GridPoint). In (doubled v) (doubled_of l.1)) (same_grid_point n g p.1 some (sym f ∙ e)) m)
    by (inside g d k low high m f) = absurd (not_inside n g p.1 d k low high (sym f ∙ e))
