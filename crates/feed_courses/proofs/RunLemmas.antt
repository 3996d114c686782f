-- Runs of taken points, and the first free point past them.
use Rattle.std.proofs.Common.{◌≡◌, refl, sym, ◌∙◌, ap, subst, ℕ, zero, suc, ◌+◌, ◌-◌, ◌<◌, ◌≤◌, ◌⊎◌, inl, inr, Bool, true, false, cond, ◌||◌, ℤ, pos, ◌+ℤ◌, ◌-ℤ◌, unsigned_abs, List, [], ◌∷◌, ◌++◌, Option, Some, None, map, length, get_or, arith, length-append}
use Rattle.std.specs.List.{list_any, range_with_len}
use Rattle.std.specs.HashMap.{get}
use Rattle.std.proofs.lemmas.Bool.{both_ways, cases_lt}
use Rattle.std.proofs.lemmas.Int.{ints}
use Rattle.std.proofs.lemmas.List.{get_or_append_left, get_or_push}
use Rattle.std.proofs.lemmas.List.Elements.{All-push}
use Rattle.std.proofs.lemmas.List.Folds.{list_any_at, list_any-append, Any-from_list_any}
use Rattle.std.proofs.lemmas.List.FromFn.{length-map-range_with_len, get_or-map-range_with_len}
use Rattle.std.proofs.lemmas.Map.Keys.{IsDistinct-from_apart}
use Rattle.std.proofs.lemmas.Map.Made.{length-le_from_is_member}
use Rattle.map_base.specs.declared.point.Point.{Point}
use Rattle.fixed_plane.specs.Plane.{IsInPlane}
use Rattle.shape_track.specs.Samples.{point_at, is_point}
use Rattle.feed_courses.specs.Places.{is_taken, right_of, first_free, with_point}
use Rattle.feed_courses.specs.Fit.{AreDistinct}
use Rattle.feed_courses.specs.Runs.{IsOnEarth, moved_right, IsRun, LeadsPast, PointMap, AreKept}
use Rattle.feed_courses.proofs.OnePoint.{is_point-true, is_point-same, is_point-apart, is_point-equivalence}

-- ---- points to the right of one

pub moved_right-none : (p : Point) → moved_right p 0 ≡ p
moved_right-none p = ap (λ (x : ℤ). record { x = x; y = p.y }) (none p.x)
  where
    none : (x : ℤ) → x +ℤ pos 0 ≡ x
    none x = omega (arith, ints)

pub moved_right-twice : (p : Point) (m n : ℕ) → moved_right (moved_right p m) n ≡ moved_right p (m + n)
moved_right-twice p m n = ap (λ (x : ℤ). record { x = x; y = p.y }) (twice p.x)
  where
    twice : (x : ℤ) → (x +ℤ pos m) +ℤ pos n ≡ x +ℤ pos (m + n)
    twice x = omega (arith, ints)

moved_right-apart : (p : Point) (m n : ℕ) → m < n → moved_right p m ≡ moved_right p n → ⊥
moved_right-apart p m n less same = clash p.x (ap (λ (q : Point). q.x) same)
  where
    clash : (x : ℤ) → x +ℤ pos m ≡ x +ℤ pos n → ⊥
    clash x e = omega (arith, ints)

-- ---- no more points in a run than are taken

pub run_bounded : (taken : List Point) (p q : Point) (n : ℕ) → IsRun taken p q n → n ≤ length taken
run_bounded taken p q n run =
    subst (λ (m : ℕ). m ≤ length taken) (length-map-range_with_len (moved_right p) 0 n)
    (length-le_from_is_member is_point-equivalence points taken (IsDistinct-from_apart is_point points apart) members)
  where
    points : List Point
    points = map (moved_right p) (range_with_len 0 n)

    at_place : (i : ℕ) (d : Point) → i < n → get_or (map (moved_right p) (range_with_len 0 n)) i d ≡ moved_right p i
    at_place i d below = get_or-map-range_with_len (moved_right p) 0 n i i d below (omega arith)

    apart : (i j : ℕ) (d : Point) → i < j → j < length (map (moved_right p) (range_with_len 0 n)) → is_point (get_or (map (moved_right p) (range_with_len 0 n)) i d) (get_or (map (moved_right p) (range_with_len 0 n)) j d) ≡ false
    apart i j d less below =
        let in_range : j < n = omega (arith, length-map-range_with_len (moved_right p) 0 n) in
        ap (λ q. is_point q (get_or (map (moved_right p) (range_with_len 0 n)) j d)) (at_place i d (omega arith)) ∙ ap (is_point (moved_right p i)) (at_place j d in_range)
        ∙ is_point-apart (moved_right p i) (moved_right p j) (moved_right-apart p i j less)

    members : (q : Point) → list_any (is_point q) (map (moved_right p) (range_with_len 0 n)) ≡ true → list_any (is_point q) taken ≡ true
    members q e =
        let found = Any-from_list_any (is_point q) (map (moved_right p) (range_with_len 0 n)) e in
        let below : found.0 < n = omega (arith, length-map-range_with_len (moved_right p) 0 n, found.2) in
        let there : q ≡ moved_right p found.0 = is_point-true q found.1 found.4 ∙ sym found.3 ∙ at_place found.0 found.1 below in
        subst (λ (r : Point). is_taken taken r ≡ true) (sym there) (run.all found.0 below)

-- ---- runs from point to point

pub run_of_none : (taken : List Point) (p : Point) → IsRun taken p p 0
run_of_none taken p = record { there = sym (moved_right-none p); all = λ k below. absurd (omega arith) }

pub runs_joined : (taken : List Point) (p q r : Point) (m n : ℕ) → IsRun taken p q m → IsRun taken q r n → IsRun taken p r (m + n)
runs_joined taken p q r m n first second = record {
  there = second.there ∙ ap (λ s. moved_right s n) first.there ∙ moved_right-twice p m n;
  all = λ k below. by_order k below (cases_lt k m);
}
  where
    by_order : (k : ℕ) → k < m + n → (k < m) ⊎ (m ≤ k) → is_taken taken (moved_right p k) ≡ true
    by_order k below (inl h) = first.all k h
    by_order k below (inr h) =
        let sum : m + (k - m) ≡ k = omega arith in
        let here : moved_right q (k - m) ≡ moved_right p k = ap (λ s. moved_right s (k - m)) first.there ∙ moved_right-twice p m (k - m) ∙ ap (moved_right p) sum in
        subst (λ (s : Point). is_taken taken s ≡ true) here (second.all (k - m) (omega arith))

run_after_one : (taken : List Point) (p q : Point) (n : ℕ) → IsRun taken p q (suc n) → IsRun taken (right_of p) q n
run_after_one taken p q n run = record {
  there = run.there ∙ ap (moved_right p) (more n) ∙ sym (moved_right-twice p 1 n);
  all = λ k below.
      subst (λ (s : Point). is_taken taken s ≡ true) (ap (moved_right p) (more k) ∙ sym (moved_right-twice p 1 k)) (run.all (suc k) (omega arith));
}
  where
    more : (k : ℕ) → suc k ≡ 1 + k
    more k = omega arith

-- the free point at the end of a run is the first one
pub first_free-is : (fuel n : ℕ) (taken : List Point) (p q : Point) → IsRun taken p q n → is_taken taken q ≡ false → n ≤ fuel → first_free fuel taken p ≡ q
first_free-is zero zero taken p q run free under = sym (run.there ∙ moved_right-none p)
first_free-is zero (suc n) taken p q run free under = absurd (omega arith)
first_free-is (suc fuel) zero taken p q run free under =
    let here : p ≡ q = sym (run.there ∙ moved_right-none p) in
    ap (λ b. cond b (first_free fuel taken (right_of p)) p) (ap (is_taken taken) here ∙ free) ∙ here
first_free-is (suc fuel) (suc n) taken p q run free under =
    let begun : is_taken taken p ≡ true = ap (is_taken taken) (sym (moved_right-none p)) ∙ run.all 0 (omega arith) in
    ap (λ b. cond b (first_free fuel taken (right_of p)) p) begun ∙ first_free-is fuel n taken (right_of p) q (run_after_one taken p q n run) free (omega arith)

pub with_point-is : (n : ℕ) (taken : List Point) (p q : Point) → IsRun taken p q n → is_taken taken q ≡ false → taken ++ q ∷ [] ≡ with_point taken p
with_point-is n taken p q run free = ap (λ r. taken ++ r ∷ []) (sym (first_free-is (length taken) n taken p q run free (run_bounded taken p q n run)))

-- ---- what is kept when a point is added

taken-more : (taken : List Point) (q p : Point) → is_taken (taken ++ q ∷ []) p ≡ (is_taken taken p || is_point p q)
taken-more taken q p = list_any-append (is_point p) taken (q ∷ []) ∙ ap (λ b. is_taken taken p || b) (alone (is_point p q))
  where
    alone : (b : Bool) → (b || false) ≡ b
    alone true = refl
    alone false = refl

taken-before : (taken : List Point) (q p : Point) → is_taken taken p ≡ true → is_taken (taken ++ q ∷ []) p ≡ true
taken-before taken q p e = taken-more taken q p ∙ ap (λ b. b || is_point p q) e

taken-last : (taken : List Point) (q p : Point) → p ≡ q → is_taken (taken ++ q ∷ []) p ≡ true
taken-last taken q p e = taken-more taken q p ∙ ap (λ b. is_taken taken p || b) (is_point-same p q e) ∙ or-true (is_taken taken p)
  where
    or-true : (b : Bool) → (b || true) ≡ true
    or-true true = refl
    or-true false = refl

run-before : (taken : List Point) (q p r : Point) (n : ℕ) → IsRun taken p r n → IsRun (taken ++ q ∷ []) p r n
run-before taken q p r n run = record { there = run.there; all = λ k below. taken-before taken q (moved_right p k) (run.all k below) }

run_past : (taken : List Point) (q : Point) → IsRun (taken ++ q ∷ []) q (right_of q) 1
run_past taken q = record {
  there = refl;
  all = λ k below.
      let none : k ≡ 0 = omega arith in taken-last taken q (moved_right q k) (ap (moved_right q) none ∙ moved_right-none q);
}

leads-before : (taken : List Point) (q p : Point) (o : Option Point) → is_point p q ≡ false → LeadsPast taken p o → LeadsPast (taken ++ q ∷ []) p o
leads-before taken q p None apart free = taken-more taken q p ∙ ap (λ b. b || is_point p q) free ∙ apart
leads-before taken q p (Some r) apart leads = (leads.0, leads.1, run-before taken q p r leads.0 leads.2)

leads_more : (taken : List Point) (past new : PointMap) (q next : Point) → ((r : Point) → LeadsPast taken r (get is_point past r)) → next ≡ right_of q →
    ((r : Point) → get is_point new r ≡ cond (is_point q r) (Some next) (get is_point past r)) → (r : Point) → LeadsPast (taken ++ q ∷ []) r (get is_point new r)
leads_more taken past new q next leads is put r = of_test (is_point q r) refl
  where
    of_test : (b : Bool) → is_point q r ≡ b → LeadsPast (taken ++ q ∷ []) r (get is_point new r)
    of_test true e =
        subst (λ (o : Option Point). LeadsPast (taken ++ q ∷ []) r o) (sym (put r ∙ ap (λ t. cond t (Some next) (get is_point past r)) e))
        (subst (λ (s : Point). LeadsPast (taken ++ q ∷ []) s (Some next)) (is_point-true q r e) (1, omega arith, subst (λ (s : Point). IsRun (taken ++ q ∷ []) q s 1) (sym is) (run_past taken q)))
    of_test false e =
        subst (λ (o : Option Point). LeadsPast (taken ++ q ∷ []) r o) (sym (put r ∙ ap (λ t. cond t (Some next) (get is_point past r)) e))
        (leads-before taken q r (get is_point past r) (is_point-equivalence.symm r q ∙ e) (leads r))

-- a free point is none of those that are taken
pub AreDistinct-more : (taken : List Point) (q : Point) → AreDistinct taken → is_taken taken q ≡ false → AreDistinct (taken ++ q ∷ [])
AreDistinct-more ps p distinct free i j i_in j_in same = of_orders (cases_lt i (length ps)) (cases_lt j (length ps))
  where
    start : Point
    start = record { x = pos 0; y = pos 0 }

    old : (k : ℕ) → k < length ps → point_at (ps ++ p ∷ []) k ≡ point_at ps k
    old k below = get_or_append_left ps (p ∷ []) (record { x = pos 0; y = pos 0 }) k below

    last : (k : ℕ) → length ps ≤ k → k < length (ps ++ p ∷ []) → k ≡ length ps
    last k above below = omega (arith, length-append ps (p ∷ []))

    new : (k : ℕ) → length ps ≤ k → k < length (ps ++ p ∷ []) → point_at (ps ++ p ∷ []) k ≡ p
    new k above below = get_or_push ps p (record { x = pos 0; y = pos 0 }) k (sym (last k above below))

    not_there : (k : ℕ) → k < length ps → point_at ps k ≡ p → ⊥
    not_there k below here =
        both_ways (is_taken ps p) free (list_any_at (is_point p) ps k (record { x = pos 0; y = pos 0 }) below (is_point-same p (point_at ps k) (sym here)))

    of_orders : (i < length ps) ⊎ (length ps ≤ i) → (j < length ps) ⊎ (length ps ≤ j) → i ≡ j
    of_orders (inl h) (inl k) = distinct i j h k (sym (old i h) ∙ same ∙ old j k)
    of_orders (inl h) (inr k) = absurd (not_there i h (sym (old i h) ∙ same ∙ new j k j_in))
    of_orders (inr h) (inl k) = absurd (not_there j k (sym (old j k) ∙ sym same ∙ new i h i_in))
    of_orders (inr h) (inr k) = last i h i_in ∙ sym (last j k j_in)

-- a point on earth stays in the plane where it is moved that far
pub IsInPlane-moved : (taken : List Point) (p q : Point) (n : ℕ) → IsOnEarth p → IsRun taken p q n → length taken ≤ 10000 → IsInPlane q
IsInPlane-moved taken p q n earth run few =
    let bound : n ≤ length taken = run_bounded taken p q n run in
    subst IsInPlane (sym run.there) (record { across = within p.x earth.across (omega arith); along = omega (arith, earth.along) })
  where
    within : (x : ℤ) → unsigned_abs x ≤ 200376000 → n ≤ 10000 → unsigned_abs (x +ℤ pos n) ≤ 300000000
    within x low most = omega (arith, ints)

pub kept_more : (taken points : List Point) (past new : PointMap) (p q next : Point) (n : ℕ) → AreKept taken past → IsOnEarth p → length taken ≤ 10000 → IsRun taken p q n → is_taken taken q ≡ false → next ≡ right_of q →
    ((r : Point) → get is_point new r ≡ cond (is_point q r) (Some next) (get is_point past r)) → points ≡ taken ++ q ∷ [] → AreKept points new
kept_more taken points past new p q next n kept earth few run free is put pushed =
    subst (λ (ps : List Point). AreKept ps new) (sym pushed) (record {
      distinct = AreDistinct-more taken q kept.distinct free;
      in_plane = All-push IsInPlane taken q kept.in_plane (IsInPlane-moved taken p q n earth run few);
      leads = leads_more taken past new q next kept.leads is put;
    })

-- ---- from point to point past taken ones

pub run_goes_on : (taken : List Point) (p q r : Point) (n : ℕ) → IsRun taken p q n → LeadsPast taken q (Some r) → (steps : ℕ) × IsRun taken p r steps
run_goes_on taken p q r n run leads = (n + leads.0, runs_joined taken p q r n leads.0 run leads.2)

run_length : (taken : List Point) (p q : Point) (n : ℕ) → IsRun taken p q n → unsigned_abs (q.x -ℤ p.x) ≡ n
run_length taken p q n run = ap (λ (r : Point). unsigned_abs (r.x -ℤ p.x)) run.there ∙ alone p.x
  where
    alone : (x : ℤ) → unsigned_abs ((x +ℤ pos n) -ℤ x) ≡ n
    alone x = omega (arith, ints)

pub run_nearer : (taken : List Point) (p q r : Point) (n : ℕ) → IsRun taken p q n → LeadsPast taken q (Some r) → length taken - unsigned_abs (r.x -ℤ p.x) < length taken - unsigned_abs (q.x -ℤ p.x)
run_nearer taken p q r n run leads =
    let whole : IsRun taken p r (n + leads.0) = runs_joined taken p q r n leads.0 run leads.2 in
    let bound : n + leads.0 ≤ length taken = run_bounded taken p r (n + leads.0) whole in
    let there : unsigned_abs (r.x -ℤ p.x) ≡ n + leads.0 = run_length taken p r (n + leads.0) whole in
    let here : unsigned_abs (q.x -ℤ p.x) ≡ n = run_length taken p q n run in
    let some : 0 < leads.0 = leads.1 in
    omega arith

-- where what is known past a point leads on, the point may be led on to there
pub kept_led : (taken : List Point) (past new : PointMap) (p q r : Point) → AreKept taken past → LeadsPast taken p (Some q) → LeadsPast taken q (Some r) →
    ((s : Point) → get is_point new s ≡ cond (is_point p s) (Some r) (get is_point past s)) → AreKept taken new
kept_led taken past new p q r kept first second led = record { distinct = kept.distinct; in_plane = kept.in_plane; leads = λ s. of_test s (is_point p s) refl }
  where
    both : LeadsPast taken p (Some r)
    both =
        let some : 0 < first.0 = first.1 in
        (first.0 + second.0, omega arith, runs_joined taken p q r first.0 second.0 first.2 second.2)

    of_test : (s : Point) (b : Bool) → is_point p s ≡ b → LeadsPast taken s (get is_point new s)
    of_test s true e =
        subst (λ (o : Option Point). LeadsPast taken s o) (sym (led s ∙ ap (λ t. cond t (Some r) (get is_point past s)) e))
        (subst (λ (t : Point). LeadsPast taken t (Some r)) (is_point-true p s e) both)
    of_test s false e = subst (λ (o : Option Point). LeadsPast taken s o) (sym (led s ∙ ap (λ t. cond t (Some r) (get is_point past s)) e)) (kept.leads s)

-- one step of the way to the first free point
pub run_nearer_in : (taken here after : List Point) (p q r : Point) → here ≡ taken → after ≡ here → ((steps : ℕ) × IsRun taken p q steps) → LeadsPast here q (Some r) →
    length after - unsigned_abs (r.x -ℤ p.x) < length here - unsigned_abs (q.x -ℤ p.x)
run_nearer_in taken here after p q r same kept run leads =
    let now : LeadsPast taken q (Some r) = subst (λ (ts : List Point). LeadsPast ts q (Some r)) same leads in
    subst (λ (ts : List Point). length ts - unsigned_abs (r.x -ℤ p.x) < length here - unsigned_abs (q.x -ℤ p.x)) (sym (kept ∙ same))
    (subst (λ (ts : List Point). length taken - unsigned_abs (r.x -ℤ p.x) < length ts - unsigned_abs (q.x -ℤ p.x)) (sym same) (run_nearer taken p q r run.0 run.1 now))

pub run_goes_on_in : (taken here : List Point) (p q r : Point) → here ≡ taken → ((steps : ℕ) × IsRun taken p q steps) → LeadsPast here q (Some r) → (steps : ℕ) × IsRun taken p r steps
run_goes_on_in taken here p q r same run leads = run_goes_on taken p q r run.0 run.1 (subst (λ (ts : List Point). LeadsPast ts q (Some r)) same leads)
