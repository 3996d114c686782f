-- Taking points one after another.
use Rattle.std.proofs.Common.{◌≡◌, ℕ, zero, suc, ◌+◌, ◌-◌, ◌*◌, ◌≤◌, ◌<◌, Bool, true, false, not, ◌&&◌, ◌||◌, cond, ℤ, ◌+ℤ◌, unsigned_abs, List, [], ◌∷◌, ◌++◌, length, replicate, get_or, drop, sym, refl, ap, subst, ◌∙◌, arith, ◌⊎◌, inl, inr, append_assoc}
use Rattle.std.proofs.lemmas.Int.{ints}
use Rattle.std.proofs.lemmas.Bool.{and_parts, and_from, and_left, not-true, not_from_false, false≢true}
use Rattle.std.proofs.lemmas.List.{append-nil, replicate_more, replicate-append-replicate, drop_more}
use Rattle.std.specs.List.{AllByRecursion}
use Rattle.octi_grid.specs.PointSets.{holds, PointFlags}
use Rattle.octi_grid.specs.declared.dir.Dir.{Dir}
use Rattle.octi_grid.specs.declared.point.GridPoint.{GridPoint}
use Rattle.octi_grid.specs.declared.walk.Run.{Run}
use Rattle.octi_grid.specs.Ways.{after, are_one, doubled, doubled_from, east_of, north_of, points_from, step_from, IsDoubled, IsWithin}
use Rattle.octi_grid.specs.Runs.{are_runs, steps_of}
use Rattle.octi_grid.specs.Legal.{are_distinct, is_among}
use Rattle.octi_grid.specs.Taking.{are_new, first_half_count, half_count, half_steps, taken_with, trail, Has, Takes}
use Rattle.octi_grid.proofs.WayLemmas.{after-append, doubled_on_run, first_of-points, last_of-points, same_point}
use Rattle.octi_grid.proofs.RunLemmas.{first_count, no_run, points_of_run, rest_are_runs}
use Rattle.octi_grid.proofs.Members.{are_one_sym, In, not_among, not_in, same_among}

-- new points are not among those taken, and are distinct
pub new_apart : (taken ps : List GridPoint) (p : GridPoint) → are_new taken ps ≡ true → In p ps → In p taken → ⊥
new_apart taken [] p e m n = absurd m
new_apart taken (q ∷ ps) p e (inl h) n = not_in taken q (not-true _ (and_parts _ _ e).0) (subst (λ v. In v taken) h n)
new_apart taken (q ∷ ps) p e (inr m) n = new_apart (q ∷ taken) ps p (and_parts _ _ e).1 m (inr n)

pub new_distinct : (taken ps : List GridPoint) → are_new taken ps ≡ true → are_distinct ps ≡ true
new_distinct taken [] e = refl
new_distinct taken (q ∷ ps) e =
    let parts = and_parts _ _ e in
    and_from _ _ (not_from_false _ (not_among ps q (λ m. new_apart (q ∷ taken) ps q parts.1 m (inl refl)))) (new_distinct (q ∷ taken) ps parts.1)

pub new_from : (taken ps : List GridPoint) → are_distinct ps ≡ true → ((p : GridPoint) → In p ps → In p taken → ⊥) → are_new taken ps ≡ true
new_from taken [] e f = refl
new_from taken (q ∷ ps) e f =
    let parts = and_parts _ _ e in
    let apart : (p : GridPoint) → In p ps → In p (q ∷ taken) → ⊥ = λ p m n. clash q ps p (not-true _ parts.0) m n (λ k. f p (inr m) k) in
    and_from _ _ (not_from_false _ (not_among taken q (λ n. f q (inl refl) n))) (new_from (q ∷ taken) ps parts.1 apart)
  where
    clash : (q : GridPoint) (ps : List GridPoint) (p : GridPoint) → is_among ps q ≡ false → In p ps → In p (q ∷ taken) → (In p taken → ⊥) → ⊥
    clash q ps p e m (inl h) g = not_in ps q e (subst (λ v. In v ps) h m)
    clash q ps p e m (inr n) g = g n

-- what is taken in the end
pub in_taken_with : (taken ps : List GridPoint) (p : GridPoint) → In p (taken_with taken ps) → In p taken ⊎ In p ps
in_taken_with taken [] p m = inl m
in_taken_with taken (q ∷ ps) p m = elim (in_taken_with (q ∷ taken) ps p m) [
  | inl n ↦ (elim n [ inl h ↦ inr (inl h) | inr k ↦ inl k ])
  | inr n ↦ inr (inr n)
]

pub taken_before : (taken ps : List GridPoint) (p : GridPoint) → In p taken → In p (taken_with taken ps)
taken_before taken [] p m = m
taken_before taken (q ∷ ps) p m = taken_before (q ∷ taken) ps p (inr m)

pub taken_now : (taken ps : List GridPoint) (p : GridPoint) → In p ps → In p (taken_with taken ps)
taken_now taken [] p m = absurd m
taken_now taken (q ∷ ps) p (inl h) = taken_before (q ∷ taken) ps p (inl h)
taken_now taken (q ∷ ps) p (inr m) = taken_now (q ∷ taken) ps p m

pub are_new-append : (taken ps qs : List GridPoint) → are_new taken (ps ++ qs) ≡ (are_new taken ps && are_new (taken_with taken ps) qs)
are_new-append taken [] qs = refl
are_new-append taken (p ∷ ps) qs =
    ap (λ b. not (is_among taken p) && b) (are_new-append (p ∷ taken) ps qs) ∙ assoc (not (is_among taken p)) (are_new (p ∷ taken) ps) (are_new (taken_with (p ∷ taken) ps) qs)
  where
    assoc : (a b c : Bool) → (a && (b && c)) ≡ ((a && b) && c)
    assoc true b c = refl
    assoc false b c = refl

pub taken_with-append : (taken ps qs : List GridPoint) → taken_with taken (ps ++ qs) ≡ taken_with (taken_with taken ps) qs
taken_with-append taken [] qs = refl
taken_with-append taken (p ∷ ps) qs = taken_with-append (p ∷ taken) ps qs

-- a set has the same points under another list
pub Has-same : (set : PointFlags) (ps qs : List GridPoint) → Has set ps → ((p : GridPoint) → In p ps → In p qs) → ((p : GridPoint) → In p qs → In p ps) → Has set qs
Has-same set ps qs h f g = record { tells = λ p. h.tells p ∙ same_among ps qs p (f p) (g p) }

-- nothing is taken at first, and then one part after another
pub Takes-none : (set : PointFlags) → Takes set set [] true
Takes-none set = record { says = λ taken h. refl; takes = λ taken h e. h }

pub Takes-more : (a b c : PointFlags) (ps qs : List GridPoint) (r : Bool) → Takes a b ps true → Takes b c qs r → Takes a c (ps ++ qs) r
Takes-more a b c ps qs r first next = record {
  says = λ taken h.
      next.says (taken_with taken ps) (first.takes taken h refl)
      ∙ ap (λ v. v && are_new (taken_with taken ps) qs) (first.says taken h) ∙ sym (are_new-append taken ps qs);
  takes = λ taken h e. subst (Has c) (sym (taken_with-append taken ps qs)) (next.takes (taken_with taken ps) (first.takes taken h refl) e);
}

pub Takes-stop : (a b : PointFlags) (ps qs : List GridPoint) → Takes a b ps false → Takes a b (ps ++ qs) false
Takes-stop a b ps qs first = record {
  says = λ taken h. sym (are_new-append taken ps qs ∙ and_left _ _ (sym (first.says taken h)));
  takes = λ taken h e. absurd (false≢true e);
}

-- one point
pub Takes-one : (a b : PointFlags) (p : GridPoint) (r : Bool) → r ≡ not (holds a p) → ((q : GridPoint) → holds b q ≡ (are_one p q || holds a q)) → Takes a b (p ∷ []) r
Takes-one a b p r e f = record {
  says = λ taken h. e ∙ ap not (h.tells p) ∙ sym (and_true (not (is_among taken p)));
  takes = λ taken h t. record { tells = λ q. f q ∙ ap (λ v. v || holds a q) (are_one_sym p q) ∙ ap (λ v. are_one q p || v) (h.tells q) };
}
  where
    and_true : (b : Bool) → (b && true) ≡ b
    and_true true = refl
    and_true false = refl

-- trails, part by part
pub trail-append : (p : GridPoint) (ds es : List Dir) → trail p (ds ++ es) ≡ trail p ds ++ trail (after p ds) es
trail-append p [] es = refl
trail-append p (d ∷ ds) es = ap (λ ps. step_from p d ∷ ps) (trail-append (step_from p d) ds es)

-- each step as two half steps
abbrev pub twice : List Dir → List Dir
twice [] = []
twice (d ∷ ds) = d ∷ d ∷ twice ds

twice-append : (ds es : List Dir) → twice (ds ++ es) ≡ twice ds ++ twice es
twice-append [] es = refl
twice-append (d ∷ ds) es = ap (λ xs. d ∷ d ∷ xs) (twice-append ds es)

twice-replicate : (n : ℕ) (d : Dir) → twice (replicate n d) ≡ replicate (2 * n) d
twice-replicate zero d = refl
twice-replicate (suc n) d =
    let more : suc (suc (2 * n)) ≡ 2 * suc n = omega arith in
    ap (λ xs. d ∷ d ∷ xs) (twice-replicate n d) ∙ ap (λ k. replicate k d) more

pub two_half_steps : (p : GridPoint) (d : Dir) → step_from (step_from (doubled p) d) d ≡ doubled (step_from p d)
two_half_steps p d = same_point (ahead p.x (east_of d)) (ahead p.y (north_of d))
  where
    ahead : (x e : ℤ) → (x +ℤ x) +ℤ e +ℤ e ≡ (x +ℤ e) +ℤ (x +ℤ e)
    ahead x e = omega (arith, ints)

pub after-twice : (p : GridPoint) (ds : List Dir) → after (doubled p) (twice ds) ≡ doubled (after p ds)
after-twice p [] = refl
after-twice p (d ∷ ds) = ap (λ (q : GridPoint). after q (twice ds)) (two_half_steps p d) ∙ after-twice (step_from p d) ds

doubled_from-trail : (p : GridPoint) (ds : List Dir) → doubled_from p ds ≡ doubled p ∷ trail (doubled p) (twice ds)
doubled_from-trail p [] = refl
doubled_from-trail p (d ∷ ds) =
    ap (λ ps. doubled p ∷ step_from (doubled p) d ∷ ps)
    (doubled_from-trail (step_from p d) ds ∙ ap (λ (q : GridPoint). q ∷ trail q (twice ds)) (sym (two_half_steps p d)))

-- half steps of runs, and the last one
last_half : (rs : List Run) → are_runs rs ≡ true → 0 < length rs → (d : Dir) × (twice (steps_of rs) ≡ half_steps rs ++ d ∷ [])
last_half [] e h = absurd (omega arith)
last_half (r ∷ []) e h =
    let some : 0 < r.count = first_count r [] e in
    let count : 2 * r.count ≡ (2 * r.count - 1) + 1 = omega arith in (
      r.dir,
      ap twice (append-nil (replicate r.count r.dir)) ∙ twice-replicate r.count r.dir ∙ ap (λ k. replicate k r.dir) count
          ∙ sym (replicate_more (2 * r.count - 1) r.dir) ∙ ap (λ xs. xs ++ r.dir ∷ []) (sym (append-nil (replicate (2 * r.count - 1) r.dir))),
    )
last_half (r ∷ s ∷ rs) e h =
    let rest = last_half (s ∷ rs) (rest_are_runs r (s ∷ rs) e) (omega arith) in (
      rest.0,
      twice-append (replicate r.count r.dir) (steps_of (s ∷ rs)) ∙ ap (λ xs. xs ++ twice (steps_of (s ∷ rs))) (twice-replicate r.count r.dir)
          ∙ ap (λ xs. replicate (2 * r.count) r.dir ++ xs) rest.1 ∙ sym (append_assoc (replicate (2 * r.count) r.dir) (half_steps (s ∷ rs)) (rest.0 ∷ [])),
    )

-- the doubled points of a way: its start, those between, and its end
pub doubled_from-runs : (p : GridPoint) (rs : List Run) → are_runs rs ≡ true → 0 < length rs
    → doubled_from p (steps_of rs) ≡ doubled p ∷ (trail (doubled p) (half_steps rs) ++ doubled (after p (steps_of rs)) ∷ [])
doubled_from-runs p rs e h =
    let last = last_half rs e h in
    let ends : step_from (after (doubled p) (half_steps rs)) last.0 ≡ doubled (after p (steps_of rs)) =
    sym (after-append (doubled p) (half_steps rs) (last.0 ∷ [])) ∙ ap (after (doubled p)) (sym last.1) ∙ after-twice p (steps_of rs) in
    doubled_from-trail p (steps_of rs)
    ∙ ap (λ ds. doubled p ∷ trail (doubled p) ds) last.1
    ∙ ap (λ ps. doubled p ∷ ps) (trail-append (doubled p) (half_steps rs) (last.0 ∷ []))
    ∙ ap (λ (q : GridPoint). doubled p ∷ (trail (doubled p) (half_steps rs) ++ q ∷ [])) ends

-- a point that is put into a set
pub insert_takes : (a b : PointFlags) (p : GridPoint) (r : Bool) → r ≡ not (holds a p) → ((q : GridPoint) → holds b q ≡ cond (are_one p q) true (holds a q)) → Takes a b (p ∷ []) r
insert_takes a b p r e f = Takes-one a b p r e (λ q. f q ∙ either (are_one p q) (holds a q))
  where
    either : (x y : Bool) → cond x true y ≡ (x || y)
    either true y = refl
    either false y = refl

-- one step more of a run
pub run_more : (p : GridPoint) (n : ℕ) (d : Dir) → trail p (replicate (n + 1) d) ≡ trail p (replicate n d) ++ step_from (after p (replicate n d)) d ∷ []
run_more p n d = ap (trail p) (sym (replicate_more n d)) ∙ trail-append p (replicate n d) (d ∷ [])

pub after_more : (p : GridPoint) (n : ℕ) (d : Dir) → after p (replicate (n + 1) d) ≡ step_from (after p (replicate n d)) d
after_more p n d = ap (after p) (sym (replicate_more n d)) ∙ after-append p (replicate n d) (d ∷ [])

-- a run of which the first steps are made
pub run_split : (p : GridPoint) (n m : ℕ) (d : Dir) → n < m → trail p (replicate m d) ≡ trail p (replicate (n + 1) d) ++ trail (after p (replicate (n + 1) d)) (replicate (m - (n + 1)) d)
run_split p n m d h =
    let whole : n + 1 + (m - (n + 1)) ≡ m = omega arith in
    ap (λ k. trail p (replicate k d)) (sym whole) ∙ ap (trail p) (sym (replicate-append-replicate (n + 1) (m - (n + 1)) d)) ∙ trail-append p (replicate (n + 1) d) (replicate (m - (n + 1)) d)

-- one step of a run is taken, or stops it
pub run_takes : (a b c : PointFlags) (p q : GridPoint) (n : ℕ) (d : Dir) (r : Bool) → Takes a b (trail p (replicate n d)) true → q ≡ step_from (after p (replicate n d)) d
    → r ≡ not (holds b q) → ((s : GridPoint) → holds c s ≡ cond (are_one q s) true (holds b s))
    → Takes a c (trail p (replicate (n + 1) d)) r
run_takes a b c p q n d r before e f g =
    subst (λ ps. Takes a c ps r) (ap (λ (s : GridPoint). trail p (replicate n d) ++ s ∷ []) e ∙ sym (run_more p n d))
    (Takes-more a b c (trail p (replicate n d)) (q ∷ []) r before (insert_takes b c q r f g))

pub run_stops : (a c : PointFlags) (p : GridPoint) (n m : ℕ) (d : Dir) → n < m → Takes a c (trail p (replicate (n + 1) d)) false → Takes a c (trail p (replicate m d)) false
run_stops a c p n m d h stop =
    subst (λ ps. Takes a c ps false) (sym (run_split p n m d h)) (Takes-stop a c (trail p (replicate (n + 1) d)) (trail (after p (replicate (n + 1) d)) (replicate (m - (n + 1)) d)) stop)

-- some points were new and are taken, and others are left
abbrev pub TakesSoFar : PointFlags → PointFlags → List GridPoint → List GridPoint → Type 0
TakesSoFar a b all left = (done : List GridPoint) × (all ≡ done ++ left) × Takes a b done true

pub TakesSoFar-none : (a : PointFlags) (all : List GridPoint) → TakesSoFar a a all all
TakesSoFar-none a all = ([], refl, Takes-none a)

pub TakesSoFar-more : (a b c : PointFlags) (all left next rest : List GridPoint) → TakesSoFar a b all left → left ≡ next ++ rest → Takes b c next true → TakesSoFar a c all rest
TakesSoFar-more a b c all left next rest so_far e takes =
    (so_far.0 ++ next, so_far.1 ∙ ap (λ ps. so_far.0 ++ ps) e ∙ sym (append_assoc so_far.0 next rest), Takes-more a b c so_far.0 next true so_far.2 takes)

pub TakesSoFar-stop : (a b c : PointFlags) (all left next rest : List GridPoint) → TakesSoFar a b all left → left ≡ next ++ rest → Takes b c next false → Takes a c all false
TakesSoFar-stop a b c all left next rest so_far e takes =
    subst (λ ps. Takes a c ps false) (sym (so_far.1 ∙ ap (λ ps. so_far.0 ++ ps) e ∙ sym (append_assoc so_far.0 next rest)))
    (Takes-stop a c (so_far.0 ++ next) rest (Takes-more a b c so_far.0 next false so_far.2 takes))

pub TakesSoFar-all : (a b : PointFlags) (all : List GridPoint) → TakesSoFar a b all [] → Takes a b all true
TakesSoFar-all a b all so_far = subst (λ ps. Takes a b ps true) (sym (so_far.1 ∙ append-nil so_far.0)) so_far.2

-- the half steps of a run lead to the doubled point of its end
after-half_run : (p : GridPoint) (n : ℕ) (d : Dir) → after (doubled p) (replicate (2 * n) d) ≡ doubled (after p (replicate n d))
after-half_run p n d = ap (after (doubled p)) (sym (twice-replicate n d)) ∙ after-twice p (replicate n d)

-- the trail of runs: that of the first, and of the rest
pub trail-runs : (p : GridPoint) (r : Run) (rs : List Run) → trail (doubled p) (half_steps (r ∷ rs)) ≡ trail (doubled p) (replicate (half_count r rs) r.dir) ++ trail (doubled (after p (replicate r.count r.dir))) (half_steps rs)
trail-runs p r [] = trail-append (doubled p) (replicate (half_count r []) r.dir) []
trail-runs p r (s ∷ rs) =
    trail-append (doubled p) (replicate (2 * r.count) r.dir) (half_steps (s ∷ rs))
    ∙ ap (λ (q : GridPoint). trail (doubled p) (replicate (2 * r.count) r.dir) ++ trail q (half_steps (s ∷ rs))) (after-half_run p r.count r.dir)

pub trail-drop : (p : GridPoint) (rs : List Run) (i n : ℕ) → i < length rs → n ≡ first_half_count (drop i rs)
    → trail (doubled p) (half_steps (drop i rs))
    ≡ trail (doubled p) (replicate n (get_or rs i no_run).dir) ++ trail (doubled (after p (replicate (get_or rs i no_run).count (get_or rs i no_run).dir))) (half_steps (drop (i + 1) rs))
trail-drop p rs i n h e =
    let split = drop_more rs i no_run h in
    let rest = trail (doubled (after p (replicate (get_or rs i no_run).count (get_or rs i no_run).dir))) (half_steps (drop (i + 1) rs)) in
    ap (λ v. trail (doubled p) (half_steps v)) split ∙ trail-runs p (get_or rs i no_run) (drop (i + 1) rs)
    ∙ ap (λ k. trail (doubled p) (replicate k (get_or rs i no_run).dir) ++ rest) (sym (e ∙ ap first_half_count split))

-- a doubled point of the range
pub IsDoubled-doubled : (p : GridPoint) → IsWithin p → IsDoubled (doubled p)
IsDoubled-doubled p h = record { across = twice_in p.x h.across; along = twice_in p.y h.along }
  where
    twice_in : (x : ℤ) → unsigned_abs x ≤ 10000 → unsigned_abs (x +ℤ x) ≤ 20000
    twice_in x h = omega (arith, ints)

-- where the half steps of a run lead to
half_few : (r : Run) (rs : List Run) → half_count r rs ≤ 2 * r.count
half_few r [] = omega arith
half_few r (s ∷ rs) = omega arith

pub half_run_end : (p : GridPoint) (rs : List Run) (i n : ℕ) → i < length rs → n ≡ first_half_count (drop i rs) → AllByRecursion IsWithin (points_from p (steps_of (drop i rs)))
    → IsDoubled (after (doubled p) (replicate n (get_or rs i no_run).dir))
half_run_end p rs i n h e within =
    let run = get_or rs i no_run in
    let few : n ≤ 2 * run.count = subst (λ k. k ≤ 2 * run.count) (sym (e ∙ ap first_half_count (drop_more rs i no_run h))) (half_few run (drop (i + 1) rs)) in
    let here : IsWithin p = first_of-points IsWithin p (steps_of (drop i rs)) within in
    let there : IsWithin (after p (replicate run.count run.dir)) = last_of-points IsWithin p (replicate run.count run.dir) (points_of_run p rs i h within) in
    doubled_on_run (doubled p) n (2 * run.count) run.dir few (IsDoubled-doubled p here)
    (subst IsDoubled (sym (after-half_run p run.count run.dir)) (IsDoubled-doubled (after p (replicate run.count run.dir)) there))
