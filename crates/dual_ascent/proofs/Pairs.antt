-- Each segment has the average of each two of its lines; so a fork is at two lines of a segment, and where no pair is open all
-- are settled.
use Rattle.std.proofs.Common.{◌≡◌, ℕ, zero, suc, ◌+◌, ◌<◌, ◌==◌, ◌||◌, ◌&&◌, not, Bool, true, false, cond, List, [], ◌∷◌, ◌++◌, length, map, filter, get_or, refl, sym, ◌∙◌, ap, subst, arith, ◌⊎◌, inl, inr, true≢false, eq-eqb, Some, None}
use Rattle.std.specs.Prelude.{ℤ, pos, neg_ℤ}
use Rattle.std.specs.List.{All, AllByRecursion, IsDistinct, flat_map}
use Rattle.std.proofs.lemmas.List.Sorted.{IsPermutation-refl}
use Rattle.map_base.specs.declared.ids.SegId.{SegId}
use Rattle.map_base.specs.declared.ids.LineId.{LineId}
use Rattle.graph_core.specs.Consistent.{AreRising}
use Rattle.order_model.specs.declared.problem.ProblemParts.{ProblemParts}
use Rattle.order_model.specs.Problems.{lines_on}
use Rattle.order_model.specs.PartTerms.{is_in}
use Rattle.order_model.specs.Places.{has_line}
use Rattle.order_model.specs.Prefixes.{is_placed}
use Rattle.order_model.specs.Questions.{question}
use Rattle.order_model.proofs.Lines.{either_true, same_line, order_distinct}
use Rattle.least_orders.specs.LeastOrders.{first_of, first_least}
use Rattle.least_orders.proofs.Lists.{each_at, each_map, each_append, each_flat_map, each_filter, each_weaker}
use Rattle.least_orders.proofs.LeastValues.{first_among}
use Rattle.dual_bound.specs.declared.settled.SettledPair.{SettledPair}
use Rattle.dual_bound.specs.Settled.{settled_on}
use Rattle.dual_bound.specs.Accepting.{is_fork}
use Rattle.dual_bound.proofs.Segments.{rising_at}
use Rattle.dual_ascent.specs.declared.pair_average.PairAverage.{PairAverage}
use Rattle.dual_ascent.specs.OwnNumbers.{segments_from, all_segments, all_terms}
use Rattle.dual_ascent.specs.Averages.{never, never_all, no_averages, pair_of, ArePairs, with_order, averages_on, averages_after}
use Rattle.dual_ascent.specs.OpenPairs.{leads, is_settled, OpenPair, open_pair, open_on, open_pairs, doubt, next_pair, is_swapped, ahead, behind}
use Rattle.dual_ascent.proofs.OwnParts.{seg_number, has_segment, all_made_at}
use Rattle.dual_ascent.proofs.Unique.{AreSettled, turned}

abbrev same : LineId → LineId → Bool
same a b = a.0 == b.0

never_at : (segs : List (List LineId)) (i : ℕ) → get_or (map never_all segs) i [] ≡ never_all (get_or segs i [])
never_at [] i = refl
never_at (l ∷ segs) zero = refl
never_at (l ∷ segs) (suc i) = never_at segs i

pub first_pairs : (p : ProblemParts) → ArePairs p (no_averages p)
first_pairs p i below = ap (map pair_of) (never_at p.segs i)

same_pairs : (round : ℕ) (order : List LineId) (xs : List PairAverage) → map pair_of (map (with_order round order) xs) ≡ map pair_of xs
same_pairs round order [] = refl
same_pairs round order (x ∷ xs) = ap (λ l. pair_of x ∷ l) (same_pairs round order xs)

pub pairs_after : (p : ProblemParts) (round : ℕ) (orders : List (List LineId)) (averages : List (List PairAverage)) → ArePairs p averages → ArePairs p (averages_after p round orders averages)
pairs_after p round orders averages h i below =
    ap (map pair_of) (all_made_at p.segs (λ (s : SegId). map (with_order round (lines_on orders s)) (averages_on averages s)) i [] below)
    ∙ (same_pairs round (lines_on orders (seg_number i)) (get_or averages i []) ∙ h i below)

-- Lists by what is made of them.

each_unmap : {A B : Type 0} (P : B → Type 0) (f : A → B) (xs : List A) → AllByRecursion P (map f xs) → AllByRecursion (λ x. P (f x)) xs
each_unmap P f [] h = tt
each_unmap P f (x ∷ xs) h = (h.0, each_unmap P f xs h.1)

-- what holds of all pairs of one list holds of those of another with the same pairs
transfer : (P : LineId × LineId → Type 0) (xs ys : List PairAverage) → map pair_of xs ≡ map pair_of ys → AllByRecursion (λ x. P (pair_of x)) xs → AllByRecursion (λ x. P (pair_of x)) ys
transfer P xs ys e h = each_unmap P pair_of ys (subst (AllByRecursion P) e (each_map P pair_of xs h))

-- The pairs of lines that rise.

-- two different ones of these lines
abbrev pub ArePair : List LineId → LineId × LineId → Type 0
ArePair lines q = (is_placed lines q.0 ≡ true) × (is_placed lines q.1 ≡ true) × ((q.0.0 == q.1.0) ≡ false)

here_first : (a : LineId) (lines : List LineId) → is_placed (a ∷ lines) a ≡ true
here_first a lines = ap (λ t. t || is_placed lines a) (eq-eqb a.0 a.0 refl)

here_later : (a b : LineId) (lines : List LineId) → is_placed lines b ≡ true → is_placed (a ∷ lines) b ≡ true
here_later a b lines h = second (a.0 == b.0) (is_placed lines b) h
  where
    second : (s t : Bool) → t ≡ true → (s || t) ≡ true
    second true t h = refl
    second false t h = h

placed_own : (lines : List LineId) → AllByRecursion (λ b. is_placed lines b ≡ true) lines
placed_own [] = tt
placed_own (a ∷ lines) = (here_first a lines, each_weaker (λ b. is_placed lines b ≡ true) (λ b. is_placed (a ∷ lines) b ≡ true) lines (λ b h. here_later a b lines h) (placed_own lines))

firsts : (a : LineId) (all rest : List LineId) → is_placed all a ≡ true → AllByRecursion (λ b. same a b ≡ false) rest → AllByRecursion (λ b. is_placed all b ≡ true) rest
    → AllByRecursion (λ b. ArePair all (a, b)) rest
firsts a all [] h d k = tt
firsts a all (b ∷ rest) h d k = ((h, k.0, d.0), firsts a all rest h d.1 k.1)

never_pairs : (lines : List LineId) → IsDistinct same lines → AllByRecursion (λ x. ArePair lines (pair_of x)) (never_all lines)
unfolding IsDistinct
never_pairs [] d = tt
never_pairs (a ∷ lines) d =
    each_append (λ x. ArePair (a ∷ lines) (pair_of x)) (map (never a) lines) (never_all lines)
    (each_map (λ x. ArePair (a ∷ lines) (pair_of x)) (never a) lines
    (firsts a (a ∷ lines) lines (here_first a lines) d.0 (each_weaker (λ b. is_placed lines b ≡ true) (λ b. is_placed (a ∷ lines) b ≡ true) lines (λ b h. here_later a b lines h) (placed_own lines))))
    (each_weaker (λ x. ArePair lines (pair_of x)) (λ x. ArePair (a ∷ lines) (pair_of x)) (never_all lines)
    (λ x h. (here_later a x.lesser lines h.0, here_later a x.greater lines h.1, h.2)) (never_pairs lines d.1))

append_left : {A : Type 0} (P : A → Type 0) (xs ys : List A) → AllByRecursion P (xs ++ ys) → AllByRecursion P xs
append_left P [] ys h = tt
append_left P (x ∷ xs) ys h = (h.0, append_left P xs ys h.1)

append_right : {A : Type 0} (P : A → Type 0) (xs ys : List A) → AllByRecursion P (xs ++ ys) → AllByRecursion P ys
append_right P [] ys h = h
append_right P (x ∷ xs) ys h = append_right P xs ys h.1

at_line : (P : LineId → Type 0) (lines : List LineId) (b : LineId) → AllByRecursion P lines → is_placed lines b ≡ true → P b
at_line P [] b h k = absurd (true≢false (sym k))
at_line P (x ∷ lines) b h k = by_first (either_true (x.0 == b.0) (is_placed lines b) k) (λ g. at_line P lines b h.1 g)
  where
    by_first : ((x.0 == b.0) ≡ true) ⊎ (is_placed lines b ≡ true) → (is_placed lines b ≡ true → P b) → P b
    by_first (inl e) rest = subst P (same_line x b e) h.0
    by_first (inr g) rest = rest g

settled_either : (pairs : List (LineId × LineId)) (a b : LineId) → is_settled pairs a b ≡ true → is_settled pairs b a ≡ true
settled_either pairs a b h = swapped (leads (length pairs) pairs a b) (leads (length pairs) pairs b a) h
  where
    swapped : (s t : Bool) → (s || t) ≡ true → (t || s) ≡ true
    swapped true true h = refl
    swapped true false h = refl
    swapped false true h = refl
    swapped false false h = h

-- where each pair of the list is settled, all pairs of the lines are
all_settled : (pairs : List (LineId × LineId)) (lines : List LineId) → AllByRecursion (λ x. is_settled pairs x.lesser x.greater ≡ true) (never_all lines) → AreSettled pairs lines
all_settled pairs [] h a b apart k g = absurd (true≢false (sym k))
all_settled pairs (x ∷ lines) h a b apart k g =
    by_lines (either_true (x.0 == a.0) (is_placed lines a) k) (either_true (x.0 == b.0) (is_placed lines b) g)
    (λ k g. all_settled pairs lines (append_right (λ x. is_settled pairs x.lesser x.greater ≡ true) (map (never x) lines) (never_all lines) h) a b apart k g)
  where
    with_x : AllByRecursion (λ (c : LineId). is_settled pairs x c ≡ true) lines
    with_x = each_unmap (λ (y : PairAverage). is_settled pairs y.lesser y.greater ≡ true) (never x) lines (append_left (λ x. is_settled pairs x.lesser x.greater ≡ true) (map (never x) lines) (never_all lines) h)

    by_lines : ((x.0 == a.0) ≡ true) ⊎ (is_placed lines a ≡ true) → ((x.0 == b.0) ≡ true) ⊎ (is_placed lines b ≡ true)
        → (is_placed lines a ≡ true → is_placed lines b ≡ true → is_settled pairs a b ≡ true) → is_settled pairs a b ≡ true
    by_lines (inl e) (inl f) rest = absurd (true≢false (sym (eq-eqb a.0 b.0 (ap (λ (u : LineId). u.0) (sym (same_line x a e) ∙ same_line x b f))) ∙ apart))
    by_lines (inl e) (inr g) rest = subst (λ u. is_settled pairs u b ≡ true) (same_line x a e) (at_line (λ c. is_settled pairs x c ≡ true) lines b with_x g)
    by_lines (inr k) (inl f) rest = subst (λ u. is_settled pairs a u ≡ true) (same_line x b f) (settled_either pairs x a (at_line (λ c. is_settled pairs x c ≡ true) lines a with_x k))
    by_lines (inr k) (inr g) rest = rest k g

-- Pairs that are open.

module _ (p : ProblemParts) (settled : List SettledPair) (averages : List (List PairAverage)) (pairs : ArePairs p averages) where
  -- of a segment of the part two different lines
  abbrev IsForkable : OpenPair → Type 0
  IsForkable c = (is_in (all_segments p) c.seg ≡ true) × ArePair (lines_on p.segs c.seg) (pair_of c.average)

  each_segment : (P : SegId → Type 0) (k : ℕ) (segs : List (List LineId)) → ((i : ℕ) → i < length segs → P (seg_number (k + i))) → AllByRecursion P (segments_from k segs)
  each_segment P k [] h = tt
  each_segment P k (l ∷ segs) h = (subst (λ n. P (seg_number n)) (none k) (h 0 (omega (arith))), each_segment P (k + 1) segs (λ i below. subst (λ n. P (seg_number n)) (next k i) (h (suc i) (omega (arith, below)))))
    where
      none : (k : ℕ) → k + 0 ≡ k
      none k = omega (arith)

      next : (k i : ℕ) → k + suc i ≡ (k + 1) + i
      next k i = omega (arith)

  pub every_segment : (P : SegId → Type 0) → ((i : ℕ) → i < length p.segs → P (seg_number i)) → AllByRecursion P (all_segments p)
  every_segment P h = each_segment P 0 p.segs (λ i below. subst (λ n. P (seg_number n)) (from_none i) (h i below))
    where
      from_none : (i : ℕ) → i ≡ 0 + i
      from_none i = omega (arith)

  open_forkable : All AreRising p.segs → AllByRecursion IsForkable (open_pairs p settled averages)
  open_forkable rising =
      each_flat_map IsForkable (open_on settled averages) (all_segments p) (every_segment (λ s. AllByRecursion IsForkable (open_on settled averages s)) on_segment)
    where
      on_segment : (i : ℕ) → i < length p.segs → AllByRecursion IsForkable (open_on settled averages (seg_number i))
      on_segment i below =
          each_map IsForkable (open_pair (seg_number i)) (filter (λ (x : PairAverage). not (is_settled (settled_on settled (seg_number i)) x.lesser x.greater)) (get_or averages i []))
          (each_filter (λ x. IsForkable (open_pair (seg_number i) x)) (λ (x : PairAverage). not (is_settled (settled_on settled (seg_number i)) x.lesser x.greater)) (get_or averages i [])
          (each_weaker (λ x. ArePair (get_or p.segs i []) (pair_of x)) (λ x. IsForkable (open_pair (seg_number i) x)) (get_or averages i [])
          (λ x h. (has_segment 0 p.segs (seg_number i) (omega (arith)) (omega (arith, below)), h))
          (transfer (ArePair (get_or p.segs i [])) (never_all (get_or p.segs i [])) (get_or averages i []) (sym (pairs i below))
          (never_pairs (get_or p.segs i []) (order_distinct (get_or p.segs i []) (get_or p.segs i []) (rising_at p.segs i rising) (IsPermutation-refl (get_or p.segs i [])))))))

  -- the pair that is settled next makes a fork
  pub next_forks : (target : ℕ) (c : OpenPair) → All AreRising p.segs → next_pair p settled averages ≡ Some c
      → is_fork (question p.segs (all_segments p) (all_terms p) target) c.seg (ahead c) (behind c) ≡ true
  next_forks target c rising e =
      let is = each_at IsForkable (open_pairs p settled averages) c (open_forkable rising) (first_among (λ (c : OpenPair). neg_ℤ (pos (doubt p c))) (open_pairs p settled averages) c e) in
      by_swap (is_swapped c) is.0 is.1.0 is.1.1 is.1.2
    where
      four : (s t u v : Bool) → s ≡ true → t ≡ true → u ≡ true → v ≡ false → (s && (t && (u && not v))) ≡ true
      four true true true false a b c d = refl
      four false t u v a b c d = absurd (true≢false (sym a))
      four true false u v a b c d = absurd (true≢false (sym b))
      four true true false v a b c d = absurd (true≢false (sym c))
      four true true true true a b c d = absurd (true≢false d)

      by_swap : (t : Bool) → is_in (all_segments p) c.seg ≡ true → is_placed (lines_on p.segs c.seg) c.average.lesser ≡ true → is_placed (lines_on p.segs c.seg) c.average.greater ≡ true
          → (c.average.lesser.0 == c.average.greater.0) ≡ false
          → is_fork (question p.segs (all_segments p) (all_terms p) target) c.seg (cond t c.average.greater c.average.lesser) (cond t c.average.lesser c.average.greater) ≡ true
      by_swap true s l g d =
          four (is_in (all_segments p) c.seg) (has_line (lines_on p.segs c.seg) c.average.greater) (has_line (lines_on p.segs c.seg) c.average.lesser) (c.average.greater.0 == c.average.lesser.0) s g l
          (turned c.average.lesser.0 c.average.greater.0 d)
      by_swap false s l g d =
          four (is_in (all_segments p) c.seg) (has_line (lines_on p.segs c.seg) c.average.lesser) (has_line (lines_on p.segs c.seg) c.average.greater) (c.average.lesser.0 == c.average.greater.0) s l g d

  -- Where none is open.

  none_least : {A : Type 0} (value : A → ℤ) (xs : List A) → first_least value xs ≡ None → xs ≡ []
  none_least value [] e = refl
  none_least value (x ∷ xs) e = absurd (some_none (first_of value x (first_least value xs)) e)
    where
      some_none : {A : Type 0} (y : A) → Some y ≡ None → ⊥
      some_none y e = cc

  cons_none : {A : Type 0} (x : A) (xs : List A) → x ∷ xs ≡ [] → ⊥
  cons_none x xs e = cc

  left_none : {A : Type 0} (xs ys : List A) → xs ++ ys ≡ [] → (xs ≡ []) × (ys ≡ [])
  left_none [] ys e = (refl, e)
  left_none (x ∷ xs) ys e = absurd (cons_none x (xs ++ ys) e)

  flat_none : (f : SegId → List OpenPair) (k : ℕ) (segs : List (List LineId)) → flat_map f (segments_from k segs) ≡ [] → (i : ℕ) → i < length segs → f (seg_number (k + i)) ≡ []
  flat_none f k [] e i below = absurd (omega (arith, below))
  flat_none f k (l ∷ segs) e zero below = ap (λ n. f (seg_number n)) (none k) ∙ (left_none (f (seg_number k)) (flat_map f (segments_from (k + 1) segs)) e).0
    where
      none : (k : ℕ) → k + 0 ≡ k
      none k = omega (arith)
  flat_none f k (l ∷ segs) e (suc i) below =
      ap (λ n. f (seg_number n)) (next k i) ∙ flat_none f (k + 1) segs (left_none (f (seg_number k)) (flat_map f (segments_from (k + 1) segs)) e).1 i (omega (arith, below))
    where
      next : (k i : ℕ) → k + suc i ≡ (k + 1) + i
      next k i = omega (arith)

  map_none : (f : PairAverage → OpenPair) (xs : List PairAverage) → map f xs ≡ [] → xs ≡ []
  map_none f [] e = refl
  map_none f (x ∷ xs) e = absurd (cons_none (f x) (map f xs) e)

  filter_none : (t : PairAverage → Bool) (xs : List PairAverage) → filter (λ x. not (t x)) xs ≡ [] → AllByRecursion (λ x. t x ≡ true) xs
  filter_none t [] e = tt
  filter_none t (x ∷ xs) e = by_test (t x) refl e (λ g. filter_none t xs g)
    where
      by_test : (b : Bool) → t x ≡ b → cond (not b) (x ∷ filter (λ x. not (t x)) xs) (filter (λ x. not (t x)) xs) ≡ [] → (filter (λ x. not (t x)) xs ≡ [] → AllByRecursion (λ x. t x ≡ true) xs)
          → (t x ≡ true) × AllByRecursion (λ x. t x ≡ true) xs
      by_test true e g rest = (e, rest g)
      by_test false e g rest = absurd (cons_none x (filter (λ x. not (t x)) xs) g)

  pub none_open : next_pair p settled averages ≡ None → (i : ℕ) → i < length p.segs → AreSettled (settled_on settled (seg_number i)) (get_or p.segs i [])
  none_open e i below =
      let none = none_least (λ (c : OpenPair). neg_ℤ (pos (doubt p c))) (open_pairs p settled averages) e in
      let here : open_on settled averages (seg_number i) ≡ [] = ap (λ n. open_on settled averages (seg_number n)) (from_none i) ∙ flat_none (open_on settled averages) 0 p.segs none i below in
      let few = map_none (open_pair (seg_number i)) (filter (λ (x : PairAverage). not (is_settled (settled_on settled (seg_number i)) x.lesser x.greater)) (get_or averages i [])) here in
      let each = filter_none (λ (x : PairAverage). is_settled (settled_on settled (seg_number i)) x.lesser x.greater) (get_or averages i []) few in
      all_settled (settled_on settled (seg_number i)) (get_or p.segs i [])
      (transfer (λ (q : LineId × LineId). is_settled (settled_on settled (seg_number i)) q.0 q.1 ≡ true) (get_or averages i []) (never_all (get_or p.segs i [])) (pairs i below) each)
    where
      from_none : (i : ℕ) → i ≡ 0 + i
      from_none i = omega (arith)

-- the averages of a segment are of two different lines of it
pub pairs_of_lines : (p : ProblemParts) (averages : List (List PairAverage)) (i : ℕ) → All AreRising p.segs → ArePairs p averages → i < length p.segs
    → AllByRecursion (λ x. ArePair (get_or p.segs i []) (pair_of x)) (get_or averages i [])
pairs_of_lines p averages i rising h below =
    transfer (ArePair (get_or p.segs i [])) (never_all (get_or p.segs i [])) (get_or averages i []) (sym (h i below))
    (never_pairs (get_or p.segs i []) (order_distinct (get_or p.segs i []) (get_or p.segs i []) (rising_at p.segs i rising) (IsPermutation-refl (get_or p.segs i []))))
