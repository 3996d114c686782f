-- The attempts of a group, one after another, and groups after groups.
use Rattle.std.proofs.Common.{◌≡◌, refl, sym, ◌∙◌, ap, ap₂, subst, ℕ, zero, suc, ◌+◌, ◌-◌, ◌*◌, ◌/◌, ◌%◌, ◌<◌, ◌≤◌, Bool, true, false, cond, eqb, nat_le, nat_lt, List, [], ◌∷◌, ◌++◌, length, drop, get_or, Option, Some, None, ◌⊎◌, inl, inr, arith}
use Rattle.drawing_search.proofs.Common.{after_tries, after_try, attempt_by, attempted_on, attempts_by, attempts_in}
use Rattle.drawing_search.proofs.Common.{attempts_of_length, cases_lt, direction, drop_all, drop_more, flat_map}
use Rattle.drawing_search.proofs.Common.{if_below, le-leb, leb-false, lt-leb, ltb-true, ne_eqb, range_with_len}
use Rattle.drawing_search.proofs.Common.{sketch_weight, tried, with_tried, without, All, AreApart, Attempt, CameOf}
use Rattle.drawing_search.proofs.Common.{Chain, Dir, GraphParts, GridPoint, Group, IsFitting, IsLifted, IsSettled}
use Rattle.drawing_search.proofs.Common.{IsTaken, IsTriedFrom, Lifted, NodeId, Scale, Sketch, Tried, Vector}
use Rattle.drawing_search.proofs.AttemptCases.{lifted_alike}
use Rattle.drawing_search.proofs.Lifts.{group_of, IsGroup}
use Rattle.octi_grid.specs.declared.dir.Dir.TheVariants as dir

-- ---- the attempts of a group, by their numbers

abbrev by_vector : List NodeId → List Chain → ℕ → ℕ → Attempt
by_vector nodes runs lo i = record { nodes = nodes; dir = direction (i % 8); count = 2 * (lo + i / 8 + 1); runs = runs }

one_of_eight : (nodes : List NodeId) (runs : List Chain) (count : ℕ) (rest : List Attempt) (d : Attempt) (i : ℕ) → i < 8 → get_or (attempts_of_length nodes runs count ++ rest) i d ≡ record { nodes = nodes; dir = direction i; count = count; runs = runs }
one_of_eight nodes runs count rest d zero h = refl
one_of_eight nodes runs count rest d (suc zero) h = refl
one_of_eight nodes runs count rest d (suc (suc zero)) h = refl
one_of_eight nodes runs count rest d (suc (suc (suc zero))) h = refl
one_of_eight nodes runs count rest d (suc (suc (suc (suc zero)))) h = refl
one_of_eight nodes runs count rest d (suc (suc (suc (suc (suc zero))))) h = refl
one_of_eight nodes runs count rest d (suc (suc (suc (suc (suc (suc zero)))))) h = refl
one_of_eight nodes runs count rest d (suc (suc (suc (suc (suc (suc (suc zero))))))) h = refl
one_of_eight nodes runs count rest d (suc (suc (suc (suc (suc (suc (suc (suc i)))))))) h = absurd (omega (arith, h))

vector_at : (nodes : List NodeId) (runs : List Chain) (d : Attempt) (lo n i : ℕ) → i < 8 * n → get_or (flat_map (λ k. attempts_of_length nodes runs (2 * (k + 1))) (range_with_len lo n)) i d ≡ by_vector nodes runs lo i
vector_at nodes runs d lo zero i h = absurd (omega (arith, h))
vector_at nodes runs d lo (suc n) i h = by_order (λ less. vector_at nodes runs d (lo + 1) n (i - 8) less) (cases_lt i 8)
  where
    rest : List Attempt
    rest = flat_map (λ k. attempts_of_length nodes runs (2 * (k + 1))) (range_with_len (lo + 1) n)

    by_order : (i - 8 < 8 * n → get_or rest (i - 8) d ≡ by_vector nodes runs (lo + 1) (i - 8)) → (i < 8) ⊎ (8 ≤ i) → get_or (attempts_of_length nodes runs (2 * (lo + 1)) ++ rest) i d ≡ by_vector nodes runs lo i
    by_order next (inl less) =
        let same : i ≡ i % 8 = omega (arith, less) in
        let far : 2 * (lo + 1) ≡ 2 * (lo + i / 8 + 1) = omega (arith, less) in
        one_of_eight nodes runs (2 * (lo + 1)) rest d i less ∙ ap₂ (λ m c. (let a : Attempt = record { nodes = nodes; dir = direction m; count = c; runs = runs } in a)) same far
    by_order next (inr more) =
        let shift : i ≡ suc (suc (suc (suc (suc (suc (suc (suc (i - 8)))))))) = omega (arith, more) in
        let same : (i - 8) % 8 ≡ i % 8 = omega (arith, more) in
        let far : 2 * (lo + 1 + (i - 8) / 8 + 1) ≡ 2 * (lo + i / 8 + 1) = omega (arith, more) in
        ap (λ m. get_or (attempts_of_length nodes runs (2 * (lo + 1)) ++ rest) m d) shift
        ∙ next (omega (arith, h, more))
        ∙ ap₂ (λ m c. (let a : Attempt = record { nodes = nodes; dir = direction m; count = c; runs = runs } in a)) same far

vectors_many : (nodes : List NodeId) (runs : List Chain) (lo n : ℕ) → length (flat_map (λ k. attempts_of_length nodes runs (2 * (k + 1))) (range_with_len lo n)) ≡ 8 * n
vectors_many nodes runs lo zero = refl
vectors_many nodes runs lo (suc n) = let rest = vectors_many nodes runs (lo + 1) n in omega (arith, rest)

abbrev attempts_with : ℕ → List NodeId → List Chain → List Attempt
attempts_with n nodes runs = cond (eqb n 0) (record { nodes = nodes; dir = dir.N; count = 0; runs = runs } ∷ []) (attempts_by n nodes runs)

with_many : (n : ℕ) (nodes : List NodeId) (runs : List Chain) → length (attempts_with n nodes runs) ≡ cond (eqb n 0) 1 (8 * n)
with_many zero nodes runs = refl
with_many (suc n) nodes runs =
    let no : eqb (suc n) 0 ≡ false = ne_eqb (suc n) 0 (λ e. absurd (omega (arith, e))) in
    ap (λ b. length (cond b (record { nodes = nodes; dir = dir.N; count = 0; runs = runs } ∷ []) (attempts_by (suc n) nodes runs))) no
    ∙ vectors_many nodes runs 0 (suc n)
    ∙ sym (ap (λ b. cond b 1 (8 * suc n)) no)

with_at : (n : ℕ) (nodes : List NodeId) (runs : List Chain) (i : ℕ) (d : Attempt) → i < cond (eqb n 0) 1 (8 * n)
    → get_or (attempts_with n nodes runs) i d ≡ record { nodes = nodes; dir = direction (i % 8); count = cond (eqb n 0) 0 (2 * (i / 8 + 1)); runs = runs }
with_at zero nodes runs zero d h = refl
with_at zero nodes runs (suc i) d h = absurd (omega (arith, h))
with_at (suc n) nodes runs i d h =
    let no : eqb (suc n) 0 ≡ false = ne_eqb (suc n) 0 (λ e. absurd (omega (arith, e))) in
    let far : 2 * (0 + i / 8 + 1) ≡ 2 * (i / 8 + 1) = omega arith in
    ap (λ b. get_or (cond b (record { nodes = nodes; dir = dir.N; count = 0; runs = runs } ∷ []) (attempts_by (suc n) nodes runs)) i d) no
    ∙ vector_at nodes runs d 0 (suc n) i (subst (λ b. i < cond b 1 (8 * suc n)) no h)
    ∙ ap (λ c. (let a : Attempt = record { nodes = nodes; dir = direction (i % 8); count = c; runs = runs } in a)) (far ∙ sym (ap (λ b. cond b 0 (2 * (i / 8 + 1))) no))

pub attempts_many : (g : Group) → length (attempts_in g) ≡ cond (eqb g.lengths 0) 1 (8 * g.lengths)
attempts_many g = with_many g.lengths g.nodes g.runs

pub attempt_at : (g : Group) (i : ℕ) (d : Attempt) (v : Vector) → i < cond (eqb g.lengths 0) 1 (8 * g.lengths) → v.dir ≡ direction (i % 8) → v.count ≡ cond (eqb g.lengths 0) 0 (2 * (i / 8 + 1)) → get_or (attempts_in g) i d ≡ attempt_by g v
attempt_at g i d v h dir_is count_is =
    with_at g.lengths g.nodes g.runs i d h ∙ ap₂ (λ (e : Dir) c. (let a : Attempt = record { nodes = g.nodes; dir = e; count = c; runs = g.runs } in a)) (sym dir_is) (sym count_is)

-- ---- what attempts leave

module _ (scale : Scale) (graph : GraphParts) (first : List GridPoint) where
  -- an attempt that is made leaves less weight, and is counted
  pub record IsAfter (most : ℕ) (f new : Tried) : Type 0 where
    pub lighter : sketch_weight scale graph first new.sketch ≤ sketch_weight scale graph first f.sketch
    pub more : f.made ≤ new.made
    pub few : new.made ≤ most
    pub same : new.made ≡ f.made → new ≡ f

  one_after : (most : ℕ) (f : Tried) (a : Attempt) → f.made ≤ most → IsAfter most f (after_try scale graph first most f a)
  one_after most f a few = by_test (nat_le most f.made) refl
    where
      by_new : (o : Option Sketch) → if_below (sketch_weight scale graph first) (sketch_weight scale graph first f.sketch) (attempted_on graph (without graph f.sketch a) a) ≡ o → f.made < most → IsAfter most f (with_tried f o)
      by_new None e room = record { lighter = omega arith; more = omega arith; few = few; same = λ s. refl }
      by_new (Some k) e room = record { lighter = lighter (attempted_on graph (without graph f.sketch a) a) e; more = omega arith; few = omega (arith, room); same = λ s. absurd (omega (arith, s)) }
        where
          lighter : (o : Option Sketch) → if_below (sketch_weight scale graph first) (sketch_weight scale graph first f.sketch) o ≡ Some k → sketch_weight scale graph first k ≤ sketch_weight scale graph first f.sketch
          lighter None g = cc
          lighter (Some j) g = by_less (nat_lt (sketch_weight scale graph first j) (sketch_weight scale graph first f.sketch)) refl g
            where
              by_less : (b : Bool) → nat_lt (sketch_weight scale graph first j) (sketch_weight scale graph first f.sketch) ≡ b → cond b (Some j) None ≡ Some k → sketch_weight scale graph first k ≤ sketch_weight scale graph first f.sketch
              by_less true is x =
                  let one : j ≡ k = cc in
                  let less = ltb-true (sketch_weight scale graph first j) (sketch_weight scale graph first f.sketch) is in
                  omega (arith, less, ap (sketch_weight scale graph first) one)
              by_less false is x = cc

      by_test : (b : Bool) → nat_le most f.made ≡ b → IsAfter most f (cond b f (with_tried f (tried scale graph first f.sketch a)))
      by_test true e = record { lighter = omega arith; more = omega arith; few = few; same = λ s. refl }
      by_test false e = by_new (tried scale graph first f.sketch a) refl (below e)
        where
          below : nat_le most f.made ≡ false → f.made < most
          below e = leb-false most f.made e

  pub tries_after : (most : ℕ) (more : List Attempt) (f : Tried) → f.made ≤ most → IsAfter most f (after_tries scale graph first most more f)
  tries_after most [] f few = record { lighter = omega arith; more = omega arith; few = few; same = λ s. refl }
  tries_after most (a ∷ more) f few =
      let one = one_after most f a few in
      let rest = tries_after most more (after_try scale graph first most f a) one.few in
      record {
        lighter = omega (arith, one.lighter, rest.lighter);
        more = omega (arith, one.more, rest.more);
        few = rest.few;
        same = λ s. rest.same (omega (arith, s, one.more, rest.more)) ∙ one.same (omega (arith, s, one.more, rest.more));
      }

  -- what its attempts change was taken off a drawing, from which those that are left come to what all of them come to
  pub record IsTrying (g : Group) (most : ℕ) (start : Tried) (i : ℕ) (k : Sketch) (weight made : ℕ) (l : Lifted) : Type 0 where
    pub whole : Sketch
    pub settled : IsSettled scale graph first whole weight
    pub lifted : IsLifted scale graph first g whole k l
    pub rest : after_tries scale graph first most (drop i (attempts_in g)) (record { sketch = whole; made = made }) ≡ after_tries scale graph first most (attempts_in g) start
    pub few : made ≤ most

  module _ (g : Group) (most : ℕ) (start : Tried) (i : ℕ) (k : Sketch) (weight made : ℕ) (l : Lifted) (t : IsTrying g most start i k weight made l) where
    abbrev now : Tried
    now = record { sketch = t.whole; made = made }

    pub all_tried : length (attempts_in g) ≤ i → now ≡ after_tries scale graph first most (attempts_in g) start
    all_tried past = ap (λ (more : List Attempt). after_tries scale graph first most more now) (sym (drop_all i (attempts_in g) past)) ∙ t.rest

    -- the next attempt was made, or not
    pub one_more : (v : Vector) → i < length (attempts_in g) → get_or (attempts_in g) i (attempt_by g v) ≡ attempt_by g v → (new : Sketch) (less more : ℕ) (m : Lifted) → IsTriedFrom scale graph first g most v t.whole made new less more m
        → IsTrying g most start (i + 1) new less more m
    one_more v below is new less more m h = record {
      whole = h.next;
      settled = h.taken.settled;
      lifted = h.taken.lifted;
      rest = ap (after_tries scale graph first most (drop (i + 1) (attempts_in g))) h.is
          ∙ ap (λ (a : Attempt). after_tries scale graph first most (drop (i + 1) (attempts_in g)) (after_try scale graph first most now a)) (sym is)
          ∙ ap (λ (rest : List Attempt). after_tries scale graph first most rest now) (sym (drop_more (attempts_in g) i (attempt_by g v) below))
          ∙ t.rest;
      few = h.taken.few;
    }

-- ---- one attempt, from a whole drawing

module _ (scale : Scale) (graph : GraphParts) (first : List GridPoint) (g : Group) (most : ℕ) (v : Vector) (whole k : Sketch) (weight made : ℕ) (l : Lifted) (taken : IsTaken scale graph first g most whole k weight made l) where
  abbrev before : Tried
  before = record { sketch = whole; made = made }

  -- so many were made before
  pub tried_full : made ≡ most → IsTriedFrom scale graph first g most v whole made k weight made l
  tried_full full = record { next = whole; taken = taken; is = sym (ap (λ b. cond b before (with_tried before (tried scale graph first whole (attempt_by g v)))) (le-leb most made (omega (arith, full)))) }

  -- it was not made
  pub tried_none : made < most → (new : Sketch) (less count : ℕ) → less ≡ weight → count ≡ made → CameOf scale graph first g v whole k new None → IsTriedFrom scale graph first g most v whole made new less count l
  tried_none room new less count weight_is made_is came =
      subst (λ n. IsTriedFrom scale graph first g most v whole made new n count l) (sym weight_is)
      (subst (λ n. IsTriedFrom scale graph first g most v whole made new weight n l) (sym made_is)
      (record {
        next = whole;
        taken = record { settled = taken.settled; lifted = lifted_alike scale graph first g whole new k l came.1 taken.lifted; few = taken.few };
        is = sym (ap (λ b. cond b before (with_tried before (tried scale graph first whole (attempt_by g v)))) (lt-leb most made room) ∙ ap (with_tried before) came.0);
      }))

  -- or it was
  pub tried_some : made < most → (new : Sketch) (less count : ℕ) → count ≡ made → CameOf scale graph first g v whole k new (Some less) → (off : Sketch) (m : Lifted) → IsLifted scale graph first g new off m → IsTriedFrom scale graph first g most v whole made off less (count + 1) m
  tried_some room new less count made_is came off m lifted =
      subst (λ n. IsTriedFrom scale graph first g most v whole made off less (n + 1) m) (sym made_is)
      (record {
        next = new;
        taken = record { settled = came.1; lifted = lifted; few = omega (arith, room) };
        is = sym (ap (λ b. cond b before (with_tried before (tried scale graph first whole (attempt_by g v)))) (lt-leb most made room) ∙ ap (with_tried before) came.0);
      })

-- ---- a group of attempts that fit the graph is one whose runs and nodes can be taken off

some_tried : (n : ℕ) → 0 < cond (eqb n 0) 1 (8 * n)
some_tried zero = omega arith
some_tried (suc n) = subst (λ b. 0 < cond b 1 (8 * suc n)) (sym (ne_eqb (suc n) 0 (λ e. absurd (omega (arith, e))))) (omega arith)

pub group_is : (graph : GraphParts) (g : Group) → All (IsFitting graph) (attempts_in g) → AreApart g.nodes → IsGroup graph g.nodes g.runs
group_is graph g fits apart = group_of graph (attempt_by g v) (subst (IsFitting graph) (attempt_at g 0 (attempt_by g v) v (some_tried g.lengths) refl refl) (fits 0 (attempt_by g v) many)) apart
  where
    v : Vector
    v = record { dir = direction (0 % 8); count = cond (eqb g.lengths 0) 0 (2 * (0 / 8 + 1)) }

    many : 0 < length (attempts_in g)
    many = subst (λ n. 0 < n) (sym (attempts_many g)) (some_tried g.lengths)
