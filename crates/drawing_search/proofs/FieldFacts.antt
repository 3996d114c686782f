-- What the joined pairs of a field are.
use Rattle.std.proofs.Common.{◌≡◌, refl, sym, ◌∙◌, ap, subst, ℕ, ◌+◌, ◌*◌, ◌<◌, ◌≤◌, Bool, true, false, cond, List, [], ◌∷◌, length, map, drop, get_or, Contains, inl, inr, arith, length-drop, ◌⊎◌, zero, suc, eqb, ◌&&◌, ◌||◌, ◌++◌, append_assoc}
use Rattle.std.proofs.Math.ListN.{get_or-map}
use Rattle.graph_core.specs.declared.parts.Join.{Join}
use Rattle.drawing_search.specs.declared.gains.Field.{Field}
use Rattle.drawing_search.proofs.Common.{all_in, and_from, and_parts, any_at, any_from, cases_Bool, drop_more, eq-eqb}
use Rattle.drawing_search.proofs.Common.{eqb-true, in_at, join_same, joined_pairs, length-map, list_any, lt-ltb}
use Rattle.drawing_search.proofs.Common.{mul-le-mul_left, nat_lt, nat_tests, pairs_at, round_within, same_as_next}
use Rattle.drawing_search.proofs.Common.{step_gain, steps_gain, true≢false, vec_items, AreSorted, ChainStep, GraphParts}
use Rattle.drawing_search.proofs.Common.{GridPoint, In, IsBefore, IsConsistent, IsField, IsJoin, MeetAlone, NodeId}
use Rattle.drawing_search.proofs.Common.{Scale, SegId, Sketch}
use Rattle.drawing_search.proofs.Takable.{in_from}

-- the pair of the one join is no later than that of another
abbrev IsUpTo : Join → Join → Type 0
IsUpTo a b = (a.e.0 < b.e.0) ⊎ ((a.e.0 ≡ b.e.0) × (a.f.0 ≤ b.f.0))

before_upto : (a b : Join) → IsBefore a b → IsUpTo a b
before_upto a b (inl h) = inl h
before_upto a b (inr (e, inl h)) = inr (e, omega arith)
before_upto a b (inr (e, inr (f, h))) = inr (e, omega arith)

upto_on : (a b c : Join) → IsUpTo a b → IsUpTo b c → IsUpTo a c
upto_on a b c (inl h) (inl k) = inl (omega arith)
upto_on a b c (inl h) (inr (e, k)) = inl (omega arith)
upto_on a b c (inr (e, h)) (inl k) = inl (omega arith)
upto_on a b c (inr (e, h)) (inr (f, k)) = inr (omega arith, omega arith)

later_upto : (j : Join) (js : List Join) → AreSorted (j ∷ js) → (k : Join) → In k js → IsUpTo j k
later_upto j [] s k m = absurd m
later_upto j (i ∷ is) s k (inl e) = subst (IsUpTo j) (sym e) (before_upto j i s.0)
later_upto j (i ∷ is) s k (inr m) = upto_on j i k (before_upto j i s.0) (later_upto i is s.1 k m)

sorted_rest : (j : Join) (js : List Join) → AreSorted (j ∷ js) → AreSorted js
sorted_rest j [] s = tt
sorted_rest j (i ∷ is) s = s.1

pub sorted_drop : (i : ℕ) (js : List Join) → AreSorted js → AreSorted (drop i js)
sorted_drop zero js s = s
sorted_drop (suc i) [] s = tt
sorted_drop (suc i) (j ∷ js) s = sorted_drop i js (sorted_rest j js s)

-- ---- joins of one pair are neighbours

eqb_turned : (a b : ℕ) → eqb a b ≡ eqb b a
eqb_turned a b = grind (arith, nat_tests)

-- a join between two of one pair has that too
between_same : (j i k : Join) → IsUpTo j i → IsUpTo i k → join_same j k ≡ true → join_same j i ≡ true
between_same j i k low up same =
    let parts = and_parts (eqb j.e.0 k.e.0) (eqb j.f.0 k.f.0) same in
    by_order low up (eqb-true j.e.0 k.e.0 parts.0) (eqb-true j.f.0 k.f.0 parts.1)
  where
    by_order : IsUpTo j i → IsUpTo i k → j.e.0 ≡ k.e.0 → j.f.0 ≡ k.f.0 → join_same j i ≡ true
    by_order (inl h) (inl m) e f = absurd (omega arith)
    by_order (inl h) (inr (g, m)) e f = absurd (omega arith)
    by_order (inr (d, h)) (inl m) e f = absurd (omega arith)
    by_order (inr (d, h)) (inr (g, m)) e f = and_from (eqb j.e.0 i.e.0) (eqb j.f.0 i.f.0) (eq-eqb j.e.0 i.e.0 d) (eq-eqb j.f.0 i.f.0 (omega arith))

pub same_next : (j : Join) (js : List Join) → AreSorted (j ∷ js) → list_any (join_same j) js ≡ same_as_next j js
same_next j [] s = refl
same_next j (i ∷ is) s =
    by_test (cases_Bool (join_same j i))
    ∙ ap (λ b. b && eqb j.f.0 i.f.0) (eqb_turned j.e.0 i.e.0)
    ∙ ap (λ b. eqb i.e.0 j.e.0 && b) (eqb_turned j.f.0 i.f.0)
  where
    none : join_same j i ≡ false → (list_any (join_same j) is ≡ true) ⊎ (list_any (join_same j) is ≡ false) → list_any (join_same j) is ≡ false
    none f (inl e) =
        let found = any_at (join_same j) is e in
        absurd (true≢false (sym (between_same j i found.0 (before_upto j i s.0) (later_upto i is s.1 found.0 found.1) found.2) ∙ f))
    none f (inr e) = e

    by_test : (join_same j i ≡ true) ⊎ (join_same j i ≡ false) → (join_same j i || list_any (join_same j) is) ≡ join_same j i
    by_test (inl e) = ap (λ b. b || list_any (join_same j) is) e ∙ sym e
    by_test (inr f) = ap (λ b. join_same j i || b) (none f (cases_Bool (list_any (join_same j) is))) ∙ ap (λ b. b || false) f ∙ sym f

-- the number of a pair of segments
abbrev code : SegId × SegId → ℕ
code p = p.0.0 * 20000 + p.1.0

abbrev join_code : Join → ℕ
join_code j = j.e.0 * 20000 + j.f.0

-- the numbers rise strictly, from one on
abbrev AreRisingFrom : ℕ → List (SegId × SegId) → Type 0
AreRisingFrom low [] = Unit {0}
AreRisingFrom low (p ∷ ps) = (low ≤ code p) × (code p < 400000000) × AreRisingFrom (code p + 1) ps

few_rising : (low : ℕ) (ps : List (SegId × SegId)) → low ≤ 400000000 → AreRisingFrom low ps → low + length ps ≤ 400000000
few_rising low [] h r = omega arith
few_rising low (p ∷ ps) h r = let rest = few_rising (code p + 1) ps (omega (arith, r.1)) r.2 in omega (arith, rest, r.0)

-- the segments of joins are among so many
abbrev pub AreBelow : List Join → Type 0
AreBelow js = (j : Join) → In j js → (j.e.0 < 20000) × (j.f.0 < 20000)

apart_code : (a b : Join) → IsUpTo a b → a.f.0 < 20000 → join_same a b ≡ false → join_code a < join_code b
apart_code a b (inl h) f e = omega arith
apart_code a b (inr (g, h)) f e = by_last (cases_Bool (eqb a.f.0 b.f.0))
  where
    by_last : (eqb a.f.0 b.f.0 ≡ true) ⊎ (eqb a.f.0 b.f.0 ≡ false) → join_code a < join_code b
    by_last (inl same) = absurd (true≢false (sym (and_from (eqb a.e.0 b.e.0) (eqb a.f.0 b.f.0) (eq-eqb a.e.0 b.e.0 g) same) ∙ e))
    by_last (inr differ) = grind (arith, nat_tests)

rising : (js : List Join) → AreSorted js → AreBelow js → (low : ℕ) → ((k : Join) → In k js → low ≤ join_code k) → AreRisingFrom low (joined_pairs js)
rising [] s below low from = tt
rising (j ∷ js) s below low from = by_test (λ bound h. rising js (sorted_rest j js s) (λ k m. below k (inr m)) bound h) (list_any (join_same j) js) refl
  where
    past : list_any (join_same j) js ≡ false → (k : Join) → In k js → join_code j + 1 ≤ join_code k
    past f k m = omega (arith, apart_code j k (later_upto j js s k m) (below j (inl refl)).1 (differ (cases_Bool (join_same j k))))
      where
        differ : (join_same j k ≡ true) ⊎ (join_same j k ≡ false) → join_same j k ≡ false
        differ (inl e) = absurd (true≢false (sym (any_from (join_same j) js k m e) ∙ f))
        differ (inr e) = e

    by_test : ((bound : ℕ) → ((k : Join) → In k js → bound ≤ join_code k) → AreRisingFrom bound (joined_pairs js)) → (b : Bool) → list_any (join_same j) js ≡ b → AreRisingFrom low (cond b (joined_pairs js) ((j.e, j.f) ∷ joined_pairs js))
    by_test rest true e = rest low (λ k m. from k (inr m))
    by_test rest false e = (from j (inl refl), omega (arith, below j (inl refl)), rest (join_code j + 1) (past e))

pub few_pairs : (js : List Join) → AreSorted js → AreBelow js → length (joined_pairs js) ≤ 400000000
few_pairs js s below = let few = few_rising 0 (joined_pairs js) (omega arith) (rising js s below 0 (λ k m. omega arith)) in omega (arith, few)

-- one join more
pub pairs_more : (joins : List Join) (i : ℕ) (d j : Join) (f : Bool) (pairs new : List (SegId × SegId)) → i < length joins → AreSorted joins → j ≡ get_or joins i d → f ≡ same_as_next (get_or joins i d) (drop (i + 1) joins)
    → new ≡ cond f pairs (pairs ++ (j.e, j.f) ∷ []) → new ++ joined_pairs (drop (i + 1) joins) ≡ pairs ++ joined_pairs (drop i joins)
pairs_more joins i d j f pairs new h s is follows new_is =
    ap (λ (v : List (SegId × SegId)). v ++ joined_pairs rest) new_is
    ∙ by_test f
    ∙ ap (λ (k : Join). pairs ++ cond f (joined_pairs rest) ((k.e, k.f) ∷ joined_pairs rest)) is
    ∙ ap (λ b. pairs ++ cond b (joined_pairs rest) (((get_or joins i d).e, (get_or joins i d).f) ∷ joined_pairs rest)) (follows ∙ sym (same_next (get_or joins i d) rest (subst AreSorted here (sorted_drop i joins s))))
    ∙ ap (λ (v : List Join). pairs ++ joined_pairs v) (sym here)
  where
    rest : List Join
    rest = drop (i + 1) joins

    here : drop i joins ≡ get_or joins i d ∷ drop (i + 1) joins
    here = drop_more joins i d h

    by_test : (b : Bool) → cond b pairs (pairs ++ (j.e, j.f) ∷ []) ++ joined_pairs rest ≡ pairs ++ cond b (joined_pairs rest) ((j.e, j.f) ∷ joined_pairs rest)
    by_test true = refl
    by_test false = append_assoc pairs ((j.e, j.f) ∷ []) (joined_pairs rest)

-- a pair comes of a join
pub of_join : (js : List Join) (p : SegId × SegId) → In p (joined_pairs js) → (j : Join) × In j js × (p ≡ (j.e, j.f))
of_join [] p m = absurd m
of_join (j ∷ js) p m = by_test (λ k. of_join js p k) (list_any (join_same j) js) m
  where
    later : (i : Join) × In i js × (p ≡ (i.e, i.f)) → (i : Join) × In i (j ∷ js) × (p ≡ (i.e, i.f))
    later found = (found.0, inr found.1, found.2)

    by_test : (In p (joined_pairs js) → (i : Join) × In i js × (p ≡ (i.e, i.f))) → (b : Bool) → In p (cond b (joined_pairs js) ((j.e, j.f) ∷ joined_pairs js)) → (i : Join) × In i (j ∷ js) × (p ≡ (i.e, i.f))
    by_test rest true k = later (rest k)
    by_test rest false (inl e) = (j, inl refl, e)
    by_test rest false (inr k) = later (rest k)

-- a pair at a node: two segments of its round, the lesser first
pub record IsJoined (graph : GraphParts) (n : ℕ) (p : SegId × SegId) : Type 0 where
  pub order : p.0.0 < p.1.0
  pub lesser : In p.0 (get_or graph.rounds n [])
  pub greater : In p.1 (get_or graph.rounds n [])

pub pair_joined : (graph : GraphParts) → IsConsistent graph → (n : ℕ) → n < length graph.kinds → (p : SegId × SegId) → In p (pairs_at graph n) → IsJoined graph n p
pair_joined graph fit n node p m =
    let found = of_join (get_or graph.joins n []) p m in
    let is : IsJoin graph.lines (get_or graph.rounds n []) found.0 = all_in (IsJoin graph.lines (get_or graph.rounds n [])) (get_or graph.joins n []) found.0 (fit.joins n (omega (arith, node, fit.joins_each))) found.1 in
    subst (IsJoined graph n) (sym found.2)
    (record { order = is.order; lesser = in_from (get_or graph.rounds n []) found.0.e is.lesser; greater = in_from (get_or graph.rounds n []) found.0.f is.greater })

-- a segment at a node at which two meet alone is one of them
pub of_two : (graph : GraphParts) (a : SegId) (m : NodeId) (b : SegId) → MeetAlone graph a m b → (s : SegId) → In s (get_or graph.rounds m.0 []) → (s ≡ a) ⊎ (s ≡ b)
of_two graph a m b alone s i = by_round alone
  where
    which : (p q : SegId) → In s (p ∷ q ∷ []) → (s ≡ p) ⊎ (s ≡ q)
    which p q (inl e) = inl e
    which p q (inr (inl e)) = inr e
    which p q (inr (inr n)) = absurd n

    by_round : MeetAlone graph a m b → (s ≡ a) ⊎ (s ≡ b)
    by_round (inl e) = which a b (subst (λ (v : List SegId). In s v) e i)
    by_round (inr e) = elim (which b a (subst (λ (v : List SegId). In s v) e i)) [ inl f ↦ inr f | inr f ↦ inl f ]

-- segments of a round, by their places
in_round_below : (graph : GraphParts) → IsConsistent graph → (n : ℕ) → n < length graph.kinds → (s : SegId) → Contains (get_or graph.rounds n []) s → s.0 < length graph.ends
in_round_below graph fit n h s c =
    let none : SegId = record { 0 = 0 } in
    subst (λ (t : SegId). t.0 < length graph.ends) c.2 (round_within graph fit n h (get_or graph.rounds n []) refl c.0 s c.1)

module _ (graph : GraphParts) (fit : IsConsistent graph) (n : ℕ) (node : n < length graph.kinds) where
  abbrev here : List Join
  here = get_or graph.joins n []

  join_below : (j : Join) → In j here → (j.e.0 < length graph.ends) × (j.f.0 < length graph.ends)
  join_below j m =
      let is : IsJoin graph.lines (get_or graph.rounds n []) j = all_in (IsJoin graph.lines (get_or graph.rounds n [])) here j (fit.joins n (omega (arith, node, fit.joins_each))) m in
      (in_round_below graph fit n node j.e is.lesser, in_round_below graph fit n node j.f is.greater)

  pub pair_below : (p : SegId × SegId) → In p (pairs_at graph n) → (p.0.0 < length graph.ends) × (p.1.0 < length graph.ends)
  pair_below p m =
      let found = of_join here p m in
      let parts = join_below found.0 found.1 in
      (subst (λ (q : SegId × SegId). q.0.0 < length graph.ends) (sym found.2) parts.0, subst (λ (q : SegId × SegId). q.1.0 < length graph.ends) (sym found.2) parts.1)

  pub pairs_few : length (pairs_at graph n) ≤ 400000000
  pairs_few = few_pairs here (fit.sorted n [] (omega (arith, node, fit.joins_each))) (λ j m. let parts = join_below j m in (omega (arith, parts.0, fit.few_segments), omega (arith, parts.1, fit.few_segments)))

-- the pairs at a node, as they are kept
pub pairs_read : (f : Field) → IsField f → (n : ℕ) → get_or (map vec_items f.pairs.now.held.items) n [] ≡ pairs_at f.graph.now n
pairs_read f fit n = ap (λ (v : List (List (SegId × SegId))). get_or v n []) fit.pairs ∙ get_or-map joined_pairs f.graph.now.joins n []

abbrev pub no_pair : SegId × SegId
no_pair = (record { 0 = 0 }, record { 0 = 0 })

-- there are some for each node, and each joins segments of the graph
pub pairs_held : (f : Field) → IsField f → (n : ℕ) → n < length f.graph.now.kinds → n < length f.pairs.now.held.items
pairs_held f fit n node = omega (arith, ap length fit.pairs, length-map f.pairs.now.held.items vec_items, length-map f.graph.now.joins joined_pairs, fit.graph.joins_each, node)

pub pair_at : (f : Field) → IsField f → (n : ℕ) → n < length f.graph.now.kinds → (ps : List (SegId × SegId)) → ps ≡ get_or (map vec_items f.pairs.now.held.items) n [] → (i : ℕ) → i < length ps
    → ((get_or ps i no_pair).0.0 < length f.graph.now.ends) × ((get_or ps i no_pair).1.0 < length f.graph.now.ends)
pair_at f fit n node ps is i h = pair_below f.graph.now fit.graph n node (get_or ps i no_pair) (subst (λ (v : List (SegId × SegId)). In (get_or ps i no_pair) v) (is ∙ pairs_read f fit n) (in_at ps i no_pair h))

-- so what the turns at a node weigh is small
pub turns_small : (f : Field) → IsField f → (n : ℕ) → n < length f.graph.now.kinds → (ps : List (SegId × SegId)) → ps ≡ get_or (map vec_items f.pairs.now.held.items) n [] → (total i : ℕ) → total ≤ 4 * i → i ≤ length ps → f.by.overs * total ≤ 160000000000
turns_small f fit n node ps is total i small within =
    let few = pairs_few f.graph.now fit.graph n node in
    let each = ap length (is ∙ pairs_read f fit n) in
    let most : total ≤ 1600000000 = omega (arith, small, within, few, each) in
    omega (arith, mul-le-mul_left total fit.overs, most)

-- a step is behind another where there is one
pub one_behind : (ts : List ChainStep) (i : ℕ) → nat_lt (i + 1) (length ts) ≡ nat_lt 0 (length (drop (i + 1) ts))
one_behind ts i = grind (arith, nat_tests, length-drop (i + 1) ts)

pub gain_more : (scale : Scale) (graph : GraphParts) (first : List GridPoint) (k : Sketch) (ts : List ChainStep) (i : ℕ) (d : ChainStep) → i < length ts
    → steps_gain scale graph first k (drop i ts) ≡ step_gain scale graph first k (get_or ts i d) (nat_lt (i + 1) (length ts)) + steps_gain scale graph first k (drop (i + 1) ts)
gain_more scale graph first k ts i d h = ap (steps_gain scale graph first k) (drop_more ts i d h) ∙ by_rest (drop (i + 1) ts) (nat_lt (i + 1) (length ts)) (one_behind ts i)
  where
    by_rest : (rest : List ChainStep) (b : Bool) → b ≡ nat_lt 0 (length rest) → steps_gain scale graph first k (get_or ts i d ∷ rest) ≡ step_gain scale graph first k (get_or ts i d) b + steps_gain scale graph first k rest
    by_rest [] b e = subst (λ c. step_gain scale graph first k (get_or ts i d) false ≡ step_gain scale graph first k (get_or ts i d) c + 0) (sym e) (omega arith)
    by_rest (u ∷ us) b e = ap (λ c. step_gain scale graph first k (get_or ts i d) c + steps_gain scale graph first k (u ∷ us)) (sym (e ∙ lt-ltb 0 (length (u ∷ us)) (omega arith)))
