-- The ports round nodes, with one walk more; and why walks are not legal.
use Rattle.std.proofs.Common.{◌≡◌, ℕ, zero, suc, ◌+◌, ◌<◌, ◌≤◌, Bool, true, false, not, cond, eqb, List, [], ◌∷◌, length, get_or, take, Option, Some, None, sym, refl, ap, subst, ◌∙◌, arith, ◌⊎◌, inl, inr}
use Rattle.std.proofs.lemmas.Bool.{and_parts, and_from, or_cases, false≢true, eqb-true, cases_Bool, cases_eq, cases_lt}
use Rattle.std.proofs.lemmas.List.{length-take}
use Rattle.std.proofs.lemmas.List.Elements.{All-from_recursion}
use Rattle.std.proofs.lemmas.List.Sorted.{All-permutation}
use Rattle.std.specs.List.{cons_option, filter_map, All, AllByRecursion}
use Rattle.map_base.specs.declared.ids.NodeId.{NodeId}
use Rattle.map_base.specs.declared.ids.SegId.{SegId}
use Rattle.graph_core.specs.declared.parts.GraphParts.{GraphParts}
use Rattle.graph_core.specs.Consistent.{IsConsistent}
use Rattle.graph_core.specs.Round.{ends_at, segments_at, segments_from}
use Rattle.octi_grid.specs.declared.dir.Dir.{Dir}
use Rattle.octi_grid.specs.declared.drawing.DrawWhy.TheVariants as why
use Rattle.octi_grid.specs.Legal.{are_clockwise, ends_hold, meets_hold, port_of, port_where, ports_from, ports_hold, why_illegal, Leg}
use Rattle.octi_grid.proofs.SweepLemmas.{got_past, got_taken}

-- why walks are not legal, by its three parts
pub why_ends : (rounds : List (List SegId)) (legs : List Leg) → ends_hold legs ≡ false → why_illegal rounds legs ≡ Some why.Ends
why_ends rounds legs e =
    ap (λ b. cond (not b) (Some why.Ends) (cond (not (meets_hold legs)) (Some why.Meets) (cond (not (ports_hold rounds legs)) (Some why.Ports) None))) e

pub why_meets : (rounds : List (List SegId)) (legs : List Leg) → ends_hold legs ≡ true → meets_hold legs ≡ false → why_illegal rounds legs ≡ Some why.Meets
why_meets rounds legs e f =
    ap (λ b. cond (not b) (Some why.Ends) (cond (not (meets_hold legs)) (Some why.Meets) (cond (not (ports_hold rounds legs)) (Some why.Ports) None))) e
    ∙ ap (λ b. cond (not b) (Some why.Meets) (cond (not (ports_hold rounds legs)) (Some why.Ports) None)) f

pub why_ports : (rounds : List (List SegId)) (legs : List Leg) (b : Bool) → ends_hold legs ≡ true → meets_hold legs ≡ true → ports_hold rounds legs ≡ b → why_illegal rounds legs ≡ cond (not b) (Some why.Ports) None
why_ports rounds legs b e f g =
    ap (λ b. cond (not b) (Some why.Ends) (cond (not (meets_hold legs)) (Some why.Meets) (cond (not (ports_hold rounds legs)) (Some why.Ports) None))) e
    ∙ ap (λ b. cond (not b) (Some why.Meets) (cond (not (ports_hold rounds legs)) (Some why.Ports) None)) f
    ∙ ap (λ b. cond (not b) (Some why.Ports) None) g

-- what legal walks are
chosen_none : {X : Type 0} (b : Bool) (x : X) (o : Option X) → cond (not b) (Some x) o ≡ None → (b ≡ true) × (o ≡ None)
chosen_none true x o e = (refl, e)
chosen_none false x o e = cc

pub record AreLegal (rounds : List (List SegId)) (legs : List Leg) : Type 0 where
  pub ends : ends_hold legs ≡ true
  pub meets : meets_hold legs ≡ true
  pub ports : ports_hold rounds legs ≡ true

pub AreLegal-from : (rounds : List (List SegId)) (legs : List Leg) → why_illegal rounds legs ≡ None → AreLegal rounds legs
AreLegal-from rounds legs e =
    let first = chosen_none (ends_hold legs) why.Ends (cond (not (meets_hold legs)) (Some why.Meets) (cond (not (ports_hold rounds legs)) (Some why.Ports) None)) e in
    let second = chosen_none (meets_hold legs) why.Meets (cond (not (ports_hold rounds legs)) (Some why.Ports) None) first.1 in
    let third = chosen_none (ports_hold rounds legs) why.Ports None second.1 in
    record { ends = first.0; meets = second.0; ports = third.0 }

-- the ports of each node
pub ports_at_node : (legs : List Leg) (n : ℕ) (rounds : List (List SegId)) (i : ℕ) → ports_from legs n rounds ≡ true → i < length rounds
    → are_clockwise (filter_map (port_of legs (n + i)) (get_or rounds i [])) ≡ true
ports_at_node legs n [] i e h = absurd (omega arith)
ports_at_node legs n (round ∷ rounds) zero e h =
    let same : n + 0 ≡ n = omega arith in
    ap (λ m. are_clockwise (filter_map (port_of legs m) round)) same ∙ (and_parts _ _ e).0
ports_at_node legs n (round ∷ rounds) (suc i) e h =
    let same : n + suc i ≡ n + 1 + i = omega arith in
    ap (λ m. are_clockwise (filter_map (port_of legs m) (get_or rounds i []))) same ∙ ports_at_node legs (n + 1) rounds i (and_parts _ _ e).1 (omega arith)

pub ports_each : (legs : List Leg) (n : ℕ) (rounds : List (List SegId)) → ((i : ℕ) → i < length rounds → are_clockwise (filter_map (port_of legs (n + i)) (get_or rounds i [])) ≡ true)
    → ports_from legs n rounds ≡ true
ports_each legs n [] f = refl
ports_each legs n (round ∷ rounds) f =
    let same : n ≡ n + 0 = omega arith in
    and_from _ _ (ap (λ m. are_clockwise (filter_map (port_of legs m) round)) same ∙ f 0 (omega arith))
    (ports_each legs (n + 1) rounds (λ i h. let step : n + 1 + i ≡ n + suc i = omega arith in ap (λ m. are_clockwise (filter_map (port_of legs m) (get_or rounds i []))) step ∙ f (suc i) (omega arith)))

-- the segments of a round end at its node
abbrev pub no_ends : NodeId × NodeId
no_ends = (record { 0 = 0 }, record { 0 = 0 })

segments_end : (P : SegId → Type 0) (n i : ℕ) (es : List (NodeId × NodeId)) → ((k : ℕ) → k < length es → ends_at n (get_or es k no_ends) ≡ true → P (record { 0 = i + k })) → AllByRecursion P (segments_from i n es)
segments_end P n i [] f = tt
segments_end P n i (e ∷ es) f =
    by_test (cases_Bool (ends_at n e))
    (segments_end P n (i + 1) es (λ k h t. let step : i + suc k ≡ i + 1 + k = omega arith in subst (λ v. P (record { 0 = v })) step (f (suc k) (omega arith) t)))
  where
    by_test : (ends_at n e ≡ true) ⊎ (ends_at n e ≡ false) → AllByRecursion P (segments_from (i + 1) n es) → AllByRecursion P (segments_from i n (e ∷ es))
    by_test (inl t) rest =
        let step : i + 0 ≡ i = omega arith in
        subst (AllByRecursion P) (sym (ap (λ b. cond b (record { 0 = i } ∷ segments_from (i + 1) n es) (segments_from (i + 1) n es)) t)) (subst (λ v. P (record { 0 = v })) step (f 0 (omega arith) t), rest)
    by_test (inr t) rest = subst (AllByRecursion P) (sym (ap (λ b. cond b (record { 0 = i } ∷ segments_from (i + 1) n es) (segments_from (i + 1) n es)) t)) rest

pub round_ends : (g : GraphParts) → IsConsistent g → (n : ℕ) → n < length g.rounds → All (λ s. ends_at n (get_or g.ends s.0 no_ends) ≡ true) (get_or g.rounds n [])
round_ends g fit n h =
    All-permutation (λ s. ends_at n (get_or g.ends s.0 no_ends) ≡ true) (segments_at n g.ends) (get_or g.rounds n []) (fit.rounds n h).1
    (All-from_recursion (λ s. ends_at n (get_or g.ends s.0 no_ends) ≡ true) (segments_at n g.ends)
    (segments_end (λ s. ends_at n (get_or g.ends s.0 no_ends) ≡ true) n 0 g.ends (λ k b t. let same : 0 + k ≡ k = omega arith in subst (λ v. ends_at n (get_or g.ends v no_ends) ≡ true) (sym same) t)))

-- ports that are looked up alike
pub filter_map_same : (f h : SegId → Option Dir) (xs : List SegId) → All (λ s. f s ≡ h s) xs → filter_map f xs ≡ filter_map h xs
filter_map_same f h [] e = refl
filter_map_same f h (x ∷ xs) e =
    ap (λ o. cons_option o (filter_map f xs)) (e 0 x (omega arith)) ∙ ap (cons_option (h x)) (filter_map_same f h xs (λ k d b. e (suc k) d (omega arith)))

-- a walk more gives no port to other segments
port_of-more : (legs : List Leg) (k n : ℕ) (s : SegId) → ¬ (s.0 ≡ k) → port_of (take (k + 1) legs) n s ≡ port_of (take k legs) n s
port_of-more legs k n s f = by_order (cases_lt s.0 k)
  where
    by_order : (s.0 < k) ⊎ (k ≤ s.0) → port_of (take (k + 1) legs) n s ≡ port_of (take k legs) n s
    by_order (inl h) = ap (port_where n) (got_taken legs (k + 1) s.0 (omega arith) ∙ sym (got_taken legs k s.0 h))
    by_order (inr h) =
        ap (port_where n)
        (got_past (take (k + 1) legs) s.0 (omega (arith, length-take (k + 1) legs)) ∙ sym (got_past (take k legs) s.0 (omega (arith, length-take k legs))))

pub ports_more : (g : GraphParts) → IsConsistent g → (legs : List Leg) (k lo up : ℕ) → (n : ℕ) → n < length g.rounds → ¬ (lo ≡ n) → ¬ (up ≡ n)
    → (get_or g.ends k no_ends).0.0 ≡ lo → (get_or g.ends k no_ends).1.0 ≡ up
    → filter_map (port_of (take (k + 1) legs) n) (get_or g.rounds n []) ≡ filter_map (port_of (take k legs) n) (get_or g.rounds n [])
ports_more g fit legs k lo up n h not_low not_high e f =
    filter_map_same (port_of (take (k + 1) legs) n) (port_of (take k legs) n) (get_or g.rounds n [])
    (λ i d b. port_of-more legs k n (get_or (get_or g.rounds n []) i d) (λ same. other i d same (round_ends g fit n h i d b)))
  where
    other : (i : ℕ) (d : SegId) → (get_or (get_or g.rounds n []) i d).0 ≡ k → ends_at n (get_or g.ends (get_or (get_or g.rounds n []) i d).0 no_ends) ≡ true → ⊥
    other i d same t = which (or_cases _ _ (ap (λ v. ends_at n (get_or g.ends v no_ends)) (sym same) ∙ t))
      where
        which : (eqb (get_or g.ends k no_ends).0.0 n ≡ true) ⊎ (eqb (get_or g.ends k no_ends).1.0 n ≡ true) → ⊥
        which (inl u) = not_low (sym e ∙ eqb-true _ _ u)
        which (inr u) = not_high (sym f ∙ eqb-true _ _ u)

-- the ports hold with one walk more where they do at its two nodes
pub ports_hold-more : (g : GraphParts) → IsConsistent g → (legs : List Leg) (k lo up : ℕ) → (get_or g.ends k no_ends).0.0 ≡ lo → (get_or g.ends k no_ends).1.0 ≡ up
    → ports_hold g.rounds (take k legs) ≡ true
    → are_clockwise (filter_map (port_of (take (k + 1) legs) lo) (get_or g.rounds lo [])) ≡ true
    → are_clockwise (filter_map (port_of (take (k + 1) legs) up) (get_or g.rounds up [])) ≡ true
    → ports_hold g.rounds (take (k + 1) legs) ≡ true
ports_hold-more g fit legs k lo up e f before low high =
    ports_each (take (k + 1) legs) 0 g.rounds (λ i h. let same : 0 + i ≡ i = omega arith in subst (λ v. are_clockwise (filter_map (port_of (take (k + 1) legs) v) (get_or g.rounds i [])) ≡ true) (sym same) (at_node i h (cases_eq lo i) (cases_eq up i)))
  where
    at_node : (i : ℕ) → i < length g.rounds → (lo ≡ i) ⊎ (lo ≡ i → ⊥) → (up ≡ i) ⊎ (up ≡ i → ⊥) → are_clockwise (filter_map (port_of (take (k + 1) legs) i) (get_or g.rounds i [])) ≡ true
    at_node i h (inl c) d = subst (λ v. are_clockwise (filter_map (port_of (take (k + 1) legs) v) (get_or g.rounds v [])) ≡ true) c low
    at_node i h (inr c) (inl d) = subst (λ v. are_clockwise (filter_map (port_of (take (k + 1) legs) v) (get_or g.rounds v [])) ≡ true) d high
    at_node i h (inr c) (inr d) =
        let same : 0 + i ≡ i = omega arith in
        ap are_clockwise (ports_more g fit legs k lo up i h c d e f)
        ∙ subst (λ v. are_clockwise (filter_map (port_of (take k legs) v) (get_or g.rounds i [])) ≡ true) same (ports_at_node (take k legs) 0 g.rounds i before h)

pub ports_hold-fails : (rounds : List (List SegId)) (legs : List Leg) (n : ℕ) → n < length rounds → are_clockwise (filter_map (port_of legs n) (get_or rounds n [])) ≡ false → ports_hold rounds legs ≡ false
ports_hold-fails rounds legs n h e = by_test (cases_Bool (ports_hold rounds legs))
  where
    by_test : (ports_hold rounds legs ≡ true) ⊎ (ports_hold rounds legs ≡ false) → ports_hold rounds legs ≡ false
    by_test (inl t) =
        let same : 0 + n ≡ n = omega arith in
        absurd (false≢true (sym e ∙ subst (λ v. are_clockwise (filter_map (port_of legs v) (get_or rounds n [])) ≡ true) same (ports_at_node legs 0 rounds n t h)))
    by_test (inr f) = f

-- no walks are legal
pub no_walks_legal : (rounds : List (List SegId)) → why_illegal rounds [] ≡ None
no_walks_legal rounds = why_ports rounds [] true refl refl (ports_each [] 0 rounds (λ i h. ap are_clockwise (no_ports (0 + i) (get_or rounds i []))))
  where
    no_ports : (n : ℕ) (round : List SegId) → filter_map (port_of [] n) round ≡ []
    no_ports n [] = refl
    no_ports n (s ∷ round) = no_ports n round
