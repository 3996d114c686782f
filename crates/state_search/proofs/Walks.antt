-- A walk that is led by least costs to goals.
use Rattle.std.proofs.Common.{◌≡◌, refl, sym, ◌∙◌, ap, subst, ℕ, ◌+◌, ◌<◌, ◌≤◌, ◌⊎◌, inl, inr, List, [], ◌∷◌, ◌++◌, Option, Some, arith, append_assoc, append-nil}
use Rattle.std.proofs.lemmas.Bool.{cases_order}
use Rattle.least_path.specs.Orders.{LexLe}
use Rattle.least_path.proofs.Costs.{known_at_most, AtMost-some}
use Rattle.state_search.specs.Goals.{Space, PathTo, IsSpace, IsLeastPathTo, AreLeastCostsTo}

-- the label l leads from a to s at the cost c, and then a path of the known cost r goes on, which together is the
-- known cost of a
pub record IsNext (w : Space) (known : ℕ → Option ℕ) (a l s c r : ℕ) : Type 0 where
  pub goes : w.step a l s c
  pub rest : known s ≡ Some r
  pub whole : known a ≡ Some (c + r)

-- of the steps that keep to the known costs the one of the least label begins the least path, where ending costs more
pub least_step : (w : Space) → IsSpace w → (limit : ℕ) (known : ℕ → Option ℕ) → AreLeastCostsTo w limit known →
    (a l s c r : ℕ) → c + r + w.ahead a ≤ limit → (w.goal a ≡ Some (c + r) → ⊥) → IsNext w known a l s c r →
    ((m t d q : ℕ) → IsNext w known a m t d q → l ≤ m) →
    (rest : List ℕ) (k : ℕ) → k ≡ r → IsLeastPathTo w s rest k → IsLeastPathTo w a (l ∷ rest) (c + k)
least_step w space limit known costs a l s c r within no_end next lowest rest k is onward = record {
  path = (s, c, k, next.goes, onward.path, refl);
  least = λ others q p. at_least others q p;
  first = λ others p. before others p;
}
  where
    not_more : (others : List ℕ) (q : ℕ) → q + w.ahead a ≤ limit → PathTo w a others q → c + k ≤ q
    not_more others q inside p =
        let low : c + r ≤ q = AtMost-some (known a) (c + r) q next.whole (costs.least a others q inside p) in omega arith

    at_least : (others : List ℕ) (q : ℕ) → PathTo w a others q → c + k ≤ q
    at_least others q p = by_order (cases_order (c + k) q)
      where
        by_order : (c + k ≡ q) ⊎ ((c + k < q) ⊎ (q < c + k)) → c + k ≤ q
        by_order (inl e) = omega arith
        by_order (inr (inl h)) = omega arith
        by_order (inr (inr h)) = not_more others q (omega arith) p

    before : (others : List ℕ) → PathTo w a others (c + k) → LexLe (l ∷ rest) others
    before [] p = absurd (no_end (p ∙ (let same : c + k ≡ c + r = omega arith in ap Some same)))
    before (m ∷ ms) p = by_label (cases_order l m)
      where
        t : ℕ
        t = p.0

        d : ℕ
        d = p.1

        q : ℕ
        q = p.2

        goes : w.step a m t d
        goes = p.3

        onwards : PathTo w t ms q
        onwards = p.4

        sum : c + k ≡ d + q
        sum = p.5

        slow : w.ahead t ≤ w.ahead a + d
        slow = space.consistent a m t d goes

        kept : IsNext w known a m t d q
        kept =
            let slower : w.ahead t ≤ w.ahead a + d = slow in
            let whole_path : c + k ≡ d + q = sum in
            let found = known_at_most (known t) q (costs.least t ms q (omega arith) onwards) in
            let e = found.0 in
            let below : e ≤ q = found.2 in
            let shorter = costs.attained t e found.1 in
            let low : c + k ≤ d + e = at_least (m ∷ shorter.0) (d + e) (t, d, e, goes, shorter.1, refl) in
            let same : e ≡ q = omega arith in
            let total : c + r ≡ d + q = omega arith in
            record { goes = goes; rest = found.1 ∙ ap Some same; whole = next.whole ∙ ap Some total }

        not_below : l ≤ m
        not_below = lowest m t d q kept

        by_label : (l ≡ m) ⊎ ((l < m) ⊎ (m < l)) → LexLe (l ∷ rest) (m ∷ ms)
        by_label (inl e) =
            let here : w.step a l t d = subst (λ (n : ℕ). w.step a n t d) (sym e) goes in
            let state : t ≡ s = space.one_state a l t s d c here next.goes in
            let cost : d ≡ c = space.one_cost a l t s d c here next.goes in
            let equal : q ≡ k = omega arith in
            inr (e, onward.first ms (subst (λ (n : ℕ). PathTo w s ms n) equal (subst (λ (x : ℕ). PathTo w x ms q) state onwards)))
        by_label (inr (inl h)) = inl h
        by_label (inr (inr h)) = let low : l ≤ m = not_below in absurd (omega arith)

-- a state whose known cost is that of ending there has the path of no labels as the least
pub nothing_is_least : (w : Space) (limit : ℕ) (known : ℕ → Option ℕ) → AreLeastCostsTo w limit known → (a k : ℕ) → k + w.ahead a ≤ limit → known a ≡ Some k → w.goal a ≡ Some k →
    IsLeastPathTo w a [] k
nothing_is_least w limit known costs a k within is end = record { path = end; least = λ others r p. at_least others r p (cases_order k r); first = λ others p. tt }
  where
    at_least : (others : List ℕ) (r : ℕ) → PathTo w a others r → (k ≡ r) ⊎ ((k < r) ⊎ (r < k)) → k ≤ r
    at_least others r p (inl e) = omega arith
    at_least others r p (inr (inl h)) = omega arith
    at_least others r p (inr (inr h)) = AtMost-some (known a) k r is (costs.least a others r (omega arith) p)

-- a state with a known cost within the limit is a goal at this cost, or has a step that keeps to the known costs
pub ends_or_goes_on : (w : Space) → IsSpace w → (limit : ℕ) (known : ℕ → Option ℕ) → AreLeastCostsTo w limit known → (a k : ℕ) → k + w.ahead a ≤ limit → known a ≡ Some k →
    (w.goal a ≡ Some k) ⊎ ((l : ℕ) × (s : ℕ) × (c : ℕ) × (r : ℕ) × IsNext w known a l s c r)
ends_or_goes_on w space limit known costs a k within is = of_path path.0 path.1
  where
    path : (labels : List ℕ) × PathTo w a labels k
    path = costs.attained a k is

    of_path : (labels : List ℕ) → PathTo w a labels k → (w.goal a ≡ Some k) ⊎ ((l : ℕ) × (s : ℕ) × (c : ℕ) × (r : ℕ) × IsNext w known a l s c r)
    of_path [] p = inl p
    of_path (l ∷ ls) p =
        let s = p.0 in
        let c = p.1 in
        let q = p.2 in
        let sum : k ≡ c + q = p.5 in
        let slow : w.ahead s ≤ w.ahead a + c = space.consistent a l s c p.3 in
        let found = known_at_most (known s) q (costs.least s ls q (omega arith) p.4) in
        let r = found.0 in
        let below : r ≤ q = found.2 in
        let shorter = costs.attained s r found.1 in
        let low : k ≤ c + r = AtMost-some (known a) k (c + r) is (costs.least a (l ∷ shorter.0) (c + r) (omega arith) (s, c, r, p.3, shorter.1, refl)) in
        let total : k ≡ c + r = omega arith in
        inr (l, s, c, r, record { goes = p.3; rest = found.1; whole = is ∙ ap Some total })

-- a step that keeps to the known costs leads nearer to a goal
pub next_is_nearer : (w : Space) (known : ℕ → Option ℕ) → IsSpace w → (a l s c r k : ℕ) →
    IsNext w known a l s c r → known a ≡ Some k → r < k
next_is_nearer w known space a l s c r k next is =
    let free : 1 ≤ c = space.not_free a l s c next.goes in
    let total : c + r ≡ k = cc in
    omega arith

-- labels that were walked lead to a state, whose cost is known and within the limit, so that the least path from there
-- goes on to the least path
pub record IsLed (w : Space) (from limit : ℕ) (known : ℕ → Option ℕ) (walked : List ℕ) (spent here rest : ℕ) : Type 0 where
  pub onward : (labels : List ℕ) (k : ℕ) → IsLeastPathTo w here labels k → IsLeastPathTo w from (walked ++ labels) (spent + k)
  pub known_here : known here ≡ Some rest
  pub within : rest + w.ahead here ≤ limit

-- a walk begins with nothing, goes on by the step of the least label, and ends at a goal
pub walk_begins : (w : Space) (from limit : ℕ) (known : ℕ → Option ℕ) → w.ahead from ≡ 0 → known from ≡ Some limit → IsLed w from limit known [] 0 from limit
walk_begins w from limit known at_start is = record {
  onward = λ labels k least. let same : k ≡ 0 + k = omega arith in subst (λ (n : ℕ). IsLeastPathTo w from labels n) same least;
  known_here = is;
  within = omega arith;
}

pub walk_goes_on : (w : Space) → IsSpace w → (from limit : ℕ) (known : ℕ → Option ℕ) → AreLeastCostsTo w limit known → (walked : List ℕ) (spent here rest : ℕ) → IsLed w from limit known walked spent here rest →
    (w.goal here ≡ Some rest → ⊥) → (l s c r : ℕ) → IsNext w known here l s c r →
    ((m t d q : ℕ) → IsNext w known here m t d q → l ≤ m) → IsLed w from limit known (walked ++ l ∷ []) (spent + c) s r
walk_goes_on w space from limit known costs walked spent here rest led no_end l s c r next lowest = record {
  onward = λ labels k least.
      let low : r ≤ k = known_least labels k least in
      let high : k ≤ r = least.least (costs.attained s r next.rest).0 r (costs.attained s r next.rest).1 in
      let same : k ≡ r = omega arith in
      let whole : IsLeastPathTo w from (walked ++ l ∷ labels) (spent + (c + k)) =
      led.onward (l ∷ labels) (c + k) (least_step w space limit known costs here l s c r here_within not_end next lowest labels k same least) in
      let sum : spent + (c + k) ≡ spent + c + k = omega arith in
      subst (λ (ls : List ℕ). IsLeastPathTo w from ls (spent + c + k)) (sym (append_assoc walked (l ∷ []) labels))
      (subst (λ (n : ℕ). IsLeastPathTo w from (walked ++ l ∷ labels) n) sum whole);
  known_here = next.rest;
  within = let slow : w.ahead s ≤ w.ahead here + c = space.consistent here l s c next.goes in let inside : c + r + w.ahead here ≤ limit = here_within in omega arith;
}
  where
    total : rest ≡ c + r
    total = let both : Some rest ≡ Some (c + r) = sym led.known_here ∙ next.whole in let same : rest ≡ c + r = cc in same

    here_within : c + r + w.ahead here ≤ limit
    here_within = let inside : rest + w.ahead here ≤ limit = led.within in omega (arith, total)

    not_end : w.goal here ≡ Some (c + r) → ⊥
    not_end e = no_end (e ∙ ap Some (sym total))

    s_within : r + w.ahead s ≤ limit
    s_within = let slow : w.ahead s ≤ w.ahead here + c = space.consistent here l s c next.goes in let inside : c + r + w.ahead here ≤ limit = here_within in omega arith

    known_least : (labels : List ℕ) (k : ℕ) → IsLeastPathTo w s labels k → r ≤ k
    known_least labels k least = by_order (cases_order k r)
      where
        inside : k ≤ r → r ≤ k
        inside h = let in_limit : r + w.ahead s ≤ limit = s_within in AtMost-some (known s) r k next.rest (costs.least s labels k (omega arith) least.path)

        by_order : (k ≡ r) ⊎ ((k < r) ⊎ (r < k)) → r ≤ k
        by_order (inl e) = omega arith
        by_order (inr (inl h)) = inside (omega arith)
        by_order (inr (inr h)) = omega arith

pub walk_ends : (w : Space) (from limit : ℕ) (known : ℕ → Option ℕ) → AreLeastCostsTo w limit known → (walked : List ℕ) (spent here rest : ℕ) → IsLed w from limit known walked spent here rest →
    w.goal here ≡ Some rest → IsLeastPathTo w from walked (spent + rest)
walk_ends w from limit known costs walked spent here rest led end =
    subst (λ (ls : List ℕ). IsLeastPathTo w from ls (spent + rest)) (append-nil walked)
    (led.onward [] rest (nothing_is_least w limit known costs here rest led.within led.known_here end))
