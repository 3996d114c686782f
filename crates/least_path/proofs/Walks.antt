-- A walk that is led by least costs.
use Rattle.std.proofs.Common.{◌≡◌, ◌≢◌, refl, sym, ◌∙◌, ap, subst, ℕ, ◌+◌, ◌<◌, ◌≤◌, ◌⊎◌, inl, inr, List, [], ◌∷◌, ◌++◌, Option, Some, arith, append_assoc, append-nil}
use Rattle.std.proofs.lemmas.Bool.{cases_order}
use Rattle.least_path.specs.Orders.{LexLe}
use Rattle.least_path.specs.Paths.{Path, IsLeastPath, AreLeastCosts, IsWeighted}
use Rattle.least_path.proofs.Costs.{known_at_most, AtMost-some}

-- the label l leads from a to s at the cost c, and then a path of the known cost r goes on, which together is the
-- known cost of a
pub record IsNext {X : Type 0} (step : X → ℕ → X → ℕ → Type 0) (known : X → Option ℕ) (a : X) (l : ℕ) (s : X) (c r : ℕ) : Type 0 where
  pub goes : step a l s c
  pub rest : known s ≡ Some r
  pub whole : known a ≡ Some (c + r)

-- the path of no labels is the least from a state to itself
pub nothing_is_least : {X : Type 0} (step : X → ℕ → X → ℕ → Type 0) (b : X) → IsLeastPath step b b [] 0
nothing_is_least step b = record { path = (refl, refl); least = λ others r p. omega arith; first = λ others p. tt }

-- of the steps that keep to the known costs the one of the least label begins the least path
pub least_step : {X : Type 0} (step : X → ℕ → X → ℕ → Type 0) (b : X) (bound : ℕ) (known : X → Option ℕ) →
    IsWeighted step → AreLeastCosts step b bound known → (a : X) (l : ℕ) (s : X) (c r : ℕ) → c + r ≤ bound → IsNext step known a l s c r →
    ((m : ℕ) (t : X) (d q : ℕ) → IsNext step known a m t d q → l ≤ m) →
    (rest : List ℕ) (k : ℕ) → k ≡ r → IsLeastPath step s b rest k → IsLeastPath step a b (l ∷ rest) (c + k)
least_step {X = X} step b bound known weighted costs a l s c r within next lowest rest k is onward = record {
  path = (s, c, k, next.goes, onward.path, refl);
  least = λ others q p. at_least others q p;
  first = λ others p. before others p;
}
  where
    not_more : (others : List ℕ) (q : ℕ) → q ≤ bound → Path step a b others q → c + k ≤ q
    not_more others q inside p =
        let low : c + r ≤ q = AtMost-some (known a) (c + r) q next.whole (costs.least a others q inside p) in omega arith

    at_least : (others : List ℕ) (q : ℕ) → Path step a b others q → c + k ≤ q
    at_least others q p = by_order (cases_order (c + k) q)
      where
        by_order : (c + k ≡ q) ⊎ ((c + k < q) ⊎ (q < c + k)) → c + k ≤ q
        by_order (inl e) = omega arith
        by_order (inr (inl h)) = omega arith
        by_order (inr (inr h)) = not_more others q (omega arith) p

    before : (others : List ℕ) → Path step a b others (c + k) → LexLe (l ∷ rest) others
    before [] p =
        let free : 1 ≤ c = weighted.not_free a l s c next.goes in
        let none : c + k ≡ 0 = p.1 in
        absurd (omega arith)
    before (m ∷ ms) p = by_label (cases_order l m)
      where
        t : X
        t = p.0

        d : ℕ
        d = p.1

        q : ℕ
        q = p.2

        goes : step a m t d
        goes = p.3

        onwards : Path step t b ms q
        onwards = p.4

        sum : c + k ≡ d + q
        sum = p.5

        kept : IsNext step known a m t d q
        kept =
            let found = known_at_most (known t) q (costs.least t ms q (omega arith) onwards) in
            let e = found.0 in
            let below : e ≤ q = found.2 in
            let shorter = costs.attained t e found.1 in
            let low : c + k ≤ d + e = at_least (m ∷ shorter.0) (d + e) (t, d, e, goes, shorter.1, refl) in
            let same : e ≡ q = omega arith in
            let total : c + r ≡ d + q = omega arith in
            record { goes = goes; rest = found.1 ∙ ap Some same; whole = next.whole ∙ ap Some total }

        not_below : l ≤ m
        not_below = lowest m t d q kept

        by_label : (l ≡ m) ⊎ ((l < m) ⊎ (m < l)) → LexLe (l ∷ rest) (m ∷ ms)
        by_label (inl e) =
            let here : step a l t d = subst (λ (n : ℕ). step a n t d) (sym e) goes in
            let state : t ≡ s = weighted.one_state a l t s d c here next.goes in
            let cost : d ≡ c = weighted.one_cost a l t s d c here next.goes in
            let equal : q ≡ k = omega arith in
            inr (e, onward.first ms (subst (λ (n : ℕ). Path step s b ms n) equal (subst (λ (x : X). Path step x b ms q) state onwards)))
        by_label (inr (inl h)) = inl h
        by_label (inr (inr h)) = let low : l ≤ m = not_below in absurd (omega arith)

-- a state from which the target is another one, and can be reached within the bound, has a step that keeps to the
-- known costs
pub next_exists : {X : Type 0} (step : X → ℕ → X → ℕ → Type 0) (b : X) (bound : ℕ) (known : X → Option ℕ) →
    AreLeastCosts step b bound known → (a : X) (k : ℕ) → a ≢ b → k ≤ bound → known a ≡ Some k →
    (l : ℕ) × (s : X) × (c : ℕ) × (r : ℕ) × IsNext step known a l s c r
next_exists {X = X} step b bound known costs a k apart within is = of_path path.0 path.1
  where
    path : (labels : List ℕ) × Path step a b labels k
    path = costs.attained a k is

    of_path : (labels : List ℕ) → Path step a b labels k → (l : ℕ) × (s : X) × (c : ℕ) × (r : ℕ) × IsNext step known a l s c r
    of_path [] p = absurd (apart p.0)
    of_path (l ∷ ls) p =
        let s = p.0 in
        let c = p.1 in
        let q = p.2 in
        let sum : k ≡ c + q = p.5 in
        let found = known_at_most (known s) q (costs.least s ls q (omega arith) p.4) in
        let r = found.0 in
        let below : r ≤ q = found.2 in
        let shorter = costs.attained s r found.1 in
        let low : k ≤ c + r = AtMost-some (known a) k (c + r) is (costs.least a (l ∷ shorter.0) (c + r) (omega arith) (s, c, r, p.3, shorter.1, refl)) in
        let total : k ≡ c + r = omega arith in
        (l, s, c, r, record { goes = p.3; rest = found.1; whole = is ∙ ap Some total })

-- a step that keeps to the known costs leads nearer to the target
pub next_is_nearer : {X : Type 0} (step : X → ℕ → X → ℕ → Type 0) (known : X → Option ℕ) → IsWeighted step → (a : X) (l : ℕ) (s : X) (c r k : ℕ) →
    IsNext step known a l s c r → known a ≡ Some k → r < k
next_is_nearer step known weighted a l s c r k next is =
    let free : 1 ≤ c = weighted.not_free a l s c next.goes in
    let total : c + r ≡ k = cc in
    omega arith

-- labels that were walked lead to a state, so that the least path from there goes on to the least path
pub record Leads {X : Type 0} (step : X → ℕ → X → ℕ → Type 0) (a b : X) (walked : List ℕ) (spent : ℕ) (here : X) : Type 0 where
  pub onward : (rest : List ℕ) (k : ℕ) → IsLeastPath step here b rest k → IsLeastPath step a b (walked ++ rest) (spent + k)

-- a walk begins with nothing, goes on by the step of the least label, and ends at the target
pub walk_begins : {X : Type 0} (step : X → ℕ → X → ℕ → Type 0) (a b : X) → Leads step a b [] 0 a
walk_begins step a b = record { onward = λ rest k least. let same : k ≡ 0 + k = omega arith in subst (λ (n : ℕ). IsLeastPath step a b rest n) same least }

pub walk_goes_on : {X : Type 0} (step : X → ℕ → X → ℕ → Type 0) (b : X) (bound : ℕ) (known : X → Option ℕ) →
    IsWeighted step → AreLeastCosts step b bound known → (a here : X) (walked : List ℕ) (spent : ℕ) → Leads step a b walked spent here →
    (l : ℕ) (s : X) (c r : ℕ) → c + r ≤ bound → IsNext step known here l s c r →
    ((m : ℕ) (t : X) (d q : ℕ) → IsNext step known here m t d q → l ≤ m) → Leads step a b (walked ++ l ∷ []) (spent + c) s
walk_goes_on step b bound known weighted costs a here walked spent leads l s c r within next lowest = record {
  onward = λ rest k least.
      let low : r ≤ k = known_least rest k least in
      let high : k ≤ r = least.least (costs.attained s r next.rest).0 r (costs.attained s r next.rest).1 in
      let same : k ≡ r = omega arith in
      let whole : IsLeastPath step a b (walked ++ l ∷ rest) (spent + (c + k)) =
      leads.onward (l ∷ rest) (c + k) (least_step step b bound known weighted costs here l s c r within next lowest rest k same least) in
      let sum : spent + (c + k) ≡ spent + c + k = omega arith in
      subst (λ (ls : List ℕ). IsLeastPath step a b ls (spent + c + k)) (sym (append_assoc walked (l ∷ []) rest))
      (subst (λ (n : ℕ). IsLeastPath step a b (walked ++ l ∷ rest) n) sum whole);
}
  where
    known_least : (rest : List ℕ) (k : ℕ) → IsLeastPath step s b rest k → r ≤ k
    known_least rest k least = by_order (cases_order k r)
      where
        inside : k ≤ r → r ≤ k
        inside h = AtMost-some (known s) r k next.rest (costs.least s rest k (omega arith) least.path)

        by_order : (k ≡ r) ⊎ ((k < r) ⊎ (r < k)) → r ≤ k
        by_order (inl e) = omega arith
        by_order (inr (inl h)) = inside (omega arith)
        by_order (inr (inr h)) = omega arith

pub walk_ends : {X : Type 0} (step : X → ℕ → X → ℕ → Type 0) (a b here : X) (walked : List ℕ) (spent : ℕ) → Leads step a b walked spent here → here ≡ b →
    IsLeastPath step a b walked spent
walk_ends {X = X} step a b here walked spent leads at_end =
    let none : spent + 0 ≡ spent = omega arith in
    let all : IsLeastPath step a b (walked ++ []) (spent + 0) =
    leads.onward [] 0 (subst (λ (x : X). IsLeastPath step x b [] 0) (sym at_end) (nothing_is_least step b)) in
    subst (λ (ls : List ℕ). IsLeastPath step a b ls spent) (append-nil walked) (subst (λ (n : ℕ). IsLeastPath step a b (walked ++ []) n) none all)
