-- A stretch path visits no point twice.
use Rattle.std.proofs.Common.{◌≡◌, refl, sym, ◌∙◌, subst, ℕ, ◌+◌, ◌<◌, ◌≤◌, false, eqb, List, [], ◌∷◌, arith}
use Rattle.std.specs.List.{IsDistinct, AllByRecursion}
use Rattle.std.proofs.lemmas.Bool.{ne_eqb}
use Rattle.std.proofs.lemmas.Map.Keys.{IsDistinct-cons, IsDistinct-from_apart}
use Rattle.map_base.specs.declared.point.Point.{Point}
use Rattle.least_path.specs.Paths.{Path}
use Rattle.track_net.specs.Nets.{NetParts, IsNet}
use Rattle.net_paths.specs.Stretches.{IsStep, IsStretchPath}
use Rattle.net_paths.proofs.NetSteps.{steps_are_weighted}

no_step_free : (near : ℕ) (corridor : List Point) (net : NetParts) (kept : IsNet net) (a l s c : ℕ) → IsStep near corridor net a l s c → 0 < c
no_step_free near corridor net kept a l s c step = (steps_are_weighted (record { near = near; samples = corridor }) net kept).not_free a l s c step

-- no path from the one point to the other costs less
abbrev IsLeast : ℕ → List Point → NetParts → ℕ → ℕ → ℕ → Type 0
IsLeast near corridor net a b k = (others : List ℕ) (r : ℕ) → Path (IsStep near corridor net) a b others r → k ≤ r

-- a path that costs less than the least one from a does not come to a
not_there : (near : ℕ) (corridor : List Point) (net : NetParts) (a b bound x : ℕ) (ls : List ℕ) (k : ℕ) → IsLeast near corridor net a b bound → k < bound → Path (IsStep near corridor net) x b ls k →
    (x ≡ a → ⊥) × AllByRecursion (λ l. eqb a l ≡ false) ls
not_there near corridor net a b bound x [] k least below path = (not_here, tt)
  where
    not_here : x ≡ a → ⊥
    not_here e = let most : bound ≤ k = least [] k (subst (λ (y : ℕ). Path (IsStep near corridor net) y b [] k) e path) in omega arith
not_there near corridor net a b bound x (l ∷ ls) k least below path =
    let s = path.0 in
    let c = path.1 in
    let r = path.2 in
    let sum : k ≡ c + r = path.5 in
    let rest = not_there near corridor net a b bound s ls r least (omega arith) path.4 in
    (not_here, (ne_eqb a l (λ e. rest.0 (path.3.leads_to ∙ sym e)), rest.1))
  where
    not_here : x ≡ a → ⊥
    not_here e = let most : bound ≤ k = least (l ∷ ls) k (subst (λ (y : ℕ). Path (IsStep near corridor net) y b (l ∷ ls) k) e path) in omega arith

-- the rest of a least path is one
least_rest : (near : ℕ) (corridor : List Point) (net : NetParts) (a b l s c r k : ℕ) → k ≡ c + r → IsStep near corridor net a l s c → IsLeast near corridor net a b k → IsLeast near corridor net s b r
least_rest near corridor net a b l s c r k sum step least others q path =
    let whole : Path (IsStep near corridor net) a b (l ∷ others) (c + q) = (s, c, q, step, path, refl) in
    let most : k ≤ c + q = least (l ∷ others) (c + q) whole in
    omega arith

pub visits_once : (near : ℕ) (corridor : List Point) (net : NetParts) → IsNet net → (a b : ℕ) (ls : List ℕ) (k : ℕ) → Path (IsStep near corridor net) a b ls k → IsLeast near corridor net a b k → IsDistinct eqb (a ∷ ls)
visits_once near corridor net kept a b [] k path least = IsDistinct-cons eqb a [] tt (IsDistinct-from_apart eqb [] (λ i j d less below. absurd (omega arith)))
visits_once near corridor net kept a b (l ∷ ls) k path least =
    let s = path.0 in
    let c = path.1 in
    let r = path.2 in
    let sum : k ≡ c + r = path.5 in
    let some : 0 < c = no_step_free near corridor net kept a l s c path.3 in
    let rest = not_there near corridor net a b k s ls r least (omega arith) path.4 in
    let later : IsDistinct eqb (s ∷ ls) = visits_once near corridor net kept s b ls r path.4 (least_rest near corridor net a b l s c r k sum path.3 least) in
    IsDistinct-cons eqb a (l ∷ ls) (ne_eqb a l (λ e. rest.0 (path.3.leads_to ∙ sym e)), rest.1) (subst (λ (x : ℕ). IsDistinct eqb (x ∷ ls)) path.3.leads_to later)

pub path-once : (near : ℕ) (corridor : List Point) (net : NetParts) (from to : ℕ) (numbers : List ℕ) → IsNet net → IsStretchPath near corridor net from to numbers → IsDistinct eqb numbers
path-once near corridor net from to numbers kept stretch =
    subst (λ (ns : List ℕ). IsDistinct eqb ns) (sym stretch.begins) (visits_once near corridor net kept from to stretch.further stretch.cost stretch.least.path stretch.least.least)
