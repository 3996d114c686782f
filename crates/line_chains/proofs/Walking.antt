-- Ways, step by step.
use Rattle.std.proofs.Common.{◌≡◌, ◌≢◌, ◌∙◌, refl, sym, ap, ap₂, subst, ℕ, zero, suc, ◌+◌, ◌-◌, ◌<◌, ◌≤◌, Bool, true, false, not, ◌&&◌, ◌||◌, eqb, List, [], ◌∷◌, ◌++◌, length, map, get_or, drop, append_assoc, arith}
use Rattle.std.specs.List.{All}
use Rattle.std.proofs.lemmas.Bool.{eq-eqb, ne_eqb}
use Rattle.std.proofs.lemmas.List.{drop_more}
use Rattle.map_base.specs.declared.ids.NodeId.{NodeId}
use Rattle.map_base.specs.declared.ids.SegId.{SegId}
use Rattle.graph_core.specs.declared.parts.GraphParts.{GraphParts}
use Rattle.line_chains.specs.declared.chain.ChainStep.{ChainStep}
use Rattle.line_chains.specs.Chains.{end_after, far_end, is_corner, last_seg, nodes_along, other_of, round_of, stands_before, steps_from, unless_ended}
use Rattle.line_chains.specs.declared.chain.Chain.{Chain}

-- the step by a segment
abbrev pub step_by : GraphParts → NodeId → SegId → ChainStep
step_by graph n s = record { seg = s; to = far_end graph s n }

-- what comes behind it, where so many steps are left
abbrev pub behind : GraphParts → List Bool → ℕ → NodeId → SegId → List ChainStep
behind graph corners left n s = unless_ended (is_corner corners (far_end graph s n)) (steps_from graph corners left (far_end graph s n) (other_of (round_of graph (far_end graph s n)) s))

pub one_step : (graph : GraphParts) (corners : List Bool) (most i : ℕ) (n : NodeId) (s : SegId) → i < most → steps_from graph corners (most - i) n s ≡ step_by graph n s ∷ behind graph corners (most - (i + 1)) n s
one_step graph corners most i n s h = let more : most - i ≡ suc (most - (i + 1)) = omega arith in ap (λ k. steps_from graph corners k n s) more

-- a way that goes on, and one that has come to a corner
pub steps_go_on : (graph : GraphParts) (corners : List Bool) (most i : ℕ) (n : NodeId) (s : SegId) (seen whole : List ChainStep) → i < most → is_corner corners (far_end graph s n) ≡ false
    → seen ++ steps_from graph corners (most - i) n s ≡ whole
    → (seen ++ step_by graph n s ∷ []) ++ steps_from graph corners (most - (i + 1)) (far_end graph s n) (other_of (round_of graph (far_end graph s n)) s) ≡ whole
steps_go_on graph corners most i n s seen whole h on e =
    append_assoc seen (step_by graph n s ∷ []) (steps_from graph corners (most - (i + 1)) (far_end graph s n) (other_of (round_of graph (far_end graph s n)) s))
    ∙ ap (λ (v : List ChainStep). seen ++ step_by graph n s ∷ v) (sym (ap (λ t. unless_ended t (steps_from graph corners (most - (i + 1)) (far_end graph s n) (other_of (round_of graph (far_end graph s n)) s))) on))
    ∙ sym (ap (λ (v : List ChainStep). seen ++ v) (one_step graph corners most i n s h))
    ∙ e

pub steps_end : (graph : GraphParts) (corners : List Bool) (most i : ℕ) (n : NodeId) (s : SegId) (seen whole : List ChainStep) → i < most → is_corner corners (far_end graph s n) ≡ true
    → seen ++ steps_from graph corners (most - i) n s ≡ whole → seen ++ step_by graph n s ∷ [] ≡ whole
steps_end graph corners most i n s seen whole h ended e =
    ap (λ (v : List ChainStep). seen ++ step_by graph n s ∷ v) (sym (ap (λ t. unless_ended t (steps_from graph corners (most - (i + 1)) (far_end graph s n) (other_of (round_of graph (far_end graph s n)) s))) ended))
    ∙ sym (ap (λ (v : List ChainStep). seen ++ v) (one_step graph corners most i n s h))
    ∙ e

-- where steps end, and the last segment, one step on
pub end_more : (n : NodeId) (steps : List ChainStep) (i : ℕ) (d : ChainStep) → i < length steps → end_after (get_or steps i d).to (drop (i + 1) steps) ≡ end_after n (drop i steps)
end_more n steps i d h = sym (ap (end_after n) (drop_more steps i d h))

pub last_more : (s : SegId) (steps : List ChainStep) (i : ℕ) (d : ChainStep) → i < length steps → last_seg (get_or steps i d).seg (drop (i + 1) steps) ≡ last_seg s (drop i steps)
last_more s steps i d h = sym (ap (last_seg s) (drop_more steps i d h))

-- no segment stands before itself
both_false : (s t : Bool) → ((s && false) || (t && false)) ≡ false
both_false true true = refl
both_false true false = refl
both_false false true = refl
both_false false false = refl

pub never_before : (round : List SegId) (a b : SegId) → a.0 ≡ b.0 → stands_before round a b ≡ false
never_before [] a b e = refl
never_before (r ∷ rest) a b e =
    ap₂ (λ s t. (eqb r.0 a.0 && not s) || (not (eqb r.0 b.0) && t)) (eq-eqb a.0 b.0 e) (never_before rest a b e) ∙ both_false (eqb r.0 a.0) (not (eqb r.0 b.0))

-- what holds of the nodes of steps holds of the nodes along a chain
pub all_along : (m : ℕ) (n : NodeId) (steps : List ChainStep) → n.0 < m → All (λ (t : ChainStep). t.to.0 < m) steps → All (λ (k : NodeId). k.0 < m) (nodes_along (record { from = n; steps = steps }))
all_along m n steps h all zero d below = h
all_along m n steps h all (suc k) d below = of_steps steps all k d (omega arith)
  where
    of_steps : (ts : List ChainStep) → All (λ (t : ChainStep). t.to.0 < m) ts → (i : ℕ) (e : NodeId) → i < length (map (λ (t : ChainStep). t.to) ts) → (get_or (map (λ (t : ChainStep). t.to) ts) i e).0 < m
    of_steps [] each i e h = let none : i < 0 = h in absurd (omega arith)
    of_steps (t ∷ ts) each zero e h = each 0 t (omega arith)
    of_steps (t ∷ ts) each (suc i) e h = of_steps ts (λ j f g. each (suc j) f (omega arith)) i e (omega arith)

pub one_below : (m : ℕ) (t : ChainStep) → t.to.0 < m → All (λ (u : ChainStep). u.to.0 < m) (t ∷ [])
one_below m t h zero d below = h
one_below m t h (suc k) d below = absurd (omega (arith, below))

-- one segment of a round more
pub stands_next : (round : List SegId) (i : ℕ) (d a b : SegId) → i < length round → (get_or round i d).0 ≢ a.0 → (get_or round i d).0 ≢ b.0 → stands_before (drop (i + 1) round) a b ≡ stands_before (drop i round) a b
stands_next round i d a b h f g =
    sym (ap (λ (v : List SegId). stands_before v a b) (drop_more round i d h)
    ∙ ap₂ (λ s t. (s && not (eqb a.0 b.0)) || (not t && stands_before (drop (i + 1) round) a b)) (ne_eqb (get_or round i d).0 a.0 f) (ne_eqb (get_or round i d).0 b.0 g))

pub stands_here : (round : List SegId) (i : ℕ) (d a b : SegId) → i < length round → (get_or round i d).0 ≡ a.0 → a.0 ≢ b.0 → stands_before (drop i round) a b ≡ true
stands_here round i d a b h e f =
    ap (λ (v : List SegId). stands_before v a b) (drop_more round i d h)
    ∙ ap₂ (λ s t. (s && not t) || (not (eqb (get_or round i d).0 b.0) && stands_before (drop (i + 1) round) a b)) (eq-eqb (get_or round i d).0 a.0 e) (ne_eqb a.0 b.0 f)

pub stands_not : (round : List SegId) (i : ℕ) (d a b : SegId) → i < length round → (get_or round i d).0 ≢ a.0 → (get_or round i d).0 ≡ b.0 → stands_before (drop i round) a b ≡ false
stands_not round i d a b h f e =
    ap (λ (v : List SegId). stands_before v a b) (drop_more round i d h)
    ∙ ap₂ (λ s t. (s && not (eqb a.0 b.0)) || (not t && stands_before (drop (i + 1) round) a b)) (ne_eqb (get_or round i d).0 a.0 f) (eq-eqb (get_or round i d).0 b.0 e)

-- and what holds of the nodes along a chain holds of each step's
pub along_below : (m : ℕ) (c : Chain) (i : ℕ) (d : ChainStep) → i < length c.steps → All (λ (k : NodeId). k.0 < m) (nodes_along c) → (get_or c.steps i d).to.0 < m
along_below m c i d h all = of_steps c.steps i h (λ j e g. all (suc j) e (omega arith))
  where
    of_steps : (ts : List ChainStep) (j : ℕ) → j < length ts → All (λ (k : NodeId). k.0 < m) (map (λ (t : ChainStep). t.to) ts) → (get_or ts j d).to.0 < m
    of_steps [] j g each = absurd (omega (arith, g))
    of_steps (t ∷ ts) zero g each = each 0 t.to (omega arith)
    of_steps (t ∷ ts) (suc j) g each = of_steps ts j (omega arith) (λ k e f. each (suc k) e (omega arith))

-- where steps end
pub end_is : (m : NodeId) (ts : List ChainStep) (n : ℕ) (d : ChainStep) → length ts ≡ suc n → end_after m ts ≡ (get_or ts n d).to
end_is m [] n d h = absurd (omega arith)
end_is m (t ∷ []) zero d h = refl
end_is m (t ∷ []) (suc n) d h = absurd (omega arith)
end_is m (t ∷ u ∷ us) zero d h = absurd (omega arith)
end_is m (t ∷ u ∷ us) (suc n) d h = end_is t.to (u ∷ us) n d (omega arith)

pub end_none : (m : NodeId) (ts : List ChainStep) → length ts ≡ 0 → end_after m ts ≡ m
end_none m [] h = refl
end_none m (t ∷ ts) h = absurd (omega arith)
