-- The edges along a list of points.
use Rattle.std.proofs.Common.{◌≡◌, refl, sym, ◌∙◌, ap, subst, ℕ, ◌⊎◌, inl, inr, Bool, true, false, eqb, ◌&&◌, ◌||◌, List, [], ◌∷◌, ◌++◌, append_assoc}
use Rattle.std.specs.List.{range_with_len}
use Rattle.std.proofs.lemmas.Bool.{eq-eqb, eqb-true}
use Rattle.std.proofs.lemmas.List.{reverse-append, reverse-reverse}
use Rattle.std.proofs.lemmas.List.Elements.{filter_agree}
use Rattle.way_network.specs.declared.way.Way.{Way}
use Rattle.way_network.specs.Edges.{are_ends, runs_over, line_runs_over, lines_over, is_used}
use Rattle.way_network.specs.Segments.{reversed}
use Rattle.way_network.proofs.Parts.{list_any-agree}

-- two points stand in a list, the one after the other
pub record StepsOver (p q : ℕ) (xs : List ℕ) : Type 0 where
  pub before : List ℕ
  pub after : List ℕ
  pub is : xs ≡ before ++ p ∷ q ∷ after

or_swap : (x y : Bool) → (x || y) ≡ (y || x)
or_swap true true = refl
or_swap true false = refl
or_swap false true = refl
or_swap false false = refl

-- an edge is the same from both ends
pub ends_either : (p q a b : ℕ) → are_ends p q a b ≡ are_ends q p a b
ends_either p q a b = or_swap (eqb a p && eqb b q) (eqb a q && eqb b p)

pub runs_either : (p q : ℕ) (xs : List ℕ) → runs_over p q xs ≡ runs_over q p xs
runs_either p q [] = refl
runs_either p q (a ∷ []) = refl
runs_either p q (a ∷ b ∷ rest) = ap (λ (t : Bool). t || runs_over p q (b ∷ rest)) (ends_either p q a b) ∙ ap (λ (t : Bool). are_ends q p a b || t) (runs_either p q (b ∷ rest))

pub used_either : (ways : List Way) (p q : ℕ) → is_used ways p q ≡ is_used ways q p
used_either ways p q = list_any-agree (λ (w : Way). runs_over p q w.points) (λ (w : Way). runs_over q p w.points) (λ w. runs_either p q w.points) ways

pub line_either : (ways : List Way) (p q line : ℕ) → line_runs_over ways p q line ≡ line_runs_over ways q p line
line_either ways p q line =
    list_any-agree (λ (w : Way). eqb w.line.0 line && runs_over p q w.points) (λ (w : Way). eqb w.line.0 line && runs_over q p w.points)
    (λ w. ap (λ (t : Bool). eqb w.line.0 line && t) (runs_either p q w.points)) ways

pub lines_either : (lines : ℕ) (ways : List Way) (p q : ℕ) → lines_over lines ways p q ≡ lines_over lines ways q p
lines_either lines ways p q = filter_agree (line_runs_over ways p q) (line_runs_over ways q p) (line_either ways p q) (range_with_len 0 lines)

or_right : (x y : Bool) → y ≡ true → (x || y) ≡ true
or_right true y e = refl
or_right false y e = e

or_left : (x y : Bool) → x ≡ true → (x || y) ≡ true
or_left true y e = refl
or_left false y e = absurd cc

pub ends_same : (p q : ℕ) → are_ends p q p q ≡ true
ends_same p q = or_left (eqb p p && eqb q q) (eqb p q && eqb q p) (ap (λ (t : Bool). t && eqb q q) (eq-eqb p p refl) ∙ eq-eqb q q refl)

-- a list runs over the edge of two neighbours in it
pub runs_at : (before : List ℕ) (p q : ℕ) (after : List ℕ) → runs_over p q (before ++ p ∷ q ∷ after) ≡ true
runs_at [] p q after = or_left (are_ends p q p q) (runs_over p q (q ∷ after)) (ends_same p q)
runs_at (x ∷ []) p q after = or_right (are_ends p q x p) (runs_over p q (p ∷ q ∷ after)) (runs_at [] p q after)
runs_at (x ∷ y ∷ rest) p q after = or_right (are_ends p q x y) (runs_over p q ((y ∷ rest) ++ p ∷ q ∷ after)) (runs_at (y ∷ rest) p q after)

pub runs_stepping : (p q : ℕ) (xs : List ℕ) → StepsOver p q xs → runs_over p q xs ≡ true
runs_stepping p q xs s = ap (runs_over p q) s.is ∙ runs_at s.before p q s.after

both_true : (a b : Bool) → (a && b) ≡ true → (a ≡ true) × (b ≡ true)
both_true true b e = (refl, e)
both_true false b e = absurd cc

pub either_true : (a b : Bool) → (a || b) ≡ true → (a ≡ true) ⊎ (b ≡ true)
either_true true b e = inl refl
either_true false b e = inr e

-- the ends are these two, the one way or the other
pub ends_are : (p q a b : ℕ) → are_ends p q a b ≡ true → ((a ≡ p) × (b ≡ q)) ⊎ ((a ≡ q) × (b ≡ p))
ends_are p q a b e = of_either (either_true (eqb a p && eqb b q) (eqb a q && eqb b p) e)
  where
    of_either : ((eqb a p && eqb b q) ≡ true) ⊎ ((eqb a q && eqb b p) ≡ true) → ((a ≡ p) × (b ≡ q)) ⊎ ((a ≡ q) × (b ≡ p))
    of_either (inl h) = let two = both_true (eqb a p) (eqb b q) h in inl (eqb-true a p two.0, eqb-true b q two.1)
    of_either (inr h) = let two = both_true (eqb a q) (eqb b p) h in inr (eqb-true a q two.0, eqb-true b p two.1)

steps_later : (p q a : ℕ) (xs : List ℕ) → StepsOver p q xs → StepsOver p q (a ∷ xs)
steps_later p q a xs s = record { before = a ∷ s.before; after = s.after; is = ap (λ (ys : List ℕ). a ∷ ys) s.is }

-- where a list runs over an edge its ends are neighbours in it
pub steps_from_runs : (p q : ℕ) (xs : List ℕ) → runs_over p q xs ≡ true → StepsOver p q xs ⊎ StepsOver q p xs
steps_from_runs p q [] e = absurd cc
steps_from_runs p q (a ∷ []) e = absurd cc
steps_from_runs p q (a ∷ b ∷ rest) e = of_either (either_true (are_ends p q a b) (runs_over p q (b ∷ rest)) e) (steps_from_runs p q (b ∷ rest))
  where
    of_ends : ((a ≡ p) × (b ≡ q)) ⊎ ((a ≡ q) × (b ≡ p)) → StepsOver p q (a ∷ b ∷ rest) ⊎ StepsOver q p (a ∷ b ∷ rest)
    of_ends (inl h) = inl (record { before = []; after = rest; is = λ i. h.0 i ∷ h.1 i ∷ rest })
    of_ends (inr h) = inr (record { before = []; after = rest; is = λ i. h.0 i ∷ h.1 i ∷ rest })

    of_later : StepsOver p q (b ∷ rest) ⊎ StepsOver q p (b ∷ rest) → StepsOver p q (a ∷ b ∷ rest) ⊎ StepsOver q p (a ∷ b ∷ rest)
    of_later (inl s) = inl (steps_later p q a (b ∷ rest) s)
    of_later (inr s) = inr (steps_later q p a (b ∷ rest) s)

    of_either : (are_ends p q a b ≡ true) ⊎ (runs_over p q (b ∷ rest) ≡ true) → (runs_over p q (b ∷ rest) ≡ true → StepsOver p q (b ∷ rest) ⊎ StepsOver q p (b ∷ rest))
        → StepsOver p q (a ∷ b ∷ rest) ⊎ StepsOver q p (a ∷ b ∷ rest)
    of_either (inl h) later = of_ends (ends_are p q a b h)
    of_either (inr h) later = of_later (later h)

-- two neighbours the other way round
pub turned_at : (before : List ℕ) (p q : ℕ) (after : List ℕ) → reversed (before ++ p ∷ q ∷ after) ≡ reversed after ++ q ∷ p ∷ reversed before
turned_at before p q after =
    reverse-append before (p ∷ q ∷ after) ∙ ap (λ (ys : List ℕ). ys ++ reversed before) (reverse-append (p ∷ q ∷ []) after) ∙ append_assoc (reversed after) (q ∷ p ∷ []) (reversed before)

pub steps_turned : (p q : ℕ) (xs : List ℕ) → StepsOver p q xs → StepsOver q p (reversed xs)
steps_turned p q xs s = record { before = reversed s.after; after = reversed s.before; is = ap reversed s.is ∙ turned_at s.before p q s.after }

-- a list that is turned runs over the same edges
pub runs_turned : (p q : ℕ) (xs : List ℕ) → runs_over p q xs ≡ true → runs_over p q (reversed xs) ≡ true
runs_turned p q xs e = of_steps (steps_from_runs p q xs e)
  where
    of_steps : StepsOver p q xs ⊎ StepsOver q p xs → runs_over p q (reversed xs) ≡ true
    of_steps (inl s) = runs_either p q (reversed xs) ∙ runs_stepping q p (reversed xs) (steps_turned p q xs s)
    of_steps (inr s) = runs_stepping p q (reversed xs) (steps_turned q p xs s)

pub runs_turned_back : (p q : ℕ) (xs : List ℕ) → runs_over p q (reversed xs) ≡ true → runs_over p q xs ≡ true
runs_turned_back p q xs e = subst (λ (ys : List ℕ). runs_over p q ys ≡ true) (reverse-reverse xs) (runs_turned p q (reversed xs) e)

-- what a part runs over the whole does
pub runs_in_whole : (p q : ℕ) (before part after : List ℕ) → runs_over p q part ≡ true → runs_over p q (before ++ (part ++ after)) ≡ true
runs_in_whole p q before part after e = of_steps (steps_from_runs p q part e)
  where
    wider : (a b : ℕ) (s : StepsOver a b part) → before ++ (part ++ after) ≡ (before ++ s.before) ++ a ∷ b ∷ (s.after ++ after)
    wider a b s =
        ap (λ (ys : List ℕ). before ++ (ys ++ after)) s.is
        ∙ ap (λ (ys : List ℕ). before ++ ys) (append_assoc s.before (a ∷ b ∷ s.after) after)
        ∙ sym (append_assoc before s.before (a ∷ b ∷ (s.after ++ after)))

    of_steps : StepsOver p q part ⊎ StepsOver q p part → runs_over p q (before ++ (part ++ after)) ≡ true
    of_steps (inl s) = ap (runs_over p q) (wider p q s) ∙ runs_at (before ++ s.before) p q (s.after ++ after)
    of_steps (inr s) = runs_either p q (before ++ (part ++ after)) ∙ ap (runs_over q p) (wider q p s) ∙ runs_at (before ++ s.before) q p (s.after ++ after)
