-- Offers that stand in a list.
use Rattle.std.proofs.Common.{◌≡◌, subst, ℕ, zero, suc, ◌+◌, ◌<◌, inl, inr, List, [], ◌∷◌, length, get_or, Some, Contains, arith}
use Rattle.least_path.proofs.Chosen.{StandsIn, AllAre, all-at}
use Rattle.state_search.specs.Goals.{Space}
use Rattle.state_search.specs.Searching.{OfferGoals, OfferSteps}
use Rattle.state_search.proofs.Tables.{Contains-front, Contains-behind}

-- what a list contains stands in it, and the other way round
pub contains_stands : {X : Type 0} (x : X) (xs : List X) → Contains xs x → StandsIn x xs
contains_stands {X = X} x xs h = at_place xs h.0 h.1 h.2
  where
    at_place : (xs : List X) (k : ℕ) → k < length xs → get_or xs k x ≡ x → StandsIn x xs
    at_place [] k below e = absurd (omega arith)
    at_place (y ∷ ys) zero below e = inl e
    at_place (y ∷ ys) (suc k) below e = inr (at_place ys k (omega arith) e)

pub stands_contains : {X : Type 0} (x : X) (xs : List X) → StandsIn x xs → Contains xs x
stands_contains x [] h = absurd h
stands_contains x (y ∷ ys) (inl e) = subst (λ z. Contains (y ∷ ys) z) e (Contains-front y ys)
stands_contains x (y ∷ ys) (inr h) = Contains-behind y x ys (stands_contains x ys h)

-- offers to goals, by what holds of all of them and which stand there
pub goals_stand : (w : Space) (offers : List (ℕ × ℕ)) → AllAre (λ (offer : ℕ × ℕ). w.goal offer.0 ≡ Some offer.1) offers →
    ((a k : ℕ) → w.goal a ≡ Some k → StandsIn (a, k) offers) → OfferGoals w offers
goals_stand w offers all each = record {
  true_cost = λ offer h. all-at (λ (o : ℕ × ℕ). w.goal o.0 ≡ Some o.1) offer offers all (contains_stands offer offers h);
  each = λ a k end. stands_contains (a, k) offers (each a k end);
}

-- offers by steps likewise
abbrev pub IsStepOffer : Space → ℕ → ℕ → ℕ × ℕ → Type 0
IsStepOffer w at cost offer = (l : ℕ) × (c : ℕ) × w.step offer.0 l at c × (offer.1 ≡ cost + c)

pub steps_stand : (w : Space) (at cost : ℕ) (offers : List (ℕ × ℕ)) → AllAre (IsStepOffer w at cost) offers →
    ((a l c : ℕ) → w.step a l at c → StandsIn (a, cost + c) offers) → OfferSteps w at cost offers
steps_stand w at cost offers all each = record {
  true_cost = λ offer h. all-at (IsStepOffer w at cost) offer offers all (contains_stands offer offers h);
  each = λ a l c step. stands_contains (a, cost + c) offers (each a l c step);
}
