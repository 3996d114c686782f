-- Costs that are offered to states one after another.
use Rattle.std.proofs.Common.{◌≡◌, refl, sym, subst, ℕ, ◌+◌, ◌<◌, ◌≤◌, ◌⊎◌, inl, inr, List, [], ◌∷◌, ◌++◌, Option, Some, None, length, set, replicate, Contains, arith}
use Rattle.std.specs.declared.cmp.Reverse.{Reverse}
use Rattle.least_path.specs.Orders.{AtMost}
use Rattle.state_search.specs.Goals.{Space, PathTo, IsSpace}
use Rattle.state_search.specs.Searching.{known_at, IsLowered, AreLowered, OfferGoals, OfferSteps, left_of, IsFollowed, IsSearch, HasGoals, is_state_at, nothing}
use Rattle.state_search.proofs.Tables.{known_at-same, AtMost-lowered, Contains-cases, Contains-front, Contains-behind}
use Rattle.state_search.proofs.Searches.{IsBounded, bounded_nothing, bounded_step, bounded_kept, search_written, left_written, search_followed, search_begins}

-- nothing was offered
pub lowered_none : (ahead : ℕ → ℕ) (table : List (Option ℕ)) (queue : List (Reverse (ℕ × ℕ))) → AreLowered ahead table table queue queue []
lowered_none ahead table queue = (refl, refl)

-- one more offer
pub lowered_more : (ahead : ℕ → ℕ) (old new last : List (Option ℕ)) (queue longer longest : List (Reverse (ℕ × ℕ))) (offers : List (ℕ × ℕ)) (at cost : ℕ) →
    AreLowered ahead old new queue longer offers → IsLowered (ahead at) new last longer longest at cost → AreLowered ahead old last queue longest (offers ++ (at, cost) ∷ [])
lowered_more ahead old new last queue longer longest [] at cost all one = (
  last,
  longest,
  subst (λ (t : List (Option ℕ)). IsLowered (ahead at) t last queue longest at cost) all.0 (subst (λ (q : List (Reverse (ℕ × ℕ))). IsLowered (ahead at) new last q longest at cost) all.1 one),
  (refl, refl),
)
lowered_more ahead old new last queue longer longest (offer ∷ offers) at cost all one =
    (all.0, all.1, all.2, lowered_more ahead all.0 new last all.1 longer longest offers at cost all.3 one)

-- two rounds of offers
pub lowered_both : (ahead : ℕ → ℕ) (old new last : List (Option ℕ)) (queue longer longest : List (Reverse (ℕ × ℕ))) (offers others : List (ℕ × ℕ)) →
    AreLowered ahead old new queue longer offers → AreLowered ahead new last longer longest others → AreLowered ahead old last queue longest (offers ++ others)
lowered_both ahead old new last queue longer longest [] others all more =
    subst (λ (t : List (Option ℕ)). AreLowered ahead t last queue longest others) all.0 (subst (λ (q : List (Reverse (ℕ × ℕ))). AreLowered ahead new last q longest others) all.1 more)
lowered_both ahead old new last queue longer longest (offer ∷ offers) others all more =
    (all.0, all.1, all.2, lowered_both ahead all.0 new last all.1 longer longest offers others all.3 more)

-- what a search keeps where costs are lowered: its state; what was at most a number; and no more is left to do
pub record IsLower (w : Space) (excepted : ℕ → ℕ → Type 0) (old new : List (Option ℕ)) (queue longer : List (Reverse (ℕ × ℕ))) : Type 0 where
  pub search : IsSearch w new longer excepted
  pub stays : (a m : ℕ) → AtMost (known_at old a) m → AtMost (known_at new a) m
  pub bounds : (k : ℕ) → IsBounded w.dearest old k → IsBounded w.dearest new k
  pub left : left_of w.dearest new longer ≤ left_of w.dearest old queue

-- a cost that some path to a goal has is lowered
pub lower_one : (w : Space) (excepted : ℕ → ℕ → Type 0) (old new : List (Option ℕ)) (queue longer : List (Reverse (ℕ × ℕ))) (at t k c : ℕ) → IsSearch w old queue excepted →
    at < w.count → (labels : List ℕ) → PathTo w at labels t → t ≡ k + c → c ≤ w.dearest → IsBounded w.dearest old k → IsLowered (w.ahead at) old new queue longer at t →
    IsLower w excepted old new queue longer × AtMost (known_at new at) t
lower_one w excepted old new queue longer at t k c s inside labels path sum cheap bounded (inl h) =
    subst (λ (table : List (Option ℕ)). IsLower w excepted old table queue longer × AtMost (known_at table at) t) (sym h.1)
    (subst (λ (q : List (Reverse (ℕ × ℕ))). IsLower w excepted old old queue q × AtMost (known_at old at) t) (sym h.2)
    (record { search = s; stays = λ a m low. low; bounds = λ j b. b; left = omega arith }, h.0))
lower_one w excepted old new queue longer at t k c s inside labels path sum cheap bounded (inr h) =
    subst (λ (table : List (Option ℕ)). IsLower w excepted old table queue longer × AtMost (known_at table at) t) (sym h.1) (
      record {
        search = search_written w old queue longer excepted at t s below labels path in_bounds h.0 h.2;
        stays = λ a m low. AtMost-lowered old at t a m below h.0 low;
        bounds = λ j b. bounded_kept w.dearest old at t j below b;
        left = left_written w.dearest old queue longer at t (t + w.ahead at) below in_bounds h.0 h.2;
      },
      subst (λ (o : Option ℕ). AtMost o t) (sym (known_at-same old at (Some t) below)) (omega arith),
    )
  where
    below : at < length old
    below = subst (λ (n : ℕ). at < n) (sym s.each) inside

    in_bounds : IsBounded w.dearest (set old at (Some t)) t
    in_bounds = bounded_step w.dearest old at k c t below bounded cheap sum h.0 (λ j e. s.bounded at j e)

-- an offer that a search may take: some path has the cost, which is a step above one in bounds
pub record MayTake (w : Space) (k : ℕ) (offer : ℕ × ℕ) : Type 0 where
  pub inside : offer.0 < w.count
  pub labels : List ℕ
  pub path : PathTo w offer.0 labels offer.1
  pub more : ℕ
  pub sum : offer.1 ≡ k + more
  pub cheap : more ≤ w.dearest

-- all offers are looked at
pub lower_all : (w : Space) (excepted : ℕ → ℕ → Type 0) (k : ℕ) (offers : List (ℕ × ℕ)) (old new : List (Option ℕ)) (queue longer : List (Reverse (ℕ × ℕ))) → IsSearch w old queue excepted →
    IsBounded w.dearest old k → ((offer : ℕ × ℕ) → Contains offers offer → MayTake w k offer) → AreLowered w.ahead old new queue longer offers →
    IsLower w excepted old new queue longer × ((offer : ℕ × ℕ) → Contains offers offer → AtMost (known_at new offer.0) offer.1)
lower_all w excepted k [] old new queue longer s bounded may all =
    subst (λ (table : List (Option ℕ)). IsLower w excepted old table queue longer × ((offer : ℕ × ℕ) → Contains [] offer → AtMost (known_at table offer.0) offer.1)) (sym all.0)
    (subst (λ (q : List (Reverse (ℕ × ℕ))). IsLower w excepted old old queue q × ((offer : ℕ × ℕ) → Contains [] offer → AtMost (known_at old offer.0) offer.1)) (sym all.1)
    (record { search = s; stays = λ a m low. low; bounds = λ j b. b; left = omega arith }, λ offer h. let nowhere : h.0 < 0 = h.1 in absurd (omega arith)))
lower_all w excepted k (offer ∷ offers) old new queue longer s bounded may all =
    let mine : MayTake w k offer = may offer (Contains-front offer offers) in
    let first : IsLower w excepted old all.0 queue all.1 × AtMost (known_at all.0 offer.0) offer.1 =
    lower_one w excepted old all.0 queue all.1 offer.0 offer.1 k mine.more s mine.inside mine.labels mine.path mine.sum mine.cheap bounded all.2 in
    let later : IsLower w excepted all.0 new all.1 longer × ((other : ℕ × ℕ) → Contains offers other → AtMost (known_at new other.0) other.1) =
    lower_all w excepted k offers all.0 new all.1 longer first.0.search (first.0.bounds k bounded) (λ other h. may other (Contains-behind offer other offers h)) all.3 in (
      record {
        search = later.0.search;
        stays = λ a m low. later.0.stays a m (first.0.stays a m low);
        bounds = λ j b. later.0.bounds j (first.0.bounds j b);
        left = both (left_of w.dearest new longer) (left_of w.dearest all.0 all.1) (left_of w.dearest old queue) later.0.left first.0.left;
      },
      λ other h. low (later.0.stays offer.0 offer.1 first.1) later.1 other (Contains-cases offer other offers h),
    )
  where
    both : (a b c : ℕ) → a ≤ b → b ≤ c → a ≤ c
    both a b c h g = omega arith

    low : AtMost (known_at new offer.0) offer.1 → ((other : ℕ × ℕ) → Contains offers other → AtMost (known_at new other.0) other.1) →
        (other : ℕ × ℕ) → (offer ≡ other) ⊎ Contains offers other → AtMost (known_at new other.0) other.1
    low here others other (inl e) = subst (λ (o : ℕ × ℕ). AtMost (known_at new o.0) o.1) e here
    low here others other (inr h) = others other h

-- a search begins with what is offered to the goals
pub goals_offered : (w : Space) → IsSpace w → (table : List (Option ℕ)) (queue : List (Reverse (ℕ × ℕ))) (offers : List (ℕ × ℕ)) → OfferGoals w offers →
    AreLowered w.ahead (replicate w.count None) table [] queue offers → IsSearch w table queue nothing × HasGoals w table
goals_offered w space table queue offers given all =
    (done.0.search, λ a k end. done.1 (a, k) (given.each a k end))
  where
    may : (offer : ℕ × ℕ) → Contains offers offer → MayTake w 0 offer
    may offer h =
        let end : w.goal offer.0 ≡ Some offer.1 = given.true_cost offer h in
        record { inside = space.end_state offer.0 offer.1 end; labels = []; path = end; more = offer.1; sum = omega arith; cheap = space.cheap_end offer.0 offer.1 end }

    done : IsLower w nothing (replicate w.count None) table [] queue × ((offer : ℕ × ℕ) → Contains offers offer → AtMost (known_at table offer.0) offer.1)
    done = lower_all w nothing 0 offers (replicate w.count None) table [] queue (search_begins w) (bounded_nothing w.dearest (replicate w.count None)) may all

-- a state that was taken is followed: the search goes on, goals stay known, and no more is left to do
pub steps_offered : (w : Space) → IsSpace w → (at cost : ℕ) (old new : List (Option ℕ)) (queue longer : List (Reverse (ℕ × ℕ))) (offers : List (ℕ × ℕ)) → OfferSteps w at cost offers →
    known_at old at ≡ Some cost → IsSearch w old queue (is_state_at at cost) → AreLowered w.ahead old new queue longer offers →
    IsLower w nothing old new queue longer
steps_offered w space at cost old new queue longer offers given known s all = record {
  search = search_followed w new longer at cost done.0.search followed;
  stays = done.0.stays;
  bounds = done.0.bounds;
  left = done.0.left;
}
  where
    path : (labels : List ℕ) × PathTo w at labels cost
    path = s.attained at cost known

    may : (offer : ℕ × ℕ) → Contains offers offer → MayTake w cost offer
    may offer h =
        let true = given.true_cost offer h in
        let l : ℕ = true.0 in
        let c : ℕ = true.1 in
        let sum : offer.1 ≡ cost + c = true.3 in
        record {
          inside = space.from_state offer.0 l at c true.2;
          labels = l ∷ path.0;
          path = (at, c, cost, true.2, path.1, (let turned : offer.1 ≡ c + cost = omega arith in turned));
          more = c;
          sum = sum;
          cheap = space.cheap offer.0 l at c true.2;
        }

    done : IsLower w (is_state_at at cost) old new queue longer × ((offer : ℕ × ℕ) → Contains offers offer → AtMost (known_at new offer.0) offer.1)
    done = lower_all w (is_state_at at cost) cost offers old new queue longer s (s.bounded at cost known) may all

    followed : IsFollowed w new at cost
    followed a l c step =
        let low : AtMost (known_at new a) (cost + c) = done.1 (a, cost + c) (given.each a l c step) in
        let same : cost + c ≡ c + cost = omega arith in
        subst (λ (n : ℕ). AtMost (known_at new a) n) same low

-- goals stay known
pub goals_stay : (w : Space) (old new : List (Option ℕ)) → ((a m : ℕ) → AtMost (known_at old a) m → AtMost (known_at new a) m) → HasGoals w old → HasGoals w new
goals_stay w old new stays goals a k end = stays a k (goals a k end)
