-- What holds of a node after its rounds: the bound is sound, and the incumbent costs no more than before.
use Rattle.std.proofs.Common.{◌≡◌, ℕ, suc, ◌+◌, ◌≤◌, ◌==◌, ◌||◌, Bool, true, false, cond, List, refl, sym, arith, ◌⊎◌, inl, inr, true≢false, eq-eqb}
use Rattle.std.specs.Prelude.{ℤ, pos, nat_lt, int_lt}
use Rattle.map_base.specs.declared.ids.LineId.{LineId}
use Rattle.order_model.specs.declared.problem.ProblemParts.{ProblemParts}
use Rattle.order_model.specs.Costs.{AreOrders}
use Rattle.dual_bound.specs.declared.settled.SettledPair.{SettledPair}
use Rattle.dual_bound.specs.Accepting.{load_of}
use Rattle.dual_ascent.specs.OwnNumbers.{all_segments}
use Rattle.dual_ascent.specs.LocalSearch.{Incumbent, after_offer}
use Rattle.dual_ascent.specs.Averages.{ArePairs, averaged_orders}
use Rattle.dual_ascent.specs.DualSteps.{AreWithin, answers, value_with, gap_of}
use Rattle.dual_ascent.specs.Rounds.{Search, LowerBound, Ascent, going, spent, onward, with_value, answered, one_round, rounds, first_ascent, ascended}
use Rattle.dual_ascent.proofs.Stages.{StageHas, closed_has, answers_have, Keeps, with_averages, with_averaged, rounds_have}
use Rattle.dual_ascent.proofs.Meeting.{answers_orders, averaged_are_orders, IsIncumbent, offer_is}
use Rattle.dual_ascent.proofs.Pricing.{next_within, round_value, IsSound}
use Rattle.dual_ascent.proofs.Pairs.{first_pairs, pairs_after}

module _ (p : ProblemParts) (settled : List SettledPair) (cost : ℕ) (first : LowerBound) where
  -- an incumbent that costs at most so much
  pub record IsCheap (best : Incumbent) : Type 0 where
    pub is_one : IsIncumbent p best
    pub below : best.cost ≤ cost

  -- the bound as it was before the first round, or a sound one
  abbrev pub IsBound : Ascent → Type 0
  IsBound a = ((a.round ≡ 0) × (a.bound ≡ first)) ⊎ IsSound p settled a.bound

  -- before a round
  pub record IsReady (a : Ascent) : Type 0 where
    pub cheap : IsCheap a.incumbent
    pub within : AreWithin p.terms a.prices
    pub pairs : ArePairs p a.averages
    pub bound : IsBound a

  -- after one
  pub record IsGood (a : Ascent) : Type 0 where
    pub cheap : IsCheap a.incumbent
    pub within : AreWithin p.terms a.prices
    pub pairs : ArePairs p a.averages
    pub sound : IsSound p settled a.bound

  -- where it is spent
  pub record IsCut (a : Ascent) : Type 0 where
    pub cheap : IsCheap a.incumbent
    pub bound : IsBound a

  good_is_ready : (a : Ascent) → IsGood a → IsReady a
  good_is_ready a h = record { cheap = h.cheap; within = h.within; pairs = h.pairs; bound = inr h.sound }

  offer_cheap : (orders : List (List LineId)) (best : Incumbent) → AreOrders p.segs orders → IsCheap best → IsCheap (after_offer p orders best)
  offer_cheap orders best are h =
      let offered = offer_is p orders best are h.is_one in
      let below = offered.below in
      let low = h.below in
      record { is_one = offered.is_one; below = omega (arith, below, low) }

  module _ (budget : ℕ) where
    abbrev search : Search
    search = record { problem = p; budget = budget }

    keeps_good : (orders : List (List LineId)) → AreOrders p.segs orders → Keeps search settled IsGood orders
    keeps_good orders are = record {
      directions = λ a h. record { cheap = h.cheap; within = h.within; pairs = h.pairs; sound = h.sound };
      offer = λ a h. record { cheap = offer_cheap orders a.incumbent are h.cheap; within = h.within; pairs = h.pairs; sound = h.sound };
      averaged = λ a h. record {
        cheap = offer_cheap (averaged_orders p settled a.averages) a.incumbent (averaged_are_orders p settled a.averages) h.cheap;
        within = h.within;
        pairs = h.pairs;
        sound = h.sound;
      };
      step = λ a h. record { cheap = h.cheap; within = h.within; pairs = h.pairs; sound = h.sound };
      prices = λ value a h. record { cheap = h.cheap; within = next_within p a.step (gap_of a.incumbent.cost value) a.prices a.directions; pairs = h.pairs; sound = h.sound };
    }

    -- a round that was begun: its bound is the one before
    looked_good : (a : Ascent) (orders : List (List LineId)) (value : ℤ) → IsCheap a.incumbent → AreWithin p.terms a.prices → ArePairs p a.averages
        → ((a.round ≡ 1) ⊎ IsSound p settled a.bound) → IsSound p settled (record { value = value; prices = a.prices }) → IsGood (with_value value (with_averages search orders a))
    looked_good a orders value cheap within pairs before now = by_test (a.round == 1 || int_lt a.bound.value value) refl
      where
        either_first : (s t : Bool) → s ≡ true → (s || t) ≡ false → ⊥
        either_first true t e h = true≢false h
        either_first false t e h = true≢false (sym e)

        old : (a.round == 1 || int_lt a.bound.value value) ≡ false → (a.round ≡ 1) ⊎ IsSound p settled a.bound → IsSound p settled a.bound
        old e (inl one) = absurd (either_first (a.round == 1) (int_lt a.bound.value value) (eq-eqb a.round 1 one) e)
        old e (inr h) = h

        by_test : (t : Bool) → (a.round == 1 || int_lt a.bound.value value) ≡ t
            → IsGood (cond t (record (with_averages search orders a) { bound = record { value = value; prices = a.prices }; stale = 0 }) (record (with_averages search orders a) { stale = a.stale + 1 }))
        by_test true e = record { cheap = cheap; within = within; pairs = pairs_after p a.round orders a.averages pairs; sound = now }
        by_test false e = record { cheap = cheap; within = within; pairs = pairs_after p a.round orders a.averages pairs; sound = old e before }

    answered_good : (a : Ascent) → IsCheap a.incumbent → AreWithin p.terms a.prices → ArePairs p a.averages → ((a.round ≡ 1) ⊎ IsSound p settled a.bound) → StageHas IsGood IsCut (answered search settled a)
    answered_good a cheap within pairs before =
        let orders = answers p settled a.prices in
        let value = value_with p a.prices orders in
        answers_have search settled IsGood IsCut orders value (keeps_good orders (answers_orders p settled a.prices)) a
        (looked_good a orders value cheap within pairs before (record { within = within; value = round_value p settled a.prices }))

    round_good : (a : Ascent) → IsReady a → StageHas IsGood IsCut (one_round search settled a)
    round_good a h = by_test (nat_lt budget (a.branches + load_of p.segs (all_segments p)))
      where
        next_bound : IsBound a → (a.round + 1 ≡ 1) ⊎ IsSound p settled a.bound
        next_bound (inl start) = let none = start.0 in inl (omega (arith, none))
        next_bound (inr sound) = inr sound

        by_test : (t : Bool) → StageHas IsGood IsCut
            (onward (cond t (spent a) (going (record a { round = a.round + 1; branches = a.branches + load_of p.segs (all_segments p) }))) (answered search settled))
        by_test true = record { cheap = h.cheap; bound = h.bound }
        by_test false =
            answered_good (record a { round = a.round + 1; branches = a.branches + load_of p.segs (all_segments p) }) h.cheap h.within h.pairs (next_bound h.bound)

    -- the rounds of a node
    pub ascent_good : (most : ℕ) (prices : List ℤ) (best : Incumbent) (branches : ℕ) → first ≡ record { value = pos 0; prices = prices } → IsIncumbent p best → best.cost ≤ cost → AreWithin p.terms prices
        → StageHas IsGood IsCut (ascended search settled (suc most) prices best branches)
    ascent_good most prices best branches start is_one below within =
        closed_has search settled IsGood IsCut after (rounds search settled (suc most) (first_ascent search prices best branches))
        (rounds_have search settled IsReady IsGood IsCut round_good good_is_ready most (first_ascent search prices best branches)
        (record { cheap = record { is_one = is_one; below = below }; within = within; pairs = first_pairs p; bound = inl (refl, sym start) }))
      where
        after : (a : Ascent) → IsGood a → IsGood (with_averaged search settled a)
        after a h = record {
          cheap = offer_cheap (averaged_orders p settled a.averages) a.incumbent (averaged_are_orders p settled a.averages) h.cheap;
          within = h.within;
          pairs = h.pairs;
          sound = h.sound;
        }
