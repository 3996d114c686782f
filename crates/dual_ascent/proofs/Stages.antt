-- What holds through the stages of a round, and through rounds.
use Rattle.std.proofs.Common.{ℕ, zero, suc, ◌*◌, ◌/◌, Bool, true, false, cond, List}
use Rattle.std.specs.Prelude.{ℤ, nat_lt, ◌==◌, ◌%◌}
use Rattle.map_base.specs.declared.ids.LineId.{LineId}
use Rattle.dual_bound.specs.declared.settled.SettledPair.{SettledPair}
use Rattle.dual_ascent.specs.Averages.{averages_after, averaged_orders}
use Rattle.dual_ascent.specs.DualSteps.{next_directions, are_still, gap_of, next_prices}
use Rattle.dual_ascent.specs.Rounds.{Search, Ascent, Stage, going, over, spent, onward, over_if, is_shown, with_offer, with_value, looked, directed, rounded, shrunk, stepped, with_answers, one_round, rounds, closed}

-- the one holds where rounds go on or are over, the other where they are spent
abbrev pub StageHas : (Ascent → Type 0) → (Ascent → Type 0) → Stage → Type 0
StageHas P Q (going a) = P a
StageHas P Q (over a) = P a
StageHas P Q (spent a) = Q a

pub onward_has : (P Q : Ascent → Type 0) (s : Stage) (next : Ascent → Stage) → StageHas P Q s → ((a : Ascent) → P a → StageHas P Q (next a)) → StageHas P Q (onward s next)
onward_has P Q (going a) next h k = k a h
onward_has P Q (over a) next h k = h
onward_has P Q (spent a) next h k = h

over_if_has : (P Q : Ascent → Type 0) (so : Bool) (a : Ascent) → P a → StageHas P Q (over_if so a)
over_if_has P Q true a h = h
over_if_has P Q false a h = h

either_has : (P Q : Ascent → Type 0) (so : Bool) (s t : Stage) → StageHas P Q s → StageHas P Q t → StageHas P Q (cond so s t)
either_has P Q true s t h k = h
either_has P Q false s t h k = k

-- the averages with the orders of a round
abbrev pub with_averages : Search → List (List LineId) → Ascent → Ascent
with_averages q orders a = record a { averages = averages_after q.problem a.round orders a.averages }

-- the directions after them
abbrev pub with_directions : Search → List (List LineId) → Ascent → Ascent
with_directions q orders a = record a { directions = next_directions q.problem orders a.prices a.directions }

-- a smaller step
abbrev pub with_step : Ascent → Ascent
with_step a = record a { step = 7 * a.step / 10; stale = 0 }

-- prices after a step
abbrev pub with_prices : Search → ℤ → Ascent → Ascent
with_prices q value a = record a { prices = next_prices q.problem a.step (gap_of a.incumbent.cost value) a.prices a.directions }

-- the averaged orders are offered
abbrev pub with_averaged : Search → List SettledPair → Ascent → Ascent
with_averaged q settled a = with_offer q.problem (averaged_orders q.problem settled a.averages) a

-- what each change within a round keeps, once its orders were looked at
pub record Keeps (q : Search) (settled : List SettledPair) (P : Ascent → Type 0) (orders : List (List LineId)) : Type 0 where
  pub directions : (a : Ascent) → P a → P (with_directions q orders a)
  pub offer : (a : Ascent) → P a → P (with_offer q.problem orders a)
  pub averaged : (a : Ascent) → P a → P (with_averaged q settled a)
  pub step : (a : Ascent) → P a → P (with_step a)
  pub prices : (value : ℤ) (a : Ascent) → P a → P (with_prices q value a)

-- the averaged orders are offered at the end of rounds
pub closed_has : (q : Search) (settled : List SettledPair) (P Q : Ascent → Type 0) → ((a : Ascent) → P a → P (with_averaged q settled a)) → (s : Stage) → StageHas P Q s → StageHas P Q (closed q settled s)
closed_has q settled P Q keeps (going a) h = h
closed_has q settled P Q keeps (over a) h = keeps a h
closed_has q settled P Q keeps (spent a) h = h

-- what follows in a round once its orders were looked at
pub answers_have : (q : Search) (settled : List SettledPair) (P Q : Ascent → Type 0) (orders : List (List LineId)) (value : ℤ) → Keeps q settled P orders
    → (a : Ascent) → P (with_value value (with_averages q orders a)) → StageHas P Q (with_answers q settled orders value a)
answers_have q settled P Q orders value keeps a h =
    onward_has P Q (onward (onward (onward (looked q orders value a) (directed q orders)) (rounded q settled)) shrunk) (stepped q value)
    (onward_has P Q (onward (onward (looked q orders value a) (directed q orders)) (rounded q settled)) shrunk
    (onward_has P Q (onward (looked q orders value a) (directed q orders)) (rounded q settled)
    (onward_has P Q (looked q orders value a) (directed q orders) (over_if_has P Q (is_shown (with_value value (with_averages q orders a))) (with_value value (with_averages q orders a)) h) by_direction)
    by_turn) by_step)
    (λ b k. keeps.prices value b k)
  where
    by_direction : (b : Ascent) → P b → StageHas P Q (directed q orders b)
    by_direction b k =
        either_has P Q (are_still (with_directions q orders b).directions) (over (with_offer q.problem orders (with_directions q orders b))) (going (with_directions q orders b))
        (keeps.offer (with_directions q orders b) (keeps.directions b k)) (keeps.directions b k)

    by_turn : (b : Ascent) → P b → StageHas P Q (rounded q settled b)
    by_turn b k =
        either_has P Q (b.round % 20 == 0) (over_if (is_shown (with_averaged q settled b)) (with_averaged q settled b)) (going b)
        (over_if_has P Q (is_shown (with_averaged q settled b)) (with_averaged q settled b) (keeps.averaged b k)) k

    by_step : (b : Ascent) → P b → StageHas P Q (shrunk b)
    by_step b k =
        either_has P Q (b.stale == 20) (over_if (nat_lt (with_step b).step 4) (with_step b)) (going b)
        (over_if_has P Q (nat_lt (with_step b).step 4) (with_step b) (keeps.step b k)) k

-- at least one round
pub rounds_have : (q : Search) (settled : List SettledPair) (R P Q : Ascent → Type 0) → ((a : Ascent) → R a → StageHas P Q (one_round q settled a)) → ((a : Ascent) → P a → R a)
    → (n : ℕ) (a : Ascent) → R a → StageHas P Q (rounds q settled (suc n) a)
rounds_have q settled R P Q round again zero a h = onward_has P Q (one_round q settled a) (rounds q settled zero) (round a h) (λ b k. k)
rounds_have q settled R P Q round again (suc n) a h =
    onward_has P Q (one_round q settled a) (rounds q settled (suc n)) (round a h) (λ b k. rounds_have q settled R P Q round again n b (again b k))
