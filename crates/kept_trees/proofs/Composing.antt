-- How the steps of a round follow each other.
use Rattle.std.proofs.Common.{◌≡◌, ℕ, zero, suc, ◌+◌, ◌*◌, ◌<◌, ◌≤◌, ◌==◌, ◌&&◌, ◌||◌, Bool, true, false, cond, List, [], ◌∷◌, length, refl, sym, ◌∙◌, ap, subst, arith, eq-eqb}
use Rattle.std.specs.Prelude.{ℤ, int_lt, unsigned_abs}
use Rattle.std.proofs.lemmas.Bool.{le-ltb, ne_eqb}
use Rattle.std.proofs.lemmas.List.Elements.{All-weaker}
use Rattle.std.proofs.lemmas.List.Sums.{sum_by-cons, sum_by-le}
use Rattle.map_base.specs.declared.ids.LineId.{LineId}
use Rattle.order_model.specs.declared.term.Term.{Term}
use Rattle.order_model.specs.declared.term.Term.TheVariants.{Side, Link, Apart}
use Rattle.order_model.specs.declared.problem.ProblemParts.{ProblemParts}
use Rattle.order_model.specs.Problems.{IsTerm, IsProblem}
use Rattle.order_model.specs.Costs.{weight_of, is_met, term_cost, cost_of}
use Rattle.dual_bound.specs.declared.settled.SettledPair.{SettledPair}
use Rattle.dual_bound.specs.Accepting.{load_of}
use Rattle.dual_ascent.specs.OwnNumbers.{all_segments}
use Rattle.dual_ascent.specs.DualSteps.{AreWithin, answers, value_with, next_directions, are_still, square_sum}
use Rattle.dual_ascent.specs.declared.pair_average.PairAverage.{PairAverage}
use Rattle.dual_ascent.specs.Averages.{averages_after, averaged_orders}
use Rattle.dual_ascent.specs.LocalSearch.{Incumbent, after_offer}
use Rattle.dual_ascent.specs.Rounds.{Search, Ascent, Stage, going, over, spent, onward, is_shown, with_offer, with_value, directed, rounded, shrunk, stepped, with_answers, answered, one_round, rounds, closed}
use Rattle.dual_orders.specs.declared.incumbent.Incumbent.{Incumbent as HeldIncumbent}
use Rattle.dual_orders.specs.Values.{IsIncumbent}
use Rattle.dual_orders.proofs.Pricing.{length_within}
use Rattle.kept_trees.specs.Searching.{moved}

-- What orders cost.

weight_within : (segs : List (List LineId)) (t : Term) → IsTerm segs t → weight_of t ≤ 256000
weight_within segs (Side seg first second w) h = h.weight.1
weight_within segs (Link seg other flip a b w) h = h.weight.1
weight_within segs (Apart seg other a b w) h = h.weight.1

met_within : (b : Bool) (w : ℕ) → w ≤ 256000 → cond b w 0 ≤ 256000
met_within true w h = h
met_within false w h = omega arith

pub cost_within : (p : ProblemParts) (orders : List (List LineId)) → IsProblem p
    → cost_of p.terms orders ≤ 1024000000000
cost_within p orders fits =
    let most = sum_by-le (term_cost orders) 256000 p.terms
    (All-weaker (IsTerm p.segs) (λ (t : Term). term_cost orders t ≤ 256000)
    (λ t h. met_within (is_met orders t) (weight_of t) (weight_within p.segs t h)) p.terms fits.terms) in
    let few = fits.few_terms in
    omega (arith, most, few)

pub incumbent_within : (p : ProblemParts) (best : HeldIncumbent) → IsProblem p → IsIncumbent p best
    → best.cost ≤ 1024000000000
incumbent_within p best fits is =
    let most = cost_within p best.orders.items fits in
    let cost = is.cost in
    omega (arith, most, cost)

pub few_prices : (p : ProblemParts) (prices : List ℤ) → IsProblem p → AreWithin p.terms prices
    → length prices < 4294967296
few_prices p prices fits within =
    let same = length_within p.terms prices within in
    let few = fits.few_terms in
    omega (arith, same, few)

-- Directions.

no_square : (m n : ℕ) → m * m + n ≡ 0 → (m ≡ 0) × (n ≡ 0)
no_square zero n h = (refl, omega (arith, h))
no_square (suc m) n h = absurd (omega (arith, h))

pub still_from : (ds : List ℤ) → square_sum ds ≡ 0 → are_still ds ≡ true
still_from [] h = refl
still_from (y ∷ ds) h =
    let sum = sum_by-cons (λ (y : ℤ). unsigned_abs y * unsigned_abs y) y ds in
    let both = no_square (unsigned_abs y) (square_sum ds) (omega (arith, sum, h)) in
    ap (λ m. (m == 0) && are_still ds) both.0 ∙ still_from ds both.1

moving_by : (m : ℕ) (y : ℤ) (ds : List ℤ) → unsigned_abs y ≡ m → (0 < square_sum ds → are_still ds ≡ false)
    → 0 < square_sum (y ∷ ds) → ((unsigned_abs y == 0) && are_still ds) ≡ false
moving_by (suc m) y ds e rest h = ap (λ b. b && are_still ds) (ne_eqb (unsigned_abs y) 0 (λ z. omega (arith, e, z)))
moving_by zero y ds e rest h =
    let sum = sum_by-cons (λ (y : ℤ). unsigned_abs y * unsigned_abs y) y ds in
    let none : unsigned_abs y * unsigned_abs y ≡ 0 = ap (λ m. m * m) e in
    ap (λ b. b && are_still ds) (eq-eqb (unsigned_abs y) 0 e) ∙ rest (omega (arith, sum, h, none))

pub moving_from : (ds : List ℤ) → 0 < square_sum ds → are_still ds ≡ false
moving_from [] h = absurd (omega (arith, h))
moving_from (y ∷ ds) h = moving_by (unsigned_abs y) y ds refl (moving_from ds) h

-- Steps.

abbrev counted : Search → Ascent → Ascent
counted q a = record a { round = a.round + 1; branches = a.branches + load_of q.problem.segs (all_segments q.problem) }

abbrev pub seen : Search → List (List LineId) → ℤ → Ascent → Ascent
seen q orders value a = with_value value (record a { averages = averages_after q.problem a.round orders a.averages })

module _ (q : Search) (settled : List SettledPair) (a : Ascent) where
  pub round_begun : a.branches + load_of q.problem.segs (all_segments q.problem) ≤ q.budget
      → one_round q settled a ≡ answered q settled (counted q a)
  round_begun h = ap (λ b. onward (cond b (spent a) (going (counted q a))) (answered q settled))
      (le-ltb q.budget (a.branches + load_of q.problem.segs (all_segments q.problem)) h)

  pub answered_over : (orders : List (List LineId)) (value : ℤ) → is_shown (seen q orders value a) ≡ true
      → with_answers q settled orders value a ≡ over (seen q orders value a)
  answered_over orders value h =
      ap (λ b. onward
      (onward (onward
      (onward (cond b (over (seen q orders value a)) (going (seen q orders value a))) (directed q orders))
      (rounded q settled)) shrunk) (stepped q value)) h

  pub answered_on : (orders : List (List LineId)) (value : ℤ) → is_shown (seen q orders value a) ≡ false
      → with_answers q settled orders value a ≡ moved q settled orders value (seen q orders value a)
  answered_on orders value h =
      ap (λ b. onward
      (onward (onward
      (onward (cond b (over (seen q orders value a)) (going (seen q orders value a))) (directed q orders))
      (rounded q settled)) shrunk) (stepped q value)) h

-- A whole round, from the orders that answer its prices.

module _ (q : Search) (settled : List SettledPair) (start a b : Ascent) (value : ℤ)
    (begins : one_round q settled start ≡ answered q settled a)
    (is_value : value ≡ value_with q.problem a.prices (answers q.problem settled a.prices))
    (is_seen : b ≡ seen q (answers q.problem settled a.prices) value a) where
  with_value_is : one_round q settled start ≡ with_answers q settled (answers q.problem settled a.prices) value a
  with_value_is = begins ∙ ap (λ v. with_answers q settled (answers q.problem settled a.prices) v a) (sym is_value)

  pub round_over : is_shown b ≡ true → one_round q settled start ≡ over b
  round_over h =
      with_value_is
      ∙ (answered_over q settled a (answers q.problem settled a.prices) value (subst (λ c. is_shown c ≡ true) is_seen h)
      ∙ ap over (sym is_seen))

  pub round_moves : (s : Stage) → is_shown b ≡ false → moved q settled (answers q.problem settled a.prices) value b ≡ s
      → one_round q settled start ≡ s
  round_moves s h m =
      with_value_is
      ∙ (answered_on q settled a (answers q.problem settled a.prices) value (subst (λ c. is_shown c ≡ false) is_seen h)
      ∙ (ap (moved q settled (answers q.problem settled a.prices) value) (sym is_seen) ∙ m))

-- Each step by its tests.

module _ (q : Search) (orders : List (List LineId)) (a : Ascent) where
  abbrev pub turned : Ascent
  turned = record a { directions = next_directions q.problem orders a.prices a.directions }

  pub directed_over : are_still turned.directions ≡ true
      → directed q orders a ≡ over (with_offer q.problem orders turned)
  directed_over h = ap (λ b. cond b (over (with_offer q.problem orders turned)) (going turned)) h

  pub directed_on : are_still turned.directions ≡ false → directed q orders a ≡ going turned
  directed_on h = ap (λ b. cond b (over (with_offer q.problem orders turned)) (going turned)) h

-- a value that is kept, and one that is not
pub value_kept : (value : ℤ) (a : Ascent) → (a.round == 1 || int_lt a.bound.value value) ≡ true
    → with_value value a ≡ record a { bound = record { value = value; prices = a.prices }; stale = 0 }
value_kept value a h = ap
    (λ b. cond b (record a { bound = record { value = value; prices = a.prices }; stale = 0 })
    (record a { stale = a.stale + 1 })) h

abbrev pub with_averages : List (List PairAverage) → Ascent → Ascent
with_averages averages a = record a { averages = averages }

-- as it lies in memory
abbrev kept_with : ℤ → List ℤ → Ascent → Ascent
kept_with value prices a = record a { bound = record { value = value; prices = prices }; stale = 0 }

pub kept_value : (value held : ℤ) (a : Ascent) (prices : List ℤ) → (a.round == 1 || int_lt a.bound.value value) ≡ true
    → held ≡ value → prices ≡ a.prices → kept_with held prices a ≡ with_value value a
kept_value value held a prices test same are =
    (λ i. kept_with (same i) (are i) a) ∙ sym (value_kept value a test)

-- The directions are turned.

module _ (q : Search) (orders : List (List LineId)) (a : Ascent) (ds : List ℤ) where
  abbrev turned_to : List ℤ → Ascent
  turned_to l = record a { directions = l }

  abbrev met_with : Incumbent → ℕ → List ℤ → Ascent
  met_with best branches l = record a { directions = l; incumbent = best; branches = branches }

  pub turn_moves : ds ≡ next_directions q.problem orders a.prices a.directions → 0 < square_sum ds
      → directed q orders a ≡ going (turned_to ds)
  turn_moves is moves = directed_on q orders a (ap are_still (sym is) ∙ moving_from ds moves)
      ∙ ap (λ (l : List ℤ). going (turned_to l)) (sym is)

  pub turn_stills : (best : Incumbent) (branches : ℕ) → ds ≡ next_directions q.problem orders a.prices a.directions
      → square_sum ds ≡ 0 → best ≡ after_offer q.problem orders a.incumbent → branches ≡ a.branches
      → directed q orders a ≡ over (met_with best branches ds)
  turn_stills best branches is none met same =
      directed_over q orders a (ap are_still (sym is) ∙ still_from ds none)
      ∙ sym (λ i. over (met_with (met i) (same i) (is i)))

-- So many rounds.

module _ (q : Search) (settled : List SettledPair) where
  pub rounds_over : (n m : ℕ) (a b : Ascent) → n ≡ suc m → one_round q settled a ≡ over b
      → rounds q settled n a ≡ over b
  rounds_over n m a b e h = ap (λ k. rounds q settled k a) e ∙ ap (λ (s : Stage). onward s (rounds q settled m)) h

  pub rounds_spent : (n m : ℕ) (a b : Ascent) → n ≡ suc m → one_round q settled a ≡ spent b
      → rounds q settled n a ≡ spent b
  rounds_spent n m a b e h = ap (λ k. rounds q settled k a) e ∙ ap (λ (s : Stage). onward s (rounds q settled m)) h

  onward_ends : (n : ℕ) → ((a b : Ascent) → rounds q settled n a ≡ going b → ⊥) → (s : Stage) (b : Ascent)
      → onward s (rounds q settled n) ≡ going b → ⊥
  onward_ends n below (going a) b h = below a b h
  onward_ends n below (over a) b h = cc
  onward_ends n below (spent a) b h = cc

  -- they never go on
  pub rounds_end : (n : ℕ) (a b : Ascent) → rounds q settled n a ≡ going b → ⊥
  rounds_end zero a b h = cc
  rounds_end (suc n) a b h = onward_ends n (rounds_end n) (one_round q settled a) b h

  -- and are over once the averaged orders were offered
  pub closed_is : (s : Stage) (a : Ascent) (best : Incumbent) (branches : ℕ) → s ≡ over a
      → best ≡ after_offer q.problem (averaged_orders q.problem settled a.averages) a.incumbent → branches ≡ a.branches
      → closed q settled s ≡ over (record a { incumbent = best; branches = branches })
  closed_is s a best branches e met same =
      ap (closed q settled) e ∙ sym (λ i. over (record a { incumbent = met i; branches = same i }))
