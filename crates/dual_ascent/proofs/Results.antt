-- What the result of a search shows.
use Rattle.std.proofs.Common.{◌≡◌, ℕ, ◌+◌, ◌*◌, ◌/◌, ◌<◌, ◌≤◌, true, cond, List, [], length, refl, sym, ◌∙◌, ap, subst, arith, inl, inr, true≢false, Some, None}
use Rattle.std.specs.Prelude.{ℤ, pos, negsuc, ◌+ℤ◌, ◌-ℤ◌, ◌*ℤ◌, ◌≤ℤ◌, int_lt, nat_le}
use Rattle.std.specs.List.{All}
use Rattle.std.proofs.lemmas.Bool.{and_parts, leb-true}
use Rattle.std.proofs.lemmas.Bool.Decides.{nat_tests}
use Rattle.std.proofs.lemmas.Int.{ints}
use Rattle.map_base.specs.declared.ids.LineId.{LineId}
use Rattle.graph_core.specs.Consistent.{AreRising}
use Rattle.order_model.specs.declared.problem.ProblemParts.{ProblemParts}
use Rattle.order_model.specs.Problems.{IsTerm}
use Rattle.order_model.specs.Costs.{cost_of, AreOrders}
use Rattle.order_model.specs.PartTerms.{plain_terms}
use Rattle.order_model.specs.Questions.{Question, question}
use Rattle.order_values.specs.DualTrees.{PlainDual, fork, stop, fork_depth, stops_of}
use Rattle.whole_algebra.proofs.Products.{+ℤ-*ℤ}
use Rattle.dual_bound.specs.Shares.{thousand}
use Rattle.dual_bound.specs.Accepting.{is_narrow, shows, accepts, load_of, most_load, failing_below, failing}
use Rattle.dual_bound.proofs.Sound.{below_accepted}
use Rattle.dual_bound.proofs.Shown.{shown_part_bounds}
use Rattle.dual_ascent.specs.OwnNumbers.{all_segments, all_terms, zeros, listed}
use Rattle.dual_ascent.specs.LocalSearch.{first_incumbent}
use Rattle.dual_ascent.specs.DualSteps.{answers, value_with}
use Rattle.dual_ascent.specs.Rounds.{Search, LowerBound, Ascent, Stage, going, over, spent, ascended}
use Rattle.dual_ascent.specs.Walks.{Walked, whole, cut, walked}
use Rattle.dual_ascent.specs.DualResults.{is_in_reach, rounded_up, DualResult, dual_result, result_after, root_bound, last_of, most_forks, root_rounds, first_progress}
use Rattle.dual_ascent.specs.Shown.{IsListed, IsShown}
use Rattle.dual_ascent.proofs.Stages.{StageHas}
use Rattle.dual_ascent.proofs.Listing.{listed_stop}
use Rattle.dual_ascent.proofs.Budgets.{WalkHas, walk_between}
use Rattle.dual_ascent.proofs.OwnParts.{segments_rise, part_terms_all, plain_numbered, every_known}
use Rattle.dual_ascent.proofs.Meeting.{first_is_incumbent}
use Rattle.dual_ascent.proofs.Pricing.{zeros_within, round_value, IsSound, stop_holds}
use Rattle.dual_ascent.proofs.Ascents.{IsBound, IsGood, IsCut, ascent_good}
use Rattle.dual_ascent.proofs.RootBounds.{free_value, ascent_free}
use Rattle.dual_ascent.proofs.Trees.{loads, both_have, WalkIs, walk_is}

distributes : (a b l : ℕ) → (a + b) * l ≡ a * l + b * l
distributes a b l = let e = +ℤ-*ℤ (pos a) (pos b) (pos l) in omega (arith, ints, e)

loads_are : (load : ℕ) (tree : PlainDual) → stops_of tree * load ≡ loads load tree
loads_are load (fork s a b first second) =
    let one = loads_are load first in
    let two = loads_are load second in
    let sum = distributes (stops_of first) (stops_of second) load in
    omega (arith, one, two, sum)
loads_are load (stop prices) = omega (arith)

-- a value that is not negative shows what it is rounded up to
rounded_shows : (v : ℤ) → pos 0 ≤ℤ v → shows (rounded_up v) (Some v) ≡ true
rounded_shows (pos n) h = less (pos thousand *ℤ (pos ((n + 999) / 1000) -ℤ pos 1)) (pos n) (above n ((n + 999) / 1000) (low n))
  where
    low : (n : ℕ) → 1000 * ((n + 999) / 1000) ≤ n + 999
    low n = omega (arith)

    above : (n q : ℕ) → 1000 * q ≤ n + 999 → ((pos thousand *ℤ (pos q -ℤ pos 1)) +ℤ pos 1) ≤ℤ pos n
    above n q h = omega (arith, ints, h)

    less : (i j : ℤ) → (i +ℤ pos 1) ≤ℤ j → int_lt i j ≡ true
    less i j h = grind (arith, ints)
rounded_shows (negsuc n) h = absurd (omega (arith, ints, h))

none_shows : (v : ℤ) → pos 0 ≤ℤ v → shows 0 (Some v) ≡ true
none_shows v h = less (pos thousand *ℤ (pos 0 -ℤ pos 1)) v (omega (arith, ints, h))
  where
    less : (i j : ℤ) → (i +ℤ pos 1) ≤ℤ j → int_lt i j ≡ true
    less i j h = grind (arith, ints)

module _ (p : ProblemParts) (rising : All AreRising p.segs) (fit : All (IsTerm p.segs) p.terms) (some : 0 < length p.segs) (narrow : is_narrow p.segs (all_segments p) ≡ true) (reach : load_of p.segs (all_segments p) ≤ most_load) (budget : ℕ) (light : budget ≤ most_load) where
  abbrev load : ℕ
  load = load_of p.segs (all_segments p)

  abbrev search : Search
  search = record { problem = p; budget = budget }

  abbrev asked : ℕ → Question
  asked target = question p.segs (all_segments p) (all_terms p) target

  -- no node of a tree fails that is accepted and whose stops were counted
  unfailing : (target : ℕ) (tree : PlainDual) → accepts (asked target) [] tree ≡ true → loads load tree ≤ most_load → failing (asked target) tree ≡ None
  unfailing target tree ok few =
      ap (λ t. cond t (failing_below (asked target) [] tree) (Some [])) (low (stops_of tree * load) most_load (let are = loads_are load tree in omega (arith, are, few)))
      ∙ below_accepted (asked target) [] tree ok
    where
      low : (a b : ℕ) → a ≤ b → nat_le a b ≡ true
      low a b h = grind (arith, nat_tests)

  -- so no orders cost less
  no_less : (target : ℕ) (tree : PlainDual) → failing (asked target) tree ≡ None → (others : List (List LineId)) → AreOrders p.segs others → target ≤ cost_of p.terms others
  no_less target tree none others are =
      subst (λ terms. target ≤ cost_of terms others) (ap plain_terms (part_terms_all p.segs p.terms fit) ∙ plain_numbered 0 p.terms)
      (shown_part_bounds p.segs (all_segments p) p.terms target tree rising fit (segments_rise 0 p.segs some) (every_known p.segs)
      (ap (λ terms. failing (question p.segs (all_segments p) terms target) tree) (part_terms_all p.segs p.terms fit) ∙ none) others are)

  shown_of : (r : DualResult) → AreOrders p.segs r.orders → accepts (asked r.target) [] r.tree ≡ true → loads load r.tree ≤ most_load → fork_depth r.tree ≤ most_forks → IsListed r.tree
      → (r.complete ≡ true → cost_of p.terms r.orders ≡ r.target) → r.branches ≤ budget → IsShown p budget r
  shown_of r orders ok few shallow listed attained within = record {
    orders = orders;
    unfailing = unfailing r.target r.tree ok few;
    shallow = shallow;
    listed = listed;
    attained = attained;
    bounds = no_less r.target r.tree (unfailing r.target r.tree ok few);
    within = within;
  }

  abbrev root_walk : Walked
  root_walk = walked search most_forks root_rounds [] (zeros p) (first_progress p)

  abbrev no_bound : LowerBound
  no_bound = record { value = pos 0; prices = zeros p }

  -- the root's bound shows what it is rounded up to
  root_shows : accepts (asked (rounded_up (root_bound search).value)) [] (stop (listed (root_bound search).prices)) ≡ true
  root_shows =
      by_stage (ascended search [] root_rounds (zeros p) (first_incumbent p) 0)
      (both_have (IsGood p [] (first_incumbent p).cost no_bound) (IsCut p [] (first_incumbent p).cost no_bound) (λ a. (pos 0 ≤ℤ a.bound.value) × (1 ≤ a.round)) (λ a. pos 0 ≤ℤ a.bound.value)
      (ascended search [] root_rounds (zeros p) (first_incumbent p) 0)
      (ascent_good p [] (first_incumbent p).cost no_bound budget 999 (zeros p) (first_incumbent p) 0 refl (first_is_incumbent p) (omega (arith)) (zeros_within p.terms))
      (ascent_free p [] budget 999 (first_incumbent p) 0))
    where
      sound_shows : (b : LowerBound) → IsSound p [] b → pos 0 ≤ℤ b.value → accepts (asked (rounded_up b.value)) [] (stop (listed b.prices)) ≡ true
      sound_shows b h free = stop_holds p [] b.value b.prices (rounded_up b.value) narrow h.within h.value (rounded_shows b.value free)

      none_shown : accepts (asked 0) [] (stop (listed (zeros p))) ≡ true
      none_shown =
          stop_holds p [] (value_with p (zeros p) (answers p [] (zeros p))) (zeros p) 0 narrow (zeros_within p.terms) (round_value p [] (zeros p))
          (none_shows (value_with p (zeros p) (answers p [] (zeros p))) (free_value p (answers p [] (zeros p))))

      by_bound : (a : Ascent) → IsBound p [] (first_incumbent p).cost no_bound a → pos 0 ≤ℤ a.bound.value → accepts (asked (rounded_up a.bound.value)) [] (stop (listed a.bound.prices)) ≡ true
      by_bound a (inl start) free = subst (λ (b : LowerBound). accepts (asked (rounded_up b.value)) [] (stop (listed b.prices)) ≡ true) (sym start.1) none_shown
      by_bound a (inr sound) free = sound_shows a.bound sound free

      by_stage : (s : Stage) → StageHas (λ a. IsGood p [] (first_incumbent p).cost no_bound a × ((pos 0 ≤ℤ a.bound.value) × (1 ≤ a.round))) (λ a. IsCut p [] (first_incumbent p).cost no_bound a × (pos 0 ≤ℤ a.bound.value)) s
          → accepts (asked (rounded_up (last_of s).bound.value)) [] (stop (listed (last_of s).bound.prices)) ≡ true
      by_stage (going a) h = let sound = h.0.sound in sound_shows a.bound sound h.1.0
      by_stage (over a) h = let sound = h.0.sound in sound_shows a.bound sound h.1.0
      by_stage (spent a) h = let bound = h.0.bound in by_bound a bound h.1

  -- the result of a search: its tree is accepted at the target, so no orders cost less; where the search is complete, its
  -- orders cost the target
  pub result_shown : IsShown p budget (dual_result p budget)
  result_shown = by_walk root_walk (walk_is p rising fit some narrow budget most_forks 999 [] (zeros p) (first_progress p) (first_is_incumbent p) (zeros_within p.terms))
      (walk_between p budget most_forks root_rounds [] (zeros p) (first_progress p) (omega (arith)))
    where
      by_walk : (w : Walked) → WalkIs p rising fit some narrow [] (first_progress p) most_forks w → WalkHas p (λ n. (0 ≤ n) × (n ≤ budget)) (λ n. (0 ≤ n) × (n ≤ budget)) w
          → IsShown p budget (result_after (root_bound search) w)
      by_walk (whole tree now) h few =
          let is_one = h.is_one in
          let costs = is_one.costs in
          let counted = h.counted now.incumbent.cost in
          let most = few.1 in
          shown_of (result_after (root_bound search) (whole tree now)) is_one.orders (h.accepted now.incumbent.cost (omega (arith))) (omega (arith, counted, most, light)) (h.shallow now.incumbent.cost) (h.listed now.incumbent.cost) (λ e. sym costs) most
      by_walk (cut now) h few =
          let is_one = h.0 in
          shown_of (result_after (root_bound search) (cut now)) is_one.orders root_shows reach (omega (arith)) (listed_stop (root_bound search).prices) (λ e. absurd (true≢false (sym e))) few.1

-- the same of a part that is in reach
pub reached_shown : (p : ProblemParts) (budget : ℕ) → All AreRising p.segs → All (IsTerm p.segs) p.terms → 0 < length p.segs → is_in_reach p ≡ true → budget ≤ most_load → IsShown p budget (dual_result p budget)
reached_shown p budget rising fit some reach light =
    let both = and_parts (is_narrow p.segs (all_segments p)) (nat_le (load_of p.segs (all_segments p)) most_load) reach in
    result_shown p rising fit some both.0 (leb-true (load_of p.segs (all_segments p)) most_load both.1) budget light
