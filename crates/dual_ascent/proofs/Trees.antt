-- The tree of a walk is accepted at each target of at most the least cost that it met.
use Rattle.std.proofs.Common.{◌≡◌, ℕ, zero, suc, ◌+◌, ◌*◌, ◌<◌, ◌≤◌, ◌&&◌, Bool, true, false, cond, List, length, max, refl, subst, arith, Option, Some, None}
use Rattle.std.specs.Prelude.{ℤ, pos, ◌+ℤ◌, ◌-ℤ◌, ◌*ℤ◌, ◌≤ℤ◌, int_lt}
use Rattle.std.specs.List.{All}
use Rattle.std.proofs.lemmas.Bool.{and_from}
use Rattle.std.proofs.lemmas.Int.{ints}
use Rattle.graph_core.specs.Consistent.{AreRising}
use Rattle.order_model.specs.declared.problem.ProblemParts.{ProblemParts}
use Rattle.order_model.specs.Problems.{IsTerm}
use Rattle.order_model.specs.Costs.{cost_of}
use Rattle.order_model.specs.Questions.{Question, question}
use Rattle.order_values.specs.DualTrees.{PlainDual, fork, stop, fork_depth}
use Rattle.dual_bound.specs.declared.settled.SettledPair.{SettledPair}
use Rattle.dual_bound.specs.Settled.{with_pair}
use Rattle.dual_bound.specs.Shares.{thousand}
use Rattle.dual_bound.specs.Values.{value_of}
use Rattle.dual_bound.specs.Accepting.{is_narrow, shows, is_fork, accepts, load_of}
use Rattle.dual_ascent.specs.DualSteps.{AreWithin}
use Rattle.dual_ascent.specs.OwnNumbers.{all_segments, all_terms, number_of, listed}
use Rattle.dual_ascent.specs.LocalSearch.{after_offer}
use Rattle.dual_ascent.specs.Rounds.{Search, LowerBound, Ascent, Stage, going, over, spent, is_shown, ascended}
use Rattle.dual_ascent.specs.OpenPairs.{OpenPair, next_pair, ahead, behind}
use Rattle.dual_ascent.specs.Walks.{WalkedTree, stopped, Progress, Walked, whole, cut, Below, progress, at_orders, orders_left, exact_prices, at_pair, at_open, at_node, after_first, after_second, after_rounds, walked}
use Rattle.dual_ascent.specs.DualResults.{collapsed}
use Rattle.dual_ascent.specs.Shown.{IsListed}
use Rattle.dual_ascent.proofs.Stages.{StageHas}
use Rattle.dual_ascent.proofs.Listing.{listed_stop}
use Rattle.dual_ascent.proofs.Budgets.{ascent_counts}
use Rattle.dual_ascent.proofs.Meeting.{left_orders, IsIncumbent, IsOffered, offer_is}
use Rattle.dual_ascent.proofs.Pricing.{exact_within, IsValue, IsSound, shows_less, stop_holds}
use Rattle.dual_ascent.proofs.Exact.{exact_sum}
use Rattle.dual_ascent.proofs.Pairs.{next_forks}
use Rattle.dual_ascent.proofs.LeftOrders.{left_value}
use Rattle.dual_ascent.proofs.Ascents.{IsGood, IsCut, ascent_good}

-- the load of all stops of a tree, one by one
abbrev pub loads : ℕ → PlainDual → ℕ
loads load (fork s a b first second) = loads load first + loads load second
loads load (stop prices) = load

pub both_have : (P Q R S : Ascent → Type 0) (s : Stage) → StageHas P Q s → StageHas R S s → StageHas (λ a. P a × R a) (λ a. Q a × S a) s
both_have P Q R S (going a) h k = (h, k)
both_have P Q R S (over a) h k = (h, k)
both_have P Q R S (spent a) h k = (h, k)

cost_shows : (t c : ℕ) → t ≤ c → shows t (Some (pos (thousand * c))) ≡ true
cost_shows t c h = less (pos thousand *ℤ (pos t -ℤ pos 1)) (pos (thousand * c)) (strictly t c h)
  where
    strictly : (t c : ℕ) → t ≤ c → ((pos thousand *ℤ (pos t -ℤ pos 1)) +ℤ pos 1) ≤ℤ pos (thousand * c)
    strictly t c h = omega (arith, ints, h)

    less : (i j : ℤ) → (i +ℤ pos 1) ≤ℤ j → int_lt i j ≡ true
    less i j h = grind (arith, ints)

module _ (p : ProblemParts) (rising : All AreRising p.segs) (fit : All (IsTerm p.segs) p.terms) (some : 0 < length p.segs) (narrow : is_narrow p.segs (all_segments p) ≡ true) where
  abbrev load : ℕ
  load = load_of p.segs (all_segments p)

  abbrev asked : ℕ → Question
  asked target = question p.segs (all_segments p) (all_terms p) target

  -- a whole walk from a node
  pub record IsWalked (settled : List SettledPair) (start : Progress) (room : ℕ) (tree : WalkedTree) (now : Progress) : Type 0 where
    pub is_one : IsIncumbent p now.incumbent
    pub below : now.incumbent.cost ≤ start.incumbent.cost
    pub accepted : (target : ℕ) → target ≤ now.incumbent.cost → accepts (asked target) settled (collapsed target tree) ≡ true
    pub shallow : (target : ℕ) → fork_depth (collapsed target tree) ≤ room
    pub listed : (target : ℕ) → IsListed (collapsed target tree)
    pub counted : (target : ℕ) → start.branches + loads load (collapsed target tree) ≤ now.branches
    pub grown : start.branches ≤ now.branches

  -- the same where it is spent: there is an incumbent
  abbrev pub WalkIs : List SettledPair → Progress → ℕ → Walked → Type 0
  WalkIs settled start room (whole tree now) = IsWalked settled start room tree now
  WalkIs settled start room (cut now) = IsIncumbent p now.incumbent × (now.incumbent.cost ≤ start.incumbent.cost)

  -- how what lies below a node is walked
  abbrev BelowIs : ℕ → Option Below → Type 0
  BelowIs room None = Unit {0}
  BelowIs zero (Some below) = ⊥
  BelowIs (suc room) (Some below) =
      (settled : List SettledPair) (prices : List ℤ) (now : Progress) → IsIncumbent p now.incumbent → AreWithin p.terms prices → WalkIs settled now room (below settled prices now)

  -- a node after its rounds
  record IsNode (settled : List SettledPair) (start : Progress) (a : Ascent) : Type 0 where
    is_one : IsIncumbent p a.incumbent
    below : a.incumbent.cost ≤ start.incumbent.cost
    sound : IsSound p settled a.bound
    branches : start.branches + load ≤ a.branches

  stop_accepted : (settled : List SettledPair) (b : LowerBound) (target : ℕ) → IsSound p settled b → shows target (Some b.value) ≡ true → accepts (asked target) settled (stop (listed b.prices)) ≡ true
  stop_accepted settled b target h shown = stop_holds p settled b.value b.prices target narrow h.within h.value shown

  shown_node : (settled : List SettledPair) (start : Progress) (room : ℕ) (a : Ascent) → IsNode settled start a → is_shown a ≡ true → WalkIs settled start room (whole (stopped (listed a.bound.prices)) (progress a))
  shown_node settled start room a h shown =
      let more = h.branches in
      record {
        is_one = h.is_one;
        below = h.below;
        accepted = λ target k. stop_accepted settled a.bound target h.sound (shows_less target a.incumbent.cost (Some a.bound.value) k shown);
        shallow = λ target. omega (arith);
        listed = λ target. listed_stop a.bound.prices;
        counted = λ target. more;
        grown = omega (arith, more);
      }

  orders_node : (settled : List SettledPair) (start : Progress) (room : ℕ) (a : Ascent) (first : LowerBound) → IsNode settled start a → IsGood p settled start.incumbent.cost first a
      → next_pair p settled a.averages ≡ None → WalkIs settled start room (at_orders p (orders_left p settled) a)
  orders_node settled start room a first h good none =
      let more = h.branches in
      let low = h.below in
      let lower = offered.below in
      record {
        is_one = offered.is_one;
        below = omega (arith, low, lower);
        accepted = λ target k. stop_holds p settled (pos (thousand * cost_of p.terms (orders_left p settled))) (exact_prices p (orders_left p settled)) target narrow
            (exact_within p (orders_left p settled)) value (shown target k);
        shallow = λ target. omega (arith);
        listed = λ target. listed_stop (exact_prices p (orders_left p settled));
        counted = λ target. more;
        grown = omega (arith, more);
      }
    where
      offered : IsOffered p (orders_left p settled) a.incumbent (after_offer p (orders_left p settled) a.incumbent)
      offered = offer_is p (orders_left p settled) a.incumbent (left_orders p settled) h.is_one

      value : IsValue (value_of p.segs (all_terms p) (number_of (exact_prices p (orders_left p settled))) settled (all_segments p)) (pos (thousand * cost_of p.terms (orders_left p settled)))
      value =
          subst (IsValue (value_of p.segs (all_terms p) (number_of (exact_prices p (orders_left p settled))) settled (all_segments p)))
          (exact_sum p (orders_left p settled) some fit (left_orders p settled))
          (left_value p settled rising a.averages (exact_prices p (orders_left p settled)) good.pairs none)

      shown : (target : ℕ) → target ≤ (after_offer p (orders_left p settled) a.incumbent).cost → shows target (Some (pos (thousand * cost_of p.terms (orders_left p settled)))) ≡ true
      shown target k = let these = offered.below_these in cost_shows target (cost_of p.terms (orders_left p settled)) (omega (arith, k, these))

  -- both trees of a fork were walked
  second_walked : (settled : List SettledPair) (start : Progress) (room : ℕ) (a : Ascent) (c : OpenPair) (first : WalkedTree) (mid : Progress) → IsNode settled start a
      → ((target : ℕ) → is_fork (asked target) c.seg (ahead c) (behind c) ≡ true)
      → IsWalked (with_pair c.seg (ahead c) (behind c) settled) (progress a) room first mid → (w : Walked) → WalkIs (with_pair c.seg (behind c) (ahead c) settled) mid room w
      → WalkIs settled start (suc room) (after_second c a.bound first w)
  second_walked settled start room a c first mid h forks one (cut now) k =
      let low = h.below in let lower = one.below in let least = k.1 in
      (k.0, omega (arith, low, lower, least))
  second_walked settled start room a c first mid h forks one (whole second now) two =
      let low = h.below in let lower = one.below in let least = two.below in
      let more = h.branches in let grown = one.grown in let last = two.grown in
      record {
        is_one = two.is_one;
        below = omega (arith, low, lower, least);
        accepted = λ target k. accepted target k (shows target (Some a.bound.value)) refl;
        shallow = λ target. shallow target (shows target (Some a.bound.value));
        listed = λ target. each_listed target (shows target (Some a.bound.value));
        counted = λ target. counted target (shows target (Some a.bound.value));
        grown = omega (arith, more, grown, last);
      }
    where
      accepted : (target : ℕ) → target ≤ now.incumbent.cost → (t : Bool) → shows target (Some a.bound.value) ≡ t
          → accepts (asked target) settled (cond t (stop (listed a.bound.prices)) (fork c.seg (ahead c) (behind c) (collapsed target first) (collapsed target second))) ≡ true
      accepted target k true e = stop_accepted settled a.bound target h.sound e
      accepted target k false e =
          let least = two.below in
          and_from (is_fork (asked target) c.seg (ahead c) (behind c))
          (accepts (asked target) (with_pair c.seg (ahead c) (behind c) settled) (collapsed target first) && accepts (asked target) (with_pair c.seg (behind c) (ahead c) settled) (collapsed target second))
          (forks target)
          (and_from (accepts (asked target) (with_pair c.seg (ahead c) (behind c) settled) (collapsed target first)) (accepts (asked target) (with_pair c.seg (behind c) (ahead c) settled) (collapsed target second))
          (one.accepted target (omega (arith, k, least))) (two.accepted target k))

      most : (m n r : ℕ) → m ≤ r → n ≤ r → max m n ≤ r
      most m n r h k = grind (arith)

      shallow : (target : ℕ) (t : Bool) → fork_depth (cond t (stop (listed a.bound.prices)) (fork c.seg (ahead c) (behind c) (collapsed target first) (collapsed target second))) ≤ suc room
      shallow target true = omega (arith)
      shallow target false = let deep = most (fork_depth (collapsed target first)) (fork_depth (collapsed target second)) room (one.shallow target) (two.shallow target) in omega (arith, deep)

      each_listed : (target : ℕ) (t : Bool) → IsListed (cond t (stop (listed a.bound.prices)) (fork c.seg (ahead c) (behind c) (collapsed target first) (collapsed target second)))
      each_listed target true = listed_stop a.bound.prices
      each_listed target false = (one.listed target, two.listed target)

      counted : (target : ℕ) (t : Bool) → start.branches + loads load (cond t (stop (listed a.bound.prices)) (fork c.seg (ahead c) (behind c) (collapsed target first) (collapsed target second))) ≤ now.branches
      counted target true = let more = h.branches in let grown = one.grown in let last = two.grown in omega (arith, more, grown, last)
      counted target false = let more = h.branches in let here = one.counted target in let there = two.counted target in omega (arith, more, here, there)

  first_walked : (settled : List SettledPair) (start : Progress) (room : ℕ) (a : Ascent) (c : OpenPair) (below : Below) → BelowIs (suc room) (Some below) → IsNode settled start a
      → ((target : ℕ) → is_fork (asked target) c.seg (ahead c) (behind c) ≡ true)
      → (w : Walked) → WalkIs (with_pair c.seg (ahead c) (behind c) settled) (progress a) room w → WalkIs settled start (suc room) (after_first below c a.bound settled w)
  first_walked settled start room a c below ok h forks (cut now) k =
      let low = h.below in let lower = k.1 in (k.0, omega (arith, low, lower))
  first_walked settled start room a c below ok h forks (whole first mid) one =
      let sound = h.sound in
      second_walked settled start room a c first mid h forks one (below (with_pair c.seg (behind c) (ahead c) settled) a.bound.prices mid)
      (ok (with_pair c.seg (behind c) (ahead c) settled) a.bound.prices mid one.is_one sound.within)

  pair_walked : (settled : List SettledPair) (start : Progress) (room : ℕ) (below : Option Below) → BelowIs room below → (a : Ascent) (c : OpenPair) → IsNode settled start a
      → ((target : ℕ) → is_fork (asked target) c.seg (ahead c) (behind c) ≡ true) → WalkIs settled start room (at_pair below c settled a)
  pair_walked settled start room None ok a c h forks = (h.is_one, h.below)
  pair_walked settled start zero (Some below) ok a c h forks = absurd ok
  pair_walked settled start (suc room) (Some below) ok a c h forks =
      let sound = h.sound in
      first_walked settled start room a c below ok h forks (below (with_pair c.seg (ahead c) (behind c) settled) a.bound.prices (progress a))
      (ok (with_pair c.seg (ahead c) (behind c) settled) a.bound.prices (progress a) h.is_one sound.within)

  node_walked : (settled : List SettledPair) (start : Progress) (room : ℕ) (below : Option Below) (first : LowerBound) → BelowIs room below → (a : Ascent)
      → IsGood p settled start.incumbent.cost first a → start.branches + load ≤ a.branches → WalkIs settled start room (at_node p below settled a)
  node_walked settled start room below first ok a good more = by_test (is_shown a) refl
    where
      node : IsNode settled start a
      node = let cheap = good.cheap in record { is_one = cheap.is_one; below = cheap.below; sound = good.sound; branches = more }

      by_pair : (o : Option OpenPair) → next_pair p settled a.averages ≡ o → WalkIs settled start room (at_open p below settled a o)
      by_pair None e = orders_node settled start room a first node good e
      by_pair (Some c) e = pair_walked settled start room below ok a c node (λ target. next_forks p settled a.averages good.pairs target c rising e)

      by_test : (t : Bool) → is_shown a ≡ t → WalkIs settled start room (cond t (whole (stopped (listed a.bound.prices)) (progress a)) (at_open p below settled a (next_pair p settled a.averages)))
      by_test true e = shown_node settled start room a node e
      by_test false e = by_pair (next_pair p settled a.averages) refl

  stage_walked : (settled : List SettledPair) (start : Progress) (room : ℕ) (below : Option Below) (first : LowerBound) → BelowIs room below → (s : Stage)
      → StageHas (λ a. IsGood p settled start.incumbent.cost first a × (start.branches + load ≤ a.branches)) (λ a. IsCut p settled start.incumbent.cost first a × Unit {0}) s
      → WalkIs settled start room (after_rounds p below settled s)
  stage_walked settled start room below first ok (going a) h = node_walked settled start room below first ok a h.0 h.1
  stage_walked settled start room below first ok (over a) h = node_walked settled start room below first ok a h.0 h.1
  stage_walked settled start room below first ok (spent a) h = let cheap = h.0.cheap in (cheap.is_one, cheap.below)

  module _ (budget : ℕ) where
    abbrev search : Search
    search = record { problem = p; budget = budget }

    abbrev first_bound : List ℤ → LowerBound
    first_bound prices = record { value = pos 0; prices = prices }

    ascent_has : (settled : List SettledPair) (most : ℕ) (prices : List ℤ) (start : Progress) → IsIncumbent p start.incumbent → AreWithin p.terms prices
        → StageHas (λ a. IsGood p settled start.incumbent.cost (first_bound prices) a × (start.branches + load ≤ a.branches)) (λ a. IsCut p settled start.incumbent.cost (first_bound prices) a × Unit {0})
        (ascended search settled (suc most) prices start.incumbent start.branches)
    ascent_has settled most prices start is_one within =
        both_have (IsGood p settled start.incumbent.cost (first_bound prices)) (IsCut p settled start.incumbent.cost (first_bound prices)) (λ a. start.branches + load ≤ a.branches) (λ a. Unit {0})
        (ascended search settled (suc most) prices start.incumbent start.branches)
        (ascent_good p settled start.incumbent.cost (first_bound prices) budget most prices start.incumbent start.branches refl is_one (omega (arith)) within)
        (ascent_counts p budget settled most prices start.incumbent start.branches)

    pub walk_is : (room most : ℕ) (settled : List SettledPair) (prices : List ℤ) (start : Progress) → IsIncumbent p start.incumbent → AreWithin p.terms prices
        → WalkIs settled start room (walked search room (suc most) settled prices start)
    walk_is zero most settled prices start is_one within =
        stage_walked settled start zero None (first_bound prices) tt (ascended search settled (suc most) prices start.incumbent start.branches) (ascent_has settled most prices start is_one within)
    walk_is (suc room) most settled prices start is_one within =
        stage_walked settled start (suc room) (Some (walked search room 200)) (first_bound prices) (λ settled prices now h k. walk_is room 199 settled prices now h k)
        (ascended search settled (suc most) prices start.incumbent start.branches) (ascent_has settled most prices start is_one within)
