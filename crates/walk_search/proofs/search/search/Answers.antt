use Rattle.std.proofs.Common.{◌∙◌, ap, subst, ℕ, ◌+◌, ◌*◌, ◌<◌, List, [], Option, None, replicate, length, arith}
use Rattle.std.specs.declared.cmp.Reverse.{Reverse}
use Rattle.state_search.specs.Searching.{AreLowered, IsBeyond, known_at, lesser_limit, nothing}
use Rattle.state_search.proofs.Searches.{less_left, search_ends_at, search_stale, search_taken, taken_in_range}
use Rattle.state_search.proofs.Lowering.{goals_offered, goals_stay, steps_offered}
use Rattle.walk_search.specs.Asking.{question}
use Rattle.walk_search.specs.Spots.{spots_of, spot_of}
use Rattle.walk_search.specs.Moves.{ends_of, space_of}
use Rattle.walk_search.specs.Offers.{end_offers, spot_offers}
use Rattle.walk_search.proofs.Moving.{is_space}
use Rattle.walk_search.proofs.Offering.{goals_are_offered, steps_are_offered}
use Rattle.walk_search.proofs.Rounds.{cost_small}
use Rattle.walk_search.proofs.Enclosing.{none_found}
use Rattle.walk_search.proofs.Walking.{nothing_ahead}
use Rattle.walk_search.proofs.search.search.Goals as goal

pub loop-estimate-init : goal.loop-estimate-init
loop-estimate-init c =
    let q = question c.args.asked.now in
    let offers : List (ℕ × ℕ) = end_offers q (10 * length (ends_of q)) in
    let all : AreLowered (space_of q).ahead (replicate (spots_of q.board.bounds + 1) None) c.offer_ends.new.known [] c.offer_ends.new.queue offers =
    subst (λ (t : List (Option ℕ)). AreLowered (space_of q).ahead t c.offer_ends.new.known [] c.offer_ends.new.queue offers) c.requires.nothing_known
    (subst (λ (w : List (Reverse (ℕ × ℕ))). AreLowered (space_of q).ahead c.args.known.now c.offer_ends.new.known w c.offer_ends.new.queue offers) c.requires.nothing_waits c.in_ok-offer_ends.ensures.lowered) in
    let begun = goals_offered (space_of q) (is_space q c.before-before.ensures.asked) c.offer_ends.new.known c.offer_ends.new.queue offers (goals_are_offered q c.before-before.ensures.asked) all in
    record { each = c.in_ok-offer_ends.ensures.each; search = begun.0; goals = begun.1 }

pub returns-then-branch-clause-searched : goal.returns-then-branch-clause-searched
returns-then-branch-clause-searched c =
    let q = question c.args.asked.now in
    let never = c.in_ok-is_in_vain.ensures c.if-branch.true in
    record {
      within = λ h. none_found (space_of q) (spots_of q.board.bounds) c.loop-estimate.known c.loop-estimate.queue nothing c.loop-estimate.invariant.search never;
      beyond = λ h labels k path. absurd (never labels k path);
    }

pub fresh_cost-requires-clause-at : goal.fresh_cost-requires-clause-at
fresh_cost-requires-clause-at c =
    let q = question c.args.asked.now in
    subst (λ (n : ℕ). c.in-Some.at < n) c.loop-estimate.invariant.each
    (taken_in_range (space_of q) c.loop-estimate.known c.loop-estimate.queue c.next.new.self c.in-Some.at c.in-Some.estimate c.loop-estimate.invariant.search c.in-Some.ensures.taken)

pub offer_back-requires-clause-cost : goal.offer_back-requires-clause-cost
offer_back-requires-clause-cost c =
    let q = question c.args.asked.now in
    cost_small q c.before-before.ensures.asked c.loop-estimate.known c.loop-estimate.queue _ c.in-Some.at c.in-Some-fresh_cost.cost c.loop-estimate.invariant.search c.in-Some-fresh_cost.ensures.some.0

pub loop-estimate-smaller-in-Continue-branch-3 :
    goal.loop-estimate-smaller-in-Continue-branch-3
loop-estimate-smaller-in-Continue-branch-3 c =
    let q = question c.args.asked.now in
    let in_range : c.in-Some.at < spots_of q.board.bounds + 1 =
    subst (λ (n : ℕ). c.in-Some.at < n) c.loop-estimate.invariant.each
    (taken_in_range (space_of q) c.loop-estimate.known c.loop-estimate.queue c.next.new.self c.in-Some.at c.in-Some.estimate c.loop-estimate.invariant.search c.in-Some.ensures.taken) in
    let taken =
    search_taken (space_of q) c.loop-estimate.known c.loop-estimate.queue c.next.new.self c.in-Some.at c.in-Some-fresh_cost.cost c.in-Some.estimate c.in-Some-fresh_cost.ensures.some.1
    c.loop-estimate.invariant.search c.in-Some.ensures.taken in
    let spread =
    steps_offered (space_of q) (is_space q c.before-before.ensures.asked) c.in-Some.at c.in-Some-fresh_cost.cost c.loop-estimate.known c.offer_back.new.known c.next.new.self c.offer_back.new.queue
    (spot_offers q (spot_of q.board.bounds c.in-Some.at) c.in-Some-fresh_cost.cost) (steps_are_offered q c.before-before.ensures.asked c.in-Some.at c.in-Some-fresh_cost.cost in_range) c.in-Some-fresh_cost.ensures.some.0 taken
    c.in_ok-offer_back.ensures.lowered in
    less_left 21 c.loop-estimate.known c.offer_back.new.known c.loop-estimate.queue c.next.new.self c.offer_back.new.queue c.in-Some.at c.in-Some.estimate c.in-Some.ensures.taken spread.left

pub loop-estimate-smaller : goal.loop-estimate-smaller
loop-estimate-smaller c =
    less_left 21 c.loop-estimate.known c.loop-estimate.known c.loop-estimate.queue c.next.new.self c.next.new.self c.in-Some.at c.in-Some.estimate c.in-Some.ensures.taken (omega arith)

pub loop-estimate-preserved-in-Continue-branch-3 :
    goal.loop-estimate-preserved-in-Continue-branch-3
loop-estimate-preserved-in-Continue-branch-3 c =
    let q = question c.args.asked.now in
    let in_range : c.in-Some.at < spots_of q.board.bounds + 1 =
    subst (λ (n : ℕ). c.in-Some.at < n) c.loop-estimate.invariant.each
    (taken_in_range (space_of q) c.loop-estimate.known c.loop-estimate.queue c.next.new.self c.in-Some.at c.in-Some.estimate c.loop-estimate.invariant.search c.in-Some.ensures.taken) in
    let taken =
    search_taken (space_of q) c.loop-estimate.known c.loop-estimate.queue c.next.new.self c.in-Some.at c.in-Some-fresh_cost.cost c.in-Some.estimate c.in-Some-fresh_cost.ensures.some.1
    c.loop-estimate.invariant.search c.in-Some.ensures.taken in
    let spread =
    steps_offered (space_of q) (is_space q c.before-before.ensures.asked) c.in-Some.at c.in-Some-fresh_cost.cost c.loop-estimate.known c.offer_back.new.known c.next.new.self c.offer_back.new.queue
    (spot_offers q (spot_of q.board.bounds c.in-Some.at) c.in-Some-fresh_cost.cost) (steps_are_offered q c.before-before.ensures.asked c.in-Some.at c.in-Some-fresh_cost.cost in_range) c.in-Some-fresh_cost.ensures.some.0 taken
    c.in_ok-offer_back.ensures.lowered in
    record {
      each = c.in_ok-offer_back.ensures.each;
      search = spread.search;
      goals = goals_stay (space_of q) c.loop-estimate.known c.offer_back.new.known spread.stays c.loop-estimate.invariant.goals;
    }

pub loop-estimate-preserved : goal.loop-estimate-preserved
loop-estimate-preserved c =
    let q = question c.args.asked.now in
    record {
      each = c.loop-estimate.invariant.each;
      search =
          search_stale (space_of q) c.loop-estimate.known c.loop-estimate.queue c.next.new.self c.in-Some.at c.in-Some.estimate c.loop-estimate.invariant.search c.in-Some.ensures.taken
          c.in_default-fresh_cost.ensures.none;
      goals = c.loop-estimate.invariant.goals;
    }

pub returns-clause-searched : goal.returns-clause-searched
returns-clause-searched c =
    let q = question c.args.asked.now in
    search_ends_at (space_of q) (is_space q c.before-before.ensures.asked) c.args.limit (spots_of q.board.bounds) c.loop-estimate.known c.loop-estimate.queue (nothing_ahead q)
    c.loop-estimate.invariant.search c.loop-estimate.invariant.goals
    (λ p k w. subst (λ (o : Option ℕ). IsBeyond o k) (c.lesser.ensures ∙ ap (λ (o : Option ℕ). lesser_limit o c.args.limit) (c.of.ensures ∙ ap (known_at c.loop-estimate.known) c.before-before.ensures.value)) (c.in_default.ensures.none p k w))
