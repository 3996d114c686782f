use Rattle.std.proofs.Common.{◌≡◌, ◌<◌, ◌≤◌, ◌-◌, ◌*◌, ◌∷◌, w64, to_z, of_z, FitsSigned, List, length, Option, ℕ, refl, rules, sym, ◌∙◌, ap, subst, arith}
use Rattle.std.proofs.lemmas.Int.{to_z-of_z}
use Rattle.std.proofs.lemmas.Result.{IfOk-weaker, IfErr-weaker}
use Rattle.map_base.specs.declared.memory.NoMemory.{NoMemory}
use Rattle.order_model.specs.declared.problem.ProblemParts.{ProblemParts}
use Rattle.dual_bound.specs.declared.settled.SettledPair.{SettledPair}
use Rattle.dual_ascent.specs.OwnNumbers.{listed}
use Rattle.dual_ascent.specs.DualSteps.{AreWithin}
use Rattle.dual_ascent.specs.OpenPairs.{OpenPair}
use Rattle.dual_ascent.specs.Rounds as rounds
use Rattle.dual_ascent.specs.Walks as walks
use Rattle.dual_orders.specs.SettledPairs.{pairs_of}
use Rattle.dual_orders.specs.NextPairs.{IsForkAt}
use Rattle.kept_trees.specs.declared.walked.WalkedTree.{WalkedTree}
use Rattle.kept_trees.specs.declared.walk.NodeEnd.{NodeEnd}
use Rattle.kept_trees.specs.Searching.{search_of, progress_of, ascent_of, bound_of, below, fork_at, counted, plain_walked, WalkIs, EndIs, IsForkOn}
use Rattle.kept_trees.proofs.Composing.{few_prices}
use Rattle.kept_trees.proofs.Counting.{walk_grows, walk_few, first_few, second_few}
use Rattle.kept_trees.proofs.Walking.{turned_pair, fork_made, forked_is, rounds_are, walk_spent, walk_over, err_all, end_walked, end_few}
use Rattle.kept_trees.proofs.walk.+walk.Goals as goal
use Rattle.kept_trees.proofs.walk.+walk.Goals.{fork-In-Some, fork-In-Some-2, walk-Else-not-ascend, walk-In_ok-tree}

-- the first tree of a fork is walked
first_walked : (g : _) (t : ℕ) (c : fork-In-Some g t)
    → walks.walked (search_of c.args.search.now) (c.args.room - 1) 200 (c.args.pair ∷ pairs_of c.args.settled.now.items)
    (bound_of c.args.bound.now).prices (progress_of c.args.now.now)
    ≡ walks.whole (plain_walked c.in-Some.first) (progress_of c.walk_with.new.now)
first_walked g t c =
    subst (λ (w : Option WalkedTree). WalkIs w (progress_of c.walk_with.new.now)
    (walks.walked (search_of c.args.search.now) (c.args.room - 1) 200 (c.args.pair ∷ pairs_of c.args.settled.now.items)
    (bound_of c.args.bound.now).prices (progress_of c.args.now.now))) c.in-Some.is c.in_ok-first.ensures.walked

-- and then the second one
second_walked : (g : _) (t : ℕ) (c : fork-In-Some-2 g t)
    → walks.walked (search_of c.args.search.now) (c.args.room - 1) 200
    (turned_pair c.args.pair ∷ pairs_of c.args.settled.now.items) (bound_of c.args.bound.now).prices
    (progress_of c.walk_with.new.now)
    ≡ walks.whole (plain_walked c.in-Some-2.second) (progress_of c.walk_with-2.new.now)
second_walked g t c =
    let one : walks.Progress = progress_of c.walk_with.new.now in
    let later : List SettledPair → walks.Walked = λ l. walks.walked (search_of c.args.search.now) (c.args.room - 1) 200 l
    (bound_of c.args.bound.now).prices one in
    let pairs : c.turned-back.result ∷ pairs_of c.walk_with.new.settled.items
    ≡ turned_pair c.args.pair ∷ pairs_of c.args.settled.now.items =
    ap (λ (x : SettledPair). x ∷ pairs_of c.walk_with.new.settled.items) c.turned-back.ensures
    ∙ ap (λ (l : List SettledPair). turned_pair c.args.pair ∷ pairs_of l) c.in_ok-first.ensures.settled in
    ap later (sym pairs)
    ∙ subst (λ (w : Option WalkedTree). WalkIs w (progress_of c.walk_with-2.new.now)
    (later (c.turned-back.result ∷ pairs_of c.walk_with.new.settled.items))) c.in-Some-2.is c.in_ok-second.ensures.walked

-- so the fork counts as many branch nodes as were counted
fork_counts : (g : _) (t : ℕ) (c : fork-In-Some-2 g t) (d : OpenPair) → IsForkAt d c.args.pair
    → c.walk_with-2.new.now.branches
    ≤ counted (fork_at (search_of c.args.search.now) c.args.room d (bound_of c.args.bound.now)
    (pairs_of c.args.settled.now.items) (progress_of c.args.now.now))
fork_counts g t c d at =
    let q : rounds.Search = search_of c.args.search.now in
    let same = second_few q.problem q.budget c.args.room (c.args.room - 1) (omega (arith, c.if-room-eq0.false)) d c.args.pair
    at (bound_of c.args.bound.now) (pairs_of c.args.settled.now.items) (progress_of c.args.now.now)
    (progress_of c.walk_with.new.now) (plain_walked c.in-Some.first)
    (first_walked g t (goal.at.fork-In-Some-2 g t c).In-Some) in
    let count = ap counted (second_walked g t c) in
    omega (arith, same, count)

-- the rounds of a node are over
rounds_over : (g : _) (t : ℕ) (c : walk-Else-not-ascend g t)
    → rounds.ascended (search_of c.args.search.now) (pairs_of c.args.settled.now.items) 200 c.args.prices.now
    (progress_of c.args.now.now).incumbent (progress_of c.args.now.now).branches
    ≡ rounds.over (ascent_of c.ascend.new.now c.ascend.new.ascent)
rounds_over g t c =
    rounds_are (search_of c.args.search.now) c.args.room (pairs_of c.args.settled.now.items) c.args.prices.now
    (progress_of c.args.now.now) c.as_slice.result.now (ascent_of c.args.now.now c.in_ok-ascent.ascent)
    (rounds.over (ascent_of c.ascend.new.now c.ascend.new.ascent)) (ap pairs_of c.as_slice.ensures.value)
    (c.in_ok-ascent.ensures.first c.args.now.now) (c.if-not-ascend.ensures.over refl)

-- what it then is
node_is : (g : _) (t : ℕ) (c : walk-In_ok-tree g t)
    → EndIs c.args.search.now.part.problem.now (pairs_of c.args.settled.now.items)
    (ascent_of c.ascend.new.now c.ascend.new.ascent) (progress_of c.node_end.new.now) c.in_ok-tree.field-0
node_is g t c =
    subst (λ (l : List SettledPair). EndIs c.args.search.now.part.problem.now (pairs_of l)
    (ascent_of c.ascend.new.now c.ascend.new.ascent) (progress_of c.node_end.new.now) c.in_ok-tree.field-0)
    c.as_slice-2.ensures.value c.in_ok-tree.ensures.end

pub fork-returns-in_err-first-clause-few : goal.fork-returns-in_err-first-clause-few
fork-returns-in_err-first-clause-few g t c =
    let q : rounds.Search = search_of c.args.search.now in
    err_all c.from_residual.result (λ (d : OpenPair) (at : IsForkAt d c.args.pair).
    let more = first_few q.problem q.budget c.args.room (c.args.room - 1) (omega (arith, c.if-room-eq0.false)) d c.args.pair
    at (bound_of c.args.bound.now) (pairs_of c.args.settled.now.items) (progress_of c.args.now.now)
    c.requires.now.within in
    let few = c.in_err-first.ensures.few in
    omega (arith, more, few))

pub fork-listed-requires : goal.fork-listed-requires
fork-listed-requires g t c =
    let few = few_prices c.args.search.now.part.problem.now c.args.bound.now.prices.items c.requires.search.part.fits
    c.requires.prices in
    let same = ap length c.as_slice.ensures.value in
    omega (arith, few, same)

pub fork-returns-in_err-new-clause-few : goal.fork-returns-in_err-new-clause-few
fork-returns-in_err-new-clause-few g t c =
    err_all c.from_residual-in_err-new.result
    (fork_counts g t (goal.at.fork-returns-in_err-new-clause-few g t c).In-Some-2)

pub fork-returns-in_err-new-2-clause-few : goal.fork-returns-in_err-new-2-clause-few
fork-returns-in_err-new-2-clause-few g t c =
    err_all c.from_residual-in_err-new-2.result
    (fork_counts g t (goal.at.fork-returns-in_err-new-2-clause-few g t c).In-Some-2)

pub fork-returns-clause-walked : goal.fork-returns-clause-walked
fork-returns-clause-walked g t c =
    let on = goal.at.fork-returns-clause-walked g t c in
    let bound : rounds.LowerBound = bound_of c.args.bound.now in
    let fits : FitsSigned w64 c.args.bound.now.value = search rules in
    let value : to_z w64 (of_z w64 c.args.bound.now.value)
    ≡ c.args.bound.now.value = to_z-of_z w64 c.args.bound.now.value fits in
    let prices = c.in_ok-prices.ensures ∙ ap listed c.as_slice.ensures.value in
    λ d at. fork_made (search_of c.args.search.now) c.args.room (c.args.room - 1)
    (omega (arith, c.if-room-eq0.false)) d c.args.pair at bound (pairs_of c.args.settled.now.items)
    (progress_of c.args.now.now) (progress_of c.walk_with.new.now) (progress_of c.walk_with-2.new.now)
    (plain_walked c.in-Some.first) (plain_walked c.in-Some-2.second) (first_walked g t on.In-Some)
    (second_walked g t on.In-Some-2)
    ∙ ap (λ (u : walks.WalkedTree). walks.whole u (progress_of c.walk_with-2.new.now))
    (forked_is (to_z w64 (of_z w64 c.args.bound.now.value)) c.args.bound.now.value c.in_ok-prices.prices
    (listed bound.prices) c.args.pair.seg c.args.pair.first c.args.pair.second c.in_ok-new.field-0.value
    c.in_ok-new-2.field-0.value
    c.in-Some.first c.in-Some-2.second value prices c.in_ok-new.ensures.ok c.in_ok-new-2.ensures.ok)

pub walk-returns-in_err-ascent-clause-few : goal.walk-returns-in_err-ascent-clause-few
walk-returns-in_err-ascent-clause-few g t c =
    let q : rounds.Search = search_of c.args.search.now in
    err_all c.from_residual.result
    (walk_grows q.problem q.budget c.args.room 200 (pairs_of c.args.settled.now.items) c.args.prices.now
    (progress_of c.args.now.now) c.requires.now.within).0

pub walk-returns-in_err-answers-clause-few : goal.walk-returns-in_err-answers-clause-few
walk-returns-in_err-answers-clause-few g t c =
    let q : rounds.Search = search_of c.args.search.now in
    err_all c.from_residual-in_err-answers.result
    (walk_grows q.problem q.budget c.args.room 200 (pairs_of c.args.settled.now.items) c.args.prices.now
    (progress_of c.args.now.now) c.requires.now.within).0

pub walk-returns-then-not-ascend-clause-walked : goal.walk-returns-then-not-ascend-clause-walked
walk-returns-then-not-ascend-clause-walked g t c =
    let q : rounds.Search = search_of c.args.search.now in
    let start : walks.Progress = progress_of c.args.now.now in
    let settled : List SettledPair = pairs_of c.args.settled.now.items in
    let a : rounds.Ascent = ascent_of c.ascend.new.now c.ascend.new.ascent in
    walk_spent q c.args.room settled c.args.prices.now start a
    (rounds_are q c.args.room settled c.args.prices.now start c.as_slice.result.now
    (ascent_of c.args.now.now c.in_ok-ascent.ascent) (rounds.spent a) (ap pairs_of c.as_slice.ensures.value)
    (c.in_ok-ascent.ensures.first c.args.now.now) (c.if-not-ascend.ensures.spent refl))

pub walk-returns-in_err-tree-clause-few : goal.walk-returns-in_err-tree-clause-few
walk-returns-in_err-tree-clause-few g t c =
    let q : rounds.Search = search_of c.args.search.now in
    let few = walk_few q.problem q.budget c.args.room (pairs_of c.args.settled.now.items) c.args.prices.now
    (progress_of c.args.now.now) (ascent_of c.ascend.new.now c.ascend.new.ascent)
    (rounds_over g t (goal.at.walk-returns-in_err-tree-clause-few g t c).Else-not-ascend)
    c.ascend.ensures.now.within in
    let same = c.node_end.ensures.branches in
    err_all c.from_residual-in_err-tree.result (omega (arith, few, same))

pub walk-fork-requires : goal.walk-fork-requires
walk-fork-requires g t c κs within =
    let p : ProblemParts = c.args.search.now.part.problem.now in
    let less : 3 * c.args.room < t = omega (arith, c.decreases) in
    let pair = subst (λ (x : NodeEnd). IsForkOn p.segs x) c.in-Fork.is c.in_ok-tree.ensures.pair in
    let prices = subst (AreWithin p.terms)
    (sym (ap (λ (b : rounds.LowerBound). b.prices) c.into_bound-bound.ensures)) c.ascend.ensures.ascent.kept in
    (less, (within, (c.requires.search, (c.node_end.ensures.now, (c.requires.settled, (pair, prices))))))

pub walk-returns-in-Stop-clause-walked : goal.walk-returns-in-Stop-clause-walked
walk-returns-in-Stop-clause-walked g t c =
    let q : rounds.Search = search_of c.args.search.now in
    let on = goal.at.walk-returns-in-Stop-clause-walked g t c in
    let settled : List SettledPair = pairs_of c.args.settled.now.items in
    let a : rounds.Ascent = ascent_of c.ascend.new.now c.ascend.new.ascent in
    let next : walks.Progress = progress_of c.node_end.new.now in
    let stops : (f : Option walks.Below) → walks.at_node q.problem f settled a
    ≡ walks.whole (plain_walked c.in-Stop.tree) next =
    subst (λ (x : NodeEnd). EndIs q.problem settled a next x) c.in-Stop.is (node_is g t on.In_ok-tree) in
    walk_over q c.args.room settled c.args.prices.now (progress_of c.args.now.now) a
    (walks.whole (plain_walked c.in-Stop.tree) next) (rounds_over g t on.Else-not-ascend)
    (stops (below q c.args.room))

pub walk-returns-in-Fork-clause-walked : goal.walk-returns-in-Fork-clause-walked
walk-returns-in-Fork-clause-walked g t c =
    let q : rounds.Search = search_of c.args.search.now in
    let on = goal.at.walk-returns-in-Fork-clause-walked g t c in
    let start : walks.Progress = progress_of c.args.now.now in
    let settled : List SettledPair = pairs_of c.args.settled.now.items in
    let a : rounds.Ascent = ascent_of c.ascend.new.now c.ascend.new.ascent in
    let next : walks.Progress = progress_of c.node_end.new.now in
    let bound : rounds.LowerBound = bound_of c.into_bound-bound.result in
    let later : walks.Progress = progress_of c.fork.new.now in
    IfOk-weaker c.fork.result
    (λ (w : Option WalkedTree). (d : OpenPair) → IsForkAt d c.in-Fork.pair
    → WalkIs w later (fork_at q c.args.room d bound settled next))
    (λ (w : Option WalkedTree). WalkIs w later (walks.walked q c.args.room 200 settled c.args.prices.now start))
    (λ w h. end_walked q c.args.room settled c.args.prices.now start next a bound c.in-Fork.pair
    (rounds_over g t on.Else-not-ascend) c.into_bound-bound.ensures w later
    (subst (λ (x : NodeEnd). EndIs q.problem settled a next x) c.in-Fork.is (node_is g t on.In_ok-tree)) h)
    c.fork.ensures.walked

pub walk-returns-in-Fork-clause-few : goal.walk-returns-in-Fork-clause-few
walk-returns-in-Fork-clause-few g t c =
    let q : rounds.Search = search_of c.args.search.now in
    let on = goal.at.walk-returns-in-Fork-clause-few g t c in
    let start : walks.Progress = progress_of c.args.now.now in
    let settled : List SettledPair = pairs_of c.args.settled.now.items in
    let a : rounds.Ascent = ascent_of c.ascend.new.now c.ascend.new.ascent in
    let next : walks.Progress = progress_of c.node_end.new.now in
    let bound : rounds.LowerBound = bound_of c.into_bound-bound.result in
    let later : walks.Progress = progress_of c.fork.new.now in
    IfErr-weaker c.fork.result
    (λ (e : NoMemory). (d : OpenPair) → IsForkAt d c.in-Fork.pair
    → later.branches ≤ counted (fork_at q c.args.room d bound settled next))
    (λ (e : NoMemory). later.branches ≤ counted (walks.walked q c.args.room 200 settled c.args.prices.now start))
    (λ e h. end_few q c.args.room settled c.args.prices.now start next a bound c.in-Fork.pair
    (rounds_over g t on.Else-not-ascend) c.into_bound-bound.ensures later.branches
    (subst (λ (x : NodeEnd). EndIs q.problem settled a next x) c.in-Fork.is (node_is g t on.In_ok-tree)) h)
    c.fork.ensures.few

pub walk_with-returns-in_err-push-clause-few : goal.walk_with-returns-in_err-push-clause-few
walk_with-returns-in_err-push-clause-few g t c =
    let q : rounds.Search = search_of c.args.search.now in
    err_all c.from_residual.result
    (walk_grows q.problem q.budget c.args.room 200
    (c.args.pair ∷ pairs_of c.args.settled.now.items) c.args.bound.now.prices.items
    (progress_of c.args.now.now) c.requires.now.within).0
