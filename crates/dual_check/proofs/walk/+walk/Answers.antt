use Rattle.std.proofs.Common.{◌≡◌, ◌+◌, ◌-◌, ◌*◌, ◌<◌, ◌∙◌, ◌∷◌, true, false, List, take, sym, ap, subst, arith, length}
use Rattle.std.proofs.lemmas.Result.{IfOk-weaker}
use Rattle.map_base.specs.declared.ids.LineId.{LineId}
use Rattle.order_model.specs.Questions.{Question}
use Rattle.order_values.specs.DualTrees.{fork, plain_dual, stops_of}
use Rattle.order_values.specs.declared.dual_tree.DualTree.{DualTree}
use Rattle.dual_bound.specs.declared.settled.SettledPair.{SettledPair}
use Rattle.dual_bound.specs.Settled.{with_pair}
use Rattle.dual_bound.specs.Accepting.{is_stopped, after_line, failing_below}
use Rattle.dual_check.specs.Asking.{question_of}
use Rattle.dual_check.specs.Settling.{pairs_of, IsWalked}
use Rattle.dual_check.proofs.Walks.{stop_walked, no_fork, first_refused, second_walked, pushed_pairs, case_refused, case_done, pushed_off, fork_pair, some_stops}
use Rattle.dual_check.proofs.walk.+walk.Goals as goal

pub walk-returns-in-Stop-clause-walked : goal.walk-returns-in-Stop-clause-walked
walk-returns-in-Stop-clause-walked t c =
    let q : Question = question_of c.args.asked.now in
    let settled : List SettledPair = pairs_of c.args.node.now.settled.items in
    let way : List LineId = c.args.way.now.items in
    IfOk-weaker c.is_stopped.result (λ b. b ≡ is_stopped q settled c.in-Stop.prices) (IsWalked (failing_below q settled (plain_dual c.args.tree.now)) way way)
    (λ b e. subst (λ (u : DualTree). IsWalked (failing_below q settled (plain_dual u)) way way b) (sym c.in-Stop.is) (stop_walked q settled c.in-Stop.prices b way e))
    (rw c.as_slice.ensures.list at c.is_stopped.ensures.holds)

pub walk-walk_fork-requires : goal.walk-walk_fork-requires
walk-walk_fork-requires t c =
    let start : 3 * stops_of (plain_dual c.args.tree.now) ≡ t = c.decreases in
    let is = ap (λ (u : DualTree). stops_of (plain_dual u)) c.in-Fork.is in
    let one = ap (λ (u : DualTree). stops_of (plain_dual u)) c.deref.ensures in
    let two = ap (λ (u : DualTree). stops_of (plain_dual u)) c.deref-in-Fork.ensures in
    let some = some_stops (plain_dual c.in-Fork.first.value) in
    let less : 3 * (stops_of (plain_dual c.deref.result.now) + stops_of (plain_dual c.deref-in-Fork.result.now)) - 1 < t = omega (arith, start, is, one, two, some) in
    (less, (c.requires.asked, (c.requires.node, c.requires.room)))

pub walk-returns-in-Fork-clause-walked : goal.walk-returns-in-Fork-clause-walked
walk-returns-in-Fork-clause-walked t c =
    let q : Question = question_of c.args.asked.now in
    let settled : List SettledPair = pairs_of c.args.node.now.settled.items in
    let way : List LineId = c.args.way.now.items in
    let after : List LineId = c.walk_fork.new.way.items in
    IfOk-weaker c.walk_fork.result
    (IsWalked (failing_below q settled (fork c.in-Fork.seg c.in-Fork.a c.in-Fork.b (plain_dual c.deref.result.now) (plain_dual c.deref-in-Fork.result.now))) way after)
    (IsWalked (failing_below q settled (plain_dual c.args.tree.now)) way after)
    (λ b h. subst (λ (u : DualTree). IsWalked (failing_below q settled (plain_dual u)) way after b) (sym c.in-Fork.is)
    (subst (λ (u : DualTree). IsWalked (failing_below q settled (fork c.in-Fork.seg c.in-Fork.a c.in-Fork.b (plain_dual u) (plain_dual c.in-Fork.second.value))) way after b) c.deref.ensures
    (subst (λ (u : DualTree). IsWalked (failing_below q settled (fork c.in-Fork.seg c.in-Fork.a c.in-Fork.b (plain_dual c.deref.result.now) (plain_dual u))) way after b) c.deref-in-Fork.ensures h)))
    c.walk_fork.ensures.walked

pub walk_fork-returns-then-not-is_fork-clause-walked : goal.walk_fork-returns-then-not-is_fork-clause-walked
walk_fork-returns-then-not-is_fork-clause-walked t c =
    no_fork (question_of c.args.asked.now) (pairs_of c.args.node.now.settled.items) c.args.seg c.args.a c.args.b (plain_dual c.args.first.now) (plain_dual c.args.second.now) c.args.way.now.items
    (sym c.is_fork.ensures ∙ c.if-not-is_fork.true)

pub walk_fork-walk_case-requires : goal.walk_fork-walk_case-requires
walk_fork-walk_case-requires t c =
    let start : 3 * (stops_of (plain_dual c.args.first.now) + stops_of (plain_dual c.args.second.now)) - 1 ≡ t = c.decreases in
    let some = some_stops (plain_dual c.args.second.now) in
    let less : 3 * stops_of (plain_dual c.args.first.now) + 1 < t = omega (arith, start, some) in
    (less, (c.requires.asked, (c.requires.node, (c.requires.room, (fork_pair (question_of c.args.asked.now) c.args.seg c.args.a c.args.b c.requires.asked.known (sym c.is_fork.ensures ∙ c.if-not-is_fork.false)).0))))

pub walk_fork-walk_case-requires-2 : goal.walk_fork-walk_case-requires-2
walk_fork-walk_case-requires-2 t c =
    let start : 3 * (stops_of (plain_dual c.args.first.now) + stops_of (plain_dual c.args.second.now)) - 1 ≡ t = c.decreases in
    let some = some_stops (plain_dual c.args.first.now) in
    let less : 3 * stops_of (plain_dual c.args.second.now) + 1 < t = omega (arith, start, some) in
    (less, (c.requires.asked, (c.in_ok-walk_case.ensures.node, (c.walk_case.ensures.room, (fork_pair (question_of c.args.asked.now) c.args.seg c.args.a c.args.b c.requires.asked.known (sym c.is_fork.ensures ∙ c.if-not-is_fork.false)).1))))

pub walk_case-walk-requires : goal.walk_case-walk-requires
walk_case-walk-requires t c =
    let start : 3 * stops_of (plain_dual c.args.tree.now) + 1 ≡ t = c.decreases in
    let less : 3 * stops_of (plain_dual c.args.tree.now) < t = omega (arith, start) in
    (less, (c.requires.asked, (c.in_ok-settle.ensures.node, c.requires.room)))

pub walk_fork-returns-then-not-branch-clause-walked : goal.walk_fork-returns-then-not-branch-clause-walked
walk_fork-returns-then-not-branch-clause-walked t c =
    let q : Question = question_of c.args.asked.now in
    let settled : List SettledPair = pairs_of c.args.node.now.settled.items in
    first_refused q settled c.args.seg c.args.a c.args.b (plain_dual c.args.first.now) (plain_dual c.args.second.now) c.args.way.now.items c.walk_case.new.way.items
    (sym c.is_fork.ensures ∙ c.if-not-is_fork.false)
    (subst (IsWalked (after_line c.args.a (failing_below q (with_pair c.args.seg c.args.a c.args.b settled) (plain_dual c.args.first.now))) c.args.way.now.items c.walk_case.new.way.items) c.if-not-branch.true
    c.in_ok-walk_case.ensures.walked)

pub walk_fork-returns-clause-walked : goal.walk_fork-returns-clause-walked
walk_fork-returns-clause-walked t c =
    let q : Question = question_of c.args.asked.now in
    let stack : List SettledPair = c.args.node.now.settled.items in
    let settled : List SettledPair = pairs_of stack in
    let before : List LineId = c.args.way.now.items in
    let between : List LineId = c.walk_case.new.way.items in
    let after : List LineId = c.walk_case-2.new.way.items in
    let one = subst (IsWalked (after_line c.args.a (failing_below q (with_pair c.args.seg c.args.a c.args.b settled) (plain_dual c.args.first.now))) before between) c.if-not-branch.false
    c.in_ok-walk_case.ensures.walked in
    let same : c.walk_case.new.node.settled.items ≡ stack = c.in_ok-walk_case.ensures.settled c.if-not-branch.false in
    IfOk-weaker c.walk_case-2.result
    (IsWalked (after_line c.args.b (failing_below q (with_pair c.args.seg c.args.b c.args.a (pairs_of c.walk_case.new.node.settled.items)) (plain_dual c.args.second.now))) between after)
    (IsWalked (failing_below q settled (fork c.args.seg c.args.a c.args.b (plain_dual c.args.first.now) (plain_dual c.args.second.now))) before after)
    (λ passed h. second_walked q settled c.args.seg c.args.a c.args.b (plain_dual c.args.first.now) (plain_dual c.args.second.now) before between after passed
    (sym c.is_fork.ensures ∙ c.if-not-is_fork.false) one
    (subst (λ l. IsWalked (after_line c.args.b (failing_below q (with_pair c.args.seg c.args.b c.args.a (pairs_of l)) (plain_dual c.args.second.now))) between after passed) same h))
    c.walk_case-2.ensures.walked

pub walk_case-returns-then-not-branch-clause-walked : goal.walk_case-returns-then-not-branch-clause-walked
walk_case-returns-then-not-branch-clause-walked t c =
    let q : Question = question_of c.args.asked.now in
    let stack : List SettledPair = c.args.node.now.settled.items in
    let pairs = ap pairs_of c.in_ok-settle.ensures.settled ∙ pushed_pairs stack c.args.pair in
    case_refused c.args.pair.first (failing_below q (c.args.pair ∷ pairs_of stack) (plain_dual c.args.tree.now)) c.args.way.now.items c.walk.new.way.items
    (subst (λ l. IsWalked (failing_below q (c.args.pair ∷ pairs_of stack) (plain_dual c.args.tree.now)) l c.walk.new.way.items false) c.in_ok-push.ensures.items
    (subst (λ l. IsWalked (failing_below q l (plain_dual c.args.tree.now)) c.push.new.self.items c.walk.new.way.items false) pairs
    (subst (IsWalked (failing_below q (pairs_of c.settle.new.self.settled.items) (plain_dual c.args.tree.now)) c.push.new.self.items c.walk.new.way.items) c.if-not-branch.true c.in_ok-walk.ensures.walked)))

pub walk_case-returns-clause-walked : goal.walk_case-returns-clause-walked
walk_case-returns-clause-walked t c =
    let q : Question = question_of c.args.asked.now in
    let stack : List SettledPair = c.args.node.now.settled.items in
    let pairs = ap pairs_of c.in_ok-settle.ensures.settled ∙ pushed_pairs stack c.args.pair in
    case_done c.args.pair.first (failing_below q (c.args.pair ∷ pairs_of stack) (plain_dual c.args.tree.now)) c.args.way.now.items c.walk.new.way.items c.truncate.new.self.items
    (subst (λ l. IsWalked (failing_below q (c.args.pair ∷ pairs_of stack) (plain_dual c.args.tree.now)) l c.walk.new.way.items true) c.in_ok-push.ensures.items
    (subst (λ l. IsWalked (failing_below q l (plain_dual c.args.tree.now)) c.push.new.self.items c.walk.new.way.items true) pairs
    (subst (IsWalked (failing_below q (pairs_of c.settle.new.self.settled.items) (plain_dual c.args.tree.now)) c.push.new.self.items c.walk.new.way.items) c.if-not-branch.false c.in_ok-walk.ensures.walked)))
    (c.truncate.ensures.items ∙ ap (λ n. take (n - 1) c.walk.new.way.items) {y = length c.walk.new.way.items} (omega (arith, c.len.ensures)))

pub walk_case-returns-clause-settled : goal.walk_case-returns-clause-settled
walk_case-returns-clause-settled t c = λ passed.
    let same = c.in_ok-walk.ensures.settled c.if-not-branch.false in
    pushed_off c.args.node.now.settled.items c.walk.new.node.settled.items c.take_back.new.self.settled.items c.args.pair (same ∙ c.in_ok-settle.ensures.settled) c.take_back.ensures.settled
