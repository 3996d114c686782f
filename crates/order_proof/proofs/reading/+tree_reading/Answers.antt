use Rattle.std.proofs.Common.{◌+◌, ◌-◌, [], ◌∷◌, ◌++◌, subst, sym, ◌∙◌, arith}
use Rattle.std.proofs.lemmas.Result.{err_from_is_err_and}
use Rattle.order_proof.specs.declared.tree.Tree.{Tree}
use Rattle.order_proof.specs.Plain.{plain}
use Rattle.order_proof.specs.Trees.{lines_of}
use Rattle.order_proof.specs.FrontLine.{front}
use Rattle.order_proof.specs.Forms.{node_in, take_in}
use Rattle.order_proof.specs.Reading.{ATree, cases_due, reading}
use Rattle.order_proof.specs.Begun.{cases_in, IsBegun, HasCasesOf}
use Rattle.decimal_text.proofs.Stops.{line_stops, part_stops, rest_stops}
use Rattle.order_proof.proofs.ReadTrees.{node_stops, tree_take_stops, tree_case_due, tree_case_taken, tree_cases_begin, tree_cases_end, room_for_cases, tree_goes_on, whole_tree}
use Rattle.order_proof.proofs.reading.+tree_reading.Goals as goal

pub read_cases-returns-in_err-line-clause-follows : goal.read_cases-returns-in_err-line-clause-follows
read_cases-returns-in_err-line-clause-follows t c =
    let p = err_from_is_err_and c.from_residual.result c.from_residual.ensures.1 in
    rw (p.1, p.2) (line_stops c.in_err-line.field-0.0 c.loop.rest.now (front (take_in (lines_of (cases_in (plain c.loop.tree)))) c.loop.rest.now)
    (reading (cases_due c.args.count [] (c.args.room - 1)) c.args.text.now) c.in_err-line.ensures
    (tree_take_stops (c.args.room - 1) c.args.count c.loop.counter (plain c.args.tree.now) (plain c.loop.tree) c.args.text.now c.loop.rest.now c.requires.begun c.loop-test.true c.loop.invariant))

pub read_cases-overflow_sub-room : goal.read_cases-overflow_sub-room
read_cases-overflow_sub-room t c = let some = c.requires.room (omega (arith, c.loop-test.true)) in omega (arith, some)

pub read_cases-read_tree-requires : goal.read_cases-read_tree-requires
read_cases-read_tree-requires t c = let some = c.requires.room (omega (arith, c.loop-test.true)) in (omega (arith, some), tt)

pub read_cases-returns-in_err-child-clause-follows : goal.read_cases-returns-in_err-child-clause-follows
read_cases-returns-in_err-child-clause-follows t c =
    let p = err_from_is_err_and c.from_residual-in_err-child.result c.from_residual-in_err-child.ensures.1 in
    rw (p.1, p.2) (part_stops c.in_err-child.field-0.0 (reading (ATree (c.args.room - 1) ∷ []) c.in_ok-line.behind.now) (reading (cases_due c.args.count [] (c.args.room - 1)) c.args.text.now)
    (reading (cases_due (c.args.count - (c.loop.counter + 1)) (lines_of c.loop.invariant.0 ++ c.in_ok-line.line ∷ []) (c.args.room - 1))) c.in_err-child.ensures.follows
    (tree_case_due (c.args.room - 1) c.args.count c.loop.counter (plain c.args.tree.now) (plain c.loop.tree) c.args.text.now c.loop.rest.now c.requires.begun c.loop-test.true c.loop.invariant
    c.in_ok-line.line c.in_ok-line.behind.now c.in_ok-line.ensures))

pub read_cases-loop-init : goal.read_cases-loop-init
read_cases-loop-init t c = tree_cases_begin (c.args.room - 1) c.args.count (plain c.args.tree.now) c.args.text.now c.requires.begun

pub read_cases-loop-preserved : goal.read_cases-loop-preserved
read_cases-loop-preserved t c =
    tree_case_taken (c.args.room - 1) c.args.count c.loop.counter (plain c.args.tree.now) (plain c.loop.tree) c.args.text.now c.loop.rest.now c.requires.begun c.loop-test.true c.loop.invariant
    c.in_ok-line.line (plain c.in_ok-child.child.value) (plain c.push_case.new.tree) c.in_ok-line.behind.now c.in_ok-child.behind.now c.in_ok-line.ensures c.in_ok-child.ensures.follows c.in_ok-child.ensures.tree
    c.in_ok-push_case.ensures

pub read_cases-returns-clause-follows : goal.read_cases-returns-clause-follows
read_cases-returns-clause-follows t c =
    (tree_cases_end (c.args.room - 1) c.args.count c.loop.counter (plain c.args.tree.now) (plain c.loop.tree) c.args.text.now c.loop.rest.now (omega arith) c.loop.invariant).0

pub read_cases-returns-clause-cases : goal.read_cases-returns-clause-cases
read_cases-returns-clause-cases t c =
    (tree_cases_end (c.args.room - 1) c.args.count c.loop.counter (plain c.args.tree.now) (plain c.loop.tree) c.args.text.now c.loop.rest.now (omega arith) c.loop.invariant).1

pub read_tree-returns-in_err-start-clause-follows : goal.read_tree-returns-in_err-start-clause-follows
read_tree-returns-in_err-start-clause-follows t c =
    let p = err_from_is_err_and c.from_residual.result c.from_residual.ensures.1 in
    rw (p.1, p.2) (line_stops c.in_err-start.field-0.0 c.args.text.now (front (node_in c.args.room) c.args.text.now) (reading (ATree c.args.room ∷ []) c.args.text.now) c.in_err-start.ensures.line
    (node_stops c.args.room c.args.text.now))

pub read_tree-read_cases-requires : goal.read_tree-read_cases-requires
read_tree-read_cases-requires t c = (
  omega arith,
  (
    subst (λ (u : Tree). IsBegun c.in_ok-start.count (plain u)) (sym c.deref_mut.ensures.value) c.in_ok-start.ensures.begun,
    room_for_cases c.args.room c.in_ok-start.count (plain c.in_ok-start.start.value) c.args.text.now c.in_ok-start.rest.now c.in_ok-start.ensures.begun c.in_ok-start.ensures.line,
  ),
)

pub read_tree-returns-in-Ok-clause-follows : goal.read_tree-returns-in-Ok-clause-follows
read_tree-returns-in-Ok-clause-follows t c =
    tree_goes_on c.args.room c.in_ok-start.count (plain c.in_ok-start.start.value) c.args.text.now c.in_ok-start.rest.now c.in_ok-start.ensures.begun c.in_ok-start.ensures.line ∙ c.in-Ok.ensures.follows

pub read_tree-returns-in-Ok-clause-tree : goal.read_tree-returns-in-Ok-clause-tree
read_tree-returns-in-Ok-clause-tree t c =
    whole_tree c.args.room c.in_ok-start.count (plain c.in_ok-start.start.value) (plain c.read_cases.new.tree) c.args.text.now c.in_ok-start.rest.now c.in-Ok.rest.now c.in_ok-start.ensures.begun
    c.in_ok-start.ensures.line
    (subst (λ (u : Tree). HasCasesOf (c.args.room - 1) c.in_ok-start.count (plain u) (plain c.read_cases.new.tree) c.in_ok-start.rest.now c.in-Ok.rest.now) c.deref_mut.ensures.value c.in-Ok.ensures.cases)

pub read_tree-returns-in-Err-clause-follows : goal.read_tree-returns-in-Err-clause-follows
read_tree-returns-in-Err-clause-follows t c =
    rw c.given_up.ensures (rest_stops c.in-Err.stop (reading (cases_due c.in_ok-start.count [] (c.args.room - 1)) c.in_ok-start.rest.now) (reading (ATree c.args.room ∷ []) c.args.text.now) c.in-Err.ensures.follows
    (tree_goes_on c.args.room c.in_ok-start.count (plain c.in_ok-start.start.value) c.args.text.now c.in_ok-start.rest.now c.in_ok-start.ensures.begun c.in_ok-start.ensures.line))
