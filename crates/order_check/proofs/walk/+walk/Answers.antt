use Rattle.std.proofs.Common.{◌≡◌, refl, ◌∙◌, ◌<◌, true, false, List, length, sym, subst, arith, rules}
use Rattle.std.specs.List.{Contains}
use Rattle.std.proofs.lemmas.Result.{IfOk-weaker}
use Rattle.map_base.specs.declared.ids.SegId.{SegId}
use Rattle.map_base.specs.declared.ids.LineId.{LineId}
use Rattle.order_model.specs.Problems.{lines_on}
use Rattle.order_model.specs.Prefixes.{is_placed}
use Rattle.order_proof.specs.declared.tree.Tree.{Tree, the_lemmas}
use Rattle.order_proof.specs.Plain.{split, plain, plain_children}
use Rattle.order_bound.specs.Accepting.{failing}
use Rattle.order_model.specs.Questions.{Question}
use Rattle.order_bound.proofs.Sound.{rising_at, all_in}
use Rattle.order_check.specs.Asking.{question_of}
use Rattle.order_check.specs.Children.{child_lines}
use Rattle.order_check.specs.declared.slot.PartTerm.{PartTerm}
use Rattle.order_check.specs.Placings.{placing_of, changes}
use Rattle.order_check.specs.Counting.{placed_less, IsTallyWithout}
use Rattle.order_check.specs.Walking.{IsWalked, split_test}
use Rattle.order_check.proofs.Tallies.{without_back, case_those}
use Rattle.order_check.proofs.Walks.{distinct_children, child_is_tree, split_walked, not_split_walked, case_next, of_part, case_refused, cases_passed, case_restored, chosen_walked}
use Rattle.order_check.proofs.walk.+walk.Goals as goal

pub walk-returns-in-Split-clause-walked : goal.walk-returns-in-Split-clause-walked
walk-returns-in-Split-clause-walked t c =
    let q : Question = question_of c.args.asked.now in
    let placed : List (List LineId) = c.args.prefix.now.placed in
    let way : List LineId = c.args.way.now.items in
    let after : List LineId = c.walk_split.new.way.items in
    IfOk-weaker c.walk_split.result
    (IsWalked (failing q placed (split c.in-Split.seg (plain_children c.in-Split.children.items))) way after)
    (IsWalked (failing q placed (plain c.args.tree.now)) way after)
    (λ b h. split_walked q placed c.args.tree.now c.in-Split.seg c.in-Split.children way after b c.in-Split.is h)
    (rw c.as_slice.ensures.value at c.walk_split.ensures.walked)

pub walk_case-returns-in_err-outcome-clause-placed : goal.walk_case-returns-in_err-outcome-clause-placed
walk_case-returns-in_err-outcome-clause-placed t c =
    let s = c.args.seg in
    case_restored c.args.asked.now.problem.now.segs c.args.prefix.now.placed c.place_line.new.prefix.placed c.walk-outcome.new.prefix.placed c.take_line_back.new.prefix.placed s c.args.line
    (omega (arith, c.requires.seg, c.requires.fits.each)) (rising_at c.args.asked.now.problem.now.segs s.0 c.requires.asked.problem.rising) (c.requires.fits.lines s.0 c.requires.seg)
    c.in_ok-changed.ensures.placed c.walk-outcome.ensures.placed c.take_line_back.ensures.placed

pub walk_case-returns-then-not-branch-clause-placed : goal.walk_case-returns-then-not-branch-clause-placed
walk_case-returns-then-not-branch-clause-placed t c =
    let s = c.args.seg in
    case_restored c.args.asked.now.problem.now.segs c.args.prefix.now.placed c.place_line.new.prefix.placed c.walk-outcome.new.prefix.placed c.take_line_back.new.prefix.placed s c.args.line
    (omega (arith, c.requires.seg, c.requires.fits.each)) (rising_at c.args.asked.now.problem.now.segs s.0 c.requires.asked.problem.rising) (c.requires.fits.lines s.0 c.requires.seg)
    c.in_ok-changed.ensures.placed c.walk-outcome.ensures.placed c.take_line_back.ensures.placed

pub walk_case-returns-clause-placed : goal.walk_case-returns-clause-placed
walk_case-returns-clause-placed t c =
    let s = c.args.seg in
    case_restored c.args.asked.now.problem.now.segs c.args.prefix.now.placed c.place_line.new.prefix.placed c.walk-outcome.new.prefix.placed c.take_line_back.new.prefix.placed s c.args.line
    (omega (arith, c.requires.seg, c.requires.fits.each)) (rising_at c.args.asked.now.problem.now.segs s.0 c.requires.asked.problem.rising) (c.requires.fits.lines s.0 c.requires.seg)
    c.in_ok-changed.ensures.placed c.walk-outcome.ensures.placed c.take_line_back.ensures.placed

pub walk_split-returns-then-not-is_split-clause-walked : goal.walk_split-returns-then-not-is_split-clause-walked
walk_split-returns-then-not-is_split-clause-walked t c =
    not_split_walked (question_of c.args.asked.now) c.args.prefix.now.placed c.args.seg c.args.children.now c.args.way.now.items
    (sym c.is_split.ensures ∙ c.if-not-is_split.true)

pub walk_split-is_split-requires-clause-distinct : goal.walk_split-is_split-requires-clause-distinct
walk_split-is_split-requires-clause-distinct t c = distinct_children c.args.seg c.args.children.now c.requires.tree

pub walk_split-walk_case-requires : goal.walk_split-walk_case-requires
walk_split-walk_case-requires t c =
    let q : Question = question_of c.args.asked.now in
    let holds : split_test q c.args.prefix.now.placed c.args.seg (child_lines c.args.children.now) ≡ true = sym c.is_split.ensures ∙ c.if-not-is_split.false in
    let next = case_next q c.args.prefix.now.placed c.args.seg c.args.children.now c.loop-child.child-index c.child-item.result holds c.loop-child-test.true in
    let child = c.child-item.result in
    let on = subst (λ (x : LineId × Tree). Contains (lines_on c.args.asked.now.problem.now.segs c.args.seg) x.0) (sym c.child-item.is) next.on in
    let fresh = subst (λ (x : LineId × Tree). is_placed (lines_on c.args.prefix.now.placed c.args.seg) x.0 ≡ false) (sym c.child-item.is) next.fresh in
    let part = of_part q c.args.prefix.now.placed c.args.seg (child_lines c.args.children.now) holds in
    let tree = child_is_tree c.args.seg c.args.children.now c.loop-child.child-index child c.requires.tree c.loop-child-test.true c.child-item.is in (
      search (rules, the_lemmas),
      (
        c.requires.asked,
        (
          c.loop-child.invariant.0,
          (
            all_in (λ (s : SegId). s.0 < length c.args.asked.now.problem.now.segs) c.args.asked.now.part.now c.args.seg c.requires.asked.known part,
            (on, (rw c.loop-child.invariant.1 fresh, (tree, (c.loop-child.invariant.5, c.loop-child.invariant.4)))),
          ),
        ),
      ),
    )

pub walk_split-returns-then-not-branch-clause-walked : goal.walk_split-returns-then-not-branch-clause-walked
walk_split-returns-then-not-branch-clause-walked t c =
    let q : Question = question_of c.args.asked.now in
    let holds : split_test q c.args.prefix.now.placed c.args.seg (child_lines c.args.children.now) ≡ true = sym c.is_split.ensures ∙ c.if-not-is_split.false in
    case_refused q c.args.prefix.now.placed c.loop-child.prefix.placed c.args.seg c.args.children.now c.loop-child.child-index c.child-item.result
    c.args.way.now.items c.loop-child.way.items c.walk_case.new.way.items c.in_ok-walk_case.field-0
    c.loop-child-test.true holds c.loop-child.invariant.3 c.child-item.is c.loop-child.invariant.1 c.loop-child.invariant.2 c.if-not-branch.true
    c.in_ok-walk_case.ensures.walked

pub walk_split-returns-clause-walked : goal.walk_split-returns-clause-walked
walk_split-returns-clause-walked t c =
    let q : Question = question_of c.args.asked.now in
    let holds : split_test q c.args.prefix.now.placed c.args.seg (child_lines c.args.children.now) ≡ true = sym c.is_split.ensures ∙ c.if-not-is_split.false in
    let way : IsWalked (failing q c.args.prefix.now.placed (split c.args.seg (plain_children c.args.children.now))) c.args.way.now.items c.args.way.now.items true =
    cases_passed q c.args.prefix.now.placed c.args.seg c.args.children.now c.loop-child.child-index c.args.way.now.items
    (omega (arith, c.loop-child-test.false)) holds c.loop-child.invariant.3 in
    (way.0, c.loop-child.invariant.2)

-- the terms that the placing may change are picked
pub walk_case-take_line_back-requires-clause-picked : goal.walk_case-take_line_back-requires-clause-picked
walk_case-take_line_back-requires-clause-picked t c =
    let asked = c.args.asked.now in
    let those = case_those asked c.args.prefix.now.placed c.args.seg c.args.line (placing_of asked.problem.now.segs c.args.prefix.now.placed c.args.seg c.args.line) c.as_slice.result.now c.in_ok-changed.changed.items
    c.requires.asked refl c.in_ok-changed.ensures.changed c.as_slice.ensures.value in
    (changes (placing_of asked.problem.now.segs c.args.prefix.now.placed c.args.seg c.args.line) (lines_on asked.problem.now.segs c.args.seg) (lines_on c.args.prefix.now.placed c.args.seg), those)

-- the tally of the others, once the line is taken back
pub walk_case-take_line_back-requires-clause-same : goal.walk_case-take_line_back-requires-clause-same
walk_case-take_line_back-requires-clause-same t c = λ sums costs without.
    (let s = c.args.seg in
    let asked = c.args.asked.now in
    let segs : List (List LineId) = asked.problem.now.segs in
    let placed : List (List LineId) = c.args.prefix.now.placed in
    let walked : List (List LineId) = c.walk-outcome.new.prefix.placed in
    let some : List PartTerm = c.as_slice.result.now in
    let known : s.0 < length placed = omega (arith, c.requires.seg, c.requires.fits.each) in
    let those = case_those asked placed s c.args.line (placing_of segs placed s c.args.line) some c.in_ok-changed.changed.items c.requires.asked refl c.in_ok-changed.ensures.changed
    c.as_slice.ensures.value in
    let there = subst (λ (l : List (List LineId)). IsTallyWithout some asked l sums costs) c.walk-outcome.ensures.placed without in
    let here = without_back s c.args.line asked placed c.place_line.new.prefix.placed c.requires.asked known (c.requires.fits.lines s.0 c.requires.seg) c.requires.line c.requires.unplaced
    c.in_ok-changed.ensures.placed some sums costs those there in
    let restored = case_restored segs placed c.place_line.new.prefix.placed walked (placed_less segs walked s) s c.args.line known
    (rising_at segs s.0 c.requires.asked.problem.rising) (c.requires.fits.lines s.0 c.requires.seg) c.in_ok-changed.ensures.placed c.walk-outcome.ensures.placed refl in
    subst (λ (l : List (List LineId)). IsTallyWithout some asked l sums costs) (sym restored) here)

pub walk_case-take_line_back-requires-clause-some : goal.walk_case-take_line_back-requires-clause-some
walk_case-take_line_back-requires-clause-some t c =
    let s = c.args.seg in
    chosen_walked c.args.asked.now.problem.now.segs c.args.prefix.now.placed c.place_line.new.prefix.placed c.walk-outcome.new.prefix.placed s c.args.line
    (omega (arith, c.requires.seg, c.requires.fits.each)) (c.requires.fits.lines s.0 c.requires.seg) c.requires.line c.requires.unplaced c.in_ok-changed.ensures.placed c.walk-outcome.ensures.placed
