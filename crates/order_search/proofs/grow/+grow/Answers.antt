use Rattle.std.proofs.Common.{◌≡◌, ◌+◌, ◌-◌, ◌<◌, ◌≤◌, refl, sym, ◌∙◌, ap, arith, rules, length, map, drop, get_or, List, length-drop}
use Rattle.std.proofs.lemmas.Result.{err_from_is_err_and}
use Rattle.map_base.specs.declared.ids.SegId.{SegId}
use Rattle.map_base.specs.declared.ids.LineId.{LineId}
use Rattle.order_proof.specs.Plain.{plain, split, cases_of}
use Rattle.order_proof.specs.Trees.{splits_of, splits_of_cases}
use Rattle.part_bounds.specs.PartStates.{PartState, state_more}
use Rattle.order_search.specs.declared.search_state.Search.{Search}
use Rattle.order_search.specs.declared.child.Child.{Child}
use Rattle.order_search.specs.Left.{room_of, AreNext}
use Rattle.order_search.specs.Children.{lines_in}
use Rattle.order_search.specs.LiveTrees.{GrownTree, GrownCases}
use Rattle.order_search.specs.Searching.{part_of, due, due_case, due_cases, due_upto, seg_at, AreBounded, IsUnderWay, AreShut, IsOpenAt, HasChildren}
use Rattle.order_search.proofs.Shown.{plain_last}
use Rattle.order_search.proofs.Ways.{way_placed, shut_placed, room_placed, due_placed, chosen_placed, grown_back, seg_known, grown_closed, whole_due, grown_whole, stop_later, some_branches, most_upto, upto_more, grown_more, line_at, count_lines, next_pushed, open_kept, case_ready, kids_at, kids_by, front_fits, taken_at}
use Rattle.order_search.proofs.Early.{case_above, bounded_pushed, child_bounded}
use Rattle.order_search.proofs.grow.+grow.Goals as goal
use Rattle.order_proof.proofs.Views.{plain-Split}

pub grow_case-grow-requires : goal.grow_case-grow-requires
grow_case-grow-requires g t c =
    let old : Search = c.args.search.now in
    let d : SegId = record { 0 = 0 } in
    let u = c.requires.under_way in
    let placed : c.place.new.self ≡ state_more old.bounds (seg_at c.args.at old) c.args.child.line =
    c.place.ensures.state ∙ ap (λ p. state_more old.bounds (get_or p c.args.at d) c.args.child.line) u.part in
    let down : Search = record old { bounds = c.place.new.self } in
    let way : IsUnderWay down = way_placed old down c.args.at c.args.child.line u refl refl refl refl placed c.place.ensures.well in
    let shut : AreShut c.args.at down = shut_placed old down c.args.at c.args.child.line u c.requires.first placed in
    let room : room_of down.bounds.segs down.bounds.part down.bounds.placed < room_of old.bounds.segs old.bounds.part old.bounds.placed =
    room_placed old down c.args.at c.args.child.line u c.requires.first placed in
    let bound : c.args.child.bound ≡ (part_of down.bounds).bound down.bounds.placed = c.requires.bound ∙ ap (λ (b : PartState). (part_of b).bound b.placed) (sym placed) in
    search rules

pub grow_case-returns-then-child-search-clause-grown : goal.grow_case-returns-then-child-search-clause-grown
grow_case-returns-then-child-search-clause-grown g t c =
    let old : Search = c.args.search.now in
    let above = case_above old c.args.at c.args.child.line c.requires.under_way c.requires.first c.requires.line c.requires.unplaced
    (omega (arith, c.if-child-search.true, c.requires.bound)) in
    record {
      kept = record { under_way = c.requires.under_way; bounds = refl; budget = refl; children = refl };
      found = ap (λ (g : GrownTree). g.best) (sym above);
      spent = omega (arith, ap (λ (g : GrownTree). splits_of g.tree) above);
    }

pub grow_case-returns-in_err-tree-clause-most : goal.grow_case-returns-in_err-tree-clause-most
grow_case-returns-in_err-tree-clause-most g t c =
    let old : Search = c.args.search.now in
    let d : SegId = record { 0 = 0 } in
    let u = c.requires.under_way in
    let placed : c.place.new.self ≡ state_more old.bounds (seg_at c.args.at old) c.args.child.line =
    c.place.ensures.state ∙ ap (λ p. state_more old.bounds (get_or p c.args.at d) c.args.child.line) u.part in
    let down : Search = record old { bounds = c.place.new.self } in
    let is = due_placed old down c.args.at c.args.child.line placed refl in
    omega (arith, c.grow.ensures.most, ap (λ (g : GrownTree). splits_of g.tree) is)

pub grow_case-returns-in_err-tree-clause-stop : goal.grow_case-returns-in_err-tree-clause-stop
grow_case-returns-in_err-tree-clause-stop g t c =
    let old : Search = c.args.search.now in
    let d : SegId = record { 0 = 0 } in
    let u = c.requires.under_way in
    let placed : c.place.new.self ≡ state_more old.bounds (seg_at c.args.at old) c.args.child.line =
    c.place.ensures.state ∙ ap (λ p. state_more old.bounds (get_or p c.args.at d) c.args.child.line) u.part in
    let down : Search = record old { bounds = c.place.new.self } in
    let is = due_placed old down c.args.at c.args.child.line placed refl in
    let p = err_from_is_err_and c.from_residual.result c.from_residual.ensures.1 in
    rw (p.1, p.2)
    (stop_later old.budget old.budget (old.spent + splits_of (due down).tree) (old.spent + splits_of (due_case c.args.at c.args.child.line old).tree) c.in_err-tree.field-0.0 refl
    (omega (arith, ap (λ (g : GrownTree). splits_of g.tree) is)) c.in_err-tree.ensures.stop)

pub grow_case-take_back-requires-clause-some : goal.grow_case-take_back-requires-clause-some
grow_case-take_back-requires-clause-some g t c =
    let old : Search = c.args.search.now in
    let d : SegId = record { 0 = 0 } in
    let u = c.requires.under_way in
    let state : c.grow.new.search.bounds ≡ state_more old.bounds (get_or old.part.now c.args.at d) c.args.child.line = c.in_ok-tree.ensures.grown.kept.bounds ∙ c.place.ensures.state in
    chosen_placed old.bounds c.grow.new.search.bounds (get_or old.part.now c.args.at d) c.args.child.line u.well state
    (let known : (seg_at c.args.at old).0 < length old.bounds.segs = seg_known old c.args.at u c.requires.first in
    omega (arith, known, ap (λ (p : List SegId). (get_or p c.args.at d).0) u.part))

pub grow_case-returns-clause-most : goal.grow_case-returns-clause-most
grow_case-returns-clause-most g t c =
    let old : Search = c.args.search.now in
    let d : SegId = record { 0 = 0 } in
    let u = c.requires.under_way in
    let placed : c.place.new.self ≡ state_more old.bounds (seg_at c.args.at old) c.args.child.line =
    c.place.ensures.state ∙ ap (λ p. state_more old.bounds (get_or p c.args.at d) c.args.child.line) u.part in
    let down : Search = record old { bounds = c.place.new.self } in
    let is = due_placed old down c.args.at c.args.child.line placed refl in
    omega (arith, c.grow.ensures.most, ap (λ (g : GrownTree). splits_of g.tree) is)

pub grow_case-returns-clause-tree : goal.grow_case-returns-clause-tree
grow_case-returns-clause-tree g t c =
    let old : Search = c.args.search.now in
    let d : SegId = record { 0 = 0 } in
    let u = c.requires.under_way in
    let placed : c.place.new.self ≡ state_more old.bounds (seg_at c.args.at old) c.args.child.line =
    c.place.ensures.state ∙ ap (λ p. state_more old.bounds (get_or p c.args.at d) c.args.child.line) u.part in
    let down : Search = record old { bounds = c.place.new.self } in
    c.in_ok-tree.ensures.tree ∙ ap (λ (g : GrownTree). g.tree) (due_placed old down c.args.at c.args.child.line placed refl)

pub grow_case-returns-clause-grown : goal.grow_case-returns-clause-grown
grow_case-returns-clause-grown g t c =
    let old : Search = c.args.search.now in
    let d : SegId = record { 0 = 0 } in
    let u = c.requires.under_way in
    let placed : c.place.new.self ≡ state_more old.bounds (seg_at c.args.at old) c.args.child.line =
    c.place.ensures.state ∙ ap (λ p. state_more old.bounds (get_or p c.args.at d) c.args.child.line) u.part in
    let down : Search = record old { bounds = c.place.new.self } in
    let up : Search = c.grow.new.search in
    grown_back old down up _ c.args.at c.args.child.line u c.requires.first placed refl refl refl refl c.in_ok-tree.ensures.grown refl refl refl refl refl refl
    (c.take_back.ensures.state ∙ ap (taken_at up.bounds) (ap (λ (p : List SegId). get_or p c.args.at d) u.part))

pub grow_cases-grow_case-requires : goal.grow_cases-grow_case-requires
grow_cases-grow_case-requires g t c =
    let old : Search = c.args.search.now in
    let mid : Search = c.loop-k.search in
    let grown = c.loop-k.invariant.grown in
    let child : Child = c.index-child.result.now in
    let lines : List LineId = lines_in (drop c.args.start old.children.items) in
    let count : length lines ≡ c.len.result - c.args.start = count_lines old.children.items c.args.start (c.len.result - c.args.start) c.loop-k.invariant.all in
    let below : c.loop-k.k < length lines = omega (arith, c.loop-k-test.true, count) in
    let inside : c.loop-k.k + c.args.start < length old.children.items = omega (arith, c.loop-k-test.true, c.loop-k.invariant.all) in
    let is : get_or lines c.loop-k.k child.line ≡ child.line =
    line_at old mid c.args.start c.loop-k.k child grown.kept.children inside ∙ ap (λ (x : Child). x.line) (sym c.index-child.ensures) in
    let ready = case_ready old mid c.args.at c.args.start c.loop-k.k child.line child.line grown.kept.bounds c.requires.next below is in
    let way : IsUnderWay mid = grown.kept.under_way in
    let first : IsOpenAt c.args.at mid = open_kept old mid c.args.at grown.kept.bounds c.requires.first in
    let room : room_of mid.bounds.segs mid.bounds.part mid.bounds.placed ≡ room_of old.bounds.segs old.bounds.part old.bounds.placed =
    ap (λ (b : PartState). room_of b.segs b.part b.placed) grown.kept.bounds in
    let inside_rest : c.loop-k.k < length (drop c.args.start old.children.items) = omega (arith, length-drop c.args.start old.children.items, inside) in
    let bounded = child_bounded old mid c.args.at c.args.start c.loop-k.k child grown.kept.bounds grown.kept.children c.requires.bounded inside_rest c.index-child.ensures in
    search rules

pub grow_cases-returns-in_err-tree-clause-most : goal.grow_cases-returns-in_err-tree-clause-most
grow_cases-returns-in_err-tree-clause-most g t c =
    let old : Search = c.args.search.now in
    let mid : Search = c.loop-k.search in
    let grown = c.loop-k.invariant.grown in
    let child : Child = c.index-child.result.now in
    let lines : List LineId = lines_in (drop c.args.start old.children.items) in
    let count : length lines ≡ c.len.result - c.args.start = count_lines old.children.items c.args.start (c.len.result - c.args.start) c.loop-k.invariant.all in
    let below : c.loop-k.k < length lines = omega (arith, c.loop-k-test.true, count) in
    let inside : c.loop-k.k + c.args.start < length old.children.items = omega (arith, c.loop-k-test.true, c.loop-k.invariant.all) in
    let is : get_or lines c.loop-k.k child.line ≡ child.line =
    line_at old mid c.args.start c.loop-k.k child grown.kept.children inside ∙ ap (λ (x : Child). x.line) (sym c.index-child.ensures) in
    let most = most_upto old mid c.args.at c.args.start c.loop-k.k child.line child.line grown.kept.bounds grown.found below is in
    omega (arith, most, grown.spent, c.grow_case.ensures.most)

pub grow_cases-returns-in_err-tree-clause-stop : goal.grow_cases-returns-in_err-tree-clause-stop
grow_cases-returns-in_err-tree-clause-stop g t c =
    let old : Search = c.args.search.now in
    let mid : Search = c.loop-k.search in
    let grown = c.loop-k.invariant.grown in
    let child : Child = c.index-child.result.now in
    let lines : List LineId = lines_in (drop c.args.start old.children.items) in
    let count : length lines ≡ c.len.result - c.args.start = count_lines old.children.items c.args.start (c.len.result - c.args.start) c.loop-k.invariant.all in
    let below : c.loop-k.k < length lines = omega (arith, c.loop-k-test.true, count) in
    let inside : c.loop-k.k + c.args.start < length old.children.items = omega (arith, c.loop-k-test.true, c.loop-k.invariant.all) in
    let is : get_or lines c.loop-k.k child.line ≡ child.line =
    line_at old mid c.args.start c.loop-k.k child grown.kept.children inside ∙ ap (λ (x : Child). x.line) (sym c.index-child.ensures) in
    let most = most_upto old mid c.args.at c.args.start c.loop-k.k child.line child.line grown.kept.bounds grown.found below is in
    let p = err_from_is_err_and c.from_residual-in_err-tree.result c.from_residual-in_err-tree.ensures.1 in
    rw (p.1, p.2)
    (stop_later mid.budget old.budget (mid.spent + splits_of (due_case c.args.at child.line mid).tree)
    (old.spent + splits_of_cases (cases_of (due_cases c.args.at c.args.start old).cases)) c.in_err-tree.field-0.0 grown.kept.budget
    (omega (arith, most, grown.spent)) c.in_err-tree.ensures.stop)

pub grow_cases-returns-in_err-push-clause-most : goal.grow_cases-returns-in_err-push-clause-most
grow_cases-returns-in_err-push-clause-most g t c =
    let old : Search = c.args.search.now in
    let mid : Search = c.loop-k.search in
    let grown = c.loop-k.invariant.grown in
    let child : Child = c.index-child.result.now in
    let lines : List LineId = lines_in (drop c.args.start old.children.items) in
    let count : length lines ≡ c.len.result - c.args.start = count_lines old.children.items c.args.start (c.len.result - c.args.start) c.loop-k.invariant.all in
    let below : c.loop-k.k < length lines = omega (arith, c.loop-k-test.true, count) in
    let inside : c.loop-k.k + c.args.start < length old.children.items = omega (arith, c.loop-k-test.true, c.loop-k.invariant.all) in
    let is : get_or lines c.loop-k.k child.line ≡ child.line =
    line_at old mid c.args.start c.loop-k.k child grown.kept.children inside ∙ ap (λ (x : Child). x.line) (sym c.index-child.ensures) in
    let most = most_upto old mid c.args.at c.args.start c.loop-k.k child.line child.line grown.kept.bounds grown.found below is in
    omega (arith, most, grown.spent, c.grow_case.ensures.most)

pub grow_cases-loop-k-preserved : goal.grow_cases-loop-k-preserved
grow_cases-loop-k-preserved g t c =
    let old : Search = c.args.search.now in
    let mid : Search = c.loop-k.search in
    let grown = c.loop-k.invariant.grown in
    let child : Child = c.index-child.result.now in
    let lines : List LineId = lines_in (drop c.args.start old.children.items) in
    let count : length lines ≡ c.len.result - c.args.start = count_lines old.children.items c.args.start (c.len.result - c.args.start) c.loop-k.invariant.all in
    let below : c.loop-k.k < length lines = omega (arith, c.loop-k-test.true, count) in
    let inside : c.loop-k.k + c.args.start < length old.children.items = omega (arith, c.loop-k-test.true, c.loop-k.invariant.all) in
    let is : get_or lines c.loop-k.k child.line ≡ child.line =
    line_at old mid c.args.start c.loop-k.k child grown.kept.children inside ∙ ap (λ (x : Child). x.line) (sym c.index-child.ensures) in
    let so_far : GrownCases = due_upto c.args.at c.args.start c.loop-k.k old in
    let more = upto_more old mid c.args.at c.args.start c.loop-k.k child.line child.line grown.kept.bounds grown.found below is in
    record {
      all = c.loop-k.invariant.all;
      cases = plain_last c.loop-k.cases.items c.push.new.self.items child.line c.in_ok-tree.tree so_far.cases (due_case c.args.at child.line mid).tree
          c.in_ok-push.ensures.items c.loop-k.invariant.cases c.in_ok-tree.ensures.tree ∙ ap (λ (g : GrownCases). g.cases) (sym more);
      grown = grown_more old mid c.grow_case.new.search c.args.at c.args.start c.loop-k.k child.line child.line grown c.in_ok-tree.ensures.grown below is;
      steps = omega (arith, c.grow_case.ensures.steps, c.loop-k.invariant.steps);
    }

pub grow_open-returns-else-bound-search-clause-grown : goal.grow_open-returns-else-bound-search-clause-grown
grow_open-returns-else-bound-search-clause-grown g t c =
    grown_closed c.args.search.now c.args.at c.requires.under_way c.requires.first (omega (arith, c.if-bound-search.false, c.requires.bound))

pub grow_split-returns-then-search-clause-stop : goal.grow_split-returns-then-search-clause-stop
grow_split-returns-then-search-clause-stop g t c =
    (omega (arith, c.if-search.true, some_branches c.args.search.now c.args.at c.requires.under_way c.requires.first c.requires.below), refl)

pub grow_split-returns-in_err-push_children-clause-most : goal.grow_split-returns-in_err-push_children-clause-most
grow_split-returns-in_err-push_children-clause-most g t c =
    omega (arith, c.push_children.ensures.spent, some_branches c.args.search.now c.args.at c.requires.under_way c.requires.first c.requires.below)

pub grow_split-grow_cases-requires : goal.grow_split-grow_cases-requires
grow_split-grow_cases-requires g t c =
    let old : Search = c.args.search.now in
    let d : SegId = record { 0 = 0 } in
    let u = c.requires.under_way in
    let one : Search = record old { spent = old.spent + 1 } in
    let pushed : Search = c.push_children.new.search in
    let kids : HasChildren one pushed (kids_at c.args.at old.bounds) = kids_by one pushed old c.args.at u.part c.in_ok-push_children.ensures.children in
    let start : c.len-start.result ≡ length old.children.items = search rules in
    let way : IsUnderWay pushed = kids.under_way in
    let first : IsOpenAt c.args.at pushed = open_kept old pushed c.args.at kids.bounds c.requires.first in
    let next : AreNext pushed.bounds.segs pushed.bounds.placed (seg_at c.args.at pushed) (lines_in (drop c.len-start.result pushed.children.items)) =
    next_pushed old pushed c.args.at c.len-start.result kids.bounds start kids.children in
    let room : room_of pushed.bounds.segs pushed.bounds.part pushed.bounds.placed ≡ room_of old.bounds.segs old.bounds.part old.bounds.placed =
    ap (λ (b : PartState). room_of b.segs b.part b.placed) kids.bounds in
    let fits : c.len-start.result ≤ length pushed.children.items = front_fits old.children.items (kids_at c.args.at old.bounds) pushed.children.items c.len-start.result start kids.children in
    let bounded : AreBounded pushed.bounds (seg_at c.args.at pushed) (drop c.len-start.result pushed.children.items) =
    bounded_pushed old pushed c.args.at c.len-start.result kids.bounds start kids.children in
    search rules

pub grow_split-returns-in_err-children-clause-most : goal.grow_split-returns-in_err-children-clause-most
grow_split-returns-in_err-children-clause-most g t c =
    let old : Search = c.args.search.now in
    let u = c.requires.under_way in
    let one : Search = record old { spent = old.spent + 1 } in
    let pushed : Search = c.push_children.new.search in
    let kids : HasChildren one pushed (kids_at c.args.at old.bounds) = kids_by one pushed old c.args.at u.part c.in_ok-push_children.ensures.children in
    let start : c.len-start.result ≡ length old.children.items = search rules in
    let whole = whole_due old one pushed c.args.at c.len-start.result u c.requires.first c.requires.below refl refl refl start kids in
    omega (arith, kids.spent, c.grow_cases.ensures.most, ap (λ (g : GrownTree). splits_of g.tree) whole)

pub grow_split-returns-in_err-children-clause-stop : goal.grow_split-returns-in_err-children-clause-stop
grow_split-returns-in_err-children-clause-stop g t c =
    let old : Search = c.args.search.now in
    let u = c.requires.under_way in
    let one : Search = record old { spent = old.spent + 1 } in
    let pushed : Search = c.push_children.new.search in
    let kids : HasChildren one pushed (kids_at c.args.at old.bounds) = kids_by one pushed old c.args.at u.part c.in_ok-push_children.ensures.children in
    let start : c.len-start.result ≡ length old.children.items = search rules in
    let whole = whole_due old one pushed c.args.at c.len-start.result u c.requires.first c.requires.below refl refl refl start kids in
    let p = err_from_is_err_and c.from_residual-in_err-children.result c.from_residual-in_err-children.ensures.1 in
    rw (p.1, p.2)
    (stop_later pushed.budget old.budget (pushed.spent + splits_of_cases (cases_of (due_cases c.args.at c.len-start.result pushed).cases)) (old.spent + splits_of (due old).tree)
    c.in_err-children.field-0.0 kids.budget (omega (arith, kids.spent, ap (λ (g : GrownTree). splits_of g.tree) whole)) c.in_err-children.ensures.stop)

pub grow_split-returns-clause-most : goal.grow_split-returns-clause-most
grow_split-returns-clause-most g t c =
    let old : Search = c.args.search.now in
    let u = c.requires.under_way in
    let one : Search = record old { spent = old.spent + 1 } in
    let pushed : Search = c.push_children.new.search in
    let kids : HasChildren one pushed (kids_at c.args.at old.bounds) = kids_by one pushed old c.args.at u.part c.in_ok-push_children.ensures.children in
    let start : c.len-start.result ≡ length old.children.items = search rules in
    let whole = whole_due old one pushed c.args.at c.len-start.result u c.requires.first c.requires.below refl refl refl start kids in
    omega (arith, kids.spent, c.grow_cases.ensures.most, ap (λ (g : GrownTree). splits_of g.tree) whole)

pub grow_split-returns-clause-tree : goal.grow_split-returns-clause-tree
grow_split-returns-clause-tree g t c =
    let old : Search = c.args.search.now in
    let d : SegId = record { 0 = 0 } in
    let u = c.requires.under_way in
    let one : Search = record old { spent = old.spent + 1 } in
    let pushed : Search = c.push_children.new.search in
    let kids : HasChildren one pushed (kids_at c.args.at old.bounds) = kids_by one pushed old c.args.at u.part c.in_ok-push_children.ensures.children in
    let start : c.len-start.result ≡ length old.children.items = search rules in
    let whole = whole_due old one pushed c.args.at c.len-start.result u c.requires.first c.requires.below refl refl refl start kids in
    plain-Split (get_or old.part.now c.args.at d) c.in_ok-children.children
    ∙ ap (λ (p : List SegId). split (get_or p c.args.at d) (cases_of (map (λ x. (x.0, plain x.1)) c.in_ok-children.children.items))) u.part
    ∙ ap (λ cs. split (seg_at c.args.at old) (cases_of cs)) c.in_ok-children.ensures.cases
    ∙ ap (λ (g : GrownTree). g.tree) (sym whole)

pub grow_split-returns-clause-grown : goal.grow_split-returns-clause-grown
grow_split-returns-clause-grown g t c =
    let old : Search = c.args.search.now in
    let u = c.requires.under_way in
    let one : Search = record old { spent = old.spent + 1 } in
    let pushed : Search = c.push_children.new.search in
    let last : Search = c.grow_cases.new.search in
    let kids : HasChildren one pushed (kids_at c.args.at old.bounds) = kids_by one pushed old c.args.at u.part c.in_ok-push_children.ensures.children in
    let start : c.len-start.result ≡ length old.children.items = search rules in
    let w = c.in_ok-children.ensures.grown.kept.under_way in
    grown_whole old one pushed last _ c.args.at c.len-start.result u c.requires.first c.requires.below refl refl refl refl refl start kids c.in_ok-children.ensures.grown
    (record { segs = w.segs; part = w.part; problem = w.problem; rising = w.rising; known = w.known; well = w.well; within = w.within; budget = w.budget })
    refl refl refl refl c.truncate.ensures.items
