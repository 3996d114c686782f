-- Children that are closed at their turn, whatever they leave: their bound is not below the best so far.
use Rattle.std.proofs.Common.{◌≡◌, ℕ, zero, suc, ◌+◌, ◌<◌, ◌≤◌, Bool, true, false, cond, List, [], ◌∷◌, ◌++◌, length, map, drop, get_or, refl, sym, ◌∙◌, ap, subst, arith, Some, None, Option}
use Rattle.std.specs.List.{AllByRecursion, Contains}
use Rattle.std.proofs.lemmas.List.{get_or-drop}
use Rattle.std.proofs.lemmas.List.Elements.{All-from_recursion, recursion_from_All}
use Rattle.std.proofs.lemmas.List.Sorted.{All-permutation}
use Rattle.map_base.specs.declared.ids.SegId.{SegId}
use Rattle.map_base.specs.declared.ids.LineId.{LineId}
use Rattle.order_model.specs.Problems.{lines_on}
use Rattle.order_model.specs.Prefixes.{is_placed}
use Rattle.order_model.specs.Completions.{placed_more}
use Rattle.part_bounds.specs.PartStates.{PartState, state_more, IsWell}
use Rattle.order_search.specs.declared.child.Child.{Child}
use Rattle.order_search.specs.declared.search_state.Search.{Search}
use Rattle.order_search.specs.Left.{first_open, lines_left}
use Rattle.order_search.specs.Children.{in_order}
use Rattle.order_search.specs.LiveTrees.{child_at, closed_with}
use Rattle.order_search.specs.Searching.{part_of, best_of, due, seg_at, due_case, AreBounded, IsUnderWay, IsOpenAt}
use Rattle.order_search.proofs.Nodes.{closed_is}
use Rattle.order_search.proofs.Ordered.{permuted_in_order}
use Rattle.order_search.proofs.Leaves.{leaf_cost, leaf_no_better}
use Rattle.order_search.proofs.Accepted.{well_more}
use Rattle.order_search.proofs.Ways.{bare, due_complete, way_placed, seg_known, kids_at, drop_front}

-- complete or not, the prefix is closed
due_above : (search : Search) → IsUnderWay search → search.cost ≤ (part_of search.bounds).bound search.bounds.placed
    → due search ≡ closed_with (bare search.bounds) search.bounds.placed (best_of search)
due_above search u above = by_open (first_open search.bounds.segs search.bounds.part search.bounds.placed) refl
  where
    by_open : (f : Option SegId) → first_open search.bounds.segs search.bounds.part search.bounds.placed ≡ f
        → due search ≡ closed_with (bare search.bounds) search.bounds.placed (best_of search)
    by_open None e =
        due_complete search u e
        ∙ ap (closed_with (bare search.bounds) search.bounds.placed)
        (leaf_no_better search.bounds ((part_of search.bounds).bound search.bounds.placed) (best_of search) (leaf_cost search u e) above)
    by_open (Some s) e = closed_is (bare search.bounds) u.known search.bounds.placed (best_of search) s u.well.each e above

pub case_above : (old : Search) (at : ℕ) (line : LineId) → IsUnderWay old → IsOpenAt at old
    → Contains (lines_on old.bounds.segs (seg_at at old)) line → is_placed (lines_on old.bounds.placed (seg_at at old)) line ≡ false
    → old.cost ≤ (part_of old.bounds).bound (placed_more old.bounds.segs old.bounds.placed (seg_at at old) line)
    → due_case at line old ≡ closed_with (bare old.bounds) (placed_more old.bounds.segs old.bounds.placed (seg_at at old) line) (best_of old)
case_above old at line u opens on fresh above =
    let s : SegId = seg_at at old in
    let down : Search = record old { bounds = state_more old.bounds s line } in
    let well : IsWell down.bounds.segs down.bounds.placed = well_more (bare old.bounds) u.rising u.known old.bounds.placed s line u.well (seg_known old at u opens) on fresh in
    let way : IsUnderWay down = way_placed old down at line u refl refl refl refl refl well in
    due_above down way above

-- The children of a split have their bounds.

each_in_order : (P : Child → Type 0) (cs : List Child) → AllByRecursion P cs → AllByRecursion P (in_order cs)
each_in_order P cs h =
    recursion_from_All P (in_order cs) (All-permutation P cs (in_order cs) (permuted_in_order cs) (All-from_recursion P cs h))

bounded_at : (b : PartState) (s : SegId) (lines : List LineId) → AreBounded b s (map (child_at (part_of b) b.placed s) lines)
bounded_at b s [] = tt
bounded_at b s (a ∷ lines) = (refl, bounded_at b s lines)

kids_bounded : (at : ℕ) (b : PartState) → AreBounded b (get_or b.part at (record { 0 = 0 })) (kids_at at b)
kids_bounded at b =
    let s : SegId = get_or b.part at (record { 0 = 0 }) in
    each_in_order (λ (c : Child). c.bound ≡ (part_of b).bound (placed_more b.segs b.placed s c.line))
    (map (child_at (part_of b) b.placed s) (lines_left (lines_on b.segs s) (lines_on b.placed s)))
    (bounded_at b s (lines_left (lines_on b.segs s) (lines_on b.placed s)))

pub bounded_pushed : (old new : Search) (at start : ℕ) → new.bounds ≡ old.bounds → start ≡ length old.children.items
    → new.children.items ≡ old.children.items ++ kids_at at old.bounds → AreBounded new.bounds (seg_at at new) (drop start new.children.items)
bounded_pushed old new at start b e is =
    subst (λ (s : PartState). AreBounded s (get_or s.part at (record { 0 = 0 })) (drop start new.children.items)) (sym b)
    (subst (AreBounded old.bounds (seg_at at old)) (sym (ap (drop start) is ∙ drop_front old.children.items (kids_at at old.bounds) start e)) (kids_bounded at old.bounds))

each_at : (P : Child → Type 0) (cs : List Child) (k : ℕ) (d : Child) → AllByRecursion P cs → k < length cs → P (get_or cs k d)
each_at P [] k d h below = absurd (omega (arith, below))
each_at P (c ∷ cs) zero d h below = h.0
each_at P (c ∷ cs) (suc k) d h below = each_at P cs k d h.1 (omega (arith, below))

-- the next child has its bound
pub child_bounded : (old mid : Search) (at start k : ℕ) (child : Child) → mid.bounds ≡ old.bounds → mid.children.items ≡ old.children.items
    → AreBounded old.bounds (seg_at at old) (drop start old.children.items) → k < length (drop start old.children.items)
    → child ≡ get_or mid.children.items (start + k) child
    → child.bound ≡ (part_of mid.bounds).bound (placed_more mid.bounds.segs mid.bounds.placed (seg_at at mid) child.line)
child_bounded old mid at start k child b items bounded below is =
    let P : PartState → Child → Type 0 = λ s c. c.bound ≡ (part_of s).bound (placed_more s.segs s.placed (get_or s.part at (record { 0 = 0 })) c.line) in
    let there : get_or (drop start old.children.items) k child ≡ child =
    get_or-drop start old.children.items k child ∙ ap (λ l. get_or l (start + k) child) (sym items) ∙ sym is in
    subst (λ s. P s child) (sym b) (subst (P old.bounds) there (each_at (P old.bounds) (drop start old.children.items) k child bounded below))
