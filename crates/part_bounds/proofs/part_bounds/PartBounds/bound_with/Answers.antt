use Rattle.std.proofs.Common.{◌≡◌, ◌+◌, ◌<◌, ◌≤◌, ℕ, false, List, length, set, get_or, ap, sym, subst, ◌∙◌, refl, arith, rules}
use Rattle.std.specs.Prelude.{sum_by}
use Rattle.std.specs.List.{All}
use Rattle.std.proofs.lemmas.List.{length-map}
use Rattle.graph_core.specs.Consistent.{AreRising}
use Rattle.order_model.specs.Problems.{lines_on}
use Rattle.order_model.specs.Prefixes.{without_last}
use Rattle.order_model.specs.PartTerms.{part_terms}
use Rattle.order_model.specs.Completions.{placed_more}
use Rattle.order_bound.specs.Bounds.{bound_of}
use Rattle.order_bound.proofs.Parts.{rising_apart}
use Rattle.pair_bounds.specs.Counted.{settled_sum}
use Rattle.part_bounds.specs.declared.pair_terms.PairTerms.{PairTerms}
use Rattle.part_bounds.specs.PairGroups.{group_in, groups_in, terms_in, IsGroup}
use Rattle.part_bounds.specs.PartStates.{PartState, IsWell, settled_at}
use Rattle.part_bounds.specs.Settled.{AreSettled}
use Rattle.part_bounds.specs.Changes.{IsChange}
use Rattle.part_bounds.specs.Kept.{AreLeft, HasRoomFor, ArePairsOf, AreKept}
use Rattle.part_bounds.proofs.KeptUp.{kept_up, kept_on, rooms_kept, list_here, list_sum, list_known, list_few, whole_small, whole_bound}
use Rattle.part_bounds.proofs.KeptShares.{left_shares}
use Rattle.part_bounds.proofs.Restored.{taken_back}
use Rattle.part_bounds.proofs.ApartLists.{total_low, total_most, total_next}
use Rattle.part_bounds.proofs.OwnSegments.{SameElsewhere, moved_on}
use Rattle.part_bounds.proofs.PairsKept.{is_placing, left_by_placing, more_placed}
use Rattle.part_bounds.proofs.part_bounds.PartBounds.bound_with.Goals as goal

pub renew_pairs-requires-clause-table : goal.renew_pairs-requires-clause-table
renew_pairs-requires-clause-table c = subst (ArePairsOf c.self.inside.problem.now c.self.inside.part.now) (sym c.as_slice.ensures.value) c.self.invariant.table

pub renew_pairs-requires-clause-room : goal.renew_pairs-requires-clause-room
renew_pairs-requires-clause-room c = subst (λ l. HasRoomFor c.self.inside.part.now (groups_in l) c.self.inside.room) (sym c.as_slice.ensures.value) c.self.invariant.has_room

pub renew_pairs-requires-clause-kept : goal.renew_pairs-requires-clause-kept
renew_pairs-requires-clause-kept c =
    subst (λ l. AreKept c.self.inside.problem.now c.self.inside.part.now c.self.inside.prefix.placed l c.self.inside.kept) (sym c.as_slice.ensures.value) c.self.invariant.kept_are

pub settled_on-after-requires-clause-here : goal.settled_on-after-requires-clause-here
settled_on-after-requires-clause-here c = list_here c.self.inside.problem.now.segs c.self.inside.prefix.placed c.args.seg (part_terms c.self.inside.problem.now.terms c.self.inside.part.now) c.self.inside.aparts c.self.invariant.settled (subst (λ (b : PartState). c.args.seg.0 < length b.segs) (sym c.self.view_is) c.requires.known)

pub settled_on-after-requires-clause-known : goal.settled_on-after-requires-clause-known
settled_on-after-requires-clause-known c =
    list_known c.self.inside.problem.now.segs c.self.inside.prefix.placed c.args.seg (part_terms c.self.inside.problem.now.terms c.self.inside.part.now) c.self.inside.aparts c.self.invariant.settled (subst (λ (b : PartState). c.args.seg.0 < length b.segs) (sym c.self.view_is) c.requires.known) c.self.invariant.known_terms

pub settled_on-after-requires-clause-few : goal.settled_on-after-requires-clause-few
settled_on-after-requires-clause-few c =
    list_few c.self.inside.problem.now.segs c.self.inside.prefix.placed c.args.seg (part_terms c.self.inside.problem.now.terms c.self.inside.part.now) c.self.inside.aparts c.self.invariant.settled (subst (λ (b : PartState). c.args.seg.0 < length b.segs) (sym c.self.view_is) c.requires.known) c.self.invariant.few_terms

pub moved-requires-clause-low : goal.moved-requires-clause-low
moved-requires-clause-low c =
    total_low c.self.inside.problem.now.segs c.self.inside.prefix.placed c.args.seg (part_terms c.self.inside.problem.now.terms c.self.inside.part.now) c.self.inside.aparts c.args.before c.self.invariant.settled (subst (λ (b : PartState). c.args.seg.0 < length b.segs) (sym c.self.view_is) c.requires.known) (subst (λ (b : PartState). c.args.before ≡ settled_at b c.args.seg) (sym c.self.view_is) c.requires.before
    ∙ sym (list_sum c.self.inside.problem.now.segs c.self.inside.prefix.placed c.args.seg (part_terms c.self.inside.problem.now.terms c.self.inside.part.now) c.self.inside.aparts c.self.invariant.settled (subst (λ (b : PartState). c.args.seg.0 < length b.segs) (sym c.self.view_is) c.requires.known)))

pub moved-requires-clause-most : goal.moved-requires-clause-most
moved-requires-clause-most c =
    total_most c.self.inside.problem.now.segs c.self.inside.prefix.placed (part_terms c.self.inside.problem.now.terms c.self.inside.part.now) c.self.inside.aparts c.self.invariant.settled c.self.invariant.known_terms c.self.invariant.few_terms

pub last_two-last-requires-clause-some : goal.last_two-last-requires-clause-some
last_two-last-requires-clause-some c =
    let below : c.args.seg.0 < length c.self.inside.prefix.placed = (let each = c.self.invariant.fits.each in let known : c.args.seg.0 < length c.self.inside.problem.now.segs = subst (λ (b : PartState). c.args.seg.0 < length b.segs) (sym c.self.view_is) c.requires.known in omega (arith, each, known)) in
    omega (arith, more_placed c.self.inside.problem.now.segs c.self.inside.prefix.placed c.place.new.self.placed c.args.seg c.args.line below c.place.ensures.placed)

pub change_on-change-requires-clause-within : goal.change_on-change-requires-clause-within
change_on-change-requires-clause-within c =
    let below : c.args.seg.0 < length c.self.inside.prefix.placed = (let each = c.self.invariant.fits.each in let known : c.args.seg.0 < length c.self.inside.problem.now.segs = subst (λ (b : PartState). c.args.seg.0 < length b.segs) (sym c.self.view_is) c.requires.known in omega (arith, each, known)) in
    omega (arith, c.placed_count-count.ensures, more_placed c.self.inside.problem.now.segs c.self.inside.prefix.placed c.place.new.self.placed c.args.seg c.args.line below c.place.ensures.placed)

pub sum_with-shares-requires-clause-table : goal.sum_with-shares-requires-clause-table
sum_with-shares-requires-clause-table c = subst (ArePairsOf c.self.inside.problem.now c.self.inside.part.now) (sym c.as_slice-2.ensures.value) c.self.invariant.table

pub sum_with-shares-requires-clause-room : goal.sum_with-shares-requires-clause-room
sum_with-shares-requires-clause-room c =
    rooms_kept c.self.inside.part.now (groups_in c.as_slice-2.result.now) c.self.inside.room c.renew_pairs.new.room
    (subst (λ l. HasRoomFor c.self.inside.part.now (groups_in l) c.self.inside.room) (sym c.as_slice-2.ensures.value) c.self.invariant.has_room) c.renew_pairs.ensures.room

pub sum_with-shares-requires-clause-each : goal.sum_with-shares-requires-clause-each
sum_with-shares-requires-clause-each c =
    ap length c.as_slice-3.ensures.value ∙ (c.renew_pairs.ensures.kept.shares_each ∙ ap length (c.as_slice.ensures.value ∙ sym c.as_slice-2.ensures.value))

pub sum_with-shares-requires-clause-left : goal.sum_with-shares-requires-clause-left
sum_with-shares-requires-clause-left c =
    let moved : SameElsewhere c.args.seg c.place.new.self.placed c.self.inside.prefix.placed = moved_on c.self.inside.prefix.placed c.place.new.self.placed c.args.seg _ c.place.ensures.placed in
    let below : c.args.seg.0 < length c.self.inside.prefix.placed = (let each = c.self.invariant.fits.each in let known : c.args.seg.0 < length c.self.inside.problem.now.segs = subst (λ (b : PartState). c.args.seg.0 < length b.segs) (sym c.self.view_is) c.requires.known in omega (arith, each, known)) in
    let change : IsChange (lines_on c.self.inside.prefix.placed c.args.seg) (lines_on c.place.new.self.placed c.args.seg) c.change_on-change.result =
    is_placing c.self.inside.problem.now.segs c.self.inside.prefix.placed c.place.new.self.placed c.args.seg c.args.line c.change_on-change.result c.placed_count-count.result c.last_two-last.result below c.place.ensures.placed c.placed_count-count.ensures c.change_on-change.ensures.known c.change_on-change.ensures.last c.last_two-last.ensures.last c.last_two-last.ensures.before in
    left_shares c.self.inside.problem.now c.self.inside.part.now c.self.inside.prefix.placed c.place.new.self.placed c.change_on-change.result c.as_slice.result.now c.as_slice-2.result.now c.renew_pairs.new.kept c.as_slice-3.result.now
    (subst (ArePairsOf c.self.inside.problem.now c.self.inside.part.now) (sym c.as_slice.ensures.value) c.self.invariant.table) (c.as_slice-2.ensures.value ∙ sym c.as_slice.ensures.value) c.as_slice-3.ensures.value
    (λ g fit none. left_by_placing c.self.inside.problem.now.segs c.self.inside.prefix.placed c.place.new.self.placed c.self.inside.part.now c.change_on-change.result c.args.seg g c.change_on-change.ensures.seg moved change fit none)
    c.renew_pairs.ensures.all c.renew_pairs.ensures.kept

pub invariant_of-self : goal.invariant_of-self
invariant_of-self c =
    let segs = c.self.inside.problem.now.segs in
    let back : c.take_back.new.self.placed ≡ c.self.inside.prefix.placed =
    c.take_back.ensures.placed ∙ (ap (λ l. set l c.args.seg.0 (without_last (lines_on segs c.args.seg) (lines_on l c.args.seg))) c.place.ensures.placed
    ∙ taken_back segs c.self.inside.prefix.placed c.args.seg c.args.line (subst (λ (b : PartState). IsWell b.segs b.placed) (sym c.self.view_is) c.requires.well)
    (subst (λ (b : PartState). c.args.seg.0 < length b.segs) (sym c.self.view_is) c.requires.known) (subst (λ (b : PartState). All AreRising b.segs) (sym c.self.view_is) c.requires.rising)) in
    kept_up c.self.inside.problem.now c.self.inside.part.now c.self.inside.numbers.now c.self.inside.prefix c.take_back.new.self c.self.inside.pairs.items c.self.inside.kept c.renew_pairs.new.kept
    c.self.inside.room c.sum_with-shares.new.room c.self.inside.aparts c.self.inside.aparts c.self.invariant c.take_back.ensures.fits
    (subst (λ l. AreKept c.self.inside.problem.now c.self.inside.part.now l c.self.inside.pairs.items c.renew_pairs.new.kept) (sym back)
    (subst (λ l. AreKept c.self.inside.problem.now c.self.inside.part.now c.self.inside.prefix.placed l c.renew_pairs.new.kept) c.as_slice.ensures.value c.renew_pairs.ensures.kept))
    (kept_on c.self.inside.room c.renew_pairs.new.room c.sum_with-shares.new.room c.renew_pairs.ensures.room c.sum_with-shares.ensures.room)
    (subst (λ l. AreSettled segs l (part_terms c.self.inside.problem.now.terms c.self.inside.part.now) c.self.inside.aparts) (sym back) c.self.invariant.settled)

settled_is : (c : goal.After-moved) → c.moved.result ≡ settled_sum c.self.inside.problem.now.segs c.place.new.self.placed (part_terms c.self.inside.problem.now.terms c.self.inside.part.now)
settled_is c =
    total_next c.self.inside.problem.now.segs c.self.inside.prefix.placed c.place.new.self.placed c.args.seg (part_terms c.self.inside.problem.now.terms c.self.inside.part.now) c.self.inside.aparts c.args.before c.settled_on-after.result c.self.invariant.settled (subst (λ (b : PartState). c.args.seg.0 < length b.segs) (sym c.self.view_is) c.requires.known)
    (moved_on c.self.inside.prefix.placed c.place.new.self.placed c.args.seg _ c.place.ensures.placed) (subst (λ (b : PartState). c.args.before ≡ settled_at b c.args.seg) (sym c.self.view_is) c.requires.before
    ∙ sym (list_sum c.self.inside.problem.now.segs c.self.inside.prefix.placed c.args.seg (part_terms c.self.inside.problem.now.terms c.self.inside.part.now) c.self.inside.aparts c.self.invariant.settled (subst (λ (b : PartState). c.args.seg.0 < length b.segs) (sym c.self.view_is) c.requires.known))) c.settled_on-after.ensures.value c.moved.result c.moved.ensures

pub overflow_add-result : goal.overflow_add-result
overflow_add-result c =
    let most : c.sum_with-shares.result + c.moved.result ≤ 8192000000000 = whole_small c.self.inside.problem.now.segs c.place.new.self.placed c.self.inside.part.now (part_terms c.self.inside.problem.now.terms c.self.inside.part.now) (groups_in c.as_slice-2.result.now) c.sum_with-shares.result c.moved.result
    (rising_apart c.self.inside.part.now c.self.invariant.table.rises) (subst (λ (l : List PairTerms). All (IsGroup c.self.inside.problem.now.segs c.self.inside.part.now) (groups_in l)) (sym c.as_slice-2.ensures.value) c.self.invariant.table.groups)
    (subst (λ (l : List PairTerms). sum_by terms_in (groups_in l) ≤ 4000000) (sym c.as_slice-2.ensures.value) c.self.invariant.table.few) c.self.invariant.known_terms c.self.invariant.few_terms c.sum_with-shares.ensures.total (settled_is c) in
    search rules

pub returns-clause-bound : goal.returns-clause-bound
returns-clause-bound c =
    let segs = c.self.inside.problem.now.segs in
    let part = c.self.inside.part.now in
    let terms = part_terms c.self.inside.problem.now.terms part in
    whole_bound segs c.place.new.self.placed part terms (groups_in c.as_slice-2.result.now) c.sum_with-shares.result c.moved.result (ap groups_in c.as_slice-2.ensures.value ∙ c.self.invariant.table.grouped)
    c.sum_with-shares.ensures.total (settled_is c) ∙ (ap (bound_of segs part terms) c.place.ensures.placed
    ∙ ap (λ (b : PartState). bound_of b.segs b.part b.terms (placed_more b.segs b.placed c.args.seg c.args.line)) c.self.view_is)
