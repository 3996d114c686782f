use Rattle.std.proofs.Common.{◌≡◌, ◌<◌, List, length, refl, ap, sym, subst, ◌∙◌, arith}
use Rattle.order_model.specs.Problems.{lines_on}
use Rattle.order_model.specs.PartTerms.{part_terms}
use Rattle.part_bounds.specs.PartStates.{PartState}
use Rattle.part_bounds.specs.Changes.{IsChange}
use Rattle.part_bounds.specs.Kept.{AreMarked}
use Rattle.part_bounds.specs.declared.pair_terms.PairTerms.{PairTerms}
use Rattle.part_bounds.proofs.KeptUp.{kept_up, kept_itself, list_here, list_known, list_few}
use Rattle.part_bounds.proofs.KeptShares.{left_kept}
use Rattle.part_bounds.proofs.ApartLists.{total_low, total_most, settled_next}
use Rattle.part_bounds.proofs.OwnSegments.{SameElsewhere, moved_on}
use Rattle.part_bounds.proofs.PairsKept.{is_placing, left_by_placing, more_placed}
use Rattle.part_bounds.proofs.PricesKept as prices_kept
use Rattle.part_bounds.proofs.part_bounds.PartBounds.place.Goals as goal

pub settled_on-before-requires-clause-here : goal.settled_on-before-requires-clause-here
settled_on-before-requires-clause-here c = list_here c.self.inside.problem.now.segs c.self.inside.prefix.placed c.args.seg (part_terms c.self.inside.problem.now.terms c.self.inside.part.now) c.self.inside.aparts c.self.invariant.settled (subst (λ (b : PartState). c.args.seg.0 < length b.segs) (sym c.self.view_is) c.requires.known)

pub settled_on-before-requires-clause-known : goal.settled_on-before-requires-clause-known
settled_on-before-requires-clause-known c =
    list_known c.self.inside.problem.now.segs c.self.inside.prefix.placed c.args.seg (part_terms c.self.inside.problem.now.terms c.self.inside.part.now) c.self.inside.aparts c.self.invariant.settled (subst (λ (b : PartState). c.args.seg.0 < length b.segs) (sym c.self.view_is) c.requires.known) c.self.invariant.known_terms

pub settled_on-before-requires-clause-few : goal.settled_on-before-requires-clause-few
settled_on-before-requires-clause-few c =
    list_few c.self.inside.problem.now.segs c.self.inside.prefix.placed c.args.seg (part_terms c.self.inside.problem.now.terms c.self.inside.part.now) c.self.inside.aparts c.self.invariant.settled (subst (λ (b : PartState). c.args.seg.0 < length b.segs) (sym c.self.view_is) c.requires.known) c.self.invariant.few_terms

pub settled_on-after-requires-clause-here : goal.settled_on-after-requires-clause-here
settled_on-after-requires-clause-here c = list_here c.self.inside.problem.now.segs c.self.inside.prefix.placed c.args.seg (part_terms c.self.inside.problem.now.terms c.self.inside.part.now) c.self.inside.aparts c.self.invariant.settled (subst (λ (b : PartState). c.args.seg.0 < length b.segs) (sym c.self.view_is) c.requires.known)

pub settled_on-after-requires-clause-known : goal.settled_on-after-requires-clause-known
settled_on-after-requires-clause-known c =
    list_known c.self.inside.problem.now.segs c.self.inside.prefix.placed c.args.seg (part_terms c.self.inside.problem.now.terms c.self.inside.part.now) c.self.inside.aparts c.self.invariant.settled (subst (λ (b : PartState). c.args.seg.0 < length b.segs) (sym c.self.view_is) c.requires.known) c.self.invariant.known_terms

pub settled_on-after-requires-clause-few : goal.settled_on-after-requires-clause-few
settled_on-after-requires-clause-few c =
    list_few c.self.inside.problem.now.segs c.self.inside.prefix.placed c.args.seg (part_terms c.self.inside.problem.now.terms c.self.inside.part.now) c.self.inside.aparts c.self.invariant.settled (subst (λ (b : PartState). c.args.seg.0 < length b.segs) (sym c.self.view_is) c.requires.known) c.self.invariant.few_terms

pub moved-self-inside-requires-clause-low : goal.moved-self-inside-requires-clause-low
moved-self-inside-requires-clause-low c =
    total_low c.self.inside.problem.now.segs c.self.inside.prefix.placed c.args.seg (part_terms c.self.inside.problem.now.terms c.self.inside.part.now) c.self.inside.aparts c.settled_on-before.result c.self.invariant.settled (subst (λ (b : PartState). c.args.seg.0 < length b.segs) (sym c.self.view_is) c.requires.known) c.settled_on-before.ensures.value

pub moved-self-inside-requires-clause-most : goal.moved-self-inside-requires-clause-most
moved-self-inside-requires-clause-most c =
    total_most c.self.inside.problem.now.segs c.self.inside.prefix.placed (part_terms c.self.inside.problem.now.terms c.self.inside.part.now) c.self.inside.aparts c.self.invariant.settled c.self.invariant.known_terms c.self.invariant.few_terms

pub last_two-last-requires-clause-some : goal.last_two-last-requires-clause-some
last_two-last-requires-clause-some c =
    let below : c.args.seg.0 < length c.self.inside.prefix.placed = (let each = c.self.invariant.fits.each in let known : c.args.seg.0 < length c.self.inside.problem.now.segs = subst (λ (b : PartState). c.args.seg.0 < length b.segs) (sym c.self.view_is) c.requires.known in omega (arith, each, known)) in
    omega (arith, more_placed c.self.inside.problem.now.segs c.self.inside.prefix.placed c.place.new.self.placed c.args.seg c.args.line below c.place.ensures.placed)

pub change_on-change-requires-clause-within : goal.change_on-change-requires-clause-within
change_on-change-requires-clause-within c =
    let below : c.args.seg.0 < length c.self.inside.prefix.placed = (let each = c.self.invariant.fits.each in let known : c.args.seg.0 < length c.self.inside.problem.now.segs = subst (λ (b : PartState). c.args.seg.0 < length b.segs) (sym c.self.view_is) c.requires.known in omega (arith, each, known)) in
    omega (arith, c.placed_count-count.ensures, more_placed c.self.inside.problem.now.segs c.self.inside.prefix.placed c.place.new.self.placed c.args.seg c.args.line below c.place.ensures.placed)

pub mark_changed-requires : goal.mark_changed-requires
mark_changed-requires c = c.self.invariant.kept_are.each ∙ ap length (sym c.as_slice.ensures.value)

pub invariant_of-self : goal.invariant_of-self
invariant_of-self c =
    let slice : c.as_slice.result.now ≡ c.self.inside.pairs.items = c.as_slice.ensures.value in
    let moved : SameElsewhere c.args.seg c.place.new.self.placed c.self.inside.prefix.placed = moved_on c.self.inside.prefix.placed c.place.new.self.placed c.args.seg _ c.place.ensures.placed in
    let below : c.args.seg.0 < length c.self.inside.prefix.placed = (let each = c.self.invariant.fits.each in let known : c.args.seg.0 < length c.self.inside.problem.now.segs = subst (λ (b : PartState). c.args.seg.0 < length b.segs) (sym c.self.view_is) c.requires.known in omega (arith, each, known)) in
    let change : IsChange (lines_on c.self.inside.prefix.placed c.args.seg) (lines_on c.place.new.self.placed c.args.seg) c.change_on-change.result =
    is_placing c.self.inside.problem.now.segs c.self.inside.prefix.placed c.place.new.self.placed c.args.seg c.args.line c.change_on-change.result c.placed_count-count.result c.last_two-last.result below c.place.ensures.placed c.placed_count-count.ensures c.change_on-change.ensures.known c.change_on-change.ensures.last c.last_two-last.ensures.last c.last_two-last.ensures.before in
    let marked : AreMarked c.change_on-change.result c.self.inside.pairs.items (length c.self.inside.pairs.items) c.self.inside.kept.stale.items c.mark_changed.new.stale.items =
    subst (λ (l : List PairTerms). AreMarked c.change_on-change.result l (length l) c.self.inside.kept.stale.items c.mark_changed.new.stale.items) slice c.mark_changed.ensures in
    kept_up c.self.inside.problem.now c.self.inside.part.now c.self.inside.numbers.now c.self.inside.prefix c.place.new.self c.self.inside.pairs.items c.self.inside.kept _ c.self.inside.room c.self.inside.room c.self.inside.aparts _
    c.self.invariant c.place.ensures.fits
    (left_kept c.self.inside.problem.now c.self.inside.part.now c.self.inside.prefix.placed c.place.new.self.placed c.change_on-change.result c.self.inside.pairs.items c.self.inside.kept _ c.self.invariant.table refl refl marked
    (λ g fit none. left_by_placing c.self.inside.problem.now.segs c.self.inside.prefix.placed c.place.new.self.placed c.self.inside.part.now c.change_on-change.result c.args.seg g c.change_on-change.ensures.seg moved change fit none)
    (λ g fit none. prices_kept.left_by_placing c.self.inside.problem.now.segs c.self.inside.prefix.placed c.place.new.self.placed c.self.inside.part.now c.change_on-change.result c.args.seg g c.change_on-change.ensures.seg moved change fit none)
    c.self.invariant.kept_are) (kept_itself c.self.inside.room)
    (settled_next c.self.inside.problem.now.segs c.self.inside.prefix.placed c.place.new.self.placed c.args.seg (part_terms c.self.inside.problem.now.terms c.self.inside.part.now) c.self.inside.aparts _ c.settled_on-before.result c.settled_on-after.result c.self.invariant.settled (subst (λ (b : PartState). c.args.seg.0 < length b.segs) (sym c.self.view_is) c.requires.known)
    moved c.settled_on-before.ensures.value c.settled_on-after.ensures.value refl c.moved-self-inside.ensures)
