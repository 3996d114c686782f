use Rattle.std.proofs.Common.{sym, subst, ℕ, List, true, false}
use Rattle.std.specs.List.Sorted.{IsNonDecreasing, IsPermutation}
use Rattle.start_positions.specs.Spreads.{offsets_along}
use Rattle.start_positions.proofs.spreading.places_among.Goals as goal

pub places_by-requires-clause-east_order : goal.places_by-requires-clause-east_order
places_by-requires-clause-east_order c = subst (λ (xs : List ℕ). IsNonDecreasing xs) (sym c.deref.ensures.value) c.in_ok-easts.ensures.order

pub places_by-requires-clause-north_order : goal.places_by-requires-clause-north_order
places_by-requires-clause-north_order c = subst (λ (xs : List ℕ). IsNonDecreasing xs) (sym c.deref-2.ensures.value) c.in_ok-norths.ensures.order

pub places_by-requires-clause-easts : goal.places_by-requires-clause-easts
places_by-requires-clause-easts c = subst (λ (xs : List ℕ). IsPermutation (offsets_along true c.args.offsets.now) xs) (sym c.deref.ensures.value) c.in_ok-easts.ensures.same

pub places_by-requires-clause-norths : goal.places_by-requires-clause-norths
places_by-requires-clause-norths c = subst (λ (xs : List ℕ). IsPermutation (offsets_along false c.args.offsets.now) xs) (sym c.deref-2.ensures.value) c.in_ok-norths.ensures.same
