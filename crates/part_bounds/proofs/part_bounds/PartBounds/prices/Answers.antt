use Rattle.std.proofs.Common.{◌≡◌, ℕ, List, ap, sym, subst, ◌∙◌, arith}
use Rattle.std.proofs.lemmas.List.{length-map}
use Rattle.order_values.specs.PriceLists.{AreRisingPrices}
use Rattle.order_model.specs.declared.term.Term.{Term}
use Rattle.order_model.specs.PartTerms.{part_terms}
use Rattle.order_bound.specs.CanonicalPrices.{prices_for}
use Rattle.order_bound.proofs.Parts.{part_numbered}
use Rattle.part_bounds.specs.PairGroups.{group_in, groups_in}
use Rattle.part_bounds.specs.PartStates.{PartState}
use Rattle.part_bounds.specs.Kept.{HasRoomFor, ArePairsOf, AreKept}
use Rattle.pair_bounds.specs.PriceNotes.{price_noted}
use Rattle.part_bounds.proofs.KeptUp.{kept_up}
use Rattle.part_bounds.proofs.NotedPairs.{whole_noted, list_is, prices_rising}
use Rattle.part_bounds.proofs.part_bounds.PartBounds.prices.Goals as goal

pub renew_pairs-requires-clause-table : goal.renew_pairs-requires-clause-table
renew_pairs-requires-clause-table c = subst (ArePairsOf c.self.inside.problem.now c.self.inside.part.now) (sym c.as_slice.ensures.value) c.self.invariant.table

pub renew_pairs-requires-clause-room : goal.renew_pairs-requires-clause-room
renew_pairs-requires-clause-room c = subst (λ l. HasRoomFor c.self.inside.part.now (groups_in l) c.self.inside.room) (sym c.as_slice.ensures.value) c.self.invariant.has_room

pub renew_pairs-requires-clause-kept : goal.renew_pairs-requires-clause-kept
renew_pairs-requires-clause-kept c =
    subst (λ l. AreKept c.self.inside.problem.now c.self.inside.part.now c.self.inside.prefix.placed l c.self.inside.kept) (sym c.as_slice.ensures.value) c.self.invariant.kept_are

due : (c : goal.In_ok-list) → c.in_ok-list.list.items ≡ prices_for c.self.inside.problem.now.segs c.self.inside.part.now (part_terms c.self.inside.problem.now.terms c.self.inside.part.now) c.self.inside.prefix.placed
due c =
    let terms : List (ℕ × Term) = part_terms c.self.inside.problem.now.terms c.self.inside.part.now in
    let noted = c.renew_pairs.ensures.kept in
    list_is c.self.inside.problem.now.segs c.self.inside.prefix.placed c.self.inside.part.now c.self.inside.problem.now.terms c.self.inside.numbers.now (price_noted c.renew_pairs.new.kept.noted.prices.items) c.in_ok-list.list.items c.self.invariant.numbers_are
    (whole_noted c.self.inside.problem.now.segs c.self.inside.prefix.placed c.self.inside.part.now terms (price_noted c.renew_pairs.new.kept.noted.prices.items) (groups_in c.as_slice.result.now) c.renew_pairs.new.kept.stale.items
    (ap groups_in c.as_slice.ensures.value ∙ c.self.invariant.table.grouped) (λ k b. c.renew_pairs.ensures.all k (omega (arith, b, length-map c.as_slice.result.now group_in))) noted.noted_are)
    c.in_ok-list.ensures

pub invariant_of-self : goal.invariant_of-self
invariant_of-self c =
    kept_up c.self.inside.problem.now c.self.inside.part.now c.self.inside.numbers.now c.self.inside.prefix c.self.inside.prefix c.self.inside.pairs.items c.self.inside.kept c.renew_pairs.new.kept
    c.self.inside.room c.renew_pairs.new.room c.self.inside.aparts c.self.inside.aparts c.self.invariant c.self.invariant.fits
    (subst (λ l. AreKept c.self.inside.problem.now c.self.inside.part.now c.self.inside.prefix.placed l c.renew_pairs.new.kept) c.as_slice.ensures.value c.renew_pairs.ensures.kept)
    c.renew_pairs.ensures.room c.self.invariant.settled

pub of-requires : goal.of-requires
of-requires c =
    let terms : List (ℕ × Term) = part_terms c.self.inside.problem.now.terms c.self.inside.part.now in
    subst AreRisingPrices (sym (due c)) (prices_rising c.self.inside.problem.now.segs c.self.inside.prefix.placed c.self.inside.part.now terms terms (part_numbered c.self.inside.problem.now.terms c.self.inside.part.now))

pub invariant_of-self-2 : goal.invariant_of-self-2
invariant_of-self-2 c =
    kept_up c.self.inside.problem.now c.self.inside.part.now c.self.inside.numbers.now c.self.inside.prefix c.self.inside.prefix c.self.inside.pairs.items c.self.inside.kept c.renew_pairs.new.kept
    c.self.inside.room c.renew_pairs.new.room c.self.inside.aparts c.self.inside.aparts c.self.invariant c.self.invariant.fits
    (subst (λ l. AreKept c.self.inside.problem.now c.self.inside.part.now c.self.inside.prefix.placed l c.renew_pairs.new.kept) c.as_slice.ensures.value c.renew_pairs.ensures.kept)
    c.renew_pairs.ensures.room c.self.invariant.settled

pub returns-clause-prices : goal.returns-clause-prices
returns-clause-prices c =
    let terms : List (ℕ × Term) = part_terms c.self.inside.problem.now.terms c.self.inside.part.now in
    let noted = c.renew_pairs.ensures.kept in
    let is : c.of.result ≡ prices_for c.self.inside.problem.now.segs c.self.inside.part.now terms c.self.inside.prefix.placed =
    c.of.ensures ∙ list_is c.self.inside.problem.now.segs c.self.inside.prefix.placed c.self.inside.part.now c.self.inside.problem.now.terms c.self.inside.numbers.now (price_noted c.renew_pairs.new.kept.noted.prices.items) c.in_ok-list.list.items c.self.invariant.numbers_are
    (whole_noted c.self.inside.problem.now.segs c.self.inside.prefix.placed c.self.inside.part.now terms (price_noted c.renew_pairs.new.kept.noted.prices.items) (groups_in c.as_slice.result.now) c.renew_pairs.new.kept.stale.items
    (ap groups_in c.as_slice.ensures.value ∙ c.self.invariant.table.grouped) (λ k b. c.renew_pairs.ensures.all k (omega (arith, b, length-map c.as_slice.result.now group_in))) noted.noted_are)
    c.in_ok-list.ensures in
    subst (λ (b : PartState). c.of.result ≡ prices_for b.segs b.part b.terms b.placed) c.self.view_is is
