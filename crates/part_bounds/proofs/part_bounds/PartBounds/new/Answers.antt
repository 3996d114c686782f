use Rattle.std.proofs.Common.{◌≡◌, ◌≤◌, refl, ap, sym, subst, ◌∙◌, ℕ, ◌<◌, List, length, arith}
use Rattle.std.specs.Prelude.{sum_by}
use Rattle.std.specs.List.{All}
use Rattle.std.proofs.lemmas.List.{length-map}
use Rattle.map_base.specs.declared.ids.SegId.{SegId}
use Rattle.order_model.specs.PartTerms.{terms_by_number, part_terms, part_numbers}
use Rattle.order_model.specs.declared.term.Term.{Term}
use Rattle.order_model.proofs.KeptTerms.{part_numbers_known, part_terms_by_number}
use Rattle.pair_bounds.specs.Counted.{settled_sum}
use Rattle.part_bounds.specs.declared.pair_terms.PairTerms.{PairTerms}
use Rattle.part_bounds.specs.PairGroups.{Group, terms_in, groups_of, groups_in}
use Rattle.part_bounds.specs.Settled.{lists_in, AreByEnds}
use Rattle.part_bounds.proofs.KeptUp.{pairs_begun, stale_kept, each_known, terms_few, part_few, each_few, room_for}
use Rattle.part_bounds.proofs.part_bounds.PartBounds.new.Goals as goal

grouped : (terms : List Term) (part : List SegId) (numbers : List ℕ) (pairs slice : List PairTerms) → numbers ≡ part_numbers terms part → groups_in pairs ≡ groups_of (terms_by_number terms numbers) → slice ≡ pairs
    → groups_in slice ≡ groups_of (part_terms terms part)
grouped terms part numbers pairs slice e1 e2 e3 = ap groups_in e3 ∙ (e2 ∙ ap groups_of (ap (terms_by_number terms) e1 ∙ part_terms_by_number part terms))

mine : (terms : List Term) (part : List SegId) (numbers : List ℕ) → numbers ≡ part_numbers terms part → terms_by_number terms numbers ≡ part_terms terms part
mine terms part numbers e = ap (terms_by_number terms) e ∙ part_terms_by_number part terms

pub aparts_by_end-requires : goal.aparts_by_end-requires
aparts_by_end-requires c = subst (All (λ n. n < length c.args.problem.now.terms)) (sym c.requires.numbers) (part_numbers_known c.args.part.now c.args.problem.now.terms)

pub settled_total-settled-requires-clause-known : goal.settled_total-settled-requires-clause-known
settled_total-settled-requires-clause-known c = subst (All (λ n. n < length c.args.problem.now.terms)) (sym c.requires.numbers) (part_numbers_known c.args.part.now c.args.problem.now.terms)

pub settled_total-settled-requires-clause-few : goal.settled_total-settled-requires-clause-few
settled_total-settled-requires-clause-few c =
    omega (arith, ap length c.requires.numbers, length-map (part_terms c.args.problem.now.terms c.args.part.now) (λ (q : ℕ × Term). q.0), terms_few c.args.problem.now c.args.part.now c.pairs_of.ensures.fits)

pub pairs_of-requires : goal.pairs_of-requires
pairs_of-requires c = subst (All (λ n. n < length c.args.problem.now.terms)) (sym c.requires.numbers) (part_numbers_known c.args.part.now c.args.problem.now.terms)

pub most_terms-requires : goal.most_terms-requires
most_terms-requires c =
    each_few (groups_in c.as_slice.result.now) (subst (λ gs. sum_by terms_in gs ≤ 4000000) (sym (grouped c.args.problem.now.terms c.args.part.now c.args.numbers.now c.find_segments.new.pairs.items c.as_slice.result.now c.requires.numbers (c.find_segments.ensures.same ∙ c.in_ok-pairs.ensures.grouped) c.as_slice.ensures.value)) (part_few c.args.problem.now c.args.part.now c.pairs_of.ensures.fits))

pub invariant_of-result : goal.invariant_of-result
invariant_of-result c =
    let pairs : List PairTerms = c.find_segments.new.pairs.items in
    record {
      fits = c.in_ok-prefix.ensures.fits;
      table = pairs_begun c.args.problem.now c.args.part.now pairs c.requires.known c.requires.rising c.pairs_of.ensures.fits
          (grouped c.args.problem.now.terms c.args.part.now c.args.numbers.now pairs pairs c.requires.numbers (c.find_segments.ensures.same ∙ c.in_ok-pairs.ensures.grouped) refl) c.in_ok-find_segments.ensures.own;
      numbers_are = c.requires.numbers;
      has_room = room_for c.args.part.now (groups_in pairs) c.most_terms.result c.in_ok-room.room
          (subst (λ (l : List PairTerms). All (λ (g : Group). terms_in g ≤ c.most_terms.result) (groups_in l)) c.as_slice.ensures.value c.most_terms.ensures.each) c.in_ok-room.ensures;
      known_terms = each_known c.args.problem.now c.args.part.now c.pairs_of.ensures.fits c.requires.rising;
      few_terms = terms_few c.args.problem.now c.args.part.now c.pairs_of.ensures.fits;
      settled = record {
        by_ends = subst (λ l. AreByEnds (length c.args.problem.now.segs) l (lists_in c.in_ok-lists.lists.items)) (mine c.args.problem.now.terms c.args.part.now c.args.numbers.now c.requires.numbers) c.in_ok-lists.ensures.by_ends;
        total_is = c.settled_total-settled.ensures ∙ ap (settled_sum c.args.problem.now.segs c.in_ok-prefix.prefix.placed) (mine c.args.problem.now.terms c.args.part.now c.args.numbers.now c.requires.numbers);
      };
      kept_are = stale_kept c.args.problem.now c.args.part.now c.in_ok-prefix.prefix.placed pairs c.in_ok-kept.kept
          (omega (arith, c.in_ok-kept.ensures.each, c.len.ensures, c.find_segments.new.pairs.ok.0)) (omega (arith, c.in_ok-kept.ensures.shares, c.len.ensures, c.find_segments.new.pairs.ok.0)) (c.in_ok-kept.ensures.enough ∙ ap length c.terms.ensures.list) c.in_ok-kept.ensures.stale;
    }
