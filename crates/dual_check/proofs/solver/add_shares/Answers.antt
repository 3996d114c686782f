use Rattle.std.proofs.Common.{◌≡◌, ℕ, ◌<◌, ◌∙◌, List, length, refl, subst, get_or, w64, FitsSigned, to_z, of_z}
use Rattle.std.proofs.lemmas.Int.{to_z-of_z}
use Rattle.map_base.specs.declared.ids.LineId.{LineId}
use Rattle.order_model.specs.declared.term.Term.{Term}
use Rattle.order_model.specs.PartTerms.{no_term}
use Rattle.order_model.specs.Problems.{lines_on}
use Rattle.order_values.specs.PriceLists.{price_at}
use Rattle.dual_bound.specs.ShareCosts.{term_costs}
use Rattle.dual_shares.specs.RowSteps.{HaveAdded}
use Rattle.dual_shares.proofs.Grouping.{term_read}
use Rattle.dual_shares.proofs.Telling.{tell_term}
use Rattle.dual_check.proofs.solver.add_shares.Goals as goal

pub loop-n-preserved : goal.loop-n-preserved
loop-n-preserved c =
    let n : ℕ = get_or c.args.numbers.now c.loop-n.n-index 0 in
    let fits : FitsSigned w64 c.price_at.result = record { sfits = c.price_at.type_inv } in
    let price : to_z w64 (of_z w64 c.price_at.result) ≡ price_at c.args.prices.now n = to_z-of_z w64 c.price_at.result fits ∙ c.price_at.ensures in
    let known : n < length c.args.problem.now.terms = c.requires.numbers c.loop-n.n-index 0 c.loop-n-test.true in
    let on : List LineId = lines_on c.args.problem.now.segs c.args.s in
    let term : Term = get_or c.args.problem.now.terms n no_term in
    let added =
    subst (λ v. HaveAdded on (term_costs v c.args.s term) c.loop-n.rows.before.items c.loop-n.rows.beside.items c.add_share.new.self.before.items c.add_share.new.self.beside.items) price
    (subst (λ (t : Term). HaveAdded on (term_costs (to_z w64 (of_z w64 c.price_at.result)) c.args.s t) c.loop-n.rows.before.items c.loop-n.rows.beside.items c.add_share.new.self.before.items c.add_share.new.self.beside.items)
    (term_read c.terms-terms.result.now c.args.problem.now.terms n _ c.terms-terms.ensures.list known) c.add_share.ensures.added.rows) in
    record {
      room = c.add_share.ensures.room;
      count = c.add_share.ensures.added.count ∙ c.loop-n.invariant.count;
      told = tell_term (lines_on c.args.problem.now.segs c.args.s) c.args.problem.now.terms (price_at c.args.prices.now) c.args.s c.args.numbers.now c.loop-n.n-index n c.loop-n.rows.before.items c.loop-n.rows.beside.items
          c.add_share.new.self.before.items c.add_share.new.self.beside.items c.loop-n-test.true refl c.loop-n.invariant.told added;
      small = c.add_share.ensures.small c.loop-n.n-index c.loop-n.invariant.small;
    }
