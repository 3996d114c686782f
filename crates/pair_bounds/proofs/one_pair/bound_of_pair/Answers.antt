use Rattle.std.proofs.Common.{◌≡◌, ◌≤◌, ◌+◌, ◌*◌, ◌∙◌, ℕ, length, sym, ap, subst, arith, rules, to_z, of_z, w64, Fits, pos}
use Rattle.std.specs.Int.{w128}
use Rattle.std.proofs.lemmas.Int.{to_z-of_z}
use lib.Dec.{T}
use lib.Signed.{non_neg}
use lib.IntN.{nat_abs}
use Rattle.whole_sums.specs.Sums.{int_sum}
use Rattle.pair_bounds.specs.Counted.{counted_sum}
use Rattle.order_bound.specs.Bounds.{pair_bound}
use Rattle.pair_bounds.specs.Slots.{slot_least}
use Rattle.pair_bounds.proofs.PairCosts.{share_small}
use Rattle.pair_bounds.proofs.one_pair.bound_of_pair.Goals as goal

fits_both : (n : ℕ) → n ≤ 4096000000000 → T (non_neg (pos n)) × Fits w64 n
fits_both n h = (search rules, search rules)

fits_one : (n : ℕ) → n ≤ 4096000000000 → Fits w64 n
fits_one n h = search rules

abbrev least : goal.After-least_sum-least → ℕ
least c = pair_bound c.args.problem.now.segs c.args.prefix.now.placed c.args.part.now c.args.terms.now c.args.pair

least_is : (c : goal.After-least_sum-least) → to_z w128 (of_z w128 c.least_sum-least.result) ≡ pos (least c)
least_is c =
    to_z-of_z w128 c.least_sum-least.result (search rules) ∙ (c.least_sum-least.ensures ∙ (ap (int_sum slot_least) c.as_slice.ensures.value ∙ c.price_pair-decided.ensures.least))

small : (c : goal.After-least_sum-least) → counted_sum c.args.problem.now.segs c.args.prefix.now.placed c.args.terms.now + least c ≤ 1024000 * length c.args.terms.now
small c = share_small c.args.problem.now.segs c.args.prefix.now.placed c.args.part.now c.args.pair c.args.terms.now c.requires.apart c.requires.known c.requires.inside

pub overflow_cast-result : goal.overflow_cast-result
overflow_cast-result c =
    subst (λ z. T (non_neg z) × Fits w64 (nat_abs z)) (sym (least_is c)) (fits_both (least c) (let most = small c in omega (arith, most, c.requires.few)))

pub returns-clause-bound : goal.returns-clause-bound
returns-clause-bound c = ap (λ z. c.price_pair-decided.result + nat_abs z) (least_is c) ∙ ap (λ d. d + least c) c.price_pair-decided.ensures.decided

pub overflow_add-result : goal.overflow_add-result
overflow_add-result c =
    subst (Fits w64) (sym (returns-clause-bound c)) (fits_one (counted_sum c.args.problem.now.segs c.args.prefix.now.placed c.args.terms.now + least c) (let most = small c in omega (arith, most, c.requires.few)))

pub returns-clause-small : goal.returns-clause-small
returns-clause-small c = subst (λ n. n ≤ 1024000 * length c.args.terms.now) (sym (returns-clause-bound c)) (small c)
