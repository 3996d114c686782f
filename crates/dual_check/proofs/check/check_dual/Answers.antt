use Rattle.std.proofs.Common.{◌<◌, length, sym, subst}
use Rattle.std.specs.List.{All}
use Rattle.order_model.proofs.KeptTerms.{part_numbers_known}
use Rattle.dual_check.proofs.check.check_dual.Goals as goal

pub terms_by_segment-requires-clause-known : goal.terms_by_segment-requires-clause-known
terms_by_segment-requires-clause-known c =
    subst (All (λ m. m < length c.args.problem.now.terms)) (sym c.requires.numbers) (part_numbers_known c.args.part.now c.args.problem.now.terms)
