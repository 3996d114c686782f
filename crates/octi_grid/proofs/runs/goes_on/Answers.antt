use Rattle.std.proofs.Common.{◌≡◌, ◌-◌, eqb, get_or, length, arith, sym, ◌∙◌}
use Rattle.std.proofs.lemmas.Bool.{eqb-false}
use Rattle.std.proofs.lemmas.List.{get_or_default}
use Rattle.octi_grid.specs.declared.walk.Run.{Run}
use Rattle.octi_grid.specs.declared.dir.Dir.TheVariants as dir
use Rattle.octi_grid.specs.Ways.{number_of}
use Rattle.octi_grid.proofs.RunLemmas.{goes_on_at}
use Rattle.octi_grid.proofs.runs.goes_on.Goals as goal

pub returns : goal.returns
returns c =
    let some : length c.args.runs.now ≡ 0 → ⊥ = eqb-false _ _ (sym c.is_empty.ensures ∙ c.if-is_empty.false) in
    let last : Run = get_or c.args.runs.now (length c.args.runs.now - 1) (record { dir = dir.N; count = 0 }) in
    let same : c.eq.result ≡ eqb (number_of last.dir) (number_of c.args.dir) = grind arith in
    same ∙ sym (goes_on_at c.args.runs.now c.args.dir (length c.args.runs.now - 1) last (omega arith) (get_or_default c.args.runs.now (length c.args.runs.now - 1) _ last (omega arith)))
