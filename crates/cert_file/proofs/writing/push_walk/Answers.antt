use Rattle.std.proofs.Common.{◌≡◌, ℕ, List, ◌∷◌, ◌++◌, codes, ap, sym, ◌∙◌, append_assoc}
use Rattle.std.specs.Fmt.{decimal, signed_decimal}
use Rattle.octi_grid.specs.declared.point.GridPoint.{GridPoint}
use Rattle.octi_grid.specs.declared.walk.Run.{Run}
use Rattle.decimal_text.specs.Lines.{words_text}
use Rattle.cert_file.specs.RunWords.{runs_of, run_words}
use Rattle.cert_file.specs.Text.{start_text}
use Rattle.cert_file.proofs.Appends.{grew4}
use Rattle.cert_file.proofs.Runs.{runs_again}
use Rattle.cert_file.proofs.writing.push_walk.Goals as goal

pub returns : goal.returns
returns c =
    let w = c.args.walk.now in
    let old = c.args.text.now.items in
    let rs = c.runs.result.now in
    let runs : rs ≡ runs_of w.steps = sym (runs_again rs c.runs.ensures.runs) ∙ ap runs_of c.runs.ensures.steps in
    grew4 _ _ _ _ _ _ _ _ _ c.in_ok-extend_from_slice.ensures.items c.in_ok-push_next_natural.ensures c.in_ok-push_start.ensures c.in_ok-push_runs.ensures
    ∙ ap (λ (p : GridPoint). old ++ (codes "walk" ++ ((32 ∷ decimal c.args.s) ++ (start_text p ++ words_text (run_words rs))))) c.start.ensures
    ∙ ap (λ (xs : List Run). old ++ (codes "walk" ++ ((32 ∷ decimal c.args.s) ++ (start_text w.start ++ words_text (run_words xs))))) runs
    ∙ ap (λ (bytes : List ℕ). old ++ (codes "walk" ++ ((32 ∷ decimal c.args.s) ++ (32 ∷ bytes)))) (append_assoc (signed_decimal w.start.x) (32 ∷ signed_decimal w.start.y) (words_text (run_words (runs_of w.steps))))
