use Rattle.std.proofs.Common.{◌≡◌, ℕ, ◌*◌, ◌<◌, true≢false, max, List, get_or, ap, subst, sym, ◌∙◌, arith}
use Rattle.std.proofs.lemmas.List.{take_all}
use Rattle.std.proofs.lemmas.List.Sums.{fold_more}
use Rattle.map_base.specs.declared.ids.LineId.{LineId}
use Rattle.svg_writer.specs.Picture.{name_of}
use Rattle.name_widths.specs.Widths.{text_width}
use Rattle.poster_rules.specs.Plans.{widest}
use Rattle.poster_graph.proofs.Steps.{max_at, no_more_below, of_fault}
use Rattle.poster_graph.proofs.shown.widest.Goals as goal

abbrev none : LineId
none = record { 0 = 0 }

pub loop-line-preserved : goal.loop-line-preserved
loop-line-preserved c =
    let lines = c.args.lines.now in
    let i = c.loop-line.line-index in
    let wider : ℕ → LineId → ℕ = λ most l. max most (3 * text_width (name_of c.args.names.now l)) in
    let width : c.in_ok-width.width ≡ text_width (name_of c.args.names.now (get_or lines i none)) = c.in_ok-width.ensures.value ∙ ap text_width c.name_of.ensures in
    let most : c.max-most.result ≡ max c.loop-line.most (3 * c.in_ok-width.width) = omega (arith, c.max-most.ensures) in
    most ∙ ap (λ (w : ℕ). max c.loop-line.most (3 * w)) width
    ∙ ap (λ (most : ℕ). wider most (get_or lines i none)) c.loop-line.invariant
    ∙ sym (fold_more wider 0 lines i none c.loop-line-test.true)

pub returns-in_err-width-clause-room : goal.returns-in_err-width-clause-room
returns-in_err-width-clause-room c =
    let lines = c.args.lines.now in
    let i = c.loop-line.line-index in
    let name : LineId → List ℕ = λ l. name_of c.args.names.now l in
    let wide : 1152921504606846976 < text_width (name (get_or lines i none)) =
    subst (λ (n : List ℕ). 1152921504606846976 < text_width n) c.name_of.ensures c.in_err-width.ensures.room in
    let all : 17179869184 < widest c.args.names.now lines =
    omega (arith, wide, max_at (λ (l : LineId). 3 * text_width (name l)) 0 lines i none c.loop-line-test.true) in
    of_fault c.from_residual.result (17179869184 < widest c.args.names.now lines) all

pub returns-in_err-whole-clause-room : goal.returns-in_err-whole-clause-room
returns-in_err-whole-clause-room c =
    let most = c.loop-line.invariant ∙ ap (widest c.args.names.now) (take_all c.loop-line.line-index c.args.lines.now (omega arith)) in
    of_fault c.from_residual-in_err-whole.result (17179869184 < widest c.args.names.now c.args.lines.now)
    (subst (λ (n : ℕ). 17179869184 < n) most (no_more_below c.loop-line.most 17179869184 (λ low. true≢false (sym (c.in_err-whole.ensures.room.1 low)))))

pub returns-clause-value : goal.returns-clause-value
returns-clause-value c = c.in_ok-whole.ensures.value ∙ c.loop-line.invariant ∙ ap (widest c.args.names.now) (take_all c.loop-line.line-index c.args.lines.now (omega arith))
