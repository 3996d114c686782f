use Rattle.std.proofs.Common.{◌≡◌, ℕ, ◌+◌, List, get_or, sum_by, refl, ap, ◌∙◌, arith}
use Rattle.std.proofs.lemmas.List.{take_all}
use Rattle.map_base.specs.declared.ids.LineId.{LineId}
use Rattle.svg_writer.specs.Picture.{name_of}
use Rattle.name_widths.specs.Widths.{text_width}
use Rattle.poster_graph.proofs.Steps.{sum_more}
use Rattle.poster_graph.proofs.texts.width_with.Goals as goal

abbrev none : LineId
none = record { 0 = 0 }

pub loop-line-preserved : goal.loop-line-preserved
loop-line-preserved c =
    let lines = c.args.lines.now in
    let i = c.loop-line.line-index in
    let width : LineId → ℕ = λ l. 4 + text_width (name_of c.args.names.now l) in
    let more : 4 + c.in_ok-more.more ≡ width (get_or lines i none) = ap (λ (w : ℕ). 4 + w) (c.in_ok-more.ensures.value ∙ ap text_width c.name_of.ensures) in
    record {
      value = sum_more width lines i none (text_width c.args.text.now) c.loop-line.width (4 + c.in_ok-more.more) (c.loop-line.width + (4 + c.in_ok-more.more)) c.loop-line-test.true more c.loop-line.invariant.value refl;
      small = omega (arith, c.in_ok-more.ensures.small);
    }

pub returns : goal.returns
returns c =
    let width : LineId → ℕ = λ l. 4 + text_width (name_of c.args.names.now l) in
    c.in_ok-whole.ensures.value ∙ c.loop-line.invariant.value ∙ ap (λ (ls : List LineId). text_width c.args.text.now + sum_by width ls) (take_all c.loop-line.line-index c.args.lines.now (omega arith))
