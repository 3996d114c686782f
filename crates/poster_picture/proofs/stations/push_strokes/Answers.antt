use Rattle.std.proofs.Common.{◌≢◌, List, ◌++◌, length, string_bytes, ap, sym, ◌∙◌, arith}
use Rattle.std.proofs.lemmas.Bool.{eqb-false, eqb-true}
use Rattle.poster_rules.specs.Elements.{Element, texts}
use Rattle.poster_rules.specs.Posters.{stroke_through}
use Rattle.poster_picture.specs.Sheets.{plain}
use Rattle.poster_picture.proofs.Wholes.{no_strokes, strokes_are}
use Rattle.poster_picture.proofs.stations.push_strokes.Goals as goal

pub returns-then-is_empty : goal.returns-then-is_empty
returns-then-is_empty c = λ e. no_strokes (plain c.args.sheet) c.args.n.0 c.args.callers.now (string_bytes c.args.text.now) (eqb-true (length c.args.callers.now) 0 (sym c.is_empty.ensures ∙ c.if-is_empty.true))

pub returns : goal.returns
returns c = λ e.
    let some : length c.args.callers.now ≢ 0 = eqb-false (length c.args.callers.now) 0 (sym c.is_empty.ensures ∙ c.if-is_empty.false) in
    c.in_ok-push_strokes_over.ensures
    ∙ ap (λ (es : List Element). string_bytes c.args.text.now ++ texts es)
    (strokes_are (plain c.args.sheet) c.args.n.0 c.args.callers.now c.is_interchange-change.result c.as_slice.result.now (omega arith) c.is_interchange-change.ensures
    (c.as_slice.ensures.value ∙ c.in_ok-close_path.ensures ∙ ap stroke_through (c.in_ok-path.ensures e)))
