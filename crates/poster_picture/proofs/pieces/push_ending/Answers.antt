use Rattle.std.proofs.Common.{List, ℕ, ◌*◌, ◌++◌, codes, string_bytes, if◌then◌else◌, ap, ◌∙◌}
use Rattle.std.specs.Fmt.{decimal}
use Rattle.name_widths.specs.Colours.{is_faint}
use Rattle.svg_writer.specs.Elements.{colour_text}
use Rattle.svg_writer.specs.Escaping.{escaped}
use Rattle.svg_writer.specs.Picture.{colour_of}
use Rattle.poster_plan.specs.Places.{tenth}
use Rattle.poster_rules.specs.Elements.{dark}
use Rattle.poster_picture.proofs.Writing.{grew7}
use Rattle.poster_picture.proofs.pieces.push_ending.Goals as goal

abbrev ending : ℕ → List ℕ → List ℕ → List ℕ
ending n colour name =
    codes "<tspan dx=\"" ++ (decimal n ++ (codes "\" fill=\"" ++ (colour_text (if is_faint colour then dark else colour) ++ (codes "\" font-weight=\"bold\">" ++ (escaped name ++ codes "</tspan>")))))

pub returns : goal.returns
returns c =
    let old = string_bytes c.args.text.now in
    let names = c.args.names.now in
    let line = c.args.line in
    grew7 _ _ _ _ _ _ _ _ _ _ _ _ _ _ _ c.in_ok-push_str.ensures.bytes c.in_ok-push_natural.ensures c.in_ok-push_str-2.ensures.bytes c.in_ok-push_shade.ensures c.in_ok-push_str-3.ensures.bytes c.in_ok-push_escaped.ensures c.in_ok-push_str-4.ensures.bytes
    ∙ ap (λ n. old ++ ending n c.colour_of.result.now c.name_of.result.now) c.three_tenths.ensures
    ∙ ap (λ (colour : List ℕ). old ++ ending (3 * tenth c.args.step) colour c.name_of.result.now) c.colour_of.ensures
    ∙ ap (λ (name : List ℕ). old ++ ending (3 * tenth c.args.step) (colour_of names line) name) c.name_of.ensures
