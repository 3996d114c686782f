use Rattle.std.proofs.Common.{Bool, cond, ◌++◌, string_bytes, ap, sym, ◌∙◌}
use Rattle.svg_writer.specs.Elements.{colour_text}
use Rattle.poster_rules.specs.Elements.{dark}
use Rattle.poster_picture.proofs.pieces.push_shade.Goals as goal

pub returns-then-is_faint : goal.returns-then-is_faint
returns-then-is_faint c =
    c.in_ok-push_str.ensures.bytes
    ∙ sym (ap (λ (b : Bool). string_bytes c.args.text.now ++ colour_text (cond b dark c.args.colour.now)) (sym c.is_faint.ensures ∙ c.if-is_faint.true))

pub returns : goal.returns
returns c =
    c.in_ok-push_colour.ensures
    ∙ sym (ap (λ (b : Bool). string_bytes c.args.text.now ++ colour_text (cond b dark c.args.colour.now)) (sym c.is_faint.ensures ∙ c.if-is_faint.false))
