use Rattle.std.proofs.Common.{List, ℕ, ◌++◌, string_bytes, ap, ◌∙◌}
use Rattle.svg_writer.proofs.Appends.{grew3}
use Rattle.poster_rules.specs.Elements.{anchor_text, turn_text}
use Rattle.poster_picture.proofs.pieces.push_spot.Goals as goal

pub returns : goal.returns
returns c =
    let old = string_bytes c.args.text.now in
    let turn = turn_text c.args.spot.turn c.args.spot.at c.args.step in
    grew3 _ _ _ _ _ _ _ c.in_ok-push_turn.ensures c.in_ok-push_str.ensures.bytes c.in_ok-push_str-2.ensures.bytes
    ∙ ap (λ (bytes : List ℕ). old ++ (turn ++ (bytes ++ c.size_text.result.now))) c.anchor_text.ensures
    ∙ ap (λ (bytes : List ℕ). old ++ (turn ++ (anchor_text c.args.spot.anchor ++ bytes))) c.size_text.ensures
