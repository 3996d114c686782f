use Rattle.std.proofs.Common.{List, ℕ, ◌++◌, string_bytes, ap, ◌∙◌}
use Rattle.poster_picture.proofs.pieces.push_ink.Goals as goal

pub returns : goal.returns
returns c = c.in_ok-push_str.ensures.bytes ∙ ap (λ (bytes : List ℕ). string_bytes c.args.text.now ++ bytes) c.ink_text.ensures
