use Rattle.std.proofs.Common.{length, nat_eq, ap, ◌∙◌, List, ℕ}
use Rattle.std.specs.Str.{chars}
use Rattle.strsim.specs.Edits.{levenshtein_row}
use Rattle.message_texts.specs.Meant.{distance}
use Rattle.message_texts.proofs.meant_word.distance.Goals as goal

pub returns : goal.returns
unfolding distance
returns c =
    c.in_ok-levenshtein.ensures.value
    ∙ ap (λ (known : List ℕ). levenshtein_row nat_eq (chars c.args.word.now) (chars known) (length (chars known))) c.as_str.ensures
