-- One space more at an end of a text, and none.
use Rattle.std.proofs.Common.{◌≡◌, ◌≢◌, ℕ, ◌+◌, ◌-◌, ◌<◌, ◌≤◌, List, [], ◌∷◌, length, get_or, take, drop, reverse, refl, sym, ap, ◌∙◌, arith}
use Rattle.std.proofs.lemmas.Bool.{ne_eqb}
use Rattle.std.proofs.lemmas.List.{take_all, take_more, reverse-append, reverse-reverse}
use Rattle.gtfs_fields.specs.Spaces.{without_leading_spaces}

pub leading_space : (text : List ℕ) → 1 ≤ length text → get_or text 0 0 ≡ 32 → without_leading_spaces (take (length text - 1) (drop 1 text)) ≡ without_leading_spaces text
leading_space [] long space = absurd (omega arith)
leading_space (byte ∷ rest) long space = rw (space, take_all (length (byte ∷ rest) - 1) rest (omega arith)) refl

pub no_leading_space : (text : List ℕ) → get_or text 0 0 ≢ 32 → without_leading_spaces text ≡ text
no_leading_space [] other = refl
no_leading_space (byte ∷ rest) other = rw (ne_eqb byte 32 other) refl

pub nothing_leading : (text : List ℕ) → length text < 1 → without_leading_spaces text ≡ text
nothing_leading [] short = refl
nothing_leading (byte ∷ rest) short = absurd (omega arith)

reverse_last : (text : List ℕ) → 1 ≤ length text → reverse text ≡ get_or text (length text - 1) 0 ∷ reverse (take (length text - 1) text)
reverse_last text long =
    let all : take (length text - 1 + 1) text ≡ text = take_all _ text (omega arith) in
    let parts = take_more text (length text - 1) 0 (omega arith) in
    ap reverse (sym all ∙ parts) ∙ reverse-append (take (length text - 1) text) (get_or text (length text - 1) 0 ∷ [])

pub trailing_space : (text : List ℕ) → 1 ≤ length text → get_or text (length text - 1) 0 ≡ 32 → without_leading_spaces (reverse (take (length text - 1) text)) ≡ without_leading_spaces (reverse text)
trailing_space text long space = rw (reverse_last text long, space) refl

pub no_trailing_space : (text : List ℕ) → 1 ≤ length text → get_or text (length text - 1) 0 ≢ 32 → reverse (without_leading_spaces (reverse text)) ≡ text
no_trailing_space text long other =
    let last : without_leading_spaces (reverse text) ≡ reverse text = rw (reverse_last text long, ne_eqb (get_or text (length text - 1) 0) 32 other) refl in
    ap reverse last ∙ reverse-reverse text

pub nothing_trailing : (text : List ℕ) → length text < 1 → reverse (without_leading_spaces (reverse text)) ≡ text
nothing_trailing [] short = refl
nothing_trailing (byte ∷ rest) short = absurd (omega arith)
