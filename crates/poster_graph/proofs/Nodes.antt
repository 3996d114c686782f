-- Nodes and segments, one after another.
use Rattle.std.proofs.Common.{◌≡◌, ℕ, ◌+◌, List, [], ◌∷◌, ◌++◌, ap, ◌∙◌, append-nil, sym, arith}
use Rattle.std.specs.List.{flat_map, range_with_len}
use Rattle.std.proofs.lemmas.Grind.{flat_map-append}
use Rattle.svg_writer.proofs.Ranges.{range_more}

-- what one number more gives
pub flat_more : {A : Type 0} (f : ℕ → List A) (n : ℕ) (before after : List A) → before ≡ flat_map f (range_with_len 0 n) → after ≡ before ++ f n → after ≡ flat_map f (range_with_len 0 (n + 1))
flat_more f n before after was now =
    now ∙ ap (λ xs. xs ++ f n) was
    ∙ ap (λ xs. flat_map f (range_with_len 0 n) ++ xs) (sym (append-nil (f n)))
    ∙ sym (flat_map-append f (range_with_len 0 n) (n ∷ []))
    ∙ sym (ap (flat_map f) (range_more 0 n n (omega arith)))
