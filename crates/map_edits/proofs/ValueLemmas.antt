-- Texts, where bytes are UTF-8.
use Rattle.std.proofs.Common.{◌≡◌, ℕ, Bool, true, false, List, Option, Some, None, refl, sym, ap, ◌∙◌, if◌then◌else◌}
use Rattle.std.specs.Str.{IsUtf8, is_utf8}
use Rattle.std.proofs.lemmas.Str.{IsUtf8-from_is_utf8, is_utf8-from_IsUtf8}
use Rattle.map_edits.specs.Values.{name_in}

abbrev some : List ℕ → Option (List ℕ)
some word = Some word

-- bytes that are UTF-8
pub name_of : (word text : List ℕ) → text ≡ word → IsUtf8 word → name_in word ≡ Some text
name_of word text same is = ap (λ (b : Bool). if b then some word else None) (is_utf8-from_IsUtf8 word is) ∙ ap some (sym same)

-- bytes that are not
pub no_name : (word : List ℕ) → ¬ IsUtf8 word → name_in word ≡ None
no_name word other = by (is_utf8 word) refl
  where
    by : (b : Bool) → is_utf8 word ≡ b → (if b then some word else None) ≡ None
    by true e = absurd (other (IsUtf8-from_is_utf8 word e))
    by false e = refl
