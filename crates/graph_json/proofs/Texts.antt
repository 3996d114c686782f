-- Texts in UTF-8, and others.
use Rattle.std.proofs.Common.{◌≡◌, refl, ap, ◌∙◌, ℕ, Bool, true, false, List}
use Rattle.std.specs.Prelude.{Some, None, IsUtf8, if◌then◌else◌}
use Rattle.std.specs.Str.{is_utf8}
use Rattle.std.proofs.lemmas.Str.{IsUtf8-from_is_utf8, is_utf8-from_IsUtf8}
use Rattle.serde_json.specs.Data.{Data}
use Rattle.serde_json.specs.Read.{read}
use Rattle.graph_json.specs.Outcome.{text_value}

pub of_text : (text : List ℕ) (d : Data) → IsUtf8 text → read text ≡ Some d → text_value text ≡ Some d
of_text text d utf8 is = ap (λ (b : Bool). if b then read text else None) (is_utf8-from_IsUtf8 text utf8) ∙ is

pub of_no_text : (text : List ℕ) → (IsUtf8 text → read text ≡ None) → text_value text ≡ None
of_no_text text is = by (is_utf8 text) refl
  where
    by : (b : Bool) → is_utf8 text ≡ b → (if b then read text else None) ≡ None
    by true e = is (IsUtf8-from_is_utf8 text e)
    by false e = refl
