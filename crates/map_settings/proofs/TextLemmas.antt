-- Bytes that are no text.
use Rattle.std.proofs.Common.{◌≡◌, ℕ, List, false, inl, inr}
use Rattle.std.proofs.lemmas.Bool.{cases_Bool}
use Rattle.std.proofs.lemmas.Str.{IsUtf8-from_is_utf8}
use Rattle.std.specs.Str.{IsUtf8, is_utf8}

pub is_utf8-refuses : (bytes : List ℕ) → ¬ (IsUtf8 bytes) → is_utf8 bytes ≡ false
is_utf8-refuses bytes other =
    elim (cases_Bool (is_utf8 bytes)) [ inl held ↦ absurd (other (IsUtf8-from_is_utf8 bytes held)) | inr failed ↦ failed ]
