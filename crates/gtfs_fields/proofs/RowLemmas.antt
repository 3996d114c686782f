-- The fields of a record, by their places and by their bytes.
use Rattle.std.proofs.Common.{◌≡◌, ℕ, zero, suc, ◌-◌, ◌<◌, Bool, true, ◌&&◌, List, [], ◌∷◌, length, get_or, take, drop, Some, None, refl, arith}
use Rattle.std.proofs.lemmas.Str.{is_utf8-from_IsUtf8, IsUtf8-from_ascii, IsAscii-drop, IsAscii-take}
use Rattle.std.specs.Str.{is_utf8, IsAscii}
use Rattle.csv.specs.Records.{cut_from, field_at}
use Rattle.gtfs_fields.specs.Records.{is_text}

some_is : (x y : List ℕ) → Some x ≡ Some y → x ≡ y
some_is x y e = cc

pub field_there : (fields : List (List ℕ)) (i : ℕ) (x : List ℕ) → Some x ≡ field_at fields i → x ≡ get_or fields i []
unfolding field_at
field_there [] i x e = absurd cc
field_there (f ∷ fields) zero x e = some_is x f e
field_there (f ∷ fields) (suc i) x e = field_there fields i x e

pub no_field : (fields : List (List ℕ)) (i : ℕ) → i < length fields → None ≡ field_at fields i → ⊥
unfolding field_at
no_field [] i low e = absurd (omega (arith, low))
no_field (f ∷ fields) zero low e = absurd cc
no_field (f ∷ fields) (suc i) low e = no_field fields i (omega (arith, low)) e

-- fields of a text that is ASCII are text
ascii_part : (start end : ℕ) (bytes : List ℕ) → IsAscii bytes → is_utf8 (take (end - start) (drop start bytes)) ≡ true
ascii_part start end bytes ascii = is_utf8-from_IsUtf8 (take (end - start) (drop start bytes)) (IsUtf8-from_ascii (take (end - start) (drop start bytes)) (IsAscii-take (drop start bytes) (end - start) (IsAscii-drop bytes start ascii)))

pub ascii_fields : (start : ℕ) (ends bytes : List ℕ) → IsAscii bytes → is_text (cut_from start ends bytes) ≡ true
unfolding cut_from
ascii_fields start [] bytes ascii = refl
ascii_fields start (end ∷ ends) bytes ascii = rw (ascii_part start end bytes ascii, ascii_fields end ends bytes ascii) refl
