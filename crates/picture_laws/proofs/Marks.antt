-- What is written of a name has no markup.
use Rattle.std.proofs.Common.{◌≡◌, refl, ap₂, ℕ, ◌+◌, ◌/◌, ◌%◌, ◌<◌, ◌≤◌, Bool, true, false, cond, not, ltb, ◌==◌, ◌||◌, List, [], ◌∷◌, ◌++◌, codes, chars, flat_map, arith}
use Rattle.std.proofs.lemmas.Bool.{and_from, and_parts, eqb-true, false_from_ne_true}
use lib.Utf8.{encode}
use Rattle.std.specs.List.{list_all}
use Rattle.svg_writer.specs.Escaping.{escaped, escaped_char, is_allowed}
use Rattle.picture_laws.specs.Written.{is_markup}

abbrev pub is_text : ℕ → Bool
is_text b = not (is_markup b)

-- a byte of a character beyond ASCII is none of the marks
high_byte : (b : ℕ) → 128 ≤ b → is_text b ≡ true
high_byte b high = ap₂ (λ (t u : Bool). not (t || u)) (ap₂ (λ (t u : Bool). t || u) (off 34 (omega arith)) (off 60 (omega arith))) (off 62 (omega arith))
  where
    off : (m : ℕ) → m < 128 → (b == m) ≡ false
    off m low = false_from_ne_true (b == m) (λ h. omega (arith, eqb-true b m h, high, low))

-- the bytes of a character that is none of the marks
text_encoded : (c : ℕ) → is_text c ≡ true → list_all is_text (encode c) ≡ true
unfolding encode
text_encoded c h = by (ltb c 128) (ltb c 2048) (ltb c 65536)
  where
    by : (x y z : Bool)
        → list_all is_text (cond x (c ∷ []) (cond y ((192 + c / 64) ∷ (128 + c % 64) ∷ []) (cond z ((224 + c / 4096) ∷ (128 + c / 64 % 64) ∷ (128 + c % 64) ∷ [])
        ((240 + c / 262144) ∷ (128 + c / 4096 % 64) ∷ (128 + c / 64 % 64) ∷ (128 + c % 64) ∷ [])))) ≡ true
    by true y z = and_from _ _ h refl
    by false true z = and_from _ _ (high_byte (192 + c / 64) (omega arith)) (and_from _ _ (high_byte (128 + c % 64) (omega arith)) refl)
    by false false true =
        and_from _ _ (high_byte (224 + c / 4096) (omega arith)) (and_from _ _ (high_byte (128 + c / 64 % 64) (omega arith)) (and_from _ _ (high_byte (128 + c % 64) (omega arith)) refl))
    by false false false =
        and_from _ _ (high_byte (240 + c / 262144) (omega arith))
        (and_from _ _ (high_byte (128 + c / 4096 % 64) (omega arith)) (and_from _ _ (high_byte (128 + c / 64 % 64) (omega arith)) (and_from _ _ (high_byte (128 + c % 64) (omega arith)) refl)))

replaced : list_all is_text (encode 0xfffd) ≡ true
unfolding encode
replaced = refl

char_text : (c : ℕ) → list_all is_text (escaped_char c) ≡ true
char_text c = by (c == 38) (c == 60) refl (c == 62) refl (c == 34) refl (is_allowed c)
  where
    by : (amp lt : Bool) → (c == 60) ≡ lt → (gt : Bool) → (c == 62) ≡ gt → (quote : Bool) → (c == 34) ≡ quote → (allowed : Bool)
        → list_all is_text (cond amp (codes "&amp;") (cond lt (codes "&lt;") (cond gt (codes "&gt;") (cond quote (codes "&quot;") (cond allowed (encode c) (encode 0xfffd)))))) ≡ true
    by true lt e gt f quote g allowed = refl
    by false true e gt f quote g allowed = refl
    by false false e true f quote g allowed = refl
    by false false e false f true g allowed = refl
    by false false e false f false g true =
        text_encoded c
        (ap₂ (λ (t u : Bool). not (t || u)) (ap₂ (λ (t u : Bool). t || u) g e) f)
    by false false e false f false g false = replaced

all_append : (xs ys : List ℕ) → list_all is_text xs ≡ true → list_all is_text ys ≡ true → list_all is_text (xs ++ ys) ≡ true
all_append [] ys a b = b
all_append (x ∷ xs) ys a b = let parts = and_parts (is_text x) (list_all is_text xs) a in and_from _ _ parts.0 (all_append xs ys parts.1 b)

pub escaped_text : (name : List ℕ) → list_all is_text (escaped name) ≡ true
escaped_text name = each (chars name)
  where
    each : (cs : List ℕ) → list_all is_text (flat_map escaped_char cs) ≡ true
    each [] = refl
    each (c ∷ cs) = all_append (escaped_char c) (flat_map escaped_char cs) (char_text c) (each cs)
