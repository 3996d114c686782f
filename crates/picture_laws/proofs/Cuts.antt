-- Texts that tell what they write, by a mark behind them.
use Rattle.std.proofs.Common.{◌≡◌, refl, sym, ◌∙◌, ap, ap₂, ℕ, ◌+◌, ◌/◌, ◌%◌, ◌<◌, ◌≤◌, ◌^◌, Bool, true, false, cond, not, ltb, ◌==◌, ◌||◌, ℤ, pos, negsuc, unsigned_abs, List, [], ◌∷◌, ◌++◌, append_assoc, suc, Some, decimal, flat_map, arith}
use Rattle.std.proofs.lemmas.Bool.{and_from, and_parts, eqb-true, false_from_ne_true, leb-true, not-true, true≢false}
use Rattle.std.proofs.lemmas.List.{append_cancel_left}
use Rattle.std.proofs.lemmas.Str.{digit_value-digit_char}
use Rattle.std.specs.Char.{digit_char, digit_value, is_ascii_digit}
use Rattle.std.specs.Fmt.{signed_decimal}
use Rattle.std.specs.List.{list_all}
use Rattle.std.specs.Str.{all_ascii_digits}
use Rattle.line_offsets.specs.declared.corner.Corner.{Corner}
use Rattle.decimal_text.specs.Numbers.{number_of}
use Rattle.decimal_text.proofs.NumberLemmas.{digits_written, number_again, IsNumber}
use Rattle.svg_writer.specs.Elements.{colour_text, hex_byte}
use Rattle.svg_writer.specs.Escaping.{escaped}
use Rattle.picture_laws.specs.Written.{is_markup, IsColour, IsNearCorner}
use Rattle.picture_laws.proofs.Marks.{escaped_text}

-- a byte that ends a number: a space or `"`
abbrev pub ends_number : ℕ → Bool
ends_number b = b == 32 || b == 34

-- a text begins with a byte that passes
abbrev pub Begins : (ℕ → Bool) → List ℕ → Type 0
Begins p [] = ⊥
Begins p (c ∷ r) = p c ≡ true

-- up to the first byte that passes two texts are the same
cut : (p : ℕ → Bool) (a b r s : List ℕ) → list_all (λ c. not (p c)) a ≡ true → list_all (λ c. not (p c)) b ≡ true → Begins p r → Begins p s → a ++ r ≡ b ++ s
    → (a ≡ b) × (r ≡ s)
cut p [] [] r s la lb br bs e = (refl, e)
cut p [] (y ∷ b) [] s la lb br bs e = absurd br
cut p [] (y ∷ b) (c ∷ r) s la lb br bs e =
    let same : c ≡ y = cc in
    absurd (true≢false (sym br ∙ ap p same ∙ not-true (p y) (and_parts (not (p y)) (list_all (λ c. not (p c)) b) lb).0))
cut p (x ∷ a) [] r [] la lb br bs e = absurd bs
cut p (x ∷ a) [] r (d ∷ s) la lb br bs e =
    let same : x ≡ d = cc in
    absurd (true≢false (sym bs ∙ ap p (sym same) ∙ not-true (p x) (and_parts (not (p x)) (list_all (λ c. not (p c)) a) la).0))
cut p (x ∷ a) (y ∷ b) r s la lb br bs e =
    let first : x ≡ y = cc in
    let rest : a ++ r ≡ b ++ s = cc in
    let behind = cut p a b r s (and_parts (not (p x)) (list_all (λ c. not (p c)) a) la).1 (and_parts (not (p y)) (list_all (λ c. not (p c)) b) lb).1 br bs rest in
    (ap₂ (λ (z : ℕ) (zs : List ℕ). z ∷ zs) first behind.0, behind.1)

-- ---- numbers

-- no digit ends a number
digit_stays : (b : ℕ) → is_ascii_digit b ≡ true → not (ends_number b) ≡ true
digit_stays b h =
    let low = leb-true 48 b (and_parts _ _ h).0 in
    ap (λ (t : Bool). not (t || b == 34)) (false_from_ne_true (b == 32) (λ e. omega (arith, eqb-true b 32 e, low)))
    ∙ ap not (false_from_ne_true (b == 34) (λ e. omega (arith, eqb-true b 34 e, low)))

digits_stay : (ds : List ℕ) → all_ascii_digits ds ≡ true → list_all (λ b. not (ends_number b)) ds ≡ true
digits_stay [] h = refl
digits_stay (d ∷ ds) h = let parts = and_parts (is_ascii_digit d) (all_ascii_digits ds) h in and_from _ _ (digit_stays d parts.0) (digits_stay ds parts.1)

number_stays : (z : ℤ) → IsNumber z → list_all (λ b. not (ends_number b)) (signed_decimal z) ≡ true
number_stays (pos n) few = digits_stay (decimal n) (digits_written n few)
number_stays (negsuc n) few = digits_stay (decimal (suc n)) (digits_written (suc n) few)

in_range : (z : ℤ) → unsigned_abs z ≤ 10 ^ 15 → IsNumber z
in_range (pos n) few = few
in_range (negsuc n) few = few

pub number_cut : (z w : ℤ) (r s : List ℕ) → unsigned_abs z ≤ 10 ^ 15 → unsigned_abs w ≤ 10 ^ 15 → Begins ends_number r → Begins ends_number s
    → signed_decimal z ++ r ≡ signed_decimal w ++ s → (z ≡ w) × (r ≡ s)
number_cut z w r s fz fw br bs e =
    let both = cut ends_number (signed_decimal z) (signed_decimal w) r s (number_stays z (in_range z fz)) (number_stays w (in_range w fw)) br bs e in
    (some_same (sym (number_again z (in_range z fz)) ∙ ap number_of both.0 ∙ number_again w (in_range w fw)), both.1)
  where
    some_same : {a b : ℤ} → Some a ≡ Some b → a ≡ b
    some_same h = cc

pub natural_cut : (n m : ℕ) (r s : List ℕ) → n ≤ 10 ^ 15 → m ≤ 10 ^ 15 → Begins ends_number r → Begins ends_number s → decimal n ++ r ≡ decimal m ++ s → (n ≡ m) × (r ≡ s)
natural_cut n m r s fn fm br bs e =
    let both = number_cut (pos n) (pos m) r s fn fm br bs e in
    (pos_same both.0, both.1)
  where
    pos_same : {a b : ℕ} → pos a ≡ pos b → a ≡ b
    pos_same h = cc

-- ---- two texts in a row

pub shift : (a b r c d s : List ℕ) → (a ++ b) ++ r ≡ (c ++ d) ++ s → a ++ (b ++ r) ≡ c ++ (d ++ s)
shift a b r c d s e = sym (append_assoc a b r) ∙ e ∙ append_assoc c d s

-- two numbers with a text between them
pub corner_cut : (mark : ℕ) (between : List ℕ) → ends_number mark ≡ true → (c d : Corner) (r s : List ℕ) → IsNearCorner c → IsNearCorner d
    → Begins ends_number r → Begins ends_number s
    → (signed_decimal c.x ++ ((mark ∷ between) ++ signed_decimal c.y)) ++ r ≡ (signed_decimal d.x ++ ((mark ∷ between) ++ signed_decimal d.y)) ++ s → (c ≡ d) × (r ≡ s)
corner_cut mark between ends c d r s fc fd br bs e =
    let across =
    number_cut c.x d.x (((mark ∷ between) ++ signed_decimal c.y) ++ r) (((mark ∷ between) ++ signed_decimal d.y) ++ s) fc.0 fd.0 ends ends
    (shift (signed_decimal c.x) ((mark ∷ between) ++ signed_decimal c.y) r (signed_decimal d.x) ((mark ∷ between) ++ signed_decimal d.y) s e) in
    let second = shift (mark ∷ between) (signed_decimal c.y) r (mark ∷ between) (signed_decimal d.y) s across.1 in
    let along = number_cut c.y d.y r s fc.1 fd.1 br bs (append_cancel_left (mark ∷ between) (signed_decimal c.y ++ r) (signed_decimal d.y ++ s) second) in
    (ap₂ (λ (x y : ℤ). let p : Corner = record { x = x; y = y } in p) across.0 along.0, along.1)

-- ---- colours

hex_digit : (d : ℕ) → d < 16 → not (digit_char d == 34) ≡ true
hex_digit d few = by (ltb d 10)
  where
    by : (b : Bool) → not (cond b (48 + d) (87 + d) == 34) ≡ true
    by true = ap not (false_from_ne_true (48 + d == 34) (λ h. omega (arith, eqb-true (48 + d) 34 h)))
    by false = ap not (false_from_ne_true (87 + d == 34) (λ h. omega (arith, eqb-true (87 + d) 34 h)))

hex_stays : (colour : List ℕ) → IsColour colour → list_all (λ b. not (b == 34)) (flat_map hex_byte colour) ≡ true
hex_stays [] all = refl
hex_stays (b ∷ rest) all =
    let small = all.0 in
    and_from _ _ (hex_digit (b / 16) (omega (arith, small))) (and_from _ _ (hex_digit (b % 16) (omega arith)) (hex_stays rest all.1))

same_digit : (d e : ℕ) → d < 16 → e < 16 → digit_char d ≡ digit_char e → d ≡ e
same_digit d e ld le h = sym (digit_value-digit_char d (omega (arith, ld))) ∙ ap digit_value h ∙ digit_value-digit_char e (omega (arith, le))

hex_tells : (a b : List ℕ) → IsColour a → IsColour b → flat_map hex_byte a ≡ flat_map hex_byte b → a ≡ b
hex_tells [] [] la lb e = refl
hex_tells [] (y ∷ b) la lb e = cc
hex_tells (x ∷ a) [] la lb e = cc
hex_tells (x ∷ a) (y ∷ b) la lb e =
    let high : digit_char (x / 16) ≡ digit_char (y / 16) = cc in
    let low : digit_char (x % 16) ≡ digit_char (y % 16) = cc in
    let rest : flat_map hex_byte a ≡ flat_map hex_byte b = cc in
    let small = la.0 in
    let small_too = lb.0 in
    let first = same_digit (x / 16) (y / 16) (omega (arith, small)) (omega (arith, small_too)) high in
    let second = same_digit (x % 16) (y % 16) (omega arith) (omega arith) low in
    ap₂ (λ (z : ℕ) (zs : List ℕ). z ∷ zs) (omega (arith, first, second)) (hex_tells a b la.1 lb.1 rest)

pub colour_cut : (a b r s : List ℕ) → IsColour a → IsColour b → Begins (λ c. c == 34) r → Begins (λ c. c == 34) s → colour_text a ++ r ≡ colour_text b ++ s → (a ≡ b) × (r ≡ s)
colour_cut a b r s la lb br bs e =
    let rest : flat_map hex_byte a ++ r ≡ flat_map hex_byte b ++ s = cc in
    let both = cut (λ c. c == 34) (flat_map hex_byte a) (flat_map hex_byte b) r s (hex_stays a la) (hex_stays b lb) br bs rest in
    (hex_tells a b la lb both.0, both.1)

-- ---- names

pub name_cut : (a b r s : List ℕ) → Begins is_markup r → Begins is_markup s → escaped a ++ r ≡ escaped b ++ s → (escaped a ≡ escaped b) × (r ≡ s)
name_cut a b r s br bs e = cut is_markup (escaped a) (escaped b) r s (escaped_text a) (escaped_text b) br bs e
