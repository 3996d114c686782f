-- Numbers of digits, with some of the last ones cut off and with zeros added.
use Rattle.std.proofs.Common.{◌≡◌, ℕ, ◌+◌, ◌-◌, ◌*◌, ◌/◌, ◌^◌, ◌<◌, ◌≤◌, min, Bool, true, false, ◌&&◌, ◌⊎◌, eqb, List, [], ◌∷◌, ◌++◌, length, take, drop, Some, None, refl, sym, ap, ◌∙◌, arith, append_assoc, length-append, length-drop, inl, inr}
use Rattle.std.specs.Char.{is_ascii_digit, digit_value}
use Rattle.std.specs.List.{list_all}
use Rattle.std.specs.Str.{all_ascii_digits}
use Rattle.std.specs.Str.Parse.{digits_value, digits_value_after}
use Rattle.std.proofs.lemmas.Bool.{cases_lt}
use Rattle.std.proofs.lemmas.List.{take-append-drop, take_all}
use Rattle.std.proofs.lemmas.Nat.{div-mul-add, pow-add}
use Rattle.std.proofs.lemmas.Str.Parse.{IsNumeralModel, numerals_by_value, tells_all_ascii_digits, digits_value_short}
use Rattle.std.proofs.Math.Nat.{pow-succ', one-le-pow, mul-le-mul_left, mul-div_cancel, div-div-eq-div-mul}
use Rattle.gtfs_fields.specs.Digits.{are_digits, up_to, with_digits}
use Rattle.gtfs_fields.specs.DegreeText.{microdegrees_of}
use Rattle.gtfs_fields.proofs.DigitLemmas.{up_to_some, up_to_none, up_to_past, after-ge}

-- ---- digits

pub all_digits_is : (text : List ℕ) → list_all is_ascii_digit text ≡ all_ascii_digits text
all_digits_is [] = refl
all_digits_is (c ∷ cs) = ap (λ b. is_ascii_digit c && b) (all_digits_is cs)

both : (a b : Bool) → (a && b) ≡ true → (a ≡ true) × (b ≡ true)
both true b e = (refl, e)
both false b e = absurd cc

and_assoc : (a b c : Bool) → (a && (b && c)) ≡ ((a && b) && c)
and_assoc true b c = refl
and_assoc false b c = refl

pub digits-append : (xs ys : List ℕ) → all_ascii_digits (xs ++ ys) ≡ (all_ascii_digits xs && all_ascii_digits ys)
digits-append [] ys = refl
digits-append (x ∷ xs) ys = ap (λ b. is_ascii_digit x && b) (digits-append xs ys) ∙ and_assoc (is_ascii_digit x) (all_ascii_digits xs) (all_ascii_digits ys)

pub are_digits_some : (text : List ℕ) → 0 < length text → are_digits text ≡ all_ascii_digits text
are_digits_some [] some = absurd (omega arith)
are_digits_some (c ∷ cs) some = refl

pub digits_parts : (k : ℕ) (xs : List ℕ) → all_ascii_digits xs ≡ true → (all_ascii_digits (take k xs) ≡ true) × (all_ascii_digits (drop k xs) ≡ true)
digits_parts k xs e =
    let parts : (all_ascii_digits (take k xs) && all_ascii_digits (drop k xs)) ≡ true = sym (digits-append (take k xs) (drop k xs)) ∙ ap all_ascii_digits (take-append-drop k xs) ∙ e in
    both (all_ascii_digits (take k xs)) (all_ascii_digits (drop k xs)) parts

-- ---- the numbers that they write

own : IsNumeralModel (λ ds. all_ascii_digits ds ≡ true) (digits_value 10)
own = numerals_by_value (λ ds. all_ascii_digits ds ≡ true) tells_all_ascii_digits

-- digits write less than one and as many zeros
value-lt : (ds : List ℕ) (k : ℕ) → all_ascii_digits ds ≡ true → length ds ≤ k → digits_value 10 ds < 10 ^ k
value-lt ds k e short = digits_value_short own ds k e short

after_is : (n : ℕ) (ds : List ℕ) → digits_value_after 10 n ds ≡ n * 10 ^ length ds + digits_value 10 ds
after_is n [] = omega arith
after_is n (c ∷ cs) =
    let a = after_is (n * 10 + digit_value c) cs in
    let b = after_is (0 * 10 + digit_value c) cs in
    omega (arith, ap (λ (x : ℕ). n * x) (pow-succ' 10 (length cs)))

after-append : (n : ℕ) (xs ys : List ℕ) → digits_value_after 10 n (xs ++ ys) ≡ digits_value_after 10 (digits_value_after 10 n xs) ys
after-append n [] ys = refl
after-append n (x ∷ xs) ys = after-append (n * 10 + digit_value x) xs ys

value-append : (xs ys : List ℕ) → digits_value 10 (xs ++ ys) ≡ digits_value 10 xs * 10 ^ length ys + digits_value 10 ys
value-append xs ys = after-append 0 xs ys ∙ after_is (digits_value 10 xs) ys

pub with_digits_is : (most number : ℕ) (text : List ℕ) → all_ascii_digits text ≡ true → with_digits most number text ≡ up_to most (digits_value_after 10 number text)
with_digits_is most number text e = rw e refl

-- ---- powers of ten

-- the same zeros above and below
cancel : (x a b : ℕ) → x * 10 ^ a / 10 ^ (a + b) ≡ x / 10 ^ b
cancel x a b =
    let some : 0 < 10 ^ a = one-le-pow a 10 (omega arith) in
    ap (λ (y : ℕ). x * 10 ^ a / y) (pow-add 10 a b) ∙ sym (div-div-eq-div-mul (x * 10 ^ a) (10 ^ a) (10 ^ b)) ∙ ap (λ (y : ℕ). y / 10 ^ b) (mul-div_cancel x some)

-- the last digits go
value_cut : (xs ys : List ℕ) (k : ℕ) → all_ascii_digits ys ≡ true → length ys ≡ k → digits_value 10 (xs ++ ys) / 10 ^ k ≡ digits_value 10 xs
value_cut xs ys k e len =
    let small = value-lt ys k e (omega arith) in
    let parts : digits_value 10 (xs ++ ys) ≡ digits_value 10 xs * 10 ^ k + digits_value 10 ys = value-append xs ys ∙ ap (λ (j : ℕ). digits_value 10 xs * 10 ^ j + digits_value 10 ys) len in
    ap (λ (y : ℕ). y / 10 ^ k) parts ∙ div-mul-add (digits_value 10 xs) (10 ^ k) (digits_value 10 ys) small

pub value_shortened : (xs : List ℕ) (cut : ℕ) → all_ascii_digits xs ≡ true → digits_value 10 (take (length xs - cut) xs) ≡ digits_value 10 xs / 10 ^ cut
value_shortened xs cut e = elim (cases_lt (length xs) cut) [
  | inl past ↦
      let none : length xs - cut ≡ 0 = omega arith in
      let small = value-lt xs cut e (omega arith) in
      let padded : digits_value 10 xs ≡ 0 * 10 ^ cut + digits_value 10 xs = omega arith in
      rw none (sym (ap (λ (y : ℕ). y / 10 ^ cut) padded ∙ div-mul-add 0 (10 ^ cut) (digits_value 10 xs) small))
  | inr within ↦
      let kept = length xs - cut in
      let len : length (drop kept xs) ≡ cut = omega (arith, length-drop kept xs) in
      sym (ap (λ (t : List ℕ). digits_value 10 t / 10 ^ cut) (sym (take-append-drop kept xs)) ∙ value_cut (take kept xs) (drop kept xs) cut (digits_parts kept xs e).1 len)
]

-- zeros behind the last digit kept
pub value_lengthened : (units decimals : List ℕ) (places : ℕ) → all_ascii_digits decimals ≡ true
    → digits_value 10 (units ++ decimals) * 10 ^ places / 10 ^ length decimals ≡ digits_value 10 (units ++ take (min places (length decimals)) decimals) * 10 ^ (places - min places (length decimals))
value_lengthened units decimals places e = elim (cases_lt places (length decimals)) [
  | inl fewer ↦
      let all : min places (length decimals) ≡ places = omega arith in
      let none : places - places ≡ 0 = omega arith in
      let rest = length decimals - places in
      let size : length decimals ≡ places + rest = omega arith in
      let len : length (drop places decimals) ≡ rest = omega (arith, length-drop places decimals) in
      let parts : units ++ decimals ≡ (units ++ take places decimals) ++ drop places decimals = ap (λ (t : List ℕ). units ++ t) (sym (take-append-drop places decimals)) ∙ sym (append_assoc units (take places decimals) (drop places decimals)) in
      let cut : digits_value 10 (units ++ decimals) / 10 ^ rest ≡ digits_value 10 (units ++ take places decimals) = ap (λ (t : List ℕ). digits_value 10 t / 10 ^ rest) parts ∙ value_cut (units ++ take places decimals) (drop places decimals) rest (digits_parts places decimals e).1 len in
      let one : digits_value 10 (units ++ take places decimals) ≡ digits_value 10 (units ++ take places decimals) * 10 ^ 0 = omega arith in
      rw (all, none) (ap (λ (k : ℕ). digits_value 10 (units ++ decimals) * 10 ^ places / 10 ^ k) size ∙ cancel (digits_value 10 (units ++ decimals)) places rest ∙ cut ∙ one)
  | inr more ↦
      let all : min places (length decimals) ≡ length decimals = omega arith in
      let rest = places - length decimals in
      let size : places ≡ rest + length decimals = omega arith in
      let some : 0 < 10 ^ length decimals = one-le-pow (length decimals) 10 (omega arith) in
      let v = digits_value 10 (units ++ decimals) in
      let grown : v * 10 ^ places ≡ v * 10 ^ rest * 10 ^ length decimals = omega (arith, ap (λ (k : ℕ). v * 10 ^ k) size, ap (λ (y : ℕ). v * y) (pow-add 10 rest (length decimals))) in
      rw (all, take_all (length decimals) decimals (omega arith)) (ap (λ (y : ℕ). y / 10 ^ length decimals) grown ∙ mul-div_cancel (v * 10 ^ rest) some)
]

-- a million and some tens against the places behind the point
pub value_scaled_down : (units decimals : List ℕ) (up down : ℕ) → all_ascii_digits decimals ≡ true → 6 + up < down
    → microdegrees_of units decimals (up, down) ≡ digits_value 10 units / 10 ^ (down - (6 + up))
value_scaled_down units decimals up down e past =
    let rest = down - (6 + up) in
    let v = digits_value 10 (units ++ decimals) in
    let size : length decimals + down ≡ 6 + up + (length decimals + rest) = omega arith in
    let apart : v / 10 ^ (length decimals + rest) ≡ v / 10 ^ length decimals / 10 ^ rest = ap (λ (y : ℕ). v / y) (pow-add 10 (length decimals) rest) ∙ sym (div-div-eq-div-mul v (10 ^ length decimals) (10 ^ rest)) in
    ap (λ (k : ℕ). v * 10 ^ (6 + up) / 10 ^ k) size ∙ cancel v (6 + up) (length decimals + rest) ∙ apart
    ∙ ap (λ (y : ℕ). y / 10 ^ rest) (value_cut units decimals (length decimals) e refl)

pub value_scaled_up : (units decimals : List ℕ) (up down : ℕ) → down ≤ 6 + up
    → microdegrees_of units decimals (up, down) ≡ digits_value 10 (units ++ decimals) * 10 ^ (6 + up - down) / 10 ^ length decimals
value_scaled_up units decimals up down within =
    let rest = 6 + up - down in
    let v = digits_value 10 (units ++ decimals) in
    let size : length decimals + down ≡ down + length decimals = omega arith in
    let over : 6 + up ≡ rest + down = omega arith in
    let grown : v * 10 ^ (6 + up) ≡ v * 10 ^ rest * 10 ^ down = omega (arith, ap (λ (k : ℕ). v * 10 ^ k) over, ap (λ (y : ℕ). v * y) (pow-add 10 rest down)) in
    ap (λ (k : ℕ). v * 10 ^ (6 + up) / 10 ^ k) size ∙ ap (λ (y : ℕ). y / 10 ^ (down + length decimals)) grown ∙ cancel (v * 10 ^ rest) down (length decimals)

-- ---- digits that were refused, and a number that grew

refused_past : (most number : ℕ) (text : List ℕ) → all_ascii_digits text ≡ true → None ≡ with_digits most number text → most < digits_value_after 10 number text
refused_past most number text e r = up_to_none most _ (r ∙ with_digits_is most number text e)

zeros-ge : (n k : ℕ) → n ≤ n * 10 ^ k
zeros-ge n k = omega (arith, mul-le-mul_left n (one-le-pow k 10 (omega arith)))

-- the digits before the point alone are past the bound
pub units_past : (most : ℕ) (units decimals : List ℕ) (k : ℕ) → all_ascii_digits units ≡ true → None ≡ with_digits most 0 units → up_to most (digits_value 10 (units ++ decimals) * 10 ^ k) ≡ None
units_past most units decimals k e r =
    let past = refused_past most 0 units e r in
    let more : digits_value 10 units ≤ digits_value 10 (units ++ decimals) = omega (arith, after-ge (digits_value 10 units) decimals, after-append 0 units decimals) in
    up_to_past most _ (omega (arith, zeros-ge (digits_value 10 (units ++ decimals)) k))

-- with some behind it they are
pub both_past : (most number : ℕ) (units decimals : List ℕ) (k : ℕ) → all_ascii_digits units ≡ true → all_ascii_digits decimals ≡ true → Some number ≡ with_digits most 0 units
    → None ≡ with_digits most number decimals → up_to most (digits_value 10 (units ++ decimals) * 10 ^ k) ≡ None
both_past most number units decimals k e f given r =
    let is = up_to_some most (digits_value 10 units) number (given ∙ with_digits_is most 0 units e) in
    let past = refused_past most number decimals f r in
    let joined : digits_value 10 (units ++ decimals) ≡ digits_value_after 10 number decimals = after-append 0 units decimals ∙ ap (λ (n : ℕ). digits_value_after 10 n decimals) (sym is.0) in
    up_to_past most _ (omega (arith, zeros-ge (digits_value 10 (units ++ decimals)) k))

-- both were taken
pub both_taken : (most number longer : ℕ) (units decimals : List ℕ) → all_ascii_digits units ≡ true → all_ascii_digits decimals ≡ true → Some number ≡ with_digits most 0 units
    → Some longer ≡ with_digits most number decimals → longer ≡ digits_value 10 (units ++ decimals)
both_taken most number longer units decimals e f given later =
    let is = up_to_some most (digits_value 10 units) number (given ∙ with_digits_is most 0 units e) in
    let then = up_to_some most (digits_value_after 10 number decimals) longer (later ∙ with_digits_is most number decimals f) in
    then.0 ∙ ap (λ (n : ℕ). digits_value_after 10 n decimals) is.0 ∙ sym (after-append 0 units decimals)

-- two digits write at most 99
pub two_digits_refused : (text : List ℕ) → length text ≤ 2 → None ≡ with_digits 99 0 text → are_digits text ≡ false
two_digits_refused [] short r = refl
two_digits_refused (c ∷ cs) short r = by (all_ascii_digits (c ∷ cs)) refl
  where
    by : (b : Bool) → all_ascii_digits (c ∷ cs) ≡ b → b ≡ false
    by true e =
        let past = refused_past 99 0 (c ∷ cs) e r in
        absurd (omega (arith, value-lt (c ∷ cs) 2 e short))
    by false e = refl

pub digits_of_both : (xs ys : List ℕ) → are_digits (xs ++ ys) ≡ true → (all_ascii_digits xs ≡ true) × (all_ascii_digits ys ≡ true)
digits_of_both xs ys e = both (all_ascii_digits xs) (all_ascii_digits ys) (sym (digits-append xs ys) ∙ all_of (xs ++ ys) e)
  where
    all_of : (zs : List ℕ) → are_digits zs ≡ true → all_ascii_digits zs ≡ true
    all_of [] e = refl
    all_of (z ∷ zs) e = e

-- digits of two texts, one of which is not empty
pub both_are_digits : (xs ys : List ℕ) (r s : Bool) → (0 < length xs) ⊎ (0 < length ys) → r ≡ list_all is_ascii_digit xs → s ≡ list_all is_ascii_digit ys → (r && s) ≡ are_digits (xs ++ ys)
both_are_digits xs ys r s some first second =
    let long : 0 < length (xs ++ ys) = elim some [ inl h ↦ omega (arith, length-append xs ys) | inr h ↦ omega (arith, length-append xs ys) ] in
    rw (first, second, all_digits_is xs, all_digits_is ys) (sym (are_digits_some (xs ++ ys) long ∙ digits-append xs ys))

-- the first digits of a text, as digits
pub with_taken : (most number k : ℕ) (text : List ℕ) → all_ascii_digits text ≡ true → with_digits most number (take k text) ≡ up_to most (digits_value_after 10 number (take k text))
with_taken most number k text e = with_digits_is most number (take k text) (digits_parts k text e).0

pub not_empty : (text : List ℕ) (r : Bool) → r ≡ eqb (length text) 0 → r ≡ false → 0 < length text
not_empty [] r e f = absurd cc
not_empty (c ∷ cs) r e f = omega arith
