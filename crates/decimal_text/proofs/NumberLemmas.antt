-- A number that is read is the number that was written, and what was written is read again.
use Rattle.std.proofs.Common.{◌≡◌, ℕ, zero, suc, ◌<◌, ◌≤◌, ℤ, pos, negsuc, Bool, true, false, cond, not, ◌&&◌, ◌==◌, true≢false, List, [], ◌∷◌, length, get_or, Option, Some, None, option_map, refl, ap, subst, sym, ◌∙◌, arith}
use Rattle.std.specs.Char.{is_ascii_digit}
use Rattle.std.specs.Str.{all_ascii_digits}
use Rattle.std.specs.Str.Parse.{digits_value, digits_value_after}
use Rattle.std.specs.Fmt.{decimal, signed_decimal}
use Rattle.std.specs.Option.{option_and_then}
use Rattle.std.proofs.lemmas.Bool.{eqb-true, eq-eqb, le-leb}
use Rattle.std.proofs.lemmas.Fmt.{decimal-digits_value, digits_decimal, digits_value-decimal, decimal_nonempty, first_decimal, decimal_digit}
use Rattle.std.proofs.lemmas.Str.Parse.{IsNumeralModel, numerals_by_value, tells_all_ascii_digits}
use Rattle.decimal_text.specs.Numbers.{up_to, is_numeral, most_number, natural_of, negated, number_of}
use Rattle.decimal_text.proofs.DigitLemmas.{up_to_some}

own : IsNumeralModel (λ ds. all_ascii_digits ds ≡ true) (digits_value 10)
own = numerals_by_value _ tells_all_ascii_digits

abbrev some : {A : Type 0} → A → Option A
some x = Some x

and_parts : (a b : Bool) → (a && b) ≡ true → (a ≡ true) × (b ≡ true)
and_parts true b e = (refl, e)
and_parts false b e = absurd cc

-- a numeral is what is written of its value
numeral_is : (text : List ℕ) → is_numeral text ≡ true → digits_value 10 text ≤ most_number → decimal (digits_value 10 text) ≡ text
numeral_is [] e few = absurd cc
numeral_is (b ∷ []) e few = decimal-digits_value own (b ∷ []) (ap (λ (x : Bool). x && true) e) (omega arith) (λ _. refl) (omega arith)
numeral_is (b ∷ c ∷ rest) e few =
    let parts = and_parts (not (b == 48)) (all_ascii_digits (b ∷ c ∷ rest)) e in
    decimal-digits_value own (b ∷ c ∷ rest) parts.1 (omega arith) (λ is_zero. absurd (not_zero b is_zero parts.0)) (omega arith)
  where
    not_zero : (b : ℕ) → b ≡ 48 → not (b == 48) ≡ true → ⊥
    not_zero b is_zero e = true≢false (sym e ∙ ap not (eq-eqb b 48 is_zero))

-- what was read of a text is written so
pub natural_is : (text : List ℕ) (n : ℕ) → natural_of text ≡ Some n → (text ≡ decimal n) × (n ≤ most_number)
natural_is text n e = by (is_numeral text) refl e
  where
    by : (b : Bool) → is_numeral text ≡ b → cond b (up_to most_number (digits_value_after 10 0 text)) None ≡ some n → (text ≡ decimal n) × (n ≤ most_number)
    by true numeral e =
        let is = up_to_some most_number (digits_value_after 10 0 text) n (sym e) in
        (sym (numeral_is text numeral is.1) ∙ ap decimal (sym is.0), omega (arith, is.0, is.1))
    by false numeral e = absurd cc

above_48 : (b : ℕ) → 48 < b → not (b == 48) ≡ true
above_48 b above = by (b == 48) refl
  where
    by : (t : Bool) → (b == 48) ≡ t → not t ≡ true
    by true e = absurd (omega (arith, eqb-true b 48 e))
    by false e = refl

numeral_of_digits : (text : List ℕ) → all_ascii_digits text ≡ true → 0 < length text → (1 < length text → 48 < get_or text 0 0) → is_numeral text ≡ true
numeral_of_digits [] digits some first = absurd (omega arith)
numeral_of_digits (b ∷ []) digits some first = (and_parts (is_ascii_digit b) true digits).0
numeral_of_digits (b ∷ c ∷ rest) digits some first = ap (λ (t : Bool). t && all_ascii_digits (b ∷ c ∷ rest)) (above_48 b (first (omega arith))) ∙ digits

pub digits_written : (n : ℕ) → n ≤ most_number → all_ascii_digits (decimal n) ≡ true
digits_written n few = digits_decimal own n (omega arith)

first_digit : (n : ℕ) → n ≤ most_number → 1 < length (decimal n) → 48 < get_or (decimal n) 0 0
first_digit zero few long = absurd (omega (arith, ap length (decimal_digit 0 (omega arith))))
first_digit (suc n) few long = first_decimal (suc n) (omega arith) (omega arith)

pub up_to_within : (most n : ℕ) → n ≤ most → up_to most n ≡ Some n
up_to_within most n few = ap (λ (b : Bool). cond b (Some n) None) (le-leb n most few)

-- what was written is read again
pub natural_again : (n : ℕ) → n ≤ most_number → natural_of (decimal n) ≡ Some n
natural_again n few =
    let value : digits_value_after 10 0 (decimal n) ≡ n = digits_value-decimal own n (omega arith) in
    let numeral : is_numeral (decimal n) ≡ true = numeral_of_digits (decimal n) (digits_written n few) (decimal_nonempty n (omega arith)) (first_digit n few) in
    ap (λ (b : Bool). cond b (up_to most_number (digits_value_after 10 0 (decimal n))) None) numeral ∙ ap (up_to most_number) value ∙ up_to_within most_number n few

-- at most the greatest number either way
abbrev pub IsNumber : ℤ → Type 0
IsNumber (pos n) = n ≤ most_number
IsNumber (negsuc n) = suc n ≤ most_number

negated_is : (o : Option ℕ) (z : ℤ) → option_and_then negated o ≡ Some z → (n : ℕ) × (o ≡ Some (suc n)) × (z ≡ negsuc n)
negated_is None z e = absurd cc
negated_is (Some zero) z e = absurd cc
negated_is (Some (suc n)) z e = (n, refl, cc)

pos_is : (o : Option ℕ) (z : ℤ) → option_map pos o ≡ Some z → (n : ℕ) × (o ≡ Some n) × (z ≡ pos n)
pos_is None z e = absurd cc
pos_is (Some n) z e = (n, refl, cc)

pub number_is : (word : List ℕ) (z : ℤ) → number_of word ≡ Some z → (word ≡ signed_decimal z) × IsNumber z
number_is [] z e = absurd cc
number_is (b ∷ rest) z e = by (b == 45) refl e
  where
    by : (t : Bool) → (b == 45) ≡ t → cond t (option_and_then negated (natural_of rest)) (option_map pos (natural_of (b ∷ rest))) ≡ some z → ((b ∷ rest) ≡ signed_decimal z) × IsNumber z
    by true minus e =
        let n = negated_is (natural_of rest) z e in
        let is = natural_is rest (suc n.0) n.1 in
        subst (λ (y : ℤ). ((b ∷ rest) ≡ signed_decimal y) × IsNumber y) (sym n.2) (ap (λ (c : ℕ). c ∷ rest) (eqb-true b 45 minus) ∙ ap (λ (ds : List ℕ). 45 ∷ ds) is.0, is.1)
    by false plain e =
        let n = pos_is (natural_of (b ∷ rest)) z e in
        let is = natural_is (b ∷ rest) n.0 n.1 in
        subst (λ (y : ℤ). ((b ∷ rest) ≡ signed_decimal y) × IsNumber y) (sym n.2) (is.0, is.1)

-- a digit is no `-`
plain_number : (text : List ℕ) → all_ascii_digits text ≡ true → 0 < length text → number_of text ≡ option_map pos (natural_of text)
plain_number [] digits some = absurd (omega arith)
plain_number (b ∷ rest) digits some = by (b == 45) refl (and_parts (is_ascii_digit b) (all_ascii_digits rest) digits).0
  where
    by : (t : Bool) → (b == 45) ≡ t → is_ascii_digit b ≡ true → cond t (option_and_then negated (natural_of rest)) (option_map pos (natural_of (b ∷ rest))) ≡ option_map pos (natural_of (b ∷ rest))
    by true minus digit = absurd (true≢false (sym digit ∙ ap is_ascii_digit (eqb-true b 45 minus)))
    by false plain digit = refl

pub number_again : (z : ℤ) → IsNumber z → number_of (signed_decimal z) ≡ Some z
number_again (pos n) few = plain_number (decimal n) (digits_written n few) (decimal_nonempty n (omega arith)) ∙ ap (option_map pos) (natural_again n few)
number_again (negsuc n) few = ap (option_and_then negated) (natural_again (suc n) few)
