-- Digits taken one at a time, and a number that does not come back below its bound.
use Rattle.std.proofs.Common.{◌≡◌, ℕ, ◌+◌, ◌*◌, ◌<◌, ◌≤◌, Bool, true, false, cond, ◌&&◌, leb, List, [], ◌∷◌, length, get_or, drop, Option, Some, None, refl, arith}
use Rattle.std.specs.Char.{is_ascii_digit, digit_value}
use Rattle.std.specs.Str.{all_ascii_digits}
use Rattle.std.specs.Str.Parse.{digits_value_after}
use Rattle.std.proofs.lemmas.Bool.{lt-leb, leb-false, leb-true}
use Rattle.std.proofs.lemmas.List.{drop_more}
use Rattle.decimal_text.specs.Numbers.{up_to, with_digit, with_digits}

abbrev some : {A : Type 0} → A → Option A
some x = Some x

some_is : {A : Type 0} (x y : A) → some x ≡ some y → x ≡ y
some_is x y e = cc

-- a number that was let through
pub up_to_some : (most number m : ℕ) → Some m ≡ up_to most number → (m ≡ number) × (number ≤ most)
up_to_some most number m e = by (leb number most) refl e
  where
    by : (b : Bool) → leb number most ≡ b → some m ≡ cond b (Some number) None → (m ≡ number) × (number ≤ most)
    by true low e = (some_is m number e, leb-true number most low)
    by false low e = absurd cc

-- a number that was refused
pub up_to_none : (most number : ℕ) → None ≡ up_to most number → most < number
up_to_none most number e = by (leb number most) refl e
  where
    by : (b : Bool) → leb number most ≡ b → None ≡ cond b (some number) None → most < number
    by true low e = absurd cc
    by false low e = leb-false number most low

pub up_to_past : (most number : ℕ) → most < number → up_to most number ≡ None
up_to_past most number past = rw (lt-leb number most past) refl

-- further digits make no number less
pub after-ge : (number : ℕ) (digits : List ℕ) → number ≤ digits_value_after 10 number digits
after-ge number [] = omega arith
after-ge number (c ∷ cs) = omega (arith, after-ge (number * 10 + digit_value c) cs)

refused : (most number c : ℕ) (cs : List ℕ) → None ≡ with_digit most number c → with_digits most number (c ∷ cs) ≡ None
refused most number c cs e = by (is_ascii_digit c) e
  where
    whole : (b : Bool) → most < number * 10 + digit_value c → cond b (up_to most (digits_value_after 10 (number * 10 + digit_value c) cs)) None ≡ None
    whole true past = up_to_past most _ (omega (arith, after-ge (number * 10 + digit_value c) cs))
    whole false past = refl

    by : (b : Bool) → None ≡ cond b (up_to most (number * 10 + digit_value c)) None → cond (b && all_ascii_digits cs) (up_to most (digits_value_after 10 (number * 10 + digit_value c) cs)) None ≡ None
    by true e = whole (all_ascii_digits cs) (up_to_none most _ e)
    by false e = refl

taken : (most number c m : ℕ) (cs : List ℕ) → Some m ≡ with_digit most number c → with_digits most number (c ∷ cs) ≡ with_digits most m cs
taken most number c m cs e = by (is_ascii_digit c) e
  where
    by : (b : Bool) → Some m ≡ cond b (up_to most (number * 10 + digit_value c)) None
        → cond (b && all_ascii_digits cs) (up_to most (digits_value_after 10 (number * 10 + digit_value c) cs)) None ≡ with_digits most m cs
    by true e =
        let is = up_to_some most (number * 10 + digit_value c) m e in
        rw is.0 refl
    by false e = absurd cc

-- the same at a place of a text
pub refused_at : (most number : ℕ) (text : List ℕ) (i : ℕ) → i < length text → None ≡ with_digit most number (get_or text i 0) → with_digits most number (drop i text) ≡ None
refused_at most number text i low e = rw (drop_more text i 0 low) (refused most number (get_or text i 0) (drop (i + 1) text) e)

pub taken_at : (most number m : ℕ) (text : List ℕ) (i : ℕ) → i < length text → Some m ≡ with_digit most number (get_or text i 0) → with_digits most number (drop i text) ≡ with_digits most m (drop (i + 1) text)
taken_at most number m text i low e = rw (drop_more text i 0 low) (taken most number (get_or text i 0) m (drop (i + 1) text) e)
