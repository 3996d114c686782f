-- Words with a bit set, and the flags that they hold.
use Rattle.std.proofs.Common.{◌≡◌, ◌≢◌, sym, ◌∙◌, ap, ℕ, ◌*◌, ◌/◌, ◌%◌, ◌^◌, ◌<◌, ◌≤◌, ◌==◌, Bool, true, false, List, length, get_or, set, replicate, ◌⊎◌, inl, inr, arith, w64, length-set, get_or-set_same, get_or-set_other}
use Rattle.std.proofs.lemmas.Bool.{cases_eq}
use Rattle.std.proofs.lemmas.List.{ext_get_or, get_or-replicate, length-replicate}
use Rattle.std.proofs.lemmas.List.FromFn.{length-map-range_with_len, get_or-map-range_with_len}
use Rattle.std.proofs.lemmas.Nat.Bits.{bit_at_clear_same, bit_at_clear_other, bit_at_set_same, bit_at_set_other, bit_at-zero, shr_and_one}
use Rattle.std.specs.Prelude.{bit_and, bit_or}
use Rattle.std.specs.Int.{bit_at, bit_not}
use Rattle.bit_flags.specs.Bits.{bit_of, flags_in}

pub length-flags_in : (words : List ℕ) (count : ℕ) → length (flags_in words count) ≡ count
unfolding flags_in
length-flags_in words count = length-map-range_with_len (bit_of words) 0 count

-- the flag at a place is the bit there
pub flag_at : (words : List ℕ) (count place : ℕ) → place < count → get_or (flags_in words count) place false ≡ bit_of words place
unfolding flags_in
flag_at words count place below = get_or-map-range_with_len (bit_of words) 0 count place place false below (omega arith)

-- the bit as it is read
pub bit_read : (words : List ℕ) (place : ℕ) → (bit_and (get_or words (place / 64) 0 / 2 ^ (place % 64)) 1 == 1) ≡ bit_of words place
bit_read words place = ap (λ n. n == 1) (shr_and_one (get_or words (place / 64) 0) (place % 64))

-- a word of zeros has no bit
zero_bit : (count size place : ℕ) → count ≤ 64 * size → place < count → bit_of (replicate size 0) place ≡ false
zero_bit count size place enough below =
    let word : get_or (replicate size 0) (place / 64) 0 ≡ 0 = get_or-replicate size (place / 64) 0 0 (omega arith) in
    ap (λ n. bit_at n (place % 64) == 1) word ∙ ap (λ n. n == 1) (bit_at-zero (place % 64))

-- words of zeros hold no raised flag
pub none_raised : (count size : ℕ) → count ≤ 64 * size → flags_in (replicate size 0) count ≡ replicate count false
none_raised count size enough = ext_get_or false _ _ (counted ∙ sym (length-replicate count false)) (λ place within. each place (omega (arith, within, counted)))
  where
    counted : length (flags_in (replicate size 0) count) ≡ count
    counted = length-flags_in (replicate size 0) count

    each : (place : ℕ) → place < count → get_or (flags_in (replicate size 0) count) place false ≡ get_or (replicate count false) place false
    each place below = flag_at (replicate size 0) count place below ∙ zero_bit count size place enough below ∙ sym (get_or-replicate count place false false below)

-- a word with a bit set or cleared
abbrev pub with_bit : Bool → ℕ → ℕ → ℕ
with_bit true word k = bit_or word (1 * 2 ^ k % 2 ^ 64)
with_bit false word k = bit_and word (bit_not w64 (1 * 2 ^ k % 2 ^ 64))

bit_same : (v : Bool) (word k : ℕ) → k < 64 → (bit_at (with_bit v word k) k == 1) ≡ v
bit_same true word k below = ap (λ n. n == 1) (bit_at_set_same w64 word k below)
bit_same false word k below = ap (λ n. n == 1) (bit_at_clear_same w64 word k below)

bit_other : (v : Bool) (word k i : ℕ) → k < 64 → i < 64 → i ≢ k → bit_at (with_bit v word k) i ≡ bit_at word i
bit_other true word k i below low apart = bit_at_set_other w64 word k below i apart
bit_other false word k i below low apart = bit_at_clear_other w64 word k below i low apart

-- the words with such a bit
abbrev pub with_flag : Bool → List ℕ → ℕ → List ℕ
with_flag v words place = set words (place / 64) (with_bit v (get_or words (place / 64) 0) (place % 64))

-- the flag at the place is raised or lowered
flag_same : (v : Bool) (words : List ℕ) (place : ℕ) → place / 64 < length words → bit_of (with_flag v words place) place ≡ v
flag_same v words place within =
    let word : get_or (with_flag v words place) (place / 64) 0 ≡ with_bit v (get_or words (place / 64) 0) (place % 64) = get_or-set_same words (place / 64) (with_bit v (get_or words (place / 64) 0) (place % 64)) 0 within in
    ap (λ n. bit_at n (place % 64) == 1) word ∙ bit_same v (get_or words (place / 64) 0) (place % 64) (omega arith)

-- any other is as it was
flag_other : (v : Bool) (words : List ℕ) (place other : ℕ) → place / 64 < length words → other ≢ place → bit_of (with_flag v words place) other ≡ bit_of words other
flag_other v words place other within apart = by_word (cases_eq (other / 64) (place / 64))
  where
    by_word : ((other / 64) ≡ (place / 64)) ⊎ ((other / 64) ≢ (place / 64)) → bit_of (with_flag v words place) other ≡ bit_of words other
    by_word (inl same) =
        let word : get_or (with_flag v words place) (other / 64) 0 ≡ with_bit v (get_or words (place / 64) 0) (place % 64) =
        ap (λ n. get_or (with_flag v words place) n 0) same ∙ get_or-set_same words (place / 64) (with_bit v (get_or words (place / 64) 0) (place % 64)) 0 within in
        let bits : (other % 64) ≢ (place % 64) = omega arith in
        ap (λ n. bit_at n (other % 64) == 1) word ∙ ap (λ n. n == 1) (bit_other v (get_or words (place / 64) 0) (place % 64) (other % 64) (omega arith) (omega arith) bits)
        ∙ ap (λ n. bit_at (get_or words n 0) (other % 64) == 1) (sym same)
    by_word (inr words_apart) = ap (λ n. bit_at n (other % 64) == 1) (get_or-set_other words (place / 64) (other / 64) (with_bit v (get_or words (place / 64) 0) (place % 64)) 0 words_apart)

-- the flag there is raised or lowered, and no other
pub one_flagged : (v : Bool) (words : List ℕ) (count place : ℕ) → count ≤ 64 * length words → place < count → flags_in (with_flag v words place) count ≡ set (flags_in words count) place v
one_flagged v words count place enough below =
    ext_get_or false _ _ (counted ∙ sym (length-flags_in words count) ∙ sym (length-set (flags_in words count) place v)) (λ other within. each other (omega (arith, within, counted)) (cases_eq other place))
  where
    counted : length (flags_in (with_flag v words place) count) ≡ count
    counted = length-flags_in (with_flag v words place) count

    word_within : place / 64 < length words
    word_within = omega arith

    each : (other : ℕ) → other < count → (other ≡ place) ⊎ (other ≢ place) → get_or (flags_in (with_flag v words place) count) other false ≡ get_or (set (flags_in words count) place v) other false
    each other in_count (inl same) =
        ap (λ n. get_or (flags_in (with_flag v words place) count) n false) same ∙ flag_at (with_flag v words place) count place below ∙ flag_same v words place word_within
        ∙ sym (ap (λ n. get_or (set (flags_in words count) place v) n false) same ∙ get_or-set_same (flags_in words count) place v false (omega (arith, length-flags_in words count)))
    each other in_count (inr apart) =
        flag_at (with_flag v words place) count other in_count ∙ flag_other v words place other word_within apart
        ∙ sym (get_or-set_other (flags_in words count) place other v false apart ∙ flag_at words count other in_count)
