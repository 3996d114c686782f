-- Numbers in ranges: what is read is the number that was written, and what was written is read again.
use Rattle.std.proofs.Common.{◌≡◌, ℕ, ◌≤◌, ℤ, pos, negsuc, Bool, true, false, cond, leb, Option, Some, None, refl, ap, sym, ◌∙◌, arith}
use Rattle.std.proofs.lemmas.Bool.{leb-true, le-leb}
use Rattle.decimal_text.specs.Numbers.{up_to, natural_within, from_to}
use Rattle.decimal_text.proofs.DigitLemmas.{up_to_some}
use Rattle.decimal_text.proofs.NumberLemmas.{up_to_within}

abbrev some : {A : Type 0} → A → Option A
some x = Some x

pub within_is : (most : ℕ) (z : ℤ) (n : ℕ) → natural_within most z ≡ Some n → (z ≡ pos n) × (n ≤ most)
within_is most (pos m) n e = let is = up_to_some most m n (sym e) in (ap pos (sym is.0), omega (arith, is.0, is.1))
within_is most (negsuc m) n e = absurd cc

pub from_to_is : (least most : ℕ) (z : ℤ) (n : ℕ) → from_to least most z ≡ Some n → (z ≡ pos n) × (least ≤ n) × (n ≤ most)
from_to_is least most (pos m) n e = by (leb least m) refl e
  where
    by : (b : Bool) → leb least m ≡ b → cond b (up_to most m) None ≡ some n → (pos m ≡ pos n) × (least ≤ n) × (n ≤ most)
    by true low e =
        let is = up_to_some most m n (sym e) in
        (ap pos (sym is.0), omega (arith, leb-true least m low, is.0), omega (arith, is.0, is.1))
    by false low e = absurd cc
from_to_is least most (negsuc m) n e = absurd cc

pub from_to_again : (least most n : ℕ) → least ≤ n → n ≤ most → from_to least most (pos n) ≡ Some n
from_to_again least most n low high = ap (λ (b : Bool). cond b (up_to most n) None) (le-leb least n low) ∙ up_to_within most n high
