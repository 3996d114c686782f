-- Numbers and boxes as they are computed.
use Rattle.std.proofs.Common.{◌≡◌, Bool, true, false, ◌&&◌, ℤ, w64, to_z, of_z, pos, ◌-ℤ◌, ◌<ℤ◌, ap, sym, ◌∙◌, arith}
use Rattle.std.specs.Prelude.{int_le, int_lt}
use Rattle.std.specs.Int.{int_min, int_max}
use Rattle.std.proofs.lemmas.Int.{ints}
use Rattle.std.proofs.lemmas.Bool.{cond-true, cond-false}
use Rattle.line_offsets.specs.declared.corner.Corner.{Corner}
use Rattle.label_place.specs.declared.strokes.Times.{Times}
use Rattle.label_place.specs.Grids.{some_time, times}

pub same_corner : (a b c d : ℤ) → a ≡ c → b ≡ d → (let p : Corner = record { x = a; y = b } in p) ≡ record { x = c; y = d }
same_corner a b c d e f = ap (λ (z : ℤ). let p : Corner = record { x = z; y = b } in p) e ∙ ap (λ (z : ℤ). let p : Corner = record { x = c; y = z } in p) f

pub same_times : (a b c d : ℤ) → a ≡ c → b ≡ d → (let t : Times = record { first = a; last = b } in t) ≡ record { first = c; last = d }
same_times a b c d e f = ap (λ (z : ℤ). let t : Times = record { first = z; last = b } in t) e ∙ ap (λ (z : ℤ). let t : Times = record { first = c; last = z } in t) f

lt_true : (a b : ℤ) → a <ℤ b → int_lt a b ≡ true
lt_true a b h = grind (arith, ints)

lt_false : (a b : ℤ) → b <ℤ a → int_lt a b ≡ false
lt_false a b h = grind (arith, ints)

pub times_up : (from sense low high : ℤ) → pos 0 <ℤ sense → times from sense low high ≡ record { first = low -ℤ from; last = high -ℤ from }
times_up from sense low high h = cond-true (int_lt (pos 0) sense) _ _ (lt_true (pos 0) sense h)

pub times_down : (from sense low high : ℤ) → sense <ℤ pos 0 → times from sense low high ≡ record { first = from -ℤ high; last = from -ℤ low }
times_down from sense low high h = cond-false (int_lt (pos 0) sense) _ _ (lt_false (pos 0) sense h) ∙ cond-true (int_lt sense (pos 0)) _ _ (lt_true sense (pos 0) h)

pub times_same : (a b c d e f g h : ℤ) → a ≡ e → b ≡ f → c ≡ g → d ≡ h → times a b c d ≡ times e f g h
times_same a b c d e f g h p q r s = ap (λ (z : ℤ). times z b c d) p ∙ ap (λ (z : ℤ). times e z c d) q ∙ ap (λ (z : ℤ). times e f z d) r ∙ ap (times e f g) s

pub some_time_same : (a b c d : Times) → a ≡ c → b ≡ d → some_time a b ≡ some_time c d
some_time_same a b c d e f = ap (λ (t : Times). some_time t b) e ∙ ap (some_time c) f

pub overlap_same : (a b c d e f g h : ℤ) → a ≡ e → b ≡ f → c ≡ g → d ≡ h → int_le (int_max a b) (int_min c d) ≡ int_le (int_max e f) (int_min g h)
overlap_same a b c d e f g h p q r s =
    ap (λ (z : ℤ). int_le (int_max z b) (int_min c d)) p ∙ ap (λ (z : ℤ). int_le (int_max e z) (int_min c d)) q
    ∙ ap (λ (z : ℤ). int_le (int_max e f) (int_min z d)) r ∙ ap (λ (z : ℤ). int_le (int_max e f) (int_min g z)) s

-- a number as it is kept in 64 bits
abbrev pub kept : ℤ → ℤ
kept z = to_z w64 (of_z w64 z)

pub le_ends : (a b c d : ℤ) → a ≡ c → b ≡ d → int_le a b ≡ int_le c d
le_ends a b c d e f = ap (λ (z : ℤ). int_le z b) e ∙ ap (int_le c) f

-- a test of two parts, by the first
pub both_when : (x r p q : Bool) → x ≡ p → x ≡ true → r ≡ q → r ≡ (p && q)
both_when x r p q e t f = f ∙ ap (λ (b : Bool). b && q) (sym t ∙ e)

pub both_unless : (x p q : Bool) → x ≡ p → x ≡ false → x ≡ (p && q)
both_unless x p q e t = t ∙ ap (λ (b : Bool). b && q) (sym t ∙ e)
