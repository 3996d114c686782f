-- What readers answer: a value and what stands behind its text, or where they stopped.
use Rattle.std.specs.Prelude.{◌≡◌, ◌≤◌, ◌-◌, ℕ, List, length, Option, Some, None, Result, Ok, Err}
use Rattle.decimal_text.specs.declared.fault.BadText.{BadText}
use Rattle.decimal_text.specs.declared.fault.BadText.TheVariants as bad
use Rattle.decimal_text.specs.declared.fault.Stop.{Stop}
use Rattle.decimal_text.specs.declared.fault.Stop.TheVariants as stops

-- What was read of the line at the front of a text, seen by view, is what is there; where nothing is, reading stopped
-- before the text.
abbrev pub IsRead : {X A : Type 0} → (X → A × List ℕ) → Result X Stop → List ℕ → Option (A × List ℕ) → Type 0
IsRead view (Ok x) text there = there ≡ Some (view x)
IsRead view (Err (stops.Wrong left)) text there = (there ≡ None) × (left ≡ length text)
IsRead view (Err stops.Memory) text there = Unit {0}

-- how much is left where reading ended
abbrev pub left_of : Result (List ℕ) (List ℕ) → Result ℕ ℕ
left_of (Ok rest) = Ok (length rest)
left_of (Err rest) = Err (length rest)

-- what was left, seen by view, is what is left by definition; or reading stopped where it does by definition
abbrev pub Follows : {X : Type 0} → (X → List ℕ) → Result X Stop → Result (List ℕ) (List ℕ) → Type 0
Follows view (Ok x) defined = defined ≡ Ok (view x)
Follows view (Err (stops.Wrong left)) defined = left_of defined ≡ Err left
Follows view (Err stops.Memory) defined = Unit {0}

-- how many bytes were read, or where the first line begins that has not the form due there, is as defined
abbrev pub EndsAs : {X : Type 0} → (X → ℕ) → Result X BadText → Result ℕ ℕ → Type 0
EndsAs used (Ok x) defined = defined ≡ Ok (used x)
EndsAs used (Err (bad.At at)) defined = defined ≡ Err at
EndsAs used (Err bad.NoMemory) defined = Unit {0}

-- reading stopped within a text of so many bytes
abbrev pub IsStopWithin : ℕ → Stop → Type 0
IsStopWithin len (stops.Wrong left) = left ≤ len
IsStopWithin len stops.Memory = Unit {0}

-- why no value was read, where reading stopped in a text of so many bytes
abbrev pub IsBadText : ℕ → Stop → BadText → Type 0
IsBadText len (stops.Wrong left) text = text ≡ bad.At (len - left)
IsBadText len stops.Memory text = text ≡ bad.NoMemory
