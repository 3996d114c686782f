-- Reading line by line: one line, and one thing after the other.
use Rattle.std.proofs.Common.{◌≡◌, ℕ, zero, suc, ◌≤◌, ℤ, List, [], ◌∷◌, ◌++◌, length, Option, Some, None, Result, Ok, Err, option_map, refl, ap, sym, ◌∙◌, append_assoc, arith}
use Rattle.order_proof.specs.declared.line_word.LineWord.{LineWord}
use Rattle.order_proof.specs.FrontLine.{front}
use Rattle.order_proof.specs.Reading.{Due, after, go_on, read_lines, reading}
use Rattle.decimal_text.proofs.Steps.{then_read}
use Rattle.decimal_text.proofs.LineLemmas.{changed}
use Rattle.order_proof.proofs.Fronts.{front_shorter, front_empty}

-- a bound that is great enough is as good as another
enough : (m n : ℕ) (due : List Due) (text : List ℕ) → length text ≤ m → length text ≤ n → read_lines m due text ≡ read_lines n due text
enough m n [] text a b = both m n
  where
    both : (m n : ℕ) → read_lines m [] text ≡ read_lines n [] text
    both m n = refl
enough zero zero (d ∷ later) text a b = refl
enough zero (suc n) (d ∷ later) text a b = sym (ap (λ (o : Option (List Due × List ℕ)). go_on o text (λ more rest. read_lines n (more ++ later) rest)) (front_empty (after d) text (omega arith)))
enough (suc m) zero (d ∷ later) text a b = ap (λ (o : Option (List Due × List ℕ)). go_on o text (λ more rest. read_lines m (more ++ later) rest)) (front_empty (after d) text (omega arith))
enough (suc m) (suc n) (d ∷ later) text a b = by (λ due rest. enough m n due rest) (front (after d) text) refl
  where
    by : ((due : List Due) (rest : List ℕ) → length rest ≤ m → length rest ≤ n → read_lines m due rest ≡ read_lines n due rest)
        → (o : Option (List Due × List ℕ)) → front (after d) text ≡ o → go_on o text (λ more rest. read_lines m (more ++ later) rest) ≡ go_on o text (λ more rest. read_lines n (more ++ later) rest)
    by again None e = refl
    by again (Some x) e = let shorter = front_shorter (after d) text x.0 x.1 e in again (x.0 ++ later) x.1 (omega arith) (omega arith)

pub reading_nothing : (text : List ℕ) → reading [] text ≡ Ok text
unfolding reading
reading_nothing text = refl

-- one line, and then what is due behind it
pub reading_line : (d : Due) (later : List Due) (text : List ℕ) → reading (d ∷ later) text ≡ go_on (front (after d) text) text (λ more rest. reading (more ++ later) rest)
unfolding reading
reading_line d later text = by (length text) refl
  where
    next : (n : ℕ) (o : Option (List Due × List ℕ)) → suc n ≡ length text → front (after d) text ≡ o
        → go_on o text (λ more rest. read_lines n (more ++ later) rest) ≡ go_on o text (λ more rest. read_lines (length rest) (more ++ later) rest)
    next n None len e = refl
    next n (Some x) len e = let shorter = front_shorter (after d) text x.0 x.1 e in enough n (length x.1) (x.0 ++ later) x.1 (omega arith) (omega arith)

    by : (n : ℕ) → n ≡ length text → read_lines n (d ∷ later) text ≡ go_on (front (after d) text) text (λ more rest. read_lines (length rest) (more ++ later) rest)
    by zero len = sym (ap (λ (o : Option (List Due × List ℕ)). go_on o text (λ more rest. read_lines (length rest) (more ++ later) rest)) (front_empty (after d) text (sym len)))
    by (suc n) len = next n (front (after d) text) len refl

-- what is due first, and then the rest
pub reading_both : (most : ℕ) (first later : List Due) (text : List ℕ) → length text ≤ most → reading (first ++ later) text ≡ then_read (reading first text) (reading later)
reading_both most [] later text few = ap (λ (r : Result (List ℕ) (List ℕ)). then_read r (reading later)) (sym (reading_nothing text))
reading_both zero (d ∷ ds) later text few =
    let none = front_empty (after d) text (omega arith) in
    let stops : (due : List Due) → reading (d ∷ due) text ≡ Err text = λ due. reading_line d due text ∙ ap (λ (o : Option (List Due × List ℕ)). go_on o text (λ more rest. reading (more ++ due) rest)) none in
    stops (ds ++ later) ∙ sym (ap (λ (r : Result (List ℕ) (List ℕ)). then_read r (reading later)) (stops ds))
reading_both (suc most) (d ∷ ds) later text few =
    reading_line d (ds ++ later) text ∙ by (λ due rest. reading_both most due later rest) (front (after d) text) refl ∙ sym (ap (λ (r : Result (List ℕ) (List ℕ)). then_read r (reading later)) (reading_line d ds text))
  where
    by : ((due : List Due) (rest : List ℕ) → length rest ≤ most → reading (due ++ later) rest ≡ then_read (reading due rest) (reading later))
        → (o : Option (List Due × List ℕ)) → front (after d) text ≡ o → go_on o text (λ more rest. reading (more ++ (ds ++ later)) rest) ≡ then_read (go_on o text (λ more rest. reading (more ++ ds) rest)) (reading later)
    by again None e = refl
    by again (Some x) e =
        let shorter = front_shorter (after d) text x.0 x.1 e in
        ap (λ (due : List Due). reading due x.1) (sym (append_assoc x.0 ds later)) ∙ again (x.0 ++ ds) x.1 (omega arith)

pub reading_after : (first later : List Due) (text : List ℕ) → reading (first ++ later) text ≡ then_read (reading first text) (reading later)
reading_after first later text = reading_both (length text) first later text (omega arith)

-- a line of the form due
pub goes_on : {A : Type 0} (f : A → List Due) (form : LineWord → List ℤ → Option A) (d : Due) (later : List Due) (text : List ℕ) (a : A) (rest : List ℕ)
    → front (after d) text ≡ option_map (changed f) (front form text) → front form text ≡ Some (a, rest) → reading (d ∷ later) text ≡ reading (f a ++ later) rest
goes_on f form d later text a rest is there =
    reading_line d later text ∙ ap (λ (o : Option (List Due × List ℕ)). go_on o text (λ more rest. reading (more ++ later) rest)) (is ∙ ap (option_map (changed f)) there)

-- a line of another form
pub stops : {A : Type 0} (f : A → List Due) (form : LineWord → List ℤ → Option A) (d : Due) (later : List Due) (text : List ℕ)
    → front (after d) text ≡ option_map (changed f) (front form text) → front form text ≡ None → reading (d ∷ later) text ≡ Err text
stops f form d later text is none =
    reading_line d later text ∙ ap (λ (o : Option (List Due × List ℕ)). go_on o text (λ more rest. reading (more ++ later) rest)) (is ∙ ap (option_map (changed f)) none)
