-- Reading line by line: one line, and one thing after the other.
use Rattle.std.proofs.Common.{◌≡◌, ℕ, zero, suc, ◌≤◌, List, [], ◌∷◌, ◌++◌, length, Option, Some, None, Result, Ok, Err, option_map, refl, ap, sym, ◌∙◌, append_assoc, arith}
use Rattle.decimal_text.specs.Lines.{front}
use Rattle.decimal_text.specs.Reading.{go_on, read_lines, reading}
use Rattle.decimal_text.proofs.LineLemmas.{changed, front_shorter, front_empty}

-- what is due in place of something after the words of a line
abbrev pub After : Type 0 → Type 0
After D = D → List (List ℕ) → Option (List D)

-- a bound that is great enough is as good as another
enough : {D : Type 0} (after : After D) (m n : ℕ) (due : List D) (text : List ℕ) → length text ≤ m → length text ≤ n → read_lines after m due text ≡ read_lines after n due text
enough {D} after m n [] text a b = both m n
  where
    both : (m n : ℕ) → read_lines {D = D} after m [] text ≡ read_lines after n [] text
    both m n = refl
enough after zero zero (d ∷ later) text a b = refl
enough {D} after zero (suc n) (d ∷ later) text a b = sym (ap (λ (o : Option (List D × List ℕ)). go_on o text (λ more rest. read_lines after n (more ++ later) rest)) (front_empty (after d) text (omega arith)))
enough {D} after (suc m) zero (d ∷ later) text a b = ap (λ (o : Option (List D × List ℕ)). go_on o text (λ more rest. read_lines after m (more ++ later) rest)) (front_empty (after d) text (omega arith))
enough {D} after (suc m) (suc n) (d ∷ later) text a b = by (λ due rest. enough after m n due rest) (front (after d) text) refl
  where
    by : ((due : List D) (rest : List ℕ) → length rest ≤ m → length rest ≤ n → read_lines after m due rest ≡ read_lines after n due rest)
        → (o : Option (List D × List ℕ)) → front (after d) text ≡ o → go_on o text (λ more rest. read_lines after m (more ++ later) rest) ≡ go_on o text (λ more rest. read_lines after n (more ++ later) rest)
    by again None e = refl
    by again (Some x) e = let shorter = front_shorter (after d) text x.0 x.1 e in again (x.0 ++ later) x.1 (omega arith) (omega arith)

pub reading_nothing : {D : Type 0} (after : After D) (text : List ℕ) → reading after [] text ≡ Ok text
unfolding reading
reading_nothing after text = refl

-- one line, and then what is due behind it
pub reading_line : {D : Type 0} (after : After D) (d : D) (later : List D) (text : List ℕ) → reading after (d ∷ later) text ≡ go_on (front (after d) text) text (λ more rest. reading after (more ++ later) rest)
unfolding reading
reading_line {D} after d later text = by (length text) refl
  where
    next : (n : ℕ) (o : Option (List D × List ℕ)) → suc n ≡ length text → front (after d) text ≡ o
        → go_on o text (λ more rest. read_lines after n (more ++ later) rest) ≡ go_on o text (λ more rest. read_lines after (length rest) (more ++ later) rest)
    next n None len e = refl
    next n (Some x) len e = let shorter = front_shorter (after d) text x.0 x.1 e in enough after n (length x.1) (x.0 ++ later) x.1 (omega arith) (omega arith)

    by : (n : ℕ) → n ≡ length text → read_lines after n (d ∷ later) text ≡ go_on (front (after d) text) text (λ more rest. read_lines after (length rest) (more ++ later) rest)
    by zero len = sym (ap (λ (o : Option (List D × List ℕ)). go_on o text (λ more rest. read_lines after (length rest) (more ++ later) rest)) (front_empty (after d) text (sym len)))
    by (suc n) len = next n (front (after d) text) len refl

-- goes on with what is left
abbrev pub then_read : Result (List ℕ) (List ℕ) → (List ℕ → Result (List ℕ) (List ℕ)) → Result (List ℕ) (List ℕ)
then_read (Ok rest) next = next rest
then_read (Err rest) next = Err rest

-- what is due first, and then the rest
reading_both : {D : Type 0} (after : After D) (most : ℕ) (first later : List D) (text : List ℕ) → length text ≤ most → reading after (first ++ later) text ≡ then_read (reading after first text) (reading after later)
reading_both after most [] later text few = ap (λ (r : Result (List ℕ) (List ℕ)). then_read r (reading after later)) (sym (reading_nothing after text))
reading_both {D} after zero (d ∷ ds) later text few =
    let none = front_empty (after d) text (omega arith) in
    let stops : (due : List D) → reading after (d ∷ due) text ≡ Err text = λ due. reading_line after d due text ∙ ap (λ (o : Option (List D × List ℕ)). go_on o text (λ more rest. reading after (more ++ due) rest)) none in
    stops (ds ++ later) ∙ sym (ap (λ (r : Result (List ℕ) (List ℕ)). then_read r (reading after later)) (stops ds))
reading_both {D} after (suc most) (d ∷ ds) later text few =
    reading_line after d (ds ++ later) text ∙ by (λ due rest. reading_both after most due later rest) (front (after d) text) refl ∙ sym (ap (λ (r : Result (List ℕ) (List ℕ)). then_read r (reading after later)) (reading_line after d ds text))
  where
    by : ((due : List D) (rest : List ℕ) → length rest ≤ most → reading after (due ++ later) rest ≡ then_read (reading after due rest) (reading after later))
        → (o : Option (List D × List ℕ)) → front (after d) text ≡ o → go_on o text (λ more rest. reading after (more ++ (ds ++ later)) rest) ≡ then_read (go_on o text (λ more rest. reading after (more ++ ds) rest)) (reading after later)
    by again None e = refl
    by again (Some x) e =
        let shorter = front_shorter (after d) text x.0 x.1 e in
        ap (λ (due : List D). reading after due x.1) (sym (append_assoc x.0 ds later)) ∙ again (x.0 ++ ds) x.1 (omega arith)

pub reading_after : {D : Type 0} (after : After D) (first later : List D) (text : List ℕ) → reading after (first ++ later) text ≡ then_read (reading after first text) (reading after later)
reading_after after first later text = reading_both after (length text) first later text (omega arith)

-- a line of the form due, whose words say a
pub goes_on : {D A : Type 0} (after : After D) (f : A → List D) (form : List (List ℕ) → Option A) (d : D) (later : List D) (text : List ℕ) (a : A) (rest : List ℕ)
    → front (after d) text ≡ option_map (changed f) (front form text) → front form text ≡ Some (a, rest) → reading after (d ∷ later) text ≡ reading after (f a ++ later) rest
goes_on {D} after f form d later text a rest is there =
    reading_line after d later text ∙ ap (λ (o : Option (List D × List ℕ)). go_on o text (λ more rest. reading after (more ++ later) rest)) (is ∙ ap (option_map (changed f)) there)

-- a line of another form
pub stops : {D A : Type 0} (after : After D) (f : A → List D) (form : List (List ℕ) → Option A) (d : D) (later : List D) (text : List ℕ)
    → front (after d) text ≡ option_map (changed f) (front form text) → front form text ≡ None → reading after (d ∷ later) text ≡ Err text
stops {D} after f form d later text is none =
    reading_line after d later text ∙ ap (λ (o : Option (List D × List ℕ)). go_on o text (λ more rest. reading after (more ++ later) rest)) (is ∙ ap (option_map (changed f)) none)
