-- Where reading ends within a text.
use Rattle.std.proofs.Common.{◌≡◌, ℕ, zero, suc, ◌-◌, ◌+◌, ◌≤◌, List, [], ◌∷◌, ◌++◌, length, take, Option, Some, None, Result, Ok, Err, refl, ap, sym, ◌∙◌, length-append, arith}
use Rattle.std.proofs.lemmas.List.{take_at}
use Rattle.decimal_text.specs.declared.fault.Stop.{Stop}
use Rattle.decimal_text.specs.declared.fault.Stop.TheVariants as stops
use Rattle.order_proof.specs.Plain.{PlainProof}
use Rattle.order_proof.specs.Text.{proof_text}
use Rattle.order_proof.specs.FrontLine.{front}
use Rattle.order_proof.specs.Reading.{Due, after, go_on, reading}
use Rattle.decimal_text.specs.Readers.{left_of, IsStopWithin}
use Rattle.order_proof.specs.Readers.{IsProofOf, IsTextOf}
use Rattle.order_proof.proofs.Fronts.{front_shorter, front_empty}
use Rattle.order_proof.proofs.Steps.{reading_nothing, reading_line}
use Rattle.decimal_text.proofs.Stops.{StopsIn}

abbrev lines_behind : List Due → List Due → List ℕ → Result (List ℕ) (List ℕ)
lines_behind later more rest = reading (more ++ later) rest

left_within : (most : ℕ) (due : List Due) (text : List ℕ) (left : ℕ) → length text ≤ most → left_of (reading due text) ≡ Err left → left ≤ length text
left_within most [] text left few e = absurd (nothing (sym (ap left_of (reading_nothing text)) ∙ e))
  where
    nothing : left_of (Ok text) ≡ Err left → ⊥
    nothing e = cc
left_within zero (d ∷ later) text left few e =
    let none = front_empty (after d) text (omega arith) in
    at_start (sym (ap left_of (reading_line d later text ∙ ap (λ (o : Option (List Due × List ℕ)). go_on o text (lines_behind later)) none)) ∙ e)
  where
    at_start : left_of (Err text) ≡ Err left → left ≤ length text
    at_start e = let is : length text ≡ left = cc in omega arith
left_within (suc most) (d ∷ later) text left few e =
    by (λ more rest. left_within most more rest left) (front (after d) text) refl (sym (ap left_of (reading_line d later text)) ∙ e)
  where
    by : ((more : List Due) (rest : List ℕ) → length rest ≤ most → left_of (reading more rest) ≡ Err left → left ≤ length rest)
        → (o : Option (List Due × List ℕ)) → front (after d) text ≡ o → left_of (go_on o text (lines_behind later)) ≡ Err left → left ≤ length text
    by again None there e = let is : length text ≡ left = cc in omega arith
    by again (Some x) there e =
        let shorter = front_shorter (after d) text x.0 x.1 there in
        omega (arith, again (x.0 ++ later) x.1 (omega arith) e)

pub stop_within : (e : Stop) (due : List Due) (text : List ℕ) → StopsIn e (reading due text) → IsStopWithin (length text) e
stop_within (stops.Wrong left) due text follows = left_within (length text) due text left (omega arith) follows
stop_within stops.Memory due text follows = tt

-- the bytes in front of what is left are the text
pub text_in_front : (p : PlainProof) (bytes rest : List ℕ) → IsProofOf p bytes rest → IsTextOf p (length bytes - length rest) bytes
text_in_front p bytes rest is =
    let size : length bytes ≡ length (proof_text p) + length rest = ap length is.front ∙ length-append (proof_text p) rest in
    let used : length bytes - length rest ≡ length (proof_text p) = omega arith in
    record {
      range = is.range;
      within = omega arith;
      text = ap (λ (n : ℕ). take n bytes) used ∙ ap (take (length (proof_text p))) is.front ∙ take_at (proof_text p) rest (length (proof_text p)) refl;
    }
