-- What stands at the front of a text.
use Rattle.std.proofs.Common.{◌≡◌, ℕ, ◌<◌, ℤ, List, length, Option, Some, None, option_map, refl, ap, sym, ◌∙◌, arith}
use Rattle.std.specs.Option.{option_and_then}
use Rattle.decimal_text.specs.Lines as texts
use Rattle.decimal_text.proofs.LineLemmas.{paired, changed, front_then, front_shorter as front_shorter_by}
use Rattle.order_proof.specs.declared.line_word.LineWord.{LineWord}
use Rattle.order_proof.specs.Lines.{Line}
use Rattle.order_proof.specs.FrontLine.{known, line_in, front_line, front}

abbrev some : {A : Type 0} → A → Option A
some x = Some x

map_some : {A B : Type 0} (f : A → B) (o : Option A) (b : B) → option_map f o ≡ Some b → (a : A) × (o ≡ Some a) × (f a ≡ b)
map_some f None b e = absurd cc
map_some f (Some a) b e = (a, refl, cc)

-- a line takes a byte at least
front_line_shorter : (text : List ℕ) (line : Line) (rest : List ℕ) → front_line text ≡ Some (line, rest) → length rest < length text
unfolding front_line
front_line_shorter text line rest e = front_shorter_by line_in text line rest e

-- what a line at the front says is what is read of its word and numbers
pub record IsSaid {A : Type 0} (reading : LineWord → List ℤ → Option A) (text : List ℕ) (a : A) (rest : List ℕ) : Type 0 where
  pub line : Line
  pub at_front : front_line text ≡ Some (line, rest)
  pub says : reading line.word line.numbers ≡ Some a

-- what a line says, with what stands behind it
abbrev pub said : {A : Type 0} → (LineWord → List ℤ → Option A) → Line × List ℕ → Option (A × List ℕ)
said reading x = option_map (paired x.1) (reading x.0.word x.0.numbers)

pub front_is : {A : Type 0} (reading : LineWord → List ℤ → Option A) (text : List ℕ) (a : A) (rest : List ℕ) → front reading text ≡ Some (a, rest) → IsSaid reading text a rest
unfolding front
front_is {A} reading text a rest e = by (front_line text) refl e
  where
    by : (o : Option (Line × List ℕ)) → front_line text ≡ o → option_and_then (said reading) o ≡ some (a, rest) → IsSaid reading text a rest
    by None at e = absurd cc
    by (Some x) at e =
        let m = map_some (paired x.1) (reading x.0.word x.0.numbers) (a, rest) e in
        record {
          line = x.0;
          at_front = at ∙ ap (λ (p : A × List ℕ). some (x.0, p.1)) m.2;
          says = m.1 ∙ ap (λ (p : A × List ℕ). some p.0) m.2;
        }

pub front_shorter : {A : Type 0} (reading : LineWord → List ℤ → Option A) (text : List ℕ) (a : A) (rest : List ℕ) → front reading text ≡ Some (a, rest) → length rest < length text
front_shorter reading text a rest e = let is = front_is reading text a rest e in front_line_shorter text is.line rest is.at_front

-- nothing stands at the front of an empty text
pub front_empty : {A : Type 0} (reading : LineWord → List ℤ → Option A) (text : List ℕ) → length text ≡ 0 → front reading text ≡ None
front_empty {A} reading text empty = by (front reading text) refl
  where
    by : (o : Option (A × List ℕ)) → front reading text ≡ o → o ≡ None
    by None e = refl
    by (Some x) e = absurd (omega (arith, front_shorter reading text x.0 x.1 e))

-- what a reading says, changed
pub front_map : {A B : Type 0} (f : A → B) (reading : LineWord → List ℤ → Option A) (text : List ℕ) → front (λ word numbers. option_map f (reading word numbers)) text ≡ option_map (changed f) (front reading text)
unfolding front
front_map {A} {B} f reading text = by (front_line text)
  where
    inner : (rest : List ℕ) (o : Option A) → option_map (paired rest) (option_map f o) ≡ option_map (changed f) (option_map (paired rest) o)
    inner rest None = refl
    inner rest (Some a) = refl

    by : (o : Option (Line × List ℕ)) → option_and_then (said (λ word numbers. option_map f (reading word numbers))) o ≡ option_map (changed f) (option_and_then (said reading) o)
    by None = refl
    by (Some x) = inner x.1 (reading x.0.word x.0.numbers)

-- the line at the front, from its word and numbers
pub front_line_known : (text : List ℕ) (o : Option (texts.Line × List ℕ)) → o ≡ texts.front texts.numbered text → option_and_then (λ (x : texts.Line × List ℕ). option_map (paired x.1) (known x.0)) o ≡ front_line text
unfolding front_line
front_line_known text o e = ap (option_and_then (λ (x : texts.Line × List ℕ). option_map (paired x.1) (known x.0))) e ∙ sym (front_then known texts.numbered text)
