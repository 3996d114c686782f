-- A command as a piece of work: it reads inputs one after another, and comes to a result or a refusal. An input is
-- a role that a file has for the command.
use Rattle.std.specs.Prelude.{◌≡◌, ℕ, List, [], ◌∷◌, Option, Result, Ok, Err}

-- a piece of work: it has come to its end, or it reads an input and goes on by the bytes of that file, if it is there
pub data Work (Input Refusal A : Type 0) : Type 0 where
  ends : Result A Refusal → Work Input Refusal A
  reads : Input → (Option (List ℕ) → Work Input Refusal A) → Work Input Refusal A

-- one piece of work after another: the second by what the first gives, unless that is refused
infixl 10 ◌>>=◌
abbrev pub ◌>>=◌ : {Input Refusal A B : Type 0} → Work Input Refusal A → (A → Work Input Refusal B) → Work Input Refusal B
(ends (Ok value)) >>= next = next value
(ends (Err refusal)) >>= next = ends (Err refusal)
(reads input rest) >>= next = reads input (λ file. rest file >>= next)

-- what the work comes to where each input gives this
abbrev pub outcome : {Input Refusal A : Type 0} → Work Input Refusal A → (Input → Option (List ℕ)) → Result A Refusal
outcome (ends result) given = result
outcome (reads input rest) given = outcome (rest (given input)) given

-- an input that was read, with the bytes of its file, if it was there
abbrev pub Seen : Type 0 → Type 0
Seen Input = Input × Option (List ℕ)

-- The work comes to this result where the inputs that it reads give this, in order. An input that is read twice may
-- give two things. It ends early where an input can't be read, with the refusal that stands for that.
abbrev pub Runs : {Input Refusal A : Type 0} → (Input → Refusal) → Work Input Refusal A → List (Seen Input) → Result A Refusal → Type 0
Runs unread (ends defined) [] result = result ≡ defined
Runs unread (ends defined) (one ∷ more) result = ⊥
Runs unread (reads input rest) [] result = result ≡ Err (unread input)
Runs unread (reads input rest) (one ∷ more) result = (one.0 ≡ input) × Runs unread (rest one.1) more result
