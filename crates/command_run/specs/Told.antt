-- Work over files that are told, and over files that are not.
use Rattle.std.specs.Prelude.{◌≡◌, ℕ, List, [], ◌∷◌, Option, Result, IfSome}
use Rattle.files_door.specs.Files.{file_at}
use Rattle.command_run.specs.Work.{Work, Seen, Runs}

-- what each input gives, by the files and the paths of the inputs
abbrev pub file_of : {Input : Type 0} → List (List ℕ × List ℕ) → (Input → List ℕ) → Input → Option (List ℕ)
file_of files paths input = file_at files (paths input)

-- each input gave what it gives by this
abbrev pub Agree : {Input : Type 0} → (Input → Option (List ℕ)) → List (Seen Input) → Type 0
Agree given [] = Unit {0}
Agree given (one ∷ more) = (one.1 ≡ given one.0) × Agree given more

-- each input gave the file of its path; where the files are not told, each may have given anything
abbrev pub AreTold : {Input : Type 0} → Option (List (List ℕ × List ℕ)) → (Input → List ℕ) → List (Seen Input) → Type 0
AreTold told paths seen = IfSome told (λ files. Agree (file_of files paths) seen)

-- the work comes to this result over the files
pub record IsRun {Input Refusal A : Type 0} (unread : Input → Refusal) (told : Option (List (List ℕ × List ℕ))) (paths : Input → List ℕ) (work : Work Input Refusal A) (result : Result A Refusal) : Type 0 where
  pub seen : List (Seen Input)
  pub are_told : AreTold told paths seen
  pub runs : Runs unread work seen result
