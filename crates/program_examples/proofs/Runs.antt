-- The definitions at small cases.
use Rattle.std.proofs.Common.{◌≡◌, ℕ, List, [], ◌∷◌, Option, None, Some, Ok, Err, codes, inl, inr, unwrap_or, length, refl, arith}
use Rattle.files_door.specs.declared.target.Target.TheVariants.{Said, Path}
use Rattle.command_run.specs.declared.output.Output.{Output}
use Rattle.command_run.specs.Work.{Work, ends, reads, ◌>>=◌, outcome, Runs}
use Rattle.command_run.specs.Told.{file_of, Agree}
use Rattle.command_run.specs.Delivered.{line_acts}
use Rattle.command_run.specs.Held.{held_after, line_outputs, IsBeginning}

-- how long a file is, where it is there
size : ℕ → Work ℕ ℕ ℕ
size input = reads input (λ file. ends (Ok (length (unwrap_or file []))))

-- the sizes of two files; the second is refused with 9 where the first is empty
both : Work ℕ ℕ (ℕ × ℕ)
both = reads 1 (λ first. some_first first)
  where
    some_first : Option (List ℕ) → Work ℕ ℕ (ℕ × ℕ)
    some_first None = ends (Err 9)
    some_first (Some bytes) = reads 2 (λ second. ends (Ok (length bytes, length (unwrap_or second []))))

-- two inputs of one path
one_path : ℕ → List ℕ
one_path input = codes "a"

-- told files give both inputs one file
told_alike : outcome both (file_of ((codes "a", 5 ∷ 6 ∷ []) ∷ []) one_path) ≡ Ok (2, 2)
unfolding both one_path
told_alike = refl

-- a missing file is refused before the other is read
told_missing : outcome both (file_of [] one_path) ≡ Err 9
unfolding both one_path
told_missing = refl

missing_is_read_alone : Runs (λ i. i) both ((1, None) ∷ []) (Err 9)
unfolding both
missing_is_read_alone = (refl, refl)

-- files that are not told may give two things at one path
apart : Runs (λ i. i) both ((1, Some (5 ∷ [])) ∷ (2, Some (5 ∷ 6 ∷ [])) ∷ []) (Ok (1, 2))
unfolding both
apart = (refl, (refl, refl))

-- and files that are told may not
not_told : Agree (file_of ((codes "a", 5 ∷ []) ∷ []) one_path) ((1, Some (5 ∷ [])) ∷ (2, Some (5 ∷ 6 ∷ [])) ∷ []) → ⊥
unfolding one_path
not_told agree =
    let given : Option (List ℕ) = Some (5 ∷ 6 ∷ []) in
    let same : given ≡ Some (5 ∷ []) = agree.1.0 in
    absurd (cc)

-- the second input can't be read
unread_second : Runs (λ i. i) both ((1, Some (5 ∷ [])) ∷ []) (Err 2)
unfolding both
unread_second = (refl, refl)

-- an input that comes later can't be left unread first
not_unread_first : Runs (λ i. i) both [] (Err 2) → ⊥
unfolding both
not_unread_first runs =
    let first : ℕ = 1 in
    let second : ℕ = 2 in
    let same : second ≡ first = cc in
    absurd (omega (arith, same))

-- two pieces one after the other
in_a_row : outcome (size 1 >>= λ n. size n) (λ input. Some (7 ∷ 8 ∷ 9 ∷ [])) ≡ Ok 3
unfolding size
in_a_row = refl

picture : Output
picture = record { to = Path (codes "p"); bytes = 1 ∷ 2 ∷ [] }

certificate : Output
certificate = record { to = Path (codes "c"); bytes = 3 ∷ 4 ∷ [] }

part_of : Output → List ℕ → Output
part_of output bytes = record { to = output.to; bytes = bytes }

-- an empty line is not printed, and standard output not begun for it
no_line : line_acts [] ≡ []
no_line = refl

-- outputs that are whole
whole : IsBeginning (picture ∷ certificate ∷ []) (picture ∷ certificate ∷ [])
whole = (refl, inl (refl, (refl, inl (refl, tt))))

-- the second is begun where the first is whole
cut_in_second : IsBeginning (picture ∷ part_of certificate (3 ∷ []) ∷ []) (picture ∷ certificate ∷ [])
unfolding part_of picture certificate
cut_in_second = (refl, inl (refl, (refl, inr (1, refl, refl))))

cut_in_first : IsBeginning (part_of picture [] ∷ []) (picture ∷ certificate ∷ [])
unfolding part_of picture certificate
cut_in_first = (refl, inr (0, refl, refl))

-- a file is emptied as it is begun, and standard output keeps what it held
file_is_emptied : held_after (Path (codes "p")) (picture ∷ certificate ∷ []) (Some (8 ∷ 8 ∷ [])) ≡ Some (1 ∷ 2 ∷ [])
unfolding picture certificate
file_is_emptied = refl

said_is_kept : held_after Said (line_outputs (codes "x")) (Some (codes "y")) ≡ Some (codes "yx")
said_is_kept = refl

-- a target that no output has stays as it was
others_stay : held_after (Path (codes "q")) (picture ∷ certificate ∷ []) None ≡ None
unfolding picture certificate
others_stay = refl
