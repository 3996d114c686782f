-- The definitions at small cases.
use Rattle.std.proofs.Common.{◌≡◌, [], ◌∷◌, Some, Err, ℕ, refl, arith}
use Rattle.files_door.specs.declared.stop.Stop.TheVariants.{Failed, NoMemory}
use Rattle.files_door.specs.declared.target.Target.TheVariants.{Said}
use Rattle.files_door.specs.Targets.{Written}
use Rattle.files_door.specs.Acts.{puts}
use Rattle.command_run.specs.Pieces.{DoesUpTo}

-- what standard output holds
abbrev holds : ℕ → Written
holds byte = (Said, 1 ∷ byte ∷ []) ∷ []

-- a fault leaves a beginning, here one byte of two
one_of_two : DoesUpTo {T = ℕ} (puts (Some Said) (2 ∷ 3 ∷ [])) (Some ((Said, 1 ∷ []) ∷ [])) (Some (holds 2)) (Err Failed)
one_of_two = (1, λ failed. omega arith, refl)

-- and never all of them
not_all : DoesUpTo {T = ℕ} [] (Some []) (Some []) (Err Failed) → ⊥
not_all some = absurd (omega (arith, some.1 refl))

-- memory may run out behind the last one
all_and_no_memory : DoesUpTo {T = ℕ} (puts (Some Said) (2 ∷ [])) (Some ((Said, 1 ∷ []) ∷ [])) (Some (holds 2)) (Err NoMemory)
all_and_no_memory = (1, λ failed. (let other : NoMemory ≡ Failed = failed in absurd (cc)), refl)
