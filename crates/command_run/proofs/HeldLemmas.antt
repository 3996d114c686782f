-- What each target holds after the acts of outputs.
use Rattle.std.proofs.Common.{◌≡◌, ℕ, zero, suc, ◌+◌, ◌-◌, ◌<◌, ◌≤◌, ◌⊎◌, inl, inr, Bool, true, false, cond, List, [], ◌∷◌, ◌++◌, length, take, map, Option, Some, unwrap_or, refl, sym, ap, ◌∙◌, arith}
use Rattle.std.proofs.Math.Seq.{take-append-add}
use Rattle.std.proofs.lemmas.Bool.{cases_lt}
use Rattle.std.proofs.lemmas.List.{append-nil, take-append-le, take-map, take_all, length-map}
use Rattle.std.proofs.lemmas.Grind.{flat_map-append}
use Rattle.std.specs.Option.{option_map}
use Rattle.files_door.specs.declared.target.Target.{Target}
use Rattle.files_door.specs.declared.target.Target.TheVariants.{Said}
use Rattle.files_door.specs.Targets.{same_target, Written, held_by}
use Rattle.files_door.specs.Acts.{Act, begun, put, puts, begin_target, kept_by, after, Does}
use Rattle.files_door.proofs.Acts.{after-append}
use Rattle.files_door.proofs.Targets.{after-puts, held_by-append_to, held_by-begin_target}
use Rattle.command_run.specs.declared.output.Output.{Output}
use Rattle.command_run.specs.declared.delivery.Ending.{Ending}
use Rattle.command_run.specs.declared.delivery.Ending.TheVariants.{Whole, CutShort, OutOfMemory}
use Rattle.command_run.specs.Delivered.{target_acts, output_acts, outputs_acts, line_acts, no_memory_line, IsDelivered}
use Rattle.command_run.specs.Held.{held_after, line_outputs, IsBeginning, Stands}

-- a target is begun and gets bytes
held_by-target_acts : (to target : Target) (bytes : List ℕ) (written : Written) → held_by target (after (target_acts to bytes) written) ≡ cond (same_target to target) (Some (kept_by to (unwrap_or (held_by target written) []) ++ bytes)) (held_by target written)
held_by-target_acts to target bytes written =
    let begun : Written = begin_target to written in
    ap (held_by target) (after-puts to bytes begun) ∙ held_by-append_to to target bytes begun
    ∙ ap (λ (held : Option (List ℕ)). cond (same_target to target) (option_map (λ h. h ++ bytes) held) held) (held_by-begin_target to target written)
    ∙ by_test (same_target to target)
  where
    by_test : (b : Bool) → cond b (option_map (λ (h : List ℕ). h ++ bytes) (cond b (Some (kept_by to (unwrap_or (held_by target written) []))) (held_by target written))) (cond b (Some (kept_by to (unwrap_or (held_by target written) []))) (held_by target written))
        ≡ cond b (Some (kept_by to (unwrap_or (held_by target written) []) ++ bytes)) (held_by target written)
    by_test true = refl
    by_test false = refl

-- outputs, one after another
pub held_by-outputs : (outputs : List Output) (target : Target) (written : Written) → held_by target (after (outputs_acts outputs) written) ≡ held_after target outputs (held_by target written)
held_by-outputs [] target written = refl
held_by-outputs (output ∷ outputs) target written =
    let first : Written = after (target_acts output.to output.bytes) written in
    ap (held_by target) (after-append (target_acts output.to output.bytes) (outputs_acts outputs) written)
    ∙ held_by-outputs outputs target first
    ∙ ap (held_after target outputs) (held_by-target_acts output.to target output.bytes written)

-- the first acts of an output and of others behind it
inside : (to : Target) (bytes : List ℕ) (rest : List Act) (n : ℕ) → n ≤ length bytes → take n (puts (Some to) bytes ++ rest) ≡ puts (Some to) (take n bytes) ++ []
inside to bytes rest n within =
    take-append-le n (map (put to) bytes) rest (omega (arith, within, length-map bytes (put to))) ∙ take-map (put to) n bytes ∙ sym (append-nil (map (put to) (take n bytes)))

past : (to : Target) (bytes : List ℕ) (rest : List Act) (n : ℕ) → length bytes < n → take n (puts (Some to) bytes ++ rest) ≡ puts (Some to) bytes ++ take (n - length bytes) rest
past to bytes rest n longer =
    let acts : List Act = map (put to) bytes in
    let is : n ≡ length acts + (n - length bytes) = omega (arith, longer, length-map bytes (put to)) in
    ap (λ (i : ℕ). take i (acts ++ rest)) is ∙ take-append-add acts rest (n - length bytes)

-- the first acts of outputs are those of a beginning of the outputs
abbrev pub Cut : List Output → ℕ → Type 0
Cut outputs n = (front : List Output) × IsBeginning front outputs × (take n (outputs_acts outputs) ≡ outputs_acts front)

cut_one : (output : Output) (outputs : List Output) (n : ℕ) → Cut outputs (n - length output.bytes) → (length output.bytes < n) ⊎ (n ≤ length output.bytes) → Cut (output ∷ outputs) (suc n)
cut_one output outputs n rest (inr within) =
    let front : Output = record { to = output.to; bytes = take n output.bytes } in (
      front ∷ [],
      (refl, inr (n, refl, refl)),
      ap (λ (more : List Act). begun output.to ∷ more) (inside output.to output.bytes (outputs_acts outputs) n within),
    )
cut_one output outputs n rest (inl longer) = (
  output ∷ rest.0,
  (refl, inl (refl, rest.1)),
  ap (λ (more : List Act). begun output.to ∷ more)
      (past output.to output.bytes (outputs_acts outputs) n longer ∙ ap (λ (more : List Act). puts (Some output.to) output.bytes ++ more) rest.2),
)

pub cut_of : (outputs : List Output) (n : ℕ) → Cut outputs n
cut_of [] zero = ([], tt, refl)
cut_of [] (suc n) = ([], tt, refl)
cut_of (output ∷ outputs) zero = ([], tt, refl)
cut_of (output ∷ outputs) (suc n) = cut_one output outputs n (cut_of outputs (n - length output.bytes)) (cases_lt (length output.bytes) n)

-- what a target holds after acts that are those of outputs
pub held_by-Does : (acts : List Act) (front : List Output) (old new : Written) → Does acts (Some old) (Some new) → acts ≡ outputs_acts front
    → (target : Target) → held_by target new ≡ held_after target front (held_by target old)
held_by-Does acts front old new does are target =
    let whole : new ≡ after acts old = cc in
    ap (held_by target) (whole ∙ ap (λ (a : List Act). after a old) are) ∙ held_by-outputs front target old

-- the acts of a line are those of an output, or of none
pub line_as_outputs : (line : List ℕ) → line_acts line ≡ outputs_acts (line_outputs line)
line_as_outputs [] = refl
line_as_outputs (byte ∷ bytes) = sym (append-nil (target_acts Said (byte ∷ bytes)))

pub all_begin : (outputs : List Output) → IsBeginning outputs outputs
all_begin [] = tt
all_begin (output ∷ outputs) = (refl, inl (refl, all_begin outputs))

-- outputs are whole, and then comes the line, or its beginning
held_whole : (outputs : List Output) (line : List ℕ) (rose : Type 0) (old new : Written) (n : ℕ) (front : List Output) → Does (outputs_acts outputs ++ take n (line_acts line)) (Some old) (Some new)
    → take n (line_acts line) ≡ outputs_acts front → (target : Target) → held_by target new ≡ held_after target (outputs ++ front) (held_by target old)
held_whole outputs line rose old new n front does are =
    held_by-Does (outputs_acts outputs ++ take n (line_acts line)) (outputs ++ front) old new does
    (ap (λ (a : List Act). outputs_acts outputs ++ a) are ∙ sym (flat_map-append output_acts outputs front))

abbrev pub Standing : List Output → List ℕ → Type 0 → Written → Written → Ending → Type 0
Standing outputs line rose old new ending =
    (standing : List Output) × Stands outputs line rose ending standing × ((target : Target) → held_by target new ≡ held_after target standing (held_by target old))

standing_whole : (outputs : List Output) (line : List ℕ) (rose : Type 0) (old new : Written) (n : ℕ) → (n < length (line_acts line) → rose) → Does (outputs_acts outputs ++ take n (line_acts line)) (Some old) (Some new)
    → (n < length (line_acts line)) ⊎ (length (line_acts line) ≤ n) → Standing outputs line rose old new Whole
standing_whole outputs line rose old new n cause does (inl cut) =
    let front = cut_of (line_outputs line) n in
    let are : take n (line_acts line) ≡ outputs_acts front.0 = ap (take n) (line_as_outputs line) ∙ front.2 in
    (outputs ++ front.0, (front.0, refl, front.1, inr (cause cut)), held_whole outputs line rose old new n front.0 does are)
standing_whole outputs line rose old new n cause does (inr whole) =
    let are : take n (line_acts line) ≡ outputs_acts (line_outputs line) = take_all n (line_acts line) whole ∙ line_as_outputs line in
    (outputs ++ line_outputs line, (line_outputs line, refl, all_begin (line_outputs line), inl refl), held_whole outputs line rose old new n (line_outputs line) does are)

standing_out : (outputs : List Output) (line : List ℕ) (rose : Type 0) (old new : Written) (n m : ℕ) → Does (take n (outputs_acts outputs ++ line_acts line) ++ take m (line_acts no_memory_line)) (Some old) (Some new)
    → Standing outputs line rose old new OutOfMemory
standing_out outputs line rose old new n m does =
    let front = cut_of (outputs ++ line_outputs line) n in
    let last = cut_of (line_outputs no_memory_line) m in
    let whole : outputs_acts outputs ++ line_acts line ≡ outputs_acts (outputs ++ line_outputs line) =
    ap (λ (a : List Act). outputs_acts outputs ++ a) (line_as_outputs line) ∙ sym (flat_map-append output_acts outputs (line_outputs line)) in
    let both : take n (outputs_acts outputs ++ line_acts line) ++ take m (line_acts no_memory_line) ≡ outputs_acts (front.0 ++ last.0) =
    ap (λ (a : List Act). take n a ++ take m (line_acts no_memory_line)) whole
    ∙ ap (λ (a : List Act). take n (outputs_acts (outputs ++ line_outputs line)) ++ take m a) (line_as_outputs no_memory_line)
    ∙ ap (λ (a : List Act). a ++ take m (outputs_acts (line_outputs no_memory_line))) front.2
    ∙ ap (λ (a : List Act). outputs_acts front.0 ++ a) last.2
    ∙ sym (flat_map-append output_acts front.0 last.0) in (
      front.0 ++ last.0,
      (front.0, last.0, refl, front.1, last.1),
      held_by-Does (take n (outputs_acts outputs ++ line_acts line) ++ take m (line_acts no_memory_line)) (front.0 ++ last.0) old new does both,
    )

-- however outputs are delivered
pub standing_of : (outputs : List Output) (line : List ℕ) (rose : Type 0) (old new : Written) (ending : Ending) → IsDelivered outputs line rose (Some old) (Some new) ending → Standing outputs line rose old new ending
standing_of outputs line rose old new Whole delivered =
    standing_whole outputs line rose old new delivered.0 delivered.1 delivered.2 (cases_lt delivered.0 (length (line_acts line)))
standing_of outputs line rose old new CutShort delivered =
    let cut = cut_of outputs delivered.0 in
    (cut.0, (delivered.1, cut.1), held_by-Does (take delivered.0 (outputs_acts outputs)) cut.0 old new delivered.3 cut.2)
standing_of outputs line rose old new OutOfMemory delivered = standing_out outputs line rose old new delivered.0 delivered.1 delivered.2

-- a beginning of later outputs, behind whole ones
pub begin-append : (outputs front more : List Output) → IsBeginning front more → IsBeginning (outputs ++ front) (outputs ++ more)
begin-append [] front more begins = begins
begin-append (output ∷ outputs) front more begins = (refl, inl (refl, begin-append outputs front more begins))
