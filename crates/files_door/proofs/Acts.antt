-- Acts one after the other, and no act at all.
use Rattle.std.proofs.Common.{◌≡◌, ℕ, ◌+◌, List, [], ◌∷◌, ◌++◌, take, drop, Option, None, Some, refl, sym, ap, ◌∙◌, subst}
use Rattle.std.proofs.lemmas.List.{map-append}
use Rattle.std.proofs.Math.Seq.{take-add}
use Rattle.std.specs.Option.{option_map}
use Rattle.files_door.specs.declared.target.Target.{Target}
use Rattle.files_door.specs.Targets.{Written}
use Rattle.files_door.specs.Acts.{Act, put, after, after_act, puts, Does}

-- acts one after the other
pub after-append : (acts more : List Act) (written : Written) → after (acts ++ more) written ≡ after more (after acts written)
after-append [] more written = refl
after-append (act ∷ acts) more written = after-append acts more (after_act act written)

-- no act changes nothing
pub Does-nil : (written : Option Written) → Does [] written written
Does-nil None = refl
Does-nil (Some written) = refl

pub from_Does-nil : (old new : Option Written) → Does [] old new → new ≡ old
from_Does-nil old new does = does ∙ sym (Does-nil old)

pub Does-append : (acts more : List Act) (old mid new : Option Written) → Does acts old mid → Does more mid new → Does (acts ++ more) old new
Does-append acts more None mid new first second = second ∙ ap (option_map (after more)) first
Does-append acts more (Some written) mid new first second = second ∙ ap (option_map (after more)) first ∙ ap Some (sym (after-append acts more written))

-- bytes one after the other
pub puts-append : (target : Option Target) (xs ys : List ℕ) → puts target (xs ++ ys) ≡ puts target xs ++ puts target ys
puts-append None xs ys = refl
puts-append (Some target) xs ys = map-append (λ byte. put target byte) xs ys

-- one more piece of the bytes that are left
pub Does-more : (target : Option Target) (bytes : List ℕ) (done count : ℕ) (old mid new : Option Written)
    → Does (puts target (take done bytes)) old mid → Does (puts target (take count (drop done bytes))) mid new → Does (puts target (take (done + count) bytes)) old new
Does-more target bytes done count old mid new first second =
    let same : puts target (take done bytes) ++ puts target (take count (drop done bytes)) ≡ puts target (take (done + count) bytes) =
    sym (puts-append target (take done bytes) (take count (drop done bytes))) ∙ ap (puts target) (sym (take-add done count bytes)) in
    subst (λ (acts : List Act). Does acts old new) same (Does-append (puts target (take done bytes)) (puts target (take count (drop done bytes))) old mid new first second)
