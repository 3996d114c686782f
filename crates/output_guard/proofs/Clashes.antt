-- Where the paths of a clash come from.
use Rattle.std.proofs.Common.{◌≡◌, ℕ, List, [], ◌∷◌, ◌++◌, Contains, Option, None, Some, Result, Ok, Err, IfOk, IfSome, ap, subst, ◌∙◌, append_assoc}
use Rattle.std.proofs.lemmas.List.Elements.{Contains-append_left}
use Rattle.output_guard.specs.declared.clash.Clash.{Clash}
use Rattle.output_guard.specs.Guarded.{IsAmong}

-- an output is one file with one of some paths, and these and what is left are what is read and the outputs
pub is_among : (outputs left before read : List (List ℕ)) (clash : Clash) → before ++ left ≡ read ++ outputs → Contains outputs clash.output → Contains before clash.other → IsAmong outputs read clash
is_among outputs left before read clash split output other =
    (output, subst (λ (paths : List (List ℕ)). Contains paths clash.other) split (Contains-append_left before left clash.other other))

-- one path more stands before what is left
pub one_more : (read before left : List (List ℕ)) (path : List ℕ) → before ≡ read ++ path ∷ [] → before ++ left ≡ read ++ path ∷ left
one_more read before left path is = ap (λ (paths : List (List ℕ)). paths ++ left) is ∙ append_assoc read (path ∷ []) left

-- what two facts say of a clash that is found
pub of_found : {E : Type 0} (found : Result (Option Clash) E) (P Q R : Clash → Type 0) → ((clash : Clash) → P clash → Q clash → R clash)
    → IfOk found (λ (f : Option Clash). IfSome f P) → IfOk found (λ (f : Option Clash). IfSome f Q) → IfOk found (λ (f : Option Clash). IfSome f R)
of_found (Ok (Some clash)) P Q R both p q = both clash p q
of_found (Ok None) P Q R both p q = tt
of_found (Err fault) P Q R both p q = tt
