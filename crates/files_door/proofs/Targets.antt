-- Targets that are the same, and what each one holds after a change.
use Rattle.std.proofs.Common.{◌≡◌, ℕ, Bool, true, false, cond, List, [], ◌∷◌, ◌++◌, Option, None, Some, is_some, unwrap_or, refl, sym, ap, ◌∙◌, append-nil, append_assoc}
use Rattle.std.proofs.lemmas.Slice.Eq.{bytes_eq-Decides}
use Rattle.std.specs.Option.{option_map, option_or}
use Rattle.files_door.specs.declared.target.Target.{Target}
use Rattle.files_door.specs.declared.target.Target.TheVariants.{Said, Path}
use Rattle.files_door.specs.Targets.{same_target, Written, held_by}
use Rattle.files_door.specs.Acts.{change, begin_target, kept_by, append_to, puts, after}

pub same_target-refl : (t : Target) → same_target t t ≡ true
same_target-refl Said = refl
same_target-refl (Path a) = (bytes_eq-Decides a a).1 refl

pub from_same_target : (t u : Target) → same_target t u ≡ true → t ≡ u
from_same_target Said Said h = refl
from_same_target Said (Path b) h = cc
from_same_target (Path a) Said h = cc
from_same_target (Path a) (Path b) h = ap Path ((bytes_eq-Decides a b).0 h)

abbrev pub with_entry : Bool → Target → (List ℕ → List ℕ) → Target × List ℕ → Written → Written
with_entry same t step entry entries = cond same ((entry.0, step entry.1) ∷ entries) (entry ∷ change t step entries)

-- nothing changes
pub change_same : (t : Target) (step : List ℕ → List ℕ) → ((held : List ℕ) → step held ≡ held) → (w : Written) → change t step w ≡ w
change_same t step same [] = refl
change_same t step same (entry ∷ entries) = at (same_target entry.0 t) (change_same t step same entries)
  where
    at : (b : Bool) → change t step entries ≡ entries → with_entry b t step entry entries ≡ entry ∷ entries
    at true rest = ap (λ (held : List ℕ). (entry.0, held) ∷ entries) (same entry.1)
    at false rest = ap (λ (w : Written). entry ∷ w) rest

-- one change after the other
change-change : (t : Target) (first second : List ℕ → List ℕ) (w : Written) → change t second (change t first w) ≡ change t (λ held. second (first held)) w
change-change t first second [] = refl
change-change t first second (entry ∷ entries) = at (same_target entry.0 t) refl (change-change t first second entries)
  where
    at : (b : Bool) → same_target entry.0 t ≡ b → change t second (change t first entries) ≡ change t (λ held. second (first held)) entries
        → change t second (with_entry b t first entry entries) ≡ with_entry b t (λ held. second (first held)) entry entries
    at true same rest = ap (λ (b : Bool). with_entry b t second (entry.0, first entry.1) entries) same
    at false same rest = ap (λ (b : Bool). with_entry b t second entry (change t first entries)) same ∙ ap (λ (w : Written). entry ∷ w) rest

change_alike : (t : Target) (step other : List ℕ → List ℕ) → ((held : List ℕ) → step held ≡ other held) → (w : Written) → change t step w ≡ change t other w
change_alike t step other same [] = refl
change_alike t step other same (entry ∷ entries) = at (same_target entry.0 t) (change_alike t step other same entries)
  where
    at : (b : Bool) → change t step entries ≡ change t other entries → with_entry b t step entry entries ≡ with_entry b t other entry entries
    at true rest = ap (λ (held : List ℕ). (entry.0, held) ∷ entries) (same entry.1)
    at false rest = ap (λ (w : Written). entry ∷ w) rest

-- bytes that are put one by one are appended
pub after-puts : (t : Target) (bytes : List ℕ) (w : Written) → after (puts (Some t) bytes) w ≡ append_to t bytes w
after-puts t [] w = sym (change_same t (λ held. held ++ []) append-nil w)
after-puts t (byte ∷ bytes) w =
    after-puts t bytes (append_to t (byte ∷ []) w)
    ∙ change-change t (λ held. held ++ byte ∷ []) (λ held. held ++ bytes) w
    ∙ change_alike t (λ held. (held ++ byte ∷ []) ++ bytes) (λ held. held ++ byte ∷ bytes) (λ held. append_assoc held (byte ∷ []) bytes) w

differ : false ≡ true → ⊥
differ e = cc

pub same_target-symm : (t u : Target) → same_target t u ≡ false → same_target u t ≡ false
same_target-symm t u h = at (same_target u t) refl
  where
    at : (b : Bool) → same_target u t ≡ b → same_target u t ≡ false
    at true same = absurd (differ (sym h ∙ ap (λ (v : Target). same_target t v) (from_same_target u t same) ∙ same_target-refl t))
    at false same = same

-- what a target holds after a change of one
abbrev changed : Bool → (List ℕ → List ℕ) → Option (List ℕ) → Option (List ℕ)
changed same step held = cond same (option_map step held) held

pub held_by-change : (t u : Target) (step : List ℕ → List ℕ) (w : Written) → held_by u (change t step w) ≡ cond (same_target t u) (option_map step (held_by u w)) (held_by u w)
held_by-change t u step [] = none (same_target t u)
  where
    none : (b : Bool) → None ≡ changed b step None
    none true = refl
    none false = refl
held_by-change t u step (entry ∷ entries) = at (same_target entry.0 t) refl (held_by-change t u step entries)
  where
    here : (b : Bool) → cond b (Some (step entry.1)) (held_by u entries) ≡ changed b step (cond b (Some entry.1) (held_by u entries))
    here true = refl
    here false = refl

    there : (b : Bool) → same_target entry.0 u ≡ b → same_target entry.0 t ≡ false → held_by u (change t step entries) ≡ changed (same_target t u) step (held_by u entries)
        → cond b (Some entry.1) (held_by u (change t step entries)) ≡ changed (same_target t u) step (cond b (Some entry.1) (held_by u entries))
    there true same other rest =
        let apart : same_target t u ≡ false = same_target-symm u t (ap (λ (v : Target). same_target v t) (sym (from_same_target entry.0 u same)) ∙ other) in
        ap (λ (b : Bool). changed b step (Some entry.1)) (sym apart)
    there false same other rest = rest

    at : (b : Bool) → same_target entry.0 t ≡ b → held_by u (change t step entries) ≡ changed (same_target t u) step (held_by u entries)
        → held_by u (with_entry b t step entry entries) ≡ changed (same_target t u) step (held_by u (entry ∷ entries))
    at true same rest =
        let is : same_target entry.0 u ≡ same_target t u = ap (λ (v : Target). same_target v u) (from_same_target entry.0 t same) in
        here (same_target entry.0 u) ∙ ap (λ (b : Bool). changed b step (held_by u (entry ∷ entries))) is
    at false same rest = there (same_target entry.0 u) refl same rest

-- what a target holds after bytes were put to one
pub held_by-append_to : (t u : Target) (bytes : List ℕ) (w : Written) → held_by u (append_to t bytes w) ≡ cond (same_target t u) (option_map (λ held. held ++ bytes) (held_by u w)) (held_by u w)
held_by-append_to t u bytes w = held_by-change t u (λ held. held ++ bytes) w

held_by-push : (t u : Target) (w : Written) → held_by u (w ++ (t, []) ∷ []) ≡ option_or (held_by u w) (cond (same_target t u) (Some []) None)
held_by-push t u [] = refl
held_by-push t u (entry ∷ entries) = at (same_target entry.0 u) (held_by-push t u entries)
  where
    at : (b : Bool) → held_by u (entries ++ (t, []) ∷ []) ≡ option_or (held_by u entries) (cond (same_target t u) (Some []) None)
        → cond b (Some entry.1) (held_by u (entries ++ (t, []) ∷ [])) ≡ option_or (cond b (Some entry.1) (held_by u entries)) (cond (same_target t u) (Some []) None)
    at true rest = refl
    at false rest = rest

kept_by-nil : (t : Target) → kept_by t [] ≡ []
kept_by-nil Said = refl
kept_by-nil (Path path) = refl

-- what a target holds after one was begun
pub held_by-begin_target : (t u : Target) (w : Written) → held_by u (begin_target t w) ≡ cond (same_target t u) (Some (kept_by t (unwrap_or (held_by u w) []))) (held_by u w)
held_by-begin_target t u w = at (is_some (held_by t w)) refl
  where
    there : (b : Bool) (held : Option (List ℕ)) → (b ≡ true → is_some held ≡ true) → changed b (kept_by t) held ≡ cond b (Some (kept_by t (unwrap_or held []))) held
    there true None some = absurd (let e : false ≡ true = some refl in cc)
    there true (Some bytes) some = refl
    there false held some = refl

    new : (b : Bool) (held : Option (List ℕ)) → (b ≡ true → is_some held ≡ false) → option_or held (cond b (Some []) None) ≡ cond b (Some (kept_by t (unwrap_or held []))) held
    new true None none = ap Some (sym (kept_by-nil t))
    new true (Some bytes) none = absurd (let e : true ≡ false = none refl in cc)
    new false None none = refl
    new false (Some bytes) none = refl

    of_u : same_target t u ≡ true → is_some (held_by u w) ≡ is_some (held_by t w)
    of_u same = ap (λ (v : Target). is_some (held_by v w)) (sym (from_same_target t u same))

    at : (b : Bool) → is_some (held_by t w) ≡ b → held_by u (cond b (change t (kept_by t) w) (w ++ (t, []) ∷ [])) ≡ cond (same_target t u) (Some (kept_by t (unwrap_or (held_by u w) []))) (held_by u w)
    at true some = held_by-change t u (kept_by t) w ∙ there (same_target t u) (held_by u w) (λ same. of_u same ∙ some)
    at false none = held_by-push t u w ∙ new (same_target t u) (held_by u w) (λ same. of_u same ∙ none)
