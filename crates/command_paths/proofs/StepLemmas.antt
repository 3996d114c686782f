-- The values of `--set`, by the first word.
use Rattle.std.proofs.Common.{◌≡◌, ℕ, Bool, true, false, List, [], ◌∷◌, codes, drop, length, map, nat_eq, refl, sym, ap, subst, ◌∙◌}
use Rattle.std.proofs.Common.{Option, None, Some, option_map, String, string_bytes, if◌then◌else◌, MatchOption}
use Rattle.std.proofs.lemmas.Str.Pattern.{starts_text}
use Rattle.std.specs.Str.Pattern.{FindsTextPrefix, StripsPrefix}
use Rattle.std.specs.declared.alloc.Global.{Global}
use Rattle.std.specs.Str.{IsCharBoundary, bytes_eq}
use Rattle.std.specs.List.{starts_with}
use Rattle.command_paths.specs.Sets.{set_joined, sets_from, sets_in, sets_of, with_set}
use denote.Ref.{Bor}

-- what `strip_prefix` gives
pub stripped : (r : Option (Bor (List ℕ))) (n s : List ℕ)
    → MatchOption r (FindsTextPrefix n s None) (λ x. StripsPrefix (FindsTextPrefix n) s x.now)
    → option_map (λ x. x.now) r ≡ (if starts_with nat_eq s n then Some (drop (length n) s) else None)
stripped None n s none = ap (λ (b : Bool). if b then Some (drop (length n) s) else None) (starts_text false n s none)
stripped (Some x) n s (k, found, rest, long) =
    ap Some (rest ∙ ap (λ (m : ℕ). drop m s) found.0)
    ∙ ap (λ (b : Bool). if b then Some (drop (length n) s) else None)
    (starts_text true n s (k, found, subst (λ (m : ℕ). IsCharBoundary s m) (sym found.0) found.2))

-- a word by its two tests
abbrev by_end : List ℕ → List (List ℕ) → Bool → Bool → List (List ℕ)
by_end word more end set = if end then [] else if set then sets_from true more else with_set (set_joined word) (sets_in more)

by_tests : (word : List ℕ) (more : List (List ℕ)) (end set : Bool) → bytes_eq word (codes "--") ≡ end
    → bytes_eq word (codes "--set") ≡ set → sets_in (word ∷ more) ≡ by_end word more end set
by_tests word more end set is_end is_set =
    ap (λ (b : Bool). by_end word more b (bytes_eq word (codes "--set"))) is_end ∙ ap (λ (b : Bool). by_end word more end b) is_set

module _ (rest words more : List (String Global)) (word : String Global) (left : sets_of rest ≡ sets_of words)
    (is : rest ≡ word ∷ more) where
  first : sets_of words ≡ sets_in (string_bytes word ∷ map string_bytes more)
  first = sym left ∙ ap sets_of is

  -- `--`: there are none
  pub at_end : bytes_eq (string_bytes word) (codes "--") ≡ true → sets_of words ≡ []
  at_end end = first ∙ by_tests (string_bytes word) (map string_bytes more) true _ end refl

  module _ (end : bytes_eq (string_bytes word) (codes "--") ≡ false) where
    -- `--set`: the next word is one
    pub at_set : bytes_eq (string_bytes word) (codes "--set") ≡ true → sets_of words ≡ sets_from true (map string_bytes more)
    at_set set = first ∙ by_tests (string_bytes word) (map string_bytes more) false true end set

    -- another word: what stands behind `--set=` is one
    pub at_other : bytes_eq (string_bytes word) (codes "--set") ≡ false
        → sets_of words ≡ with_set (set_joined (string_bytes word)) (sets_of more)
    at_other set = first ∙ by_tests (string_bytes word) (map string_bytes more) false false end set
