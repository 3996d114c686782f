use Rattle.std.proofs.Common.{◌≡◌, ◌∙◌, Bool, true, false, ◌||◌, List, [], ◌∷◌, ◌++◌, map, refl, ap, if◌then◌else◌}
use Rattle.std.specs.List.{list_any}
use Rattle.std.proofs.lemmas.List.{map-append}
use Rattle.gtfs_tables.specs.declared.pattern_set.PatternKey.{PatternKey}
use Rattle.gtfs_tables.specs.Patterns.{is_same_pattern}
use Rattle.gtfs_tables.specs.PatternKeys.{pattern_of_key}
use Rattle.table_rows.specs.Firsts.{with_new}
use Rattle.gtfs_tables.proofs.pattern_set.PatternSet.note.Goals as goal

-- a test of keys that is one of their patterns
module _ (test : PatternKey → Bool) (key : PatternKey) (same : (k : PatternKey) → test k ≡ is_same_pattern (pattern_of_key key) (pattern_of_key k)) where
  any_key : (keys : List PatternKey) → list_any test keys ≡ list_any (is_same_pattern (pattern_of_key key)) (map pattern_of_key keys)
  any_key [] = refl
  any_key (k ∷ keys) = ap (λ b. b || list_any test keys) (same k) ∙ ap (λ rest. is_same_pattern (pattern_of_key key) (pattern_of_key k) || rest) (any_key keys)

  noted_key : (keys : List PatternKey) → map pattern_of_key (if list_any test keys then keys else keys ++ key ∷ []) ≡ with_new is_same_pattern (map pattern_of_key keys) (pattern_of_key key)
  noted_key keys = by (list_any test keys) ∙ ap (λ b. if b then map pattern_of_key keys else map pattern_of_key keys ++ pattern_of_key key ∷ []) (any_key keys)
    where
      by : (b : Bool) → map pattern_of_key (if b then keys else keys ++ key ∷ []) ≡ (if b then map pattern_of_key keys else map pattern_of_key keys ++ pattern_of_key key ∷ [])
      by true = refl
      by false = map-append pattern_of_key keys (key ∷ [])

pub returns : goal.returns
returns c =
    ap (map pattern_of_key) c.in_ok-insert.ensures.keys
    ∙ noted_key _ c.args.key (λ k. refl) c.self.inside.held.keys
    ∙ ap (λ patterns. with_new is_same_pattern patterns (pattern_of_key c.args.key)) c.self.view_is
