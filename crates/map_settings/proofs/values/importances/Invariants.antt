use Rattle.std.proofs.Common.{◌≡◌, ℕ, List, map, All}
use Rattle.map_base.specs.Settings.{IsImportance}
use Rattle.map_settings.specs.Values.{importance_at, of_each}
use Rattle.map_settings.proofs.EachLemmas.{with_rest}
use Rattle.map_settings.proofs.TableLemmas.{entry_view}
use Rattle.map_settings.proofs.values.importances.Given as goal

-- the pairs so far, in front of those of the entries that are left, are those of all
abbrev pub invariant-loop-id : goal.invariant-loop-id
invariant-loop-id l =
    (All (λ (p : List ℕ × ℕ). IsImportance p.1) l.pairs.items)
    × (with_rest l.pairs.items (of_each importance_at (map entry_view l.id-iterator)) ≡ of_each importance_at (map entry_view l.lines.entries))
