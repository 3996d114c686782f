use Rattle.std.proofs.Common.{◌≡◌, map}
use Rattle.std.specs.List.Sorted.{IsStrictlySortedBy}
use Rattle.std.specs.Map.{keys_of}
use Rattle.std.specs.String.{string_cmp}
use Rattle.map_settings.specs.Outcome.{after, bad_keys}
use Rattle.map_settings.proofs.TableLemmas.{entry_view}
use Rattle.map_settings.proofs.reading.settings_of.Given as goal

-- no key so far was bad, and the entries that are left make of the settings so far what all make
abbrev pub invariant-loop-key : goal.invariant-loop-key
invariant-loop-key l =
    IsStrictlySortedBy string_cmp (keys_of l.key-iterator)
    × (bad_keys (map entry_view l.key-iterator) ≡ bad_keys (map entry_view l.table.entries))
    × (after (map entry_view l.key-iterator) l.settings ≡ after (map entry_view l.table.entries) l.fn.base)
