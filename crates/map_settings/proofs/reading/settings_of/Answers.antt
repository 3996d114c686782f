use Rattle.std.proofs.Common.{◌≡◌, ◌∷◌, map, sym, ap, subst, ◌∙◌}
use Rattle.std.proofs.lemmas.Map.Keys.{sorted_tail}
use Rattle.std.specs.List.Sorted.{IsStrictlySortedBy}
use Rattle.std.specs.Map.{keys_of}
use Rattle.std.specs.String.{string_cmp}
use Rattle.toml.specs.View.{view, table_view}
use Rattle.map_settings.specs.Entries.{change_of}
use Rattle.map_settings.specs.Tables.{entries}
use Rattle.map_settings.specs.Outcome.{after, bad_keys, entries_outcome}
use Rattle.map_settings.proofs.TableLemmas.{entry_view}
use Rattle.map_settings.proofs.KeyLemmas.{Entry, good_entry, bad_entry, good_file, reads_named}
use Rattle.map_settings.proofs.reading.settings_of.Goals as goal

pub loop-key-preserved : goal.loop-key-preserved
loop-key-preserved c =
    let entry : Entry = (c.in-Some.key.now, c.in-Some.value.now) in
    let left = c.next.new.self in
    let (sorted, bad, made) = c.loop-key.invariant in
    let steps : c.loop-key.key-iterator ≡ entry ∷ left = c.in-Some.ensures.steps in
    let (same, next) = good_entry entry left c.as_str.result.now c.loop-key.settings c.change.new.all c.as_str.ensures.value c.in-Ok.ensures in (
      sorted_tail string_cmp entry.0 (keys_of left) (subst (λ es. IsStrictlySortedBy string_cmp (keys_of es)) steps sorted),
      same ∙ sym (ap (λ es. bad_keys (map entry_view es)) steps) ∙ bad,
      next ∙ sym (ap (λ es. after (map entry_view es) c.loop-key.settings) steps) ∙ made,
    )

pub returns-in-Err-Bad : goal.returns-in-Err-Bad
returns-in-Err-Bad c =
    let entry : Entry = (c.in-Some.key.now, c.in-Some.value.now) in
    let left = c.next.new.self in
    let (sorted, bad, made) = c.loop-key.invariant in
    let steps : c.loop-key.key-iterator ≡ entry ∷ left = c.in-Some.ensures.steps in
    let text = c.as_str-in-Err-Bad.result.now in
    let nothing = rw c.in-Err-Bad.field-0-is at c.in-Err-Bad.ensures in
    reads_named c.bad_key.result text (entries_outcome c.args.base (entries (table_view c.args.table.now))) c.bad_key.ensures
    (bad_entry c.args.base entry left c.args.table.now.entries text c.as_str-in-Err-Bad.ensures.value
    (ap (λ t. change_of (t, view entry.1)) (c.as_str-in-Err-Bad.ensures.value ∙ sym c.as_str.ensures.value) ∙ nothing)
    (subst (λ es. IsStrictlySortedBy string_cmp (keys_of es)) steps sorted)
    (sym (ap (λ es. bad_keys (map entry_view es)) steps) ∙ bad))

pub returns : goal.returns
returns c =
    let (sorted, bad, made) = c.loop-key.invariant in
    good_file c.args.base c.loop-key.key-iterator c.args.table.now.entries c.loop-key.settings c.in-None.ensures.steps.0 bad made
