-- The entries of a settings file, one at a time.
use Rattle.std.proofs.Common.{◌≡◌, ℕ, Bool, true, false, List, [], ◌∷◌, map, Option, Some, None, option_map, Result, Ok, Err, String, Global, Less, Greater, nat_cmp, string_bytes, refl, sym, ap, ◌∙◌, cond}
use Rattle.std.proofs.lemmas.Cmp.{nat_list_cmp_total}
use Rattle.std.proofs.lemmas.Map.Keys.{sorted_head}
use Rattle.std.proofs.lemmas.Option.{same_Some, none-some}
use Rattle.std.specs.Cmp.Lexicographic.{slice_cmp}
use Rattle.std.specs.List.{filter, AllByRecursion}
use Rattle.std.specs.List.Sorted.{IsStrictlySortedBy}
use Rattle.std.specs.Map.{keys_of}
use Rattle.std.specs.Option.{is_none}
use Rattle.std.specs.Ordering.{is_lt, ordering_reverse}
use Rattle.std.specs.String.{string_cmp}
use Rattle.map_method.specs.declared.map_settings.MapSettings.{MapSettings}
use Rattle.toml.specs.Data.{Data}
use Rattle.toml.specs.View.{view, members_view}
use Rattle.toml.specs.declared.value.Value.{Value}
use Rattle.map_settings.specs.declared.fault.SettingsWhy.{SettingsWhy}
use Rattle.map_settings.specs.declared.fault.SettingsWhy.TheVariants.{Key}
use Rattle.map_settings.specs.declared.fault.SettingsFault.{SettingsFault}
use Rattle.map_settings.specs.declared.fault.SettingsFault.TheVariants as settings
use Rattle.map_settings.specs.Tables.{entries}
use Rattle.map_settings.specs.Entries.{Change, change_of}
use Rattle.map_settings.specs.Outcome.{is_bad, bad_keys, lesser, least, after, changed, unless_bad, entries_outcome}
use Rattle.map_settings.specs.Faults.{Names, Reads}
use Rattle.map_settings.proofs.TableLemmas.{entry_view, entries-members_view}

abbrev pub Entry : Type 0
Entry = String Global × Value

abbrev Data_entry : Type 0
Data_entry = List ℕ × Data

-- the bad keys of an entry that changes this, and of others
abbrev bad_by : Data_entry → List Data_entry → Option Change → List (List ℕ)
bad_by entry rest o = map (λ (e : Data_entry). e.0) (cond (is_none o) (entry ∷ filter is_bad rest) (filter is_bad rest))

good_by : (entry : Data_entry) (rest : List Data_entry) (o : Option Change) (old new : MapSettings) → change_of entry ≡ o
    → option_map (λ (change : Change). change old) o ≡ Some new
    → (bad_keys rest ≡ bad_keys (entry ∷ rest)) × (after rest new ≡ after (entry ∷ rest) old)
good_by entry rest None old new is e = absurd (none-some _ e)
good_by entry rest (Some change) old new is e =
    (sym (ap (bad_by entry rest) is), sym (ap (λ o. after rest (changed o old)) is ∙ ap (after rest) (same_Some (change old) new e)))

-- an entry that changes the choices
pub good_entry : (entry : Entry) (left : List Entry) (text : List ℕ) (old new : MapSettings) → text ≡ string_bytes entry.0
    → option_map (λ (change : Change). change old) (change_of (text, view entry.1)) ≡ Some new
    → (bad_keys (map entry_view left) ≡ bad_keys (map entry_view (entry ∷ left))) × (after (map entry_view left) new ≡ after (map entry_view (entry ∷ left)) old)
good_entry entry left text old new named e =
    let now : option_map (λ (change : Change). change old) (change_of (entry_view entry)) ≡ Some new =
    sym (ap (λ t. option_map (λ (change : Change). change old) (change_of (t, view entry.1))) named) ∙ e in
    good_by (entry_view entry) (map entry_view left) (change_of (entry_view entry)) old new refl now

-- ---- the least bad key

-- the text, if there is one, is above another
abbrev Above : List ℕ → Option (List ℕ) → Type 0
Above key None = Unit {0}
Above key (Some other) = slice_cmp nat_cmp key other ≡ Less

lesser_by : (b : Bool) (key text other : List ℕ) → slice_cmp nat_cmp key text ≡ Less → slice_cmp nat_cmp key other ≡ Less
    → slice_cmp nat_cmp key (cond b other text) ≡ Less
lesser_by true key text other h i = i
lesser_by false key text other h i = h

lesser-above : (key text : List ℕ) (o : Option (List ℕ)) → slice_cmp nat_cmp key text ≡ Less → Above key o → slice_cmp nat_cmp key (lesser text o) ≡ Less
lesser-above key text None h a = h
lesser-above key text (Some other) h a = lesser_by (is_lt (slice_cmp nat_cmp other text)) key text other h a

above_by : (b : Bool) (key : List ℕ) (entry : Data_entry) (rest : List Data_entry) → slice_cmp nat_cmp key entry.0 ≡ Less → Above key (least (bad_keys rest))
    → Above key (least (map (λ (e : Data_entry). e.0) (cond b (entry ∷ filter is_bad rest) (filter is_bad rest))))
above_by true key entry rest h a = lesser-above key entry.0 (least (bad_keys rest)) h a
above_by false key entry rest h a = a

-- the bad keys of entries above a key are above it
above : (key : List ℕ) (file : List Entry) → AllByRecursion (λ (y : String Global). slice_cmp nat_cmp key (string_bytes y) ≡ Less) (keys_of file)
    → Above key (least (bad_keys (map entry_view file)))
above key [] h = tt
above key (entry ∷ file) h =
    above_by (is_bad (entry_view entry)) key (entry_view entry) (map entry_view file) h.0 (above key file h.1)

lesser-first : (key : List ℕ) (o : Option (List ℕ)) → Above key o → lesser key o ≡ key
lesser-first key None a = refl
lesser-first key (Some other) a =
    let greater : slice_cmp nat_cmp other key ≡ Greater = nat_list_cmp_total.antisymm other key ∙ ap ordering_reverse a in
    ap (λ o. cond (is_lt o) other key) greater

-- the first bad key of rising keys is the least
first_bad : (entry : Entry) (left : List Entry) → change_of (entry_view entry) ≡ None → IsStrictlySortedBy string_cmp (keys_of (entry ∷ left))
    → least (bad_keys (map entry_view (entry ∷ left))) ≡ Some (string_bytes entry.0)
first_bad entry left bad s =
    ap (λ o. least (bad_by (entry_view entry) (map entry_view left) o)) bad
    ∙ ap Some (lesser-first (string_bytes entry.0) (least (bad_keys (map entry_view left))) (above (string_bytes entry.0) left (sorted_head string_cmp entry.0 (keys_of left) s)))

-- an entry that changes nothing
pub bad_entry : (base : MapSettings) (entry : Entry) (left file : List Entry) (text : List ℕ) → text ≡ string_bytes entry.0 → change_of (text, view entry.1) ≡ None
    → IsStrictlySortedBy string_cmp (keys_of (entry ∷ left)) → bad_keys (map entry_view (entry ∷ left)) ≡ bad_keys (map entry_view file)
    → entries_outcome base (entries (members_view file)) ≡ Err (Key text)
bad_entry base entry left file text named bad s same =
    let here : change_of (entry_view entry) ≡ None = sym (ap (λ t. change_of (t, view entry.1)) named) ∙ bad in
    let some : least (bad_keys (map entry_view file)) ≡ Some text = sym (ap least same) ∙ first_bad entry left here s ∙ ap Some (sym named) in
    ap (entries_outcome base) (entries-members_view file) ∙ ap (λ o. unless_bad o (after (map entry_view file) base)) some

-- no entry is left
pub good_file : (base : MapSettings) (left file : List Entry) (settings : MapSettings) → left ≡ [] → bad_keys (map entry_view left) ≡ bad_keys (map entry_view file)
    → after (map entry_view left) settings ≡ after (map entry_view file) base
    → entries_outcome base (entries (members_view file)) ≡ Ok settings
good_file base left file settings none same made =
    let no_key : least (bad_keys (map entry_view file)) ≡ None = sym (ap least same) ∙ ap (λ es. least (bad_keys (map entry_view es))) none in
    let is : after (map entry_view file) base ≡ settings = sym made ∙ ap (λ es. after (map entry_view es) settings) none in
    ap (entries_outcome base) (entries-members_view file) ∙ ap (λ o. unless_bad o (after (map entry_view file) base)) no_key ∙ ap Ok is

-- a fault that names the least bad key
pub reads_named : (fault : SettingsFault) (key : List ℕ) (outcome : Result MapSettings SettingsWhy) → Names fault key → outcome ≡ Err (Key key)
    → Reads (Err fault) outcome
reads_named (settings.Bad why) key outcome named e = e ∙ ap Err (sym named)
reads_named settings.NoMemory key outcome named e = tt
