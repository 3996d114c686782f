-- What a settings file makes, from its bytes.
use Rattle.std.specs.Prelude.{ℕ, Bool, List, [], ◌∷◌, map, filter, is_none, Option, Some, None, Result, Ok, Err, if◌then◌else◌}
use Rattle.std.specs.Str.{is_utf8}
use Rattle.std.specs.Ordering.{nat_cmp, is_lt}
use Rattle.std.specs.Cmp.Lexicographic.{slice_cmp}
use Rattle.map_method.specs.declared.defaults.Defaults.{Defaults}
use Rattle.map_method.specs.declared.map_settings.MapSettings.{MapSettings}
use Rattle.map_method.specs.Defaults.{default_choices}
use Rattle.toml.specs.Data.{Data, Members}
use Rattle.toml.specs.Parse.{parse_document}
use Rattle.map_settings.specs.declared.fault.SettingsWhy.{SettingsWhy}
use Rattle.map_settings.specs.declared.fault.SettingsWhy.TheVariants.{NotToml, Key}
use Rattle.map_settings.specs.Tables.{entries}
use Rattle.map_settings.specs.Entries.{Change, change_of}

-- the key is unknown, or its value is of another type or out of range
abbrev pub is_bad : List ℕ × Data → Bool
is_bad entry = is_none (change_of entry)

abbrev pub bad_keys : List (List ℕ × Data) → List (List ℕ)
bad_keys file = map (λ entry. entry.0) (filter is_bad file)

-- the lesser of a text and another, if there is another, byte by byte
abbrev pub lesser : List ℕ → Option (List ℕ) → List ℕ
lesser text None = text
lesser text (Some other) = if is_lt (slice_cmp nat_cmp other text) then other else text

-- the least of texts, byte by byte
abbrev pub least : List (List ℕ) → Option (List ℕ)
least [] = None
least (text ∷ texts) = Some (lesser text (least texts))

-- the settings after a change, if there is one
abbrev pub changed : Option Change → MapSettings → MapSettings
changed None settings = settings
changed (Some change) settings = change settings

-- the settings after the changes of all entries
abbrev pub after : List (List ℕ × Data) → MapSettings → MapSettings
after [] settings = settings
after (entry ∷ file) settings = after file (changed (change_of entry) settings)

-- the settings, unless a key is bad
abbrev pub unless_bad : Option (List ℕ) → MapSettings → Result MapSettings SettingsWhy
unless_bad (Some key) settings = Err (Key key)
unless_bad None settings = Ok settings

-- what the entries of a file make of settings: these with their changes, unless a key is bad; then the least bad key is named
abbrev pub entries_outcome : MapSettings → List (List ℕ × Data) → Result MapSettings SettingsWhy
entries_outcome base file = unless_bad (least (bad_keys file)) (after file base)

-- the table of a TOML document, which is UTF-8
abbrev pub table_outcome : List ℕ → Option Members
table_outcome bytes = if is_utf8 bytes then parse_document bytes else None

-- the entries of a table, if there is one
abbrev pub with_table : MapSettings → Option Members → Result MapSettings SettingsWhy
with_table base None = Err NotToml
with_table base (Some table) = entries_outcome base (entries table)

-- what a text makes of settings: its keys take the place of theirs
abbrev pub set_outcome : MapSettings → List ℕ → Result MapSettings SettingsWhy
set_outcome base bytes = with_table base (table_outcome bytes)

-- what texts make of settings, one after another, or of a refusal: that refusal
abbrev pub sets_outcome : List (List ℕ) → Result MapSettings SettingsWhy → Result MapSettings SettingsWhy
sets_outcome [] settings = settings
sets_outcome (text ∷ more) (Err why) = Err why
sets_outcome (text ∷ more) (Ok base) = sets_outcome more (set_outcome base text)

-- the same texts, over the settings of the command that they name by the key `method`
abbrev pub over_named : List (List ℕ) → Result MapSettings SettingsWhy → Result MapSettings SettingsWhy
over_named texts (Ok all) = sets_outcome texts (Ok (default_choices all.defaults))
over_named texts (Err why) = Err why

-- The settings that texts make, one after another: where a key is missing, those of the command that the key `method` names
-- hold, and where that is missing too, these.
abbrev pub texts_outcome : Defaults → List (List ℕ) → Result MapSettings SettingsWhy
texts_outcome defaults texts = over_named texts (sets_outcome texts (Ok (default_choices defaults)))
