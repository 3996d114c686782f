-- What calls answer beside what comes by definition; want of memory is free in each.
use Rattle.std.specs.Prelude.{◌≡◌, List, ℕ, String, Option, Some, None, option_map, Result, Ok, Err}
use Rattle.std.specs.BTreeMap.{BTreeMap}
use Rattle.std.specs.declared.alloc.Global.{Global}
use Rattle.map_method.specs.declared.map_settings.MapSettings.{MapSettings}
use Rattle.toml.specs.Data.{Members}
use Rattle.toml.specs.View.{table_view}
use Rattle.toml.specs.declared.value.Value.{Value}
use Rattle.map_settings.specs.declared.fault.SettingsWhy.{SettingsWhy}
use Rattle.map_settings.specs.declared.fault.SettingsWhy.TheVariants.{NotToml, Key}
use Rattle.map_settings.specs.declared.fault.SettingsFault.{SettingsFault}
use Rattle.map_settings.specs.declared.fault.SettingsFault.TheVariants as settings
use Rattle.map_settings.specs.declared.fault.EntryFault.{EntryFault}
use Rattle.map_settings.specs.declared.fault.EntryFault.TheVariants as entry

-- the settings are those that come by definition, or the file is refused as it says
abbrev pub Reads : Result MapSettings SettingsFault → Result MapSettings SettingsWhy → Type 0
Reads (Ok settings) outcome = outcome ≡ Ok settings
Reads (Err (settings.Bad why)) outcome = outcome ≡ Err why
Reads (Err settings.NoMemory) outcome = Unit {0}

-- the table is the one that comes by definition, or there is none and the file is no TOML
abbrev pub ReadsTable : Result (BTreeMap (String Global) Value) SettingsFault → Option Members → Type 0
ReadsTable (Ok table) outcome = outcome ≡ Some (table_view table)
ReadsTable (Err (settings.Bad why)) outcome = (outcome ≡ None) × (why ≡ NotToml)
ReadsTable (Err settings.NoMemory) outcome = Unit {0}

-- the fault names this key
abbrev pub Names : SettingsFault → List ℕ → Type 0
Names (settings.Bad why) key = why ≡ Key key
Names settings.NoMemory key = Unit {0}

-- the value gives this, or by definition nothing
abbrev pub Gives : {A : Type 0} → Result A EntryFault → Option A → Type 0
Gives (Ok x) outcome = outcome ≡ Some x
Gives (Err entry.Bad) outcome = outcome ≡ None
Gives (Err entry.NoMemory) outcome = Unit {0}

-- what was there is changed as an entry says, or by definition the entry changes nothing
abbrev pub Changes : {A : Type 0} → A → A → Result (Unit {0}) EntryFault → Option (A → A) → Type 0
Changes old new (Ok _) outcome = option_map (λ change. change old) outcome ≡ Some new
Changes old new (Err entry.Bad) outcome = outcome ≡ None
Changes old new (Err entry.NoMemory) outcome = Unit {0}
