-- A change of the settings, or of how a map is found, or of what holds where keys are missing, as a change of all.
use Rattle.std.proofs.Common.{◌≡◌, Bool, true, false, cond, List, ℕ, Option, Some, None, option_map, Result, Ok, Err, refl, sym, ap, subst, ◌∙◌}
use Rattle.std.proofs.lemmas.Option.{same_Some, none-some}
use Rattle.map_base.specs.Settings.{Choices}
use Rattle.map_method.specs.declared.defaults.Defaults.{Defaults}
use Rattle.map_method.specs.declared.map_settings.MapSettings.{MapSettings}
use Rattle.map_method.specs.Methods.{MethodChoices}
use Rattle.toml.specs.Data.{Data}
use Rattle.map_settings.specs.declared.fault.EntryFault.{EntryFault}
use Rattle.map_settings.specs.declared.fault.EntryFault.TheVariants as entry
use Rattle.map_settings.specs.Values.{defaults_of}
use Rattle.map_settings.specs.Entries.{Change, becomes, change_of, in_defaults, in_method, in_settings, is_of_method, method_change, names_defaults, settings_change}
use Rattle.map_settings.specs.Faults.{Changes}

-- a change of a part is a change of all
lifted : {A : Type 0} (old : MapSettings) (part new : A) (put : A → MapSettings) (lift : (A → A) → Change) → ((change : A → A) → lift change old ≡ put (change part))
    → (result : Result (Unit {0}) EntryFault) (o : Option (A → A)) → Changes part new result o → Changes old (put new) result (option_map lift o)
lifted old part new put lift puts (Ok done) None h = absurd (none-some _ h)
lifted old part new put lift puts (Ok done) (Some change) h = ap Some (puts change ∙ ap put (same_Some (change part) new h))
lifted old part new put lift puts (Err entry.Bad) o h = ap (option_map lift) h
lifted old part new put lift puts (Err entry.NoMemory) o h = tt

-- what an entry changes, by whether its key names the defaults, or says how a map is found
abbrev pub change_by : List ℕ × Data → Bool → Bool → Option Change
change_by entry named of_method =
    cond named (option_map in_defaults (option_map becomes (defaults_of entry.1)))
    (cond of_method (option_map in_method (method_change entry)) (option_map in_settings (settings_change entry)))

other_changed : (old new : MapSettings) (result : Result (Unit {0}) EntryFault) (key : List ℕ) (value : Data) (b : Bool) → names_defaults key ≡ false → is_of_method key ≡ b
    → Changes old new result (change_by (key, value) false b) → Changes old new result (change_of (key, value))
other_changed old new result key value b other is h =
    subst (λ (n : Bool). Changes old new result (change_by (key, value) n (is_of_method key))) (sym other)
    (subst (λ (t : Bool). Changes old new result (change_by (key, value) false t)) (sym is) h)

pub settings_changed : (old : MapSettings) (new : Choices) (result : Result (Unit {0}) EntryFault) (key : List ℕ) (value : Data) → names_defaults key ≡ false → is_of_method key ≡ false
    → Changes old.settings new result (settings_change (key, value)) → Changes old (record old { settings = new }) result (change_of (key, value))
settings_changed old new result key value other none h =
    other_changed old (record old { settings = new }) result key value false other none (lifted old old.settings new (λ (s : Choices). record old { settings = s }) in_settings (λ change. refl) result (settings_change (key, value)) h)

pub method_changed : (old : MapSettings) (new : MethodChoices) (result : Result (Unit {0}) EntryFault) (key : List ℕ) (value : Data) → names_defaults key ≡ false → is_of_method key ≡ true
    → Changes old.method new result (method_change (key, value)) → Changes old (record old { method = new }) result (change_of (key, value))
method_changed old new result key value other one h =
    other_changed old (record old { method = new }) result key value true other one (lifted old old.method new (λ (m : MethodChoices). record old { method = m }) in_method (λ change. refl) result (method_change (key, value)) h)

pub defaults_changed : (old : MapSettings) (new : Defaults) (result : Result (Unit {0}) EntryFault) (key : List ℕ) (value : Data) → names_defaults key ≡ true
    → Changes old.defaults new result (option_map becomes (defaults_of value)) → Changes old (record old { defaults = new }) result (change_of (key, value))
defaults_changed old new result key value one h =
    subst (λ (n : Bool). Changes old (record old { defaults = new }) result (change_by (key, value) n (is_of_method key))) (sym one)
    (lifted old old.defaults new (λ (d : Defaults). record old { defaults = d }) in_defaults (λ change. refl) result (option_map becomes (defaults_of value)) h)
