-- Settings after what is set, one text after another.
use Rattle.std.proofs.Common.{◌≡◌, ℕ, List, [], ◌∷◌, Result, Ok, Err, refl, sym, ap, subst, ◌∙◌}
use Rattle.map_method.specs.declared.defaults.Defaults.{Defaults}
use Rattle.map_method.specs.declared.map_settings.MapSettings.{MapSettings}
use Rattle.map_method.specs.Defaults.{default_choices}
use Rattle.map_settings.specs.declared.fault.SettingsWhy.{SettingsWhy}
use Rattle.map_settings.specs.declared.fault.SettingsFault.{SettingsFault}
use Rattle.map_settings.specs.declared.fault.SettingsFault.TheVariants as fault
use Rattle.map_settings.specs.Faults.{Reads}
use Rattle.map_settings.specs.Outcome.{over_named, set_outcome, sets_outcome}

abbrev Texts : Type 0
Texts = List (List ℕ)

abbrev Read : Type 0
Read = Result MapSettings SettingsWhy

-- a refusal stays
sets_refused : (sets : Texts) (why : SettingsWhy) → sets_outcome sets (Err why) ≡ Err why
sets_refused [] why = refl
sets_refused (text ∷ more) why = refl

-- the first text makes other settings, and the others go on from these
pub next_taken : (sets behind : Texts) (set : List ℕ) (old new : MapSettings) (final : Read) → sets ≡ set ∷ behind
    → set_outcome old set ≡ Ok new → sets_outcome sets (Ok old) ≡ final → sets_outcome behind (Ok new) ≡ final
next_taken sets behind set old new final is taken before =
    ap (sets_outcome behind) (sym taken) ∙ sym (ap (λ (s : Texts). sets_outcome s (Ok old)) is) ∙ before

-- the first text is refused
pub next_refused : (sets behind : Texts) (set : List ℕ) (old : MapSettings) (why : SettingsFault) (final : Read) → sets ≡ set ∷ behind
    → Reads (Err why) (set_outcome old set) → sets_outcome sets (Ok old) ≡ final → Reads (Err why) final
next_refused sets behind set old (fault.Bad why) final is refused before =
    sym before ∙ ap (λ (s : Texts). sets_outcome s (Ok old)) is ∙ ap (sets_outcome behind) refused ∙ sets_refused behind why
next_refused sets behind set old fault.NoMemory final is refused before = tt

-- no text is left
pub none_left : (sets : Texts) (settings : MapSettings) (final : Read) → sets ≡ [] → sets_outcome sets (Ok settings) ≡ final
    → final ≡ Ok settings
none_left sets settings final none before = sym before ∙ ap (λ (s : Texts). sets_outcome s (Ok settings)) none

-- texts go on from what a file makes
pub reads_after : (sets : Texts) (base : MapSettings) (file : Read) (result : Result MapSettings SettingsFault) → file ≡ Ok base
    → Reads result (sets_outcome sets (Ok base)) → Reads result (sets_outcome sets file)
reads_after sets base file result made reads = subst (λ (f : Read). Reads result (sets_outcome sets f)) (sym made) reads

-- and are not looked at where it is refused
pub refused_before : (sets : Texts) (why : SettingsFault) (file : Read) → Reads (Err why) file → Reads (Err why) (sets_outcome sets file)
refused_before sets (fault.Bad why) file refused = ap (sets_outcome sets) refused ∙ sets_refused sets why
refused_before sets fault.NoMemory file refused = tt

-- where texts are refused at first, they are refused
pub refused_first : (texts : Texts) (why : SettingsFault) (first : Read) → Reads (Err why) first → Reads (Err why) (over_named texts first)
refused_first texts (fault.Bad why) first refused = ap (over_named texts) refused
refused_first texts fault.NoMemory first refused = tt

-- and else read over the settings of the command that they name
pub read_over : (texts : Texts) (all : MapSettings) (first : Read) (result : Result MapSettings SettingsFault) → first ≡ Ok all
    → Reads result (sets_outcome texts (Ok (default_choices all.defaults))) → Reads result (over_named texts first)
read_over texts all first result is reads = subst (λ (r : Read). Reads result (over_named texts r)) (sym is) reads

-- where they name the command over whose settings they were read, nothing changes
pub read_once : (texts : Texts) (defaults : Defaults) (all : MapSettings) → sets_outcome texts (Ok (default_choices defaults)) ≡ Ok all
    → all.defaults ≡ defaults → over_named texts (sets_outcome texts (Ok (default_choices defaults))) ≡ Ok all
read_once texts defaults all is same =
    ap (over_named texts) is ∙ ap (λ (d : Defaults). sets_outcome texts (Ok (default_choices d))) same ∙ is
