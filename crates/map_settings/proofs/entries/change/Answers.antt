use Rattle.std.proofs.Common.{sym, ◌∙◌}
use Rattle.toml.specs.View.{view}
use Rattle.map_settings.proofs.ChangeLemmas.{defaults_changed, method_changed, settings_changed}
use Rattle.map_settings.proofs.entries.change.Goals as goal

pub returns-then-names_defaults : goal.returns-then-names_defaults
returns-then-names_defaults c =
    defaults_changed c.args.all.now c.change_defaults.new.defaults c.change_defaults.result c.args.key.now (view c.args.value.now)
    (sym c.names_defaults.ensures ∙ c.if-names_defaults.true) c.change_defaults.ensures

pub returns-then-is_of_method : goal.returns-then-is_of_method
returns-then-is_of_method c =
    method_changed c.args.all.now c.change_method.new.method c.change_method.result c.args.key.now (view c.args.value.now)
    (sym c.names_defaults.ensures ∙ c.if-names_defaults.false) (sym c.is_of_method.ensures ∙ c.if-is_of_method.true) c.change_method.ensures

pub returns : goal.returns
returns c =
    settings_changed c.args.all.now c.change_settings.new.settings c.change_settings.result c.args.key.now (view c.args.value.now)
    (sym c.names_defaults.ensures ∙ c.if-names_defaults.false) (sym c.is_of_method.ensures ∙ c.if-is_of_method.false) c.change_settings.ensures
