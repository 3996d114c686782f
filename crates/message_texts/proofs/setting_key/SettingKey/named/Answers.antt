use Rattle.std.proofs.Common.{sym, ap, ◌∙◌, arith}
use Rattle.std.specs.Prelude.{bytes_eq}
use Rattle.std.specs.List.{list_any}
use Rattle.std.proofs.lemmas.List.{take_all}
use Rattle.message_texts.specs.declared.setting_key.SettingKey.{SettingKey}
use Rattle.message_texts.specs.declared.setting_key.SettingKey.TheVariants.{Types}
use Rattle.message_texts.specs.Keys.{key_name}
use Rattle.message_texts.proofs.KeyLemmas.{all_keys, no_key, none_more}
use Rattle.message_texts.proofs.setting_key.SettingKey.named.Goals as goal

pub loop-key-preserved : goal.loop-key-preserved
loop-key-preserved c =
    none_more key_name c.args.text.now all_keys c.loop-key.key-index Types c.name.result.now c.eq.result c.loop-key-test.true c.loop-key.invariant c.name.ensures c.eq.ensures c.if-eq.false

pub returns-clause-none : goal.returns-clause-none
returns-clause-none c =
    no_key c.args.text.now
    (sym (ap (list_any (λ (k : SettingKey). bytes_eq (key_name k) c.args.text.now)) (take_all c.loop-key.key-index all_keys (omega arith))) ∙ c.loop-key.invariant)
