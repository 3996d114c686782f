use Rattle.std.proofs.Common.{◌≡◌, false, take}
use Rattle.std.specs.Prelude.{bytes_eq}
use Rattle.std.specs.List.{list_any}
use Rattle.message_texts.specs.declared.setting_key.SettingKey.{SettingKey}
use Rattle.message_texts.specs.Keys.{key_name}
use Rattle.message_texts.proofs.KeyLemmas.{all_keys}
use Rattle.message_texts.proofs.setting_key.SettingKey.named.Given as goal

-- none so far is written so
abbrev pub invariant-loop-key : goal.invariant-loop-key
invariant-loop-key l = list_any (λ (k : SettingKey). bytes_eq (key_name k) l.text) (take l.key-index all_keys) ≡ false
