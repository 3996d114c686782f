use Rattle.std.proofs.Common.{◌≡◌, ◌++◌, OnOk, string_bytes, sym, subst}
use Rattle.poster_plan.specs.declared.place.Turn.{Turn}
use Rattle.poster_rules.specs.Elements.{turn_text}
use Rattle.poster_picture.proofs.pieces.push_turn.Goals as goal

pub returns-in-Level : goal.returns-in-Level
returns-in-Level c =
    subst (λ (t : Turn). OnOk c.push_level.result (string_bytes c.push_level.new.text ≡ string_bytes c.args.text.now ++ turn_text t c.args.at c.args.step)) (sym c.in-Level.is) c.push_level.ensures

pub returns-in-Rising : goal.returns-in-Rising
returns-in-Rising c =
    subst (λ (t : Turn). OnOk c.push_turned.result (string_bytes c.push_turned.new.text ≡ string_bytes c.args.text.now ++ turn_text t c.args.at c.args.step)) (sym c.in-Rising.is) c.push_turned.ensures

pub returns-in-Falling : goal.returns-in-Falling
returns-in-Falling c =
    subst (λ (t : Turn). OnOk c.push_turned-in-Falling.result (string_bytes c.push_turned-in-Falling.new.text ≡ string_bytes c.args.text.now ++ turn_text t c.args.at c.args.step)) (sym c.in-Falling.is) c.push_turned-in-Falling.ensures
