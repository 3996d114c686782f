use Rattle.std.proofs.Common.{◌≡◌, ℕ, List, ◌++◌, OnOk, inl, inr, map, string_bytes, subst}
use Rattle.poster_rules.specs.Elements.{Name, RimOfName}
use Rattle.poster_rules.specs.Posters.{ending_of}
use Rattle.poster_picture.proofs.Wholes.{name_alone, name_over}
use Rattle.poster_picture.proofs.names.push_name.Goals as goal

pub returns-in_ok-push_alone-in-Over : goal.returns-in_ok-push_alone-in-Over
returns-in_ok-push_alone-in-Over c =
    let endings = map (ending_of c.args.names.now) c.args.lines.now in
    name_over c.args.step (RimOfName c.args.spot c.args.step c.args.name.now endings) (Name c.args.spot c.args.step c.args.name.now endings) (string_bytes c.args.text.now) (string_bytes c.push_rim.new.text) (string_bytes c.push_alone.new.text)
    c.in-Over.is c.in_ok-push_rim-in-Over.ensures c.in_ok-push_alone-in-Over.ensures

pub returns-in-Full : goal.returns-in-Full
returns-in-Full c =
    let endings = map (ending_of c.args.names.now) c.args.lines.now in
    subst (λ (bytes : List ℕ). OnOk c.push_alone-in-Full.result (string_bytes c.push_alone-in-Full.new.text ≡ string_bytes c.args.text.now ++ bytes))
    (name_alone c.args.step (RimOfName c.args.spot c.args.step c.args.name.now endings) (Name c.args.spot c.args.step c.args.name.now endings) (inl c.in-Full.is)) c.push_alone-in-Full.ensures

pub returns-in-Small : goal.returns-in-Small
returns-in-Small c =
    let endings = map (ending_of c.args.names.now) c.args.lines.now in
    subst (λ (bytes : List ℕ). OnOk c.push_alone-in-Small.result (string_bytes c.push_alone-in-Small.new.text ≡ string_bytes c.args.text.now ++ bytes))
    (name_alone c.args.step (RimOfName c.args.spot c.args.step c.args.name.now endings) (Name c.args.spot c.args.step c.args.name.now endings) (inr c.in-Small.is)) c.push_alone-in-Small.ensures
