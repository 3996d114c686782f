use Rattle.std.proofs.Common.{◌≡◌, true, rules}
use Rattle.std.proofs.lemmas.List.Elements.{All-same}
use Rattle.map_edits.specs.Effects.{IsInRange}
use Rattle.map_edits.specs.Standing.{named_in, is_due, after_edit}
use Rattle.edit_session.specs.Sessions.{IsStanding}
use Rattle.edit_session.proofs.SessionLemmas.{still_standing}
use Rattle.edit_session.proofs.session.Session.edit.Goals as goal

pub invariant_of-self-2 : goal.invariant_of-self-2
invariant_of-self-2 c =
    let range : IsInRange c.args.edit = search rules in
    let due : is_due (named_in c.self.inside.tables) c.self.inside.standing.items c.args.edit ≡ true = cc in
    All-same (IsStanding (named_in c.self.inside.tables)) c.stand.new.standing.items (after_edit c.self.inside.standing.items c.args.edit) c.in_ok-stand.ensures.stands
    (still_standing c.self.inside.tables c.self.inside.standing.items c.args.edit c.self.invariant range due)
