use Rattle.std.proofs.Common.{◌&&◌, not, Bool, List, ap, sym, ◌∙◌}
use Rattle.map_base.specs.declared.ids.LineId.{LineId}
use Rattle.poster_rules.specs.Stations.{has_line}
use Rattle.poster_picture.specs.Sheets.{plain}
use Rattle.poster_picture.proofs.Gathering.{stand_met, stand_passed}
use Rattle.poster_picture.proofs.stations.put_line.Goals as goal

pub returns-then-not-is_new : goal.returns-then-not-is_new
returns-then-not-is_new c =
    let seen = c.args.seen.now.items in
    let test : List LineId → Bool = λ ls. has_line c.args.line c.args.callers.now && not (has_line c.args.line ls) in
    stand_passed (plain c.args.sheet) c.args.n.0 c.args.callers.now seen c.args.path.now.items (record { seg = c.args.s.0; line = c.args.line }) (sym (c.is_new.ensures ∙ ap test c.as_slice.ensures.value) ∙ c.if-not-is_new.true)

pub returns : goal.returns
returns c =
    let seen = c.args.seen.now.items in
    let test : List LineId → Bool = λ ls. has_line c.args.line c.args.callers.now && not (has_line c.args.line ls) in
    stand_met (plain c.args.sheet) c.args.n.0 c.args.callers.now seen c.push.new.self.items c.args.path.now.items c.put_foot.new.path.items c.in_ok-foot.foot (record { seg = c.args.s.0; line = c.args.line })
    (sym (c.is_new.ensures ∙ ap test c.as_slice.ensures.value) ∙ c.if-not-is_new.false) c.in_ok-push.ensures.items c.in_ok-put_foot.ensures c.in_ok-foot.ensures
