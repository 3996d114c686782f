use Rattle.std.proofs.Common.{◌≡◌, sym, ◌∙◌, ap, ◌*◌, true, ◌&&◌}
use Rattle.track_net.proofs.Finding.{found_where_near}
use Rattle.net_paths.specs.Corridors.{CorridorParts, is_in_corridor}
use Rattle.net_paths.proofs.corridor.Corridor.holds_both.Goals as goal

pub returns : goal.returns
returns c =
    let v = c.args.self.now in
    let here : is_in_corridor v.near v.samples c.args.here.point ≡ true =
    sym (found_where_near (4 * v.near) v.samples c.args.here.point c.args.here.sample c.requires.sample) ∙ c.if-is_none.ensures in
    c.is_some.ensures ∙ found_where_near (4 * c.self.inside.near) c.self.inside.samples.points c.args.there c.near_point-found.result c.near_point-found.ensures
    ∙ ap (λ (w : CorridorParts). is_in_corridor w.near w.samples c.args.there) c.self.view_is ∙ sym (ap (λ b. b && is_in_corridor v.near v.samples c.args.there) here)
