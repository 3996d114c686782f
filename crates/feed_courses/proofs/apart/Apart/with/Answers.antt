use Rattle.std.proofs.Common.{◌≡◌, ◌∙◌, ap, subst, List, [], ◌∷◌, ◌++◌}
use Rattle.map_base.specs.declared.point.Point.{Point}
use Rattle.feed_courses.specs.Runs.{AreKept}
use Rattle.feed_courses.proofs.RunLemmas.{IsInPlane-moved, kept_more, with_point-is}
use Rattle.feed_courses.proofs.apart.Apart.with.Goals as goal

pub right_of-next-requires : goal.right_of-next-requires
right_of-next-requires c =
    let run = c.in_ok-free.ensures.run in
    IsInPlane-moved c.args.self c.args.point c.in_ok-free.free run.0 c.requires.on_earth run.1 c.requires.few

pub invariant_of-self : goal.invariant_of-self
invariant_of-self c =
    let run = c.in_ok-free.ensures.run in
    let same : c.self.inside.points.items ≡ c.args.self = c.self.view_is ∙ c.in_ok-free.ensures.same in
    let kept : AreKept c.args.self c.self.inside.past = subst (λ (taken : List Point). AreKept taken c.self.inside.past) same c.self.invariant in
    kept_more c.args.self c.push.new.self.items c.self.inside.past c.insert.new.self c.args.point c.in_ok-free.free c.right_of-next.result run.0 kept c.requires.on_earth c.requires.few run.1 c.in_ok-free.ensures.free
    c.right_of-next.ensures c.in_ok-insert.ensures.updates.0 (c.in_ok-push.ensures.items ∙ ap (λ taken. taken ++ c.in_ok-free.free ∷ []) same)

pub returns : goal.returns
returns c =
    let run = c.in_ok-free.ensures.run in
    let same : c.self.inside.points.items ≡ c.args.self = c.self.view_is ∙ c.in_ok-free.ensures.same in
    c.in_ok-push.ensures.items ∙ ap (λ taken. taken ++ c.in_ok-free.free ∷ []) same ∙ with_point-is run.0 c.args.self c.args.point c.in_ok-free.free run.1 c.in_ok-free.ensures.free
