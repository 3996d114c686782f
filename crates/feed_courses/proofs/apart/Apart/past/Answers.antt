use Rattle.std.proofs.Common.{sym, ◌∙◌, subst, List, Option}
use Rattle.std.specs.HashMap.{get}
use Rattle.map_base.specs.declared.point.Point.{Point}
use Rattle.shape_track.specs.Samples.{is_point}
use Rattle.feed_courses.specs.Runs.{LeadsPast}
use Rattle.feed_courses.proofs.apart.Apart.past.Goals as goal

pub returns : goal.returns
returns c =
    subst (λ (o : Option Point). LeadsPast c.args.self.now c.args.point o) (sym (c.copied.ensures ∙ c.get.ensures.value))
    (subst (λ (taken : List Point). LeadsPast taken c.args.point (get is_point c.self.inside.past c.args.point)) c.self.view_is (c.self.invariant.leads c.args.point))
