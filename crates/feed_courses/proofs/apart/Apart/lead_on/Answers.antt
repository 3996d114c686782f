use Rattle.std.proofs.Common.{sym, subst, List}
use Rattle.map_base.specs.declared.point.Point.{Point}
use Rattle.feed_courses.specs.Runs.{AreKept}
use Rattle.feed_courses.proofs.RunLemmas.{kept_led}
use Rattle.feed_courses.proofs.apart.Apart.lead_on.Goals as goal

pub invariant_of-self : goal.invariant_of-self
invariant_of-self c =
    subst (λ (taken : List Point). AreKept taken c.insert.new.self) (sym c.self.view_is)
    (kept_led c.args.self.now c.self.inside.past c.insert.new.self c.args.point c.args.next c.in-Some.after (subst (λ (taken : List Point). AreKept taken c.self.inside.past) c.self.view_is c.self.invariant) c.requires.leads c.in-Some.ensures
    c.in_ok-insert.ensures.updates.0)
