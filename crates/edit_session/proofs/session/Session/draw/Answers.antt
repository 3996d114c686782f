use Rattle.std.proofs.Common.{◌+◌, ◌≤◌, List, All, Contains, ap, subst, ◌∙◌}
use Rattle.map_base.specs.Settings.{Choices}
use Rattle.transit_feed.specs.Feeds.{Feed}
use Rattle.kept_trees.specs.OwnTrees.{HeldPart}
use Rattle.map_edits.specs.Effects.{edited}
use Rattle.graph_maps.specs.Making.{bytes_of, Gives}
use Rattle.map_engine.specs.Making.{make_outcome}
use Rattle.map_engine.specs.Keeping.{branches_left}
use Rattle.edit_session.specs.Sessions.{SessionState, draw_outcome, branches_to_draw}
use Rattle.edit_session.proofs.session.Session.draw.Goals as goal

pub returns-clause-outcome : goal.returns-clause-outcome
returns-clause-outcome g c =
    let made = c.in_ok-tables.ensures ∙ ap (edited c.self.inside.tables c.self.inside.settings) c.as_slice-standing.ensures.value in
    subst (λ (s : SessionState). Gives bytes_of c.make_again.result (draw_outcome s)) c.self.view_is
    (subst (λ (both : Feed × Choices). Gives bytes_of c.make_again.result (make_outcome both.0 both.1 c.self.inside.method)) made c.make_again.ensures.outcome)

pub returns-clause-kept : goal.returns-clause-kept
returns-clause-kept g c = subst (λ (held : List HeldPart). All (Contains c.make_again.new.kept) held) (ap (λ (s : SessionState). s.held) c.self.view_is) c.make_again.ensures.kept

pub returns-clause-steps : goal.returns-clause-steps
returns-clause-steps g c =
    let made = c.in_ok-tables.ensures ∙ ap (edited c.self.inside.tables c.self.inside.settings) c.as_slice-standing.ensures.value in
    subst (λ (s : SessionState). c.make_again.new.steps ≤ c.args.steps.now + branches_to_draw s) c.self.view_is
    (subst (λ (both : Feed × Choices). c.make_again.new.steps ≤ c.args.steps.now + branches_left c.self.inside.kept both.0 both.1 c.self.inside.method) made c.make_again.ensures.steps)
