use Rattle.std.proofs.Common.{◌≡◌, sym, subst, ℕ, List, All}
use Rattle.track_net.specs.Nets.{NetParts, IsNet}
use Rattle.track_net.specs.Laws.{HasOwnDirections, JoinsStations}
use Rattle.feed_courses.specs.Fit.{AreFit, AreServed}
use Rattle.feed_courses.specs.declared.courses.Course.{Course}
use Rattle.feed_courses.specs.declared.courses.Courses.{Courses}
use Rattle.line_graph.specs.Outcome.{all_samples, net_of_courses}
use Rattle.line_graph.specs.Premises.{HasHops}
use Rattle.line_graph.proofs.LegFacts.{all_have_hops}
use Rattle.line_graph.proofs.Whole.{AreReady, asked_told, ways_told, passages_told, network_told, are_passages_told, kept_told}
use Rattle.line_graph.proofs.network.network.Goals as goal

ready : (near lines : ℕ) (courses : Courses) (net : NetParts) → IsNet net → AreFit near courses → AreServed lines courses → net ≡ net_of_courses near courses → HasOwnDirections net →
    JoinsStations near courses.points (all_samples courses.courses) net → AreReady near lines courses net
ready near lines courses net kept fit served net_is own law = record { kept = kept; fit = fit; served = served; net_is = net_is; own = own; law = law }

pub stretches_of-requires : goal.stretches_of-requires
stretches_of-requires c = subst (λ (courses : List Course). All HasHops courses) (sym c.as_slice.ensures) (all_have_hops c.args.near c.args.courses.now c.requires.fit)

pub ways_over-requires-clause-asked : goal.ways_over-requires-clause-asked
ways_over-requires-clause-asked c =
    asked_told c.args.near c.args.lines c.args.courses.now c.args.net.now c.in_ok-table.table c.as_slice.result.now
    (ready c.args.near c.args.lines c.args.courses.now c.args.net.now c.requires.kept c.requires.fit c.requires.served c.requires.net c.requires.directions c.requires.joined)
    c.in_ok-table.ensures c.as_slice.ensures

pub passages_of-requires : goal.passages_of-requires
passages_of-requires c = subst (λ (courses : List Course). All HasHops courses) (sym c.as_slice-2.ensures) (all_have_hops c.args.near c.args.courses.now c.requires.fit)

pub returns-clause-ways : goal.returns-clause-ways
returns-clause-ways c =
    ways_told c.args.near c.args.net.now c.in_ok-table.table c.as_slice.result.now c.args.courses.now.courses c.in_ok-ways.ways.items c.in_ok-table.ensures c.as_slice.ensures c.in_ok-ways.ensures.ways

pub returns-clause-passages : goal.returns-clause-passages
returns-clause-passages c =
    passages_told c.args.near c.args.net.now c.in_ok-table.table c.as_slice.result.now c.as_slice-2.result.now c.args.courses.now c.in_ok-ways.ways.items c.deref.result.now c.in_ok-passages.passages.items
    c.in_ok-table.ensures c.as_slice.ensures c.as_slice-2.ensures c.in_ok-ways.ensures.ways c.deref.ensures.value c.in_ok-passages.ensures

pub returns-clause-network : goal.returns-clause-network
returns-clause-network c =
    network_told c.args.near c.args.lines c.args.courses.now c.args.net.now c.in_ok-table.table c.as_slice.result.now
    (ready c.args.near c.args.lines c.args.courses.now c.args.net.now c.requires.kept c.requires.fit c.requires.served c.requires.net c.requires.directions c.requires.joined)
    c.in_ok-table.ensures c.as_slice.ensures c.in_ok-ways.ensures.led

pub returns-clause-are_passages : goal.returns-clause-are_passages
returns-clause-are_passages c =
    are_passages_told c.args.near c.args.lines c.args.courses.now c.args.net.now c.in_ok-table.table c.as_slice.result.now
    (ready c.args.near c.args.lines c.args.courses.now c.args.net.now c.requires.kept c.requires.fit c.requires.served c.requires.net c.requires.directions c.requires.joined)
    c.in_ok-table.ensures c.as_slice.ensures c.in_ok-ways.ensures.led

pub returns-clause-kept : goal.returns-clause-kept
returns-clause-kept c =
    kept_told c.args.near c.args.lines c.args.courses.now c.args.net.now c.in_ok-table.table c.as_slice.result.now
    (ready c.args.near c.args.lines c.args.courses.now c.args.net.now c.requires.kept c.requires.fit c.requires.served c.requires.net c.requires.directions c.requires.joined)
    c.in_ok-table.ensures c.as_slice.ensures c.in_ok-ways.ensures.led
