use Rattle.std.proofs.Common.{◌≡◌, true, false}
use Rattle.trial_feed.specs.Lattice.{is_inside}
use Rattle.trial_feed.specs.Lines.{line}
use Rattle.trial_feed.proofs.WalkLemmas.{line_goes_on_to, line_ends}
use Rattle.trial_feed.proofs.walks.line_of.Goals as goal

pub loop-place-preserved : goal.loop-place-preserved
loop-place-preserved c =
    let inside : is_inside c.args.side c.loop-place.place ≡ true = cc in
    line_goes_on_to c.args.side c.loop-place.place c.after-place.result c.loop-place.draws.state c.next-in-loop-place.new.self.state
    c.next-in-loop-place.result c.loop-place.stops.items c.push.new.self.items (line c.args.side c.args.draws.now.state) inside
    c.next-in-loop-place.ensures.state c.next-in-loop-place.ensures.drawn c.after-place.ensures c.in_ok-push.ensures.items c.loop-place.invariant

pub returns : goal.returns
returns c =
    let outside : is_inside c.args.side c.loop-place.place ≡ false = cc in
    line_ends c.args.side c.loop-place.place c.loop-place.draws.state c.loop-place.stops.items (line c.args.side c.args.draws.now.state) outside
    c.loop-place.invariant
