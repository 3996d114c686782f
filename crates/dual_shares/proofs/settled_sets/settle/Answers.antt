use Rattle.dual_shares.proofs.Ahead.{settled_more}
use Rattle.dual_shares.proofs.settled_sets.settle.Goals as goal

pub returns : goal.returns
returns c =
    settled_more c.args.lines.now c.args.ahead.now c.args.first c.args.second c.place_of-i.result c.place_of-j.result c.with_place.result c.requires.rising c.requires.room c.requires.on
    c.place_of-i.ensures.place c.place_of-j.ensures.place c.with_place.ensures
