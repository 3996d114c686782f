use Rattle.std.proofs.Common.{◌≡◌, ℕ, ◌+◌, refl, arith}
use Rattle.trial_feed.specs.Rows.{stop}
use Rattle.trial_feed.proofs.FolderLemmas.{joined_next, joined_all}
use Rattle.trial_feed.proofs.folder.push_row_north.Goals as goal

pub loop-east-preserved : goal.loop-east-preserved
loop-east-preserved c =
    joined_next (λ (east : ℕ). stop (record { east = east; north = c.args.north })) c.loop-east.east c.args.text.now.items c.loop-east.text.items
    c.push_stop.new.text.items c.loop-east.invariant c.in_ok-push_stop.ensures

pub returns : goal.returns
returns c =
    let all : c.loop-east.east ≡ c.args.side + 1 = omega arith in
    joined_all (λ (east : ℕ). stop (record { east = east; north = c.args.north })) c.loop-east.east (c.args.side + 1) c.args.text.now.items
    c.args.text.now.items c.loop-east.text.items c.loop-east.invariant all refl
