use Rattle.std.proofs.Common.{◌≡◌, ℕ, ◌+◌, codes, rules, arith}
use Rattle.trial_feed.specs.Folder.{row_north}
use Rattle.trial_feed.proofs.FolderLemmas.{joined_next, joined_all}
use Rattle.trial_feed.proofs.folder.stops_table.Goals as goal

pub loop-north-preserved : goal.loop-north-preserved
loop-north-preserved c =
    joined_next (λ (north : ℕ). row_north north (c.args.side + 1)) c.loop-north.north c.in_ok-text.text.items c.loop-north.text.items
    c.push_row_north.new.text.items c.loop-north.invariant c.in_ok-push_row_north.ensures

pub returns : goal.returns
returns c =
    let all : c.loop-north.north ≡ c.args.side + 1 = omega arith in
    joined_all (λ (north : ℕ). row_north north (c.args.side + 1)) c.loop-north.north (c.args.side + 1)
    (codes "stop_id,stop_name,stop_lat,stop_lon\n") c.in_ok-text.text.items c.loop-north.text.items c.loop-north.invariant all
    (search (rules, c.in_ok-text.ensures.items))
