use Rattle.std.proofs.Common.{sym, ◌∙◌, ap, subst, ℕ, ◌<◌, ◌≤◌, List, length, arith}
use Rattle.state_search.specs.Goals.{PathTo}
use Rattle.walk_search.specs.Asking.{question}
use Rattle.walk_search.specs.Spots.{spots_of}
use Rattle.walk_search.specs.Moves.{space_of}
use Rattle.walk_search.specs.Walked.{walk_of_labels}
use Rattle.walk_search.proofs.Walking.{least_where_long, no_path_where_short}
use Rattle.walk_search.proofs.walk.walk.Goals as goal

pub returns-then-len-lt2 : goal.returns-then-len-lt2
returns-then-len-lt2 c =
    let short : length c.in_ok-labels.labels.items < 2 = omega (arith, c.len.ensures) in
    no_path_where_short (question c.args.asked.now) c.args.asked.now.asked.asked c.args.known.now c.in_ok-labels.labels.items c.requires c.in_ok-labels.ensures short

pub walk_by-requires-clause-path : goal.walk_by-requires-clause-path
walk_by-requires-clause-path c =
    let q = question c.args.asked.now in
    let long : 2 ≤ length c.in_ok-labels.labels.items = omega (arith, c.len.ensures) in
    let least = least_where_long q c.args.known.now c.in_ok-labels.labels.items c.in_ok-labels.ensures long in
    (least.0, subst (λ (ls : List ℕ). PathTo (space_of q) (spots_of q.board.bounds) ls least.0) (sym c.as_slice.ensures.value) least.1.path)

pub returns : goal.returns
returns c =
    let q = question c.args.asked.now in
    let long : 2 ≤ length c.in_ok-labels.labels.items = omega (arith, c.len.ensures) in
    let least = least_where_long q c.args.known.now c.in_ok-labels.labels.items c.in_ok-labels.ensures long in
    record {
      labels = c.in_ok-labels.labels.items;
      cost = least.0;
      least = least.1;
      is_walk = c.in_ok-walk_by.ensures ∙ ap (walk_of_labels q) c.as_slice.ensures.value;
    }
