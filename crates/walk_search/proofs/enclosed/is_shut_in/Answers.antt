use Rattle.std.proofs.Common.{◌≡◌, sym, ◌∙◌, ap, subst, ℕ, ◌<◌, List, length, arith}
use Rattle.std.proofs.lemmas.List.{get_or_read}
use Rattle.std.proofs.lemmas.Bool.{not-true}
use Rattle.octi_grid.specs.declared.point.GridPoint.{GridPoint}
use Rattle.grid_board.specs.Boards.{is_inside}
use Rattle.std.specs.List.{list_any}
use Rattle.octi_grid.specs.Legal.{is_among}
use Rattle.walk_search.specs.Asking.{question}
use Rattle.walk_search.specs.Moves.{ends_of}
use Rattle.walk_search.specs.Enclosed.{point_at, AreReached, HasSteps}
use Rattle.walk_search.proofs.Moving.{start_inside}
use Rattle.walk_search.proofs.Enclosing.{length_longer, reached_first, reached_more, shut_in}
use Rattle.walk_search.proofs.enclosed.is_shut_in.Goals as goal

pub loop-followed-init : goal.loop-followed-init
loop-followed-init c =
    let q = question c.args.asked.now in
    record { reached = reached_first q c.in_ok-points.points.items c.in_ok-points.ensures.starts (start_inside q c.in_ok-points.ensures.asked); within = omega arith }

pub returns-then-followed-len : goal.returns-then-followed-len
returns-then-followed-len c shut =
    let q = question c.args.asked.now in
    let all : c.loop-followed.followed ≡ length c.loop-followed.points.items = omega (arith, c.len.ensures) in
    shut_in q c.in_ok-points.ensures.asked c.loop-followed.points.items (subst (λ (n : ℕ). AreReached q c.loop-followed.points.items n) all c.loop-followed.invariant.reached)
    (sym (ap (λ (points : List GridPoint). list_any (is_among points) (ends_of q)) c.deref.ensures.value) ∙ sym c.has_end_among.ensures ∙ not-true c.has_end_among.result shut)

pub add_steps-requires-clause-p : goal.add_steps-requires-clause-p
add_steps-requires-clause-p c =
    let q = question c.args.asked.now in
    let below : c.loop-followed.followed < length c.loop-followed.points.items = omega (arith, c.len.ensures, c.loop-followed.invariant.within) in
    ap (is_inside q.board) (get_or_read c.loop-followed.points.items c.loop-followed.followed c.index-p.result.now below c.index-p.ensures q.from.at) ∙ c.loop-followed.invariant.reached.inside c.loop-followed.followed below

pub loop-followed-preserved : goal.loop-followed-preserved
loop-followed-preserved c =
    let q = question c.args.asked.now in
    let below : c.loop-followed.followed < length c.loop-followed.points.items = omega (arith, c.len.ensures, c.loop-followed.invariant.within) in
    let here : c.index-p.result.now ≡ point_at q c.loop-followed.points.items c.loop-followed.followed =
    get_or_read c.loop-followed.points.items c.loop-followed.followed c.index-p.result.now below c.index-p.ensures q.from.at in
    record {
      reached =
          reached_more q c.loop-followed.points.items c.add_steps.new.points.items c.loop-followed.followed c.loop-followed.invariant.reached below c.in_ok-add_steps.ensures.longer c.in_ok-add_steps.ensures.inside
          (subst (λ (p : GridPoint). HasSteps q c.add_steps.new.points.items p 8) here c.in_ok-add_steps.ensures.steps);
      within = omega (arith, length_longer c.loop-followed.points.items c.add_steps.new.points.items c.in_ok-add_steps.ensures.longer, below);
    }
