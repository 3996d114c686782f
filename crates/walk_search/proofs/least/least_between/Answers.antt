use Rattle.std.proofs.Common.{sym, ◌∙◌, ap, subst, ℕ, ◌+◌, ◌<◌, ◌^◌, Option, None, length, replicate, arith}
use Rattle.std.specs.Prelude.{IfSome}
use Rattle.std.proofs.lemmas.Bool.{true≢false}
use Rattle.std.proofs.lemmas.Result.{IfOk-weaker}
use Rattle.octi_grid.specs.Walks.{PlainWalk}
use Rattle.grid_board.specs.declared.bounds.Bounds.{Bounds}
use Rattle.grid_board.specs.Boards.{parts_of}
use Rattle.state_search.specs.Searching.{known_at, IsKnownWithin}
use Rattle.walk_search.specs.Asking.{question}
use Rattle.walk_search.specs.Routes.{route, IsRouteUpTo}
use Rattle.walk_search.specs.Spots.{spots_of}
use Rattle.walk_search.specs.Moves.{Question}
use Rattle.walk_search.specs.Walked.{IsAnswer}
use Rattle.walk_search.proofs.Limits.{answer_short, route_beyond, route_upto}
use Rattle.walk_search.proofs.Routing.{answer_is_route}
use Rattle.walk_search.proofs.least.least_between.Goals as goal

pub new-requires : goal.new-requires
new-requires c = record {
  board = c.bounds.ensures.kept;
  from_node = c.requires.from;
  to_node = c.requires.to;
  apart = c.requires.apart;
  from_ports = c.requires.from_mask;
  to_ports = c.requires.to_mask;
}

pub note_costs-requires : goal.note_costs-requires
note_costs-requires c =
    c.none-known.ensures
    ∙ ap (λ (n : ℕ). replicate (n + 1) None) (c.spots_of.ensures.value ∙ ap (λ (b : Bounds). spots_of b) c.bounds.ensures.value ∙ sym (ap (λ (x : Question). spots_of x.board.bounds) c.in_ok-asked.ensures))

pub of-requires : goal.of-requires
of-requires c = omega (arith, c.in_ok-note_costs.ensures.each, c.before-2.ensures.value)

pub returns-then-not-is_within-clause-found : goal.returns-then-not-is_within-clause-found
returns-then-not-is_within-clause-found c =
    let q = question c.in_ok-asked.asked in
    let known = c.of.ensures ∙ ap (known_at c.note_costs.new.known) c.before-2.ensures.value in
    let never : IsKnownWithin (known_at c.note_costs.new.known (spots_of q.board.bounds)) c.args.limit → ⊥ =
    λ h. true≢false (sym (c.is_within.ensures.1 (subst (λ (o : Option ℕ). IsKnownWithin o c.args.limit) (sym known) h)) ∙ c.if-not-is_within.true) in
    subst (λ (x : Question). IsRouteUpTo c.args.limit x.from x.to (route x.board x.from x.to) None) c.in_ok-asked.ensures
    (route_beyond q c.before-2.ensures.asked c.args.limit (c.in_ok-note_costs.ensures.searched.beyond never))

pub returns-clause-found : goal.returns-clause-found
returns-clause-found c =
    IfOk-weaker c.walk.result (IsAnswer (question c.in_ok-asked.asked)) (λ (o : Option PlainWalk). IsRouteUpTo c.args.limit c.args.from c.args.to (route (parts_of c.args.board.now) c.args.from c.args.to) o)
    (λ o a. route_upto c.args.limit c.args.from c.args.to (route (parts_of c.args.board.now) c.args.from c.args.to) o
    (answer_is_route (question c.in_ok-asked.asked) c.in_ok-asked.asked.asked.asked o a ∙ ap (λ (x : Question). route x.board x.from x.to) c.in_ok-asked.ensures)) c.walk.ensures

pub returns-clause-short : goal.returns-clause-short
returns-clause-short c =
    IfOk-weaker c.walk.result (IsAnswer (question c.in_ok-asked.asked)) (λ (o : Option PlainWalk). IfSome o (λ (w : PlainWalk). length w.steps < 2 ^ 60))
    (λ o a. answer_short (question c.in_ok-asked.asked) c.in_ok-asked.asked.asked.asked o a) c.walk.ensures
