use Rattle.std.proofs.Common.{◌≡◌, ◌+◌, ◌<◌, ◌≤◌, ℕ, true, false, length, take, get_or, ap, sym, ◌∙◌, arith, rules, below_more}
use Rattle.std.specs.Prelude.{sum_by}
use Rattle.std.proofs.lemmas.List.{length-map, take_all}
use Rattle.std.proofs.lemmas.List.Sums.{sum_by_more}
use Rattle.part_bounds.specs.PairGroups.{group_in, groups_in, no_group, share_of}
use Rattle.part_bounds.proofs.KeptUp.{rooms_kept, kept_on, shares_small}
use Rattle.part_bounds.proofs.kept_pairs.renew_pairs.Goals as goal

pub renew_at-total-requires-clause-room : goal.renew_at-total-requires-clause-room
renew_at-total-requires-clause-room c = rooms_kept c.args.part.now (groups_in c.args.pairs.now) c.args.room.now c.loop-place.room c.requires.room c.loop-place.invariant.room

pub overflow_add-total : goal.overflow_add-total
overflow_add-total c =
    let within : c.loop-place.place < length (groups_in c.args.pairs.now) = omega (arith, c.loop-place-test.true, length-map c.args.pairs.now group_in) in
    let most : c.loop-place.total + c.renew_at-total.result ≤ 4096000000000 =
    (let small = shares_small c.args.problem.now c.args.part.now c.args.prefix.now.placed c.args.pairs.now c.loop-place.place c.loop-place.total c.requires.table within c.loop-place.invariant.total in
    omega (arith, small, c.renew_at-total.ensures.share)) in
    search rules

pub loop-place-preserved : goal.loop-place-preserved
loop-place-preserved c =
    let f = share_of c.args.problem.now.segs c.args.part.now c.args.prefix.now.placed in
    let within : c.loop-place.place < length (groups_in c.args.pairs.now) = omega (arith, c.loop-place-test.true, length-map c.args.pairs.now group_in) in
    let more = sum_by_more f (groups_in c.args.pairs.now) c.loop-place.place no_group within in
    record {
      total = omega (arith, more, c.loop-place.invariant.total, c.renew_at-total.ensures.share);
      kept = c.renew_at-total.ensures.kept;
      early = below_more (λ k. get_or c.renew_at-total.new.kept.stale.items k true ≡ false) c.loop-place.place (λ k h. c.renew_at-total.ensures.still k (c.loop-place.invariant.early k h)) c.renew_at-total.ensures.here;
      room = kept_on c.args.room.now c.loop-place.room c.renew_at-total.new.room c.loop-place.invariant.room c.renew_at-total.ensures.room;
    }

pub returns-clause-total : goal.returns-clause-total
returns-clause-total c =
    c.loop-place.invariant.total ∙ ap (sum_by (share_of c.args.problem.now.segs c.args.part.now c.args.prefix.now.placed))
    (take_all c.loop-place.place (groups_in c.args.pairs.now) (omega (arith, c.loop-place-test.false, length-map c.args.pairs.now group_in)))
