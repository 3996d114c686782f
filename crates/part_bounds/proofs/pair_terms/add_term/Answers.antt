use Rattle.std.proofs.Common.{sym, ap, subst, ◌∙◌, ◌<◌}
use Rattle.std.proofs.lemmas.List.{length-map}
use Rattle.order_bound.specs.Pairs.{pair_in}
use Rattle.part_bounds.specs.PairGroups.{groups_in, group_in, with_pair}
use Rattle.part_bounds.proofs.Groups.{one_more, stands_in}
use Rattle.part_bounds.proofs.pair_terms.add_term.Goals as goal

pub returns-clause-added : goal.returns-clause-added
returns-clause-added c = λ done old.
    one_more done (c.args.number, c.args.term) (groups_in c.args.pairs.now.items) (groups_in c.note.new.pairs.items) (groups_in c.push_at.new.pairs.items) c.in_ok-place.place old
    (c.in_ok-place.ensures.noted ∙ ap (λ p. with_pair p (groups_in c.args.pairs.now.items)) c.pair_in.ensures) c.in_ok-push_at.ensures.added
    (subst (λ n. c.in_ok-place.place < n) (sym (length-map c.note.new.pairs.items group_in)) c.in_ok-place.ensures.within)
    (stands_in c.note.new.pairs.items c.in_ok-place.place c.pair_in.result (pair_in c.args.term) c.in_ok-place.ensures.here c.pair_in.ensures)
