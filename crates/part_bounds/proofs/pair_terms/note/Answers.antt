use Rattle.std.proofs.Common.{◌≡◌, refl, map}
use Rattle.part_bounds.specs.PairGroups.{pair_on}
use Rattle.part_bounds.proofs.Groups.{noted_new, noted_old, keys_new, keys_old, stands}
use Rattle.part_bounds.proofs.pair_terms.note.Goals as goal

pub returns-in_ok-push-clause-noted : goal.returns-in_ok-push-clause-noted
returns-in_ok-push-clause-noted c =
    noted_new c.args.pairs.now.items c.push.new.self.items _ c.args.seen.now.keys c.args.pair c.in_ok-place.is_new c.requires.seen c.in_ok-place.ensures.added c.if-is_new.true c.in_ok-push.ensures.items refl c.new.ensures.items

pub returns-in_ok-push-clause-here : goal.returns-in_ok-push-clause-here
returns-in_ok-push-clause-here c =
    let keys : c.insert_full.new.self.keys ≡ map pair_on c.push.new.self.items =
    keys_new c.args.pairs.now.items c.push.new.self.items _ c.args.seen.now.keys c.insert_full.new.self.keys c.args.pair c.in_ok-place.is_new c.requires.seen c.in_ok-place.ensures.added c.if-is_new.true c.in_ok-place.ensures.keys c.in_ok-push.ensures.items refl in
    stands c.insert_full.new.self.keys (map pair_on c.push.new.self.items) c.in_ok-place.place c.args.pair c.in_ok-place.ensures.stored.0 keys c.in_ok-place.ensures.stored.1 c.in_ok-place.ensures.stored.2

pub returns-else-is_new-clause-noted : goal.returns-else-is_new-clause-noted
returns-else-is_new-clause-noted c = noted_old c.args.pairs.now.items c.args.seen.now.keys c.args.pair c.in_ok-place.is_new c.requires.seen c.in_ok-place.ensures.added c.if-is_new.false

pub returns-else-is_new-clause-here : goal.returns-else-is_new-clause-here
returns-else-is_new-clause-here c =
    let keys : c.insert_full.new.self.keys ≡ map pair_on c.args.pairs.now.items =
    keys_old c.args.pairs.now.items c.args.seen.now.keys c.insert_full.new.self.keys c.args.pair c.in_ok-place.is_new c.requires.seen c.in_ok-place.ensures.added c.if-is_new.false c.in_ok-place.ensures.keys in
    stands c.insert_full.new.self.keys (map pair_on c.args.pairs.now.items) c.in_ok-place.place c.args.pair c.in_ok-place.ensures.stored.0 keys c.in_ok-place.ensures.stored.1 c.in_ok-place.ensures.stored.2
