use Rattle.std.proofs.Common.{rules, of_calls}
use Rattle.std.specs.Ordering.{nat_cmp}
use Rattle.std.specs.Cmp.Lexicographic.{slice_cmp}
use Rattle.std.proofs.lemmas.Fn.{always_returns_same}
use Rattle.map_edits.proofs.PairLemmas.{Pair}
use Rattle.map_edits.proofs.MadeLemmas.{pair_place}
use Rattle.map_edits.proofs.changed_settings.place_of_pair.Goals as goal

pub returns : goal.returns
returns c =
    let facts = c.binary_search_by.ensures in
    let by_id = facts.position (λ (pair : Pair). slice_cmp nat_cmp pair.0 c.args.id.now) (always_returns_same _ _ _ (λ a r f k. search (rules, of_calls))) in
    pair_place c.args.pairs.now c.args.id.now c.binary_search_by.result c.requires facts.bound by_id
