use Rattle.std.proofs.Common.{ℕ, List, [], sym, subst, ◌∙◌}
use Rattle.map_edits.specs.Pairs.{IsPair, IsGap}
use Rattle.map_edits.proofs.PairLemmas.{Pair, put_there, put_between}
use Rattle.map_edits.proofs.changed_settings.put_pair.Goals as goal

pub returns-in-Ok : goal.returns-in-Ok
returns-in-Ok c =
    let pairs = c.args.pairs.now.items in
    let place = c.in-Ok.place in
    let found : IsPair pairs c.args.id place =
    subst (λ (id : List ℕ). IsPair pairs id place) c.as_str.ensures (subst (λ (ps : List Pair). IsPair ps c.as_str.result.now place) c.as_slice.ensures.value c.in-Ok.ensures) in
    c.set_number.ensures ([], 0) ∙ sym (put_there pairs c.args.id c.args.number place c.requires found)

pub returns-in_ok-insert-in-Err : goal.returns-in_ok-insert-in-Err
returns-in_ok-insert-in-Err c =
    let pairs = c.args.pairs.now.items in
    let place = c.in-Err.place in
    let gap : IsGap pairs c.args.id place =
    subst (λ (id : List ℕ). IsGap pairs id place) c.as_str.ensures (subst (λ (ps : List Pair). IsGap ps c.as_str.result.now place) c.as_slice.ensures.value c.in-Err.ensures) in
    c.in_ok-insert-in-Err.ensures.items ∙ sym (put_between pairs c.args.id c.args.number place gap)
