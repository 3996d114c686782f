use Rattle.std.proofs.Common.{◌≡◌, true, false, sym, subst, Option, List}
use Rattle.std.specs.Prelude.{MatchOption}
use Rattle.kept_trees.specs.declared.found_part.FoundPart.{FoundPart}
use Rattle.kept_trees.specs.Keeping.{is_held}
use Rattle.kept_trees.specs.OwnTrees.{HeldPart, IsOwnResult, held_by, parts_held}
use Rattle.kept_trees.proofs.HeldParts.{held_by_key, lent_match, same_key}
use Rattle.kept_trees.proofs.kept.Kept.result_of.Goals as goal

pub returns : goal.returns
returns c =
    let key = c.args.key.now in
    let entries = c.self.inside.trees.entries in
    let found = held_by_key _ key (λ k. same_key key k) entries c.self.invariant in
    let held = parts_held entries in
    let here = subst (λ (r : Option FoundPart). MatchOption r (is_held held (held_by key) ≡ false) (λ (f : FoundPart). (is_held held (held_by key) ≡ true) × IsOwnResult (held_by key) f)) (sym c.get.ensures.value) found in
    subst (λ (h : List HeldPart). MatchOption c.get.result (is_held h (held_by key) ≡ false) (λ own. (is_held h (held_by key) ≡ true) × IsOwnResult (held_by key) own.now)) c.self.view_is
    (lent_match _ _ c.get.result here)
