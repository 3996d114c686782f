use Rattle.std.proofs.Common.{◌≡◌, ◌∙◌, ◌++◌, ◌∷◌, [], false, ap, sym, subst, List}
use Rattle.std.proofs.lemmas.List.{map-append}
use Rattle.kept_trees.specs.declared.part_key.PartKey.{PartKey}
use Rattle.kept_trees.specs.declared.found_part.FoundPart.{FoundPart}
use Rattle.kept_trees.specs.Keeping.{is_held}
use Rattle.kept_trees.specs.OwnTrees.{HeldPart, held_by, parts_held, AreOwnResults}
use Rattle.indexmap.proofs.CallerLemmas.{insert_entry-new}
use Rattle.kept_trees.proofs.HeldParts.{absent_by_key, same_key, own_push}
use Rattle.kept_trees.proofs.kept.Kept.add.Goals as goal

pub returns-clause-held : goal.returns-clause-held
returns-clause-held c =
    let key = c.args.key in
    let entries = c.self.inside.trees.entries in
    let absent = absent_by_key _ key (λ k. same_key key k) entries (subst (λ (h : List HeldPart). is_held h (held_by key) ≡ false) (sym c.self.view_is) c.requires.absent) in
    ap parts_held (c.in_ok-insert.ensures.entries ∙ insert_entry-new _ c.self.inside.trees key c.args.own absent)
    ∙ map-append (λ (e : PartKey × FoundPart). held_by e.0) entries ((key, c.args.own) ∷ [])
    ∙ ap (λ (h : List HeldPart). h ++ held_by key ∷ []) c.self.view_is

pub invariant_of-self-2 : goal.invariant_of-self-2
invariant_of-self-2 c =
    let key = c.args.key in
    let entries = c.self.inside.trees.entries in
    let absent = absent_by_key _ key (λ k. same_key key k) entries (subst (λ (h : List HeldPart). is_held h (held_by key) ≡ false) (sym c.self.view_is) c.requires.absent) in
    subst AreOwnResults (sym (c.in_ok-insert.ensures.entries ∙ insert_entry-new _ c.self.inside.trees key c.args.own absent))
    (own_push entries key c.args.own c.self.invariant c.requires.own)
