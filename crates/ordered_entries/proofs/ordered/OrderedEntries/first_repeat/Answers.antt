use Rattle.std.proofs.Common.{◌∙◌, subst, MatchOption}
use Rattle.ordered_entries.specs.Entries.{AreDistinct, IsFirstRepeat}
use Rattle.ordered_entries.proofs.ordered.OrderedEntries.first_repeat.Goals as goal

pub returns : goal.returns
returns c =
    subst (λ entries. MatchOption c.first_repeat.result (AreDistinct entries) (IsFirstRepeat entries)) (c.deref.ensures.value ∙ c.self.view_is) c.first_repeat.ensures
