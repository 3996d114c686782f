use Rattle.std.proofs.Common.{refl, sym, subst, ℕ, Option, Some}
use Rattle.std.specs.Prelude.{◌↔◌, true, IsTrue}
use Rattle.state_search.specs.Searching.{IsKnownWithin}
use Rattle.walk_search.proofs.least.is_at_most.Goals as goal

pub returns-in-None : goal.returns-in-None
returns-in-None c = subst (λ (o : Option ℕ). IsTrue true ↔ IsKnownWithin (Some c.args.known) o) (sym c.in-None.is) (λ h. tt, λ h. refl)
