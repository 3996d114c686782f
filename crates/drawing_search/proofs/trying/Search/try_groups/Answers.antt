use Rattle.std.proofs.Common.{◌≡◌, refl, ℕ, ◌+◌, ◌<◌, ◌≤◌, List, length, get_or, drop, sym, ap, subst, ◌∙◌, arith}
use Rattle.drawing_search.proofs.Common.{after_tries, all_in, attempts_in, attempts_of, in_at, in_flat_map, scale_of}
use Rattle.drawing_search.proofs.Common.{All, AreApart, Attempt, Group, IsFitting, Tried}
use Rattle.drawing_search.proofs.Searches.{pass_over, tries_more}
use Rattle.drawing_search.proofs.TriedGroups.{tries_after}
use Rattle.drawing_search.proofs.trying.Search.try_groups.Goals as goal

-- what holds of the attempts of all groups holds of those of one
of_group : (P : Attempt → Type 0) (gs : List Group) (i : ℕ) (g : Group) → i < length gs → g ≡ get_or gs i g → All P (attempts_of gs) → All P (attempts_in g)
of_group P gs i g h is all =
    subst (λ (x : Group). All P (attempts_in x)) (sym is)
    (λ k e b. all_in P (attempts_of gs) (get_or (attempts_in (get_or gs i g)) k e) all (in_flat_map attempts_in gs (get_or gs i g) (get_or (attempts_in (get_or gs i g)) k e) (in_at gs i g h) (in_at (attempts_in (get_or gs i g)) k e b)))

pub loop-group-init : goal.loop-group-init
loop-group-init c = record { settled = c.requires.settled; rest = refl; few = c.requires.most }

pub try_group-requires-clause-fitting : goal.try_group-requires-clause-fitting
try_group-requires-clause-fitting c = of_group (IsFitting c.args.field.graph.now) c.args.groups.now c.loop-group.group-index c.group-item.result c.loop-group-test.true c.group-item.is c.requires.fitting

pub try_group-requires-clause-apart : goal.try_group-requires-clause-apart
try_group-requires-clause-apart c = subst (λ (g : Group). AreApart g.nodes) (sym c.group-item.is) (c.requires.apart c.loop-group.group-index c.group-item.result c.loop-group-test.true)

pub try_group-requires-clause-lengths : goal.try_group-requires-clause-lengths
try_group-requires-clause-lengths c = subst (λ (g : Group). g.lengths ≤ 4) (sym c.group-item.is) (c.requires.lengths c.loop-group.group-index c.group-item.result c.loop-group-test.true)

pub loop-group-preserved : goal.loop-group-preserved
loop-group-preserved c =
    let scale = scale_of c.args.field.by in
    let graph = c.args.field.graph.now in
    let first = c.args.field.first.now in
    let gs = c.args.groups.now in
    let i = c.loop-group.group-index in
    let old : Tried = record { sketch = c.loop-group.self.sketch; made = c.loop-group.self.made } in
    let tried = c.in_ok-try_group.ensures.tried in
    let after = tries_after scale graph first c.args.most (attempts_in c.group-item.result) old c.loop-group.invariant.few in
    record {
      settled = c.in_ok-try_group.ensures.settled;
      rest = ap (after_tries scale graph first c.args.most (attempts_of (drop (i + 1) gs))) (tried ∙ ap (λ (g : Group). after_tries scale graph first c.args.most (attempts_in g) old) c.group-item.is)
          ∙ sym (tries_more scale graph first c.args.most gs i c.group-item.result old c.loop-group-test.true)
          ∙ c.loop-group.invariant.rest;
      few = omega (arith, after.few, ap (λ (f : Tried). f.made) tried);
    }

pub returns-clause-tried : goal.returns-clause-tried
returns-clause-tried c =
    pass_over (scale_of c.args.field.by) c.args.field.graph.now c.args.field.first.now c.args.most c.args.groups.now (record { sketch = c.args.self.now.sketch; made = c.args.self.now.made }) c.loop-group.group-index
    c.loop-group.self.sketch c.loop-group.self.weight c.loop-group.self.made c.loop-group-test.false c.loop-group.invariant
