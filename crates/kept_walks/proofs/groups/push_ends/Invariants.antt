use Rattle.std.proofs.Common.{◌≡◌, ◌∷◌, ◌++◌, [], drop}
use Rattle.std.specs.Prelude.{All}
use Rattle.std.specs.List.{flat_map}
use Rattle.line_chains.specs.declared.chain.Chain.{Chain}
use Rattle.line_chains.specs.Chains.{end_of}
use Rattle.drawing_search.specs.Searched.{attempts_of}
use Rattle.kept_walks.specs.Groups.{IsSound}
use Rattle.kept_walks.specs.Straightening.{moves_of}
use Rattle.kept_walks.proofs.groups.push_ends.Given as goal

-- the attempts so far, and those of the runs that are left
abbrev pub invariant-loop-run : goal.invariant-loop-run
invariant-loop-run l = record {
  sound : All IsSound l.groups.items;
  attempts :
      attempts_of l.groups.items ++ flat_map (λ (c : Chain). moves_of 4 l.runs (c.from ∷ end_of c ∷ [])) (drop l.run-index l.runs)
      ≡ attempts_of l.initial.groups.items ++ flat_map (λ (c : Chain). moves_of 4 l.runs (c.from ∷ end_of c ∷ [])) l.runs;
}
