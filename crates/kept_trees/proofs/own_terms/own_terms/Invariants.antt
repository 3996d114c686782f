use Rattle.std.proofs.Common.{◌≡◌, map, take, get_or}
use Rattle.order_model.specs.PartTerms.{no_term}
use Rattle.order_search.specs.ByItself.{term_in}
use Rattle.kept_trees.proofs.own_terms.own_terms.Given as goal

-- the terms so far
abbrev pub invariant-loop-n : goal.invariant-loop-n
invariant-loop-n l = l.own.items ≡ map (λ n. term_in l.part (get_or l.terms n no_term)) (take l.n-index l.numbers)
