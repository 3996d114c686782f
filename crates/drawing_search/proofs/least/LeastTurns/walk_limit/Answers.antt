use Rattle.std.proofs.Common.{◌≡◌, refl, ◌∙◌, ap, ap₂, ℕ, ◌+◌, ◌-◌, ◌/◌, Bool, true, false, cond, eqb, arith}
use Rattle.drawing_search.proofs.Common.{slice_index, straight_way}
use Rattle.drawing_search.proofs.least.LeastTurns.walk_limit.Goals as goal

either_way : (b : Bool) (left free share : ℕ) → left + cond b free share ≡ cond b (left + free) (left + share)
either_way true left free share = refl
either_way false left free share = refl

pub overflow_sub-result : goal.overflow_sub-result
overflow_sub-result c = omega (arith, c.turns_between-turns.ensures, c.requires.enough)

pub overflow_add-result : goal.overflow_add-result
overflow_add-result c = omega (arith, c.turns_between-turns.ensures, c.requires.enough, c.most_turns.ensures.small, c.requires.small.free, c.requires.may_add)

pub returns-clause-value : goal.returns-clause-value
returns-clause-value c =
    let l = c.args.self in
    let by = slice_index l.by (straight_way c.args.from c.args.to) in
    let turns = c.turns_between-turns.ensures in
    ap₂ (λ t m. c.args.may_add - t + m) turns (c.most_turns.ensures.value ∙ ap (λ t. cond (eqb l.per_turn 0) l.free_turns (t / l.per_turn)) turns)
    ∙ either_way (eqb l.per_turn 0) (c.args.may_add - by) l.free_turns (by / l.per_turn)

pub returns-clause-small : goal.returns-clause-small
returns-clause-small c = omega (arith, c.turns_between-turns.ensures, c.requires.enough, c.most_turns.ensures.small, c.requires.small.free, c.requires.may_add)
