use Rattle.std.proofs.Common.{◌≡◌, ◌≤◌, ◌++◌, true, false, List, length, sym, ◌∙◌, ap, subst, Some}
use Rattle.map_base.specs.declared.ids.LineId.{LineId}
use Rattle.order_model.specs.declared.problem.ProblemParts.{ProblemParts}
use Rattle.dual_ascent.specs.OpenPairs.{OpenPair, is_settled, open_pair, doubt}
use Rattle.dual_ascent.proofs.OwnParts.{seg_number}
use Rattle.dual_orders.specs.NextPairs.{IsBest, TellsPairs, most_undecided, is_more}
use Rattle.dual_orders.specs.declared.open_pairs.Undecided.{Undecided}
use Rattle.dual_orders.proofs.OwnTables.{few_lines, reach_narrow}
use Rattle.dual_orders.proofs.Deciding.{best_more, best_same, open_one}
use Rattle.dual_orders.proofs.open_pairs.with_average.Goals as goal

pub is_settled-requires-clause-few : goal.is_settled-requires-clause-few
is_settled-requires-clause-few c =
    subst (λ (l : List LineId). length l ≤ 16) (sym c.lines.ensures)
    (few_lines c.args.part.now.problem.now.segs c.args.s
    (reach_narrow c.args.part.now.problem.now c.requires.part.reach))

pub returns-then-is_more : goal.returns-then-is_more
returns-then-is_more c = λ pairs before tells chain best.
    (let p : ProblemParts = c.args.part.now.problem.now in
    let x = c.args.average in
    let pair : OpenPair = open_pair (seg_number c.args.s) x in
    let free : is_settled pairs x.lesser x.greater ≡ false =
    sym (c.is_settled.ensures pairs
    (subst (λ (l : List LineId). TellsPairs pairs l c.args.direct.now) (sym c.lines.ensures) tells) chain)
    ∙ c.if-is_settled.false in
    let more : is_more (doubt p pair) c.args.best ≡ true = ap (λ d. is_more d c.args.best)
    (sym c.doubt_of-doubt.ensures) ∙ (sym c.is_more.ensures ∙ c.if-is_more.true) in
    let next : Undecided = record { doubt = c.doubt_of-doubt.result; pair = c.fork_at.result } in
    subst (λ (l : List OpenPair). IsBest p (most_undecided p (before ++ l)) (Some next))
    (sym (open_one pairs (seg_number c.args.s) x free))
    (best_more p before c.args.best pair next best c.doubt_of-doubt.ensures c.fork_at.ensures more))

pub returns-else-is_more : goal.returns-else-is_more
returns-else-is_more c = λ pairs before tells chain best.
    (let p : ProblemParts = c.args.part.now.problem.now in
    let x = c.args.average in
    let pair : OpenPair = open_pair (seg_number c.args.s) x in
    let free : is_settled pairs x.lesser x.greater ≡ false =
    sym (c.is_settled.ensures pairs
    (subst (λ (l : List LineId). TellsPairs pairs l c.args.direct.now) (sym c.lines.ensures) tells) chain)
    ∙ c.if-is_settled.false in
    let more : is_more (doubt p pair) c.args.best ≡ false = ap (λ d. is_more d c.args.best)
    (sym c.doubt_of-doubt.ensures) ∙ (sym c.is_more.ensures ∙ c.if-is_more.false) in
    subst (λ (l : List OpenPair). IsBest p (most_undecided p (before ++ l)) c.args.best)
    (sym (open_one pairs (seg_number c.args.s) x free))
    (best_same p before c.args.best pair best more))
