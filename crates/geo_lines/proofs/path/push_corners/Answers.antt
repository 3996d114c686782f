use Rattle.std.proofs.Common.{◌≡◌, ◌++◌, ◌∷◌, [], ℤ, pos, ◌*ℤ◌, true, false, w64, to_z, of_z, ap, sym, ◌∙◌, List, append_assoc}
use Rattle.std.specs.Prelude.{int_le}
use Rattle.std.proofs.lemmas.Int.{to_z-of_z}
use Rattle.map_base.specs.declared.point.Point.{Point}
use Rattle.geo_lines.specs.Shifts.{corners_at, meeting_of, moved, onward_of}
use Rattle.geo_lines.proofs.Beside.{some_onward}
use Rattle.geo_lines.proofs.Steps.{corners_met, corners_split, not_none}
use Rattle.geo_lines.proofs.path.push_corners.Goals as goal

pub meeting_of-requires-clause-some : goal.meeting_of-requires-clause-some
meeting_of-requires-clause-some c =
    let w = to_z w64 (of_z w64 c.args.width) in
    let is : w ≡ c.args.width = to_z-of_z w64 c.args.width c.ranges.width in
    some_onward w (to_z w64 (of_z w64 c.onward_of-onward.result))
    (not_none w (λ e. c.if-width-eq0.false (ap (λ z. of_z w64 z) (sym is ∙ e)))) (sym c.meets_near.ensures ∙ c.if-meets_near.true)

pub returns-then-meets_near : goal.returns-then-meets_near
returns-then-meets_near c =
    let w = to_z w64 (of_z w64 c.args.width) in
    let before = c.args.before in
    let behind = c.args.behind in
    let old = c.args.path.now.items in
    let is : w ≡ c.args.width = to_z-of_z w64 c.args.width c.ranges.width in
    let onward : to_z w64 (of_z w64 c.onward_of-onward.result) ≡ onward_of w before behind =
    to_z-of_z w64 c.onward_of-onward.result (record { sfits = c.onward_of-onward.type_inv }) ∙ c.onward_of-onward.ensures.value in
    let meets = ap (λ z. int_le (w *ℤ w) (pos 2 *ℤ z)) (sym onward) ∙ sym c.meets_near.ensures ∙ c.if-meets_near.true in
    c.in_ok-push-2.ensures.items
    ∙ ap (λ (corner : Point). old ++ corner ∷ []) (c.moved.ensures ∙ ap (moved c.args.p) c.meeting_of.ensures.value)
    ∙ ap (λ (corners : List Point). old ++ corners)
    (sym (corners_met w c.args.p before behind (λ e. c.if-width-eq0.false (ap (λ z. of_z w64 z) (sym is ∙ e))) meets))
    ∙ ap (λ z. old ++ corners_at z c.args.p before behind) is

pub returns : goal.returns
returns c =
    let w = to_z w64 (of_z w64 c.args.width) in
    let before = c.args.before in
    let behind = c.args.behind in
    let old = c.args.path.now.items in
    let is : w ≡ c.args.width = to_z-of_z w64 c.args.width c.ranges.width in
    let onward : to_z w64 (of_z w64 c.onward_of-onward.result) ≡ onward_of w before behind =
    to_z-of_z w64 c.onward_of-onward.result (record { sfits = c.onward_of-onward.type_inv }) ∙ c.onward_of-onward.ensures.value in
    let meets = ap (λ z. int_le (w *ℤ w) (pos 2 *ℤ z)) (sym onward) ∙ sym c.meets_near.ensures ∙ c.if-meets_near.false in
    c.in_ok-push-4.ensures.items
    ∙ ap (λ (corners : List Point). corners ++ c.moved-3.result ∷ []) c.in_ok-push-3.ensures.items
    ∙ append_assoc old (c.moved-2.result ∷ []) (c.moved-3.result ∷ [])
    ∙ ap (λ (corner : Point). old ++ corner ∷ c.moved-3.result ∷ []) c.moved-2.ensures
    ∙ ap (λ (corner : Point). old ++ moved c.args.p before ∷ corner ∷ []) c.moved-3.ensures
    ∙ ap (λ (corners : List Point). old ++ corners)
    (sym (corners_split w c.args.p before behind (λ e. c.if-width-eq0.false (ap (λ z. of_z w64 z) (sym is ∙ e))) meets))
    ∙ ap (λ z. old ++ corners_at z c.args.p before behind) is
