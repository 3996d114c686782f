use Rattle.std.proofs.Common.{◌≡◌, Bool, true, false, ◌&&◌, not, ap, sym, ◌∙◌}
use Rattle.std.specs.List.{list_any}
use Rattle.eight_sides.specs.Shapes.{meet}
use Rattle.poster_plan.specs.declared.plan.Mark.{Mark}
use Rattle.poster_plan.specs.declared.plan.Piece.{Piece}
use Rattle.poster_plan.specs.Signs.{mark_at, piece_at}
use Rattle.poster_plan.specs.Placing.{meets_piece, meets_printed}
use Rattle.poster_layout.proofs.legend.is_clear_of_all.Goals as goal

pub returns-then-meets_mark : goal.returns-then-meets_mark
returns-then-meets_mark c =
    let u = c.args.pitch in
    let plan = c.args.plan.now in
    let shape = c.args.shape in
    let test = λ (m : Mark). meet shape (mark_at u m) in
    let met : list_any test plan.marks ≡ true = ap (list_any test) (sym c.as_slice.ensures) ∙ sym c.meets_mark.ensures ∙ c.if-meets_mark.true in
    sym (ap (λ (b : Bool). not b && not (meets_piece u plan shape) && not (meets_printed u plan c.args.printed.now shape)) met)

pub returns-then-meets_piece : goal.returns-then-meets_piece
returns-then-meets_piece c =
    let u = c.args.pitch in
    let plan = c.args.plan.now in
    let shape = c.args.shape in
    let test = λ (m : Mark). meet shape (mark_at u m) in
    let lies = λ (p : Piece). meet shape (piece_at u p) in
    let clear : list_any test plan.marks ≡ false = ap (list_any test) (sym c.as_slice.ensures) ∙ sym c.meets_mark.ensures ∙ c.if-meets_mark.false in
    let met : meets_piece u plan shape ≡ true = ap (list_any lies) (sym c.as_slice-2.ensures) ∙ sym c.meets_piece.ensures ∙ c.if-meets_piece.true in
    sym (ap (λ (b : Bool). not b && not (meets_piece u plan shape) && not (meets_printed u plan c.args.printed.now shape)) clear
    ∙ ap (λ (b : Bool). not b && not (meets_printed u plan c.args.printed.now shape)) met)

pub returns : goal.returns
returns c =
    let u = c.args.pitch in
    let plan = c.args.plan.now in
    let shape = c.args.shape in
    let test = λ (m : Mark). meet shape (mark_at u m) in
    let lies = λ (p : Piece). meet shape (piece_at u p) in
    let clear : list_any test plan.marks ≡ false = ap (list_any test) (sym c.as_slice.ensures) ∙ sym c.meets_mark.ensures ∙ c.if-meets_mark.false in
    let beside : meets_piece u plan shape ≡ false = ap (list_any lies) (sym c.as_slice-2.ensures) ∙ sym c.meets_piece.ensures ∙ c.if-meets_piece.false in
    ap not c.meets_printed.ensures
    ∙ sym (ap (λ (b : Bool). not b && not (meets_piece u plan shape) && not (meets_printed u plan c.args.printed.now shape)) clear
    ∙ ap (λ (b : Bool). not b && not (meets_printed u plan c.args.printed.now shape)) beside)
