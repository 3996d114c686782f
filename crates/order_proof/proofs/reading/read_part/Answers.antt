use Rattle.std.proofs.Common.{List, [], ◌∷◌, subst, sym, ◌∙◌}
use Rattle.std.proofs.lemmas.Result.{err_from_is_err_and}
use Rattle.map_base.specs.declared.ids.SegId.{SegId}
use Rattle.order_proof.specs.Plain.{plain_part_tree}
use Rattle.order_proof.specs.FrontLine.{front}
use Rattle.order_proof.specs.Forms.{part_in}
use Rattle.order_proof.specs.Reading.{APartTree, parts_due, reading}
use Rattle.order_proof.specs.Readers.{IsPartOf}
use Rattle.decimal_text.proofs.Stops.{line_stops, rest_stops}
use Rattle.order_proof.proofs.ReadParts.{head_stops, head_goes_on, part_read}
use Rattle.order_proof.proofs.reading.read_part.Goals as goal

pub returns-in_err-target-clause-follows : goal.returns-in_err-target-clause-follows
returns-in_err-target-clause-follows c =
    let p = err_from_is_err_and c.from_residual.result c.from_residual.ensures.1 in
    rw (p.1, p.2) (line_stops c.in_err-target.field-0.0 c.args.text.now (front part_in c.args.text.now) (reading (parts_due 1) c.args.text.now) c.in_err-target.ensures (head_stops 0 c.args.text.now))

pub returns-in_err-tree-clause-follows : goal.returns-in_err-tree-clause-follows
returns-in_err-tree-clause-follows c =
    let p = err_from_is_err_and c.from_residual-in_err-tree.result c.from_residual-in_err-tree.ensures.1 in
    rw (p.1, p.2) (rest_stops c.in_err-tree.field-0.0 (reading (APartTree ∷ []) c.in_ok-target.rest.now) (reading (parts_due 1) c.args.text.now) c.in_err-tree.ensures.follows
    (head_goes_on 0 c.args.text.now (c.in_ok-target.target, c.in_ok-target.segs.items) c.in_ok-target.rest.now c.in_ok-target.ensures))

pub returns-clause-follows : goal.returns-clause-follows
returns-clause-follows c = head_goes_on 0 c.args.text.now (c.in_ok-target.target, c.in_ok-target.segs.items) c.in_ok-target.rest.now c.in_ok-target.ensures ∙ c.in_ok-tree.ensures.follows

pub returns-clause-part : goal.returns-clause-part
returns-clause-part c =
    subst (λ (segs : List SegId). IsPartOf (record { segs = segs; target = c.in_ok-target.target; tree = plain_part_tree c.in_ok-tree.tree }) c.args.text.now c.in_ok-tree.rest.now) (sym c.of-segs.ensures)
    (part_read c.args.text.now c.in_ok-target.target c.in_ok-target.segs.items c.in_ok-target.rest.now (plain_part_tree c.in_ok-tree.tree) c.in_ok-tree.rest.now c.in_ok-target.ensures c.in_ok-tree.ensures.tree)
