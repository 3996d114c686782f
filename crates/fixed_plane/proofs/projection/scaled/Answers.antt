use Rattle.std.proofs.Common.{◌≡◌, ◌*◌, ◌≤◌, pos, ◌*ℤ◌, unsigned_abs, to_z, of_z, w64, rules}
use Rattle.std.proofs.lemmas.Int.{unsigned_abs-mul}
use Rattle.whole_algebra.specs.Rounding.{floor_quotient}
use Rattle.whole_algebra.proofs.Rounding.{floor_quotient-within}
use Rattle.fixed_plane.proofs.projection.scaled.Goals as goal

pub returns-clause-in_plane : goal.returns-clause-in_plane
returns-clause-in_plane c =
    let value = c.args.value in
    let product = value *ℤ pos c.args.by in
    let size : unsigned_abs product ≤ 300000000 * c.args.parts =
    rw (unsigned_abs-mul value (pos c.args.by)) c.requires.in_plane in
    let bound = floor_quotient-within product c.args.parts 300000000 c.requires.some_parts size in
    let is : to_z w64 (of_z w64 c.quotient.result) ≡ floor_quotient product c.args.parts = search rules in
    rw is bound
