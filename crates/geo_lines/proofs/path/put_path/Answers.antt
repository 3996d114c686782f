use Rattle.std.proofs.Common.{◌≡◌, ◌++◌, ◌∷◌, [], ◌+◌, ◌-◌, ◌<◌, ℤ, pos, w32, w64, to_z, of_z, length, get_or, ap, sym, ◌∙◌, List, arith}
use Rattle.std.proofs.lemmas.Int.{to_z-of_z}
use Rattle.std.proofs.lemmas.List.{get_or_default}
use Rattle.map_base.specs.declared.point.Point.{Point}
use Rattle.track_net.specs.Nearness.{point_at}
use Rattle.geo_lines.specs.Shifts.{corners_at, moved, shift_of, width_of}
use Rattle.geo_lines.specs.Courses.{shifted_path}
use Rattle.geo_lines.proofs.Steps.{path_behind, path_begun, path_done, path_more}
use Rattle.geo_lines.proofs.path.put_path.Goals as goal

abbrev origin : Point
origin = record { x = pos 0; y = pos 0 }

pub loop-i-init : goal.loop-i-init
loop-i-init c =
    let points = c.args.points.now in
    let k = to_z w32 (of_z w32 c.args.k) in
    let w = to_z w64 (of_z w64 c.width_of-width.result) in
    let first = c.piece_at-before.result in
    let long : 1 < length points = omega (arith, c.requires.course.long) in
    let is : w ≡ width_of k = to_z-of_z w64 c.width_of-width.result (record { sfits = c.width_of-width.type_inv }) ∙ c.width_of-width.ensures.value in
    let made : c.push.new.self.items ≡ moved (point_at points 0) first ∷ [] =
    c.in_ok-push.ensures.items ∙ ap (λ (corners : List Point). corners ++ c.moved.result ∷ []) c.clear.ensures.items
    ∙ ap (λ (corner : Point). corner ∷ []) (c.moved.ensures ∙ ap (λ (p : Point). moved p first) (get_or_default points 0 _ origin (omega (arith, long)))) in
    record {
      whole =
          ap (λ (corners : List Point). corners ++ path_behind w points) made
          ∙ ap (λ z. (moved (point_at points 0) first ∷ []) ++ path_behind z points) is
          ∙ path_begun k points first long (c.piece_at-before.ensures.value ∙ ap (λ z. shift_of z (point_at points 0) (point_at points 1)) is);
      before = c.piece_at-before.ensures.value;
      beside = c.piece_at-before.ensures.beside;
    }

pub loop-i-preserved : goal.loop-i-preserved
loop-i-preserved c =
    let points = c.args.points.now in
    let k = to_z w32 (of_z w32 c.args.k) in
    let w = to_z w64 (of_z w64 c.width_of-width.result) in
    let i = c.loop-i.i in
    let old = c.loop-i.path.items in
    let low : i + 1 + 1 < length points = omega (arith, c.loop-i-test.true, c.requires.course.long) in
    let made : c.push_corners.new.path.items ≡ old ++ corners_at w (point_at points (i + 1)) c.loop-i.before c.piece_at-behind.result =
    c.in_ok-push_corners.ensures ∙ ap (λ (p : Point). old ++ corners_at w p c.loop-i.before c.piece_at-behind.result) (get_or_default points (i + 1) _ origin (omega (arith, low))) in
    record {
      whole =
          path_more w points i c.loop-i.before c.piece_at-behind.result old c.push_corners.new.path.items (shifted_path k points) low c.loop-i.invariant.before
          c.piece_at-behind.ensures.value made c.loop-i.invariant.whole;
      before = c.piece_at-behind.ensures.value;
      beside = c.piece_at-behind.ensures.beside;
    }

pub returns : goal.returns
returns c =
    let points = c.args.points.now in
    let k = to_z w32 (of_z w32 c.args.k) in
    let w = to_z w64 (of_z w64 c.width_of-width.result) in
    let i = c.loop-i.i in
    let old = c.loop-i.path.items in
    let end : length points ≡ i + 1 + 1 = omega (arith, c.requires.course.long) in
    let place : length points - 1 ≡ i + 1 = omega (arith, end) in
    c.in_ok-push-2.ensures.items
    ∙ ap (λ (corner : Point). old ++ corner ∷ [])
    (c.moved-2.ensures
    ∙ ap (λ (p : Point). moved p c.loop-i.before) (get_or_default points (length points - 1) _ origin (omega (arith, end)) ∙ ap (λ n. point_at points n) place))
    ∙ path_done w points i c.loop-i.before old (shifted_path k points) end c.loop-i.invariant.before c.loop-i.invariant.whole
    ∙ ap (λ z. shifted_path z points) (to_z-of_z w32 c.args.k c.ranges.k)
