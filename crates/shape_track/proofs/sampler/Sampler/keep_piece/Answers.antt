use Rattle.std.proofs.Common.{◌≡◌, refl, sym, ◌∙◌, ap, subst, ℕ, ◌+◌, ◌<◌, ◌≤◌, arith, rules}
use Rattle.map_base.specs.declared.point.Point.{Point}
use Rattle.fixed_plane.specs.Measures.{dist2_of}
use Rattle.shape_track.specs.Faults.{HasCause}
use Rattle.shape_track.specs.Samples.{part_point, part_points, parts_of, piece_points}
use Rattle.shape_track.specs.Sampling.{Kept, kept_by, with_point, with_points}
use Rattle.shape_track.proofs.Keeping.{part_points_from, part_points_from-step, part_points_from-end, part_points_from-start, count-with_points, HasCause-more}
use Rattle.shape_track.proofs.sampler.Sampler.keep_piece.Goals as goal

pub loop-index-init : goal.loop-index-init
loop-index-init c = record {
  kept = ap (with_points (kept_by c.args.self.now)) (part_points_from-start c.args.a c.args.b c.parts-count.result);
  counted = c.requires.counted;
  most = refl;
}

-- what is kept after one more point, and what is then left, come to the whole piece
step : (k w : Kept) (a b p : Point) (n i : ℕ) → i < n → p ≡ part_point a b n i → with_points k (part_points_from a b n i) ≡ w →
    with_points (with_point k p) (part_points_from a b n (i + 1)) ≡ w
step k w a b p n i below is whole =
    ap (λ q. with_points (with_point k q) (part_points_from a b n (i + 1))) is ∙ sym (ap (with_points k) (part_points_from-step a b n i below)) ∙ whole

whole_piece : (near n : ℕ) (a b : Point) → n ≡ parts_of near (dist2_of a b) → part_points a b n ≡ piece_points near a b
whole_piece near n a b is = ap (part_points a b) is

pub loop-index-preserved : goal.loop-index-preserved
loop-index-preserved c = record {
  kept = ap (λ k. with_points k (part_points_from c.args.a c.args.b c.parts-count.result (c.loop-index.index + 1))) c.in_ok-keep.ensures.kept
      ∙ step (kept_by c.loop-index.self) (with_points (kept_by c.args.self.now) (part_points c.args.a c.args.b c.parts-count.result)) c.args.a c.args.b c.part.result
      c.parts-count.result c.loop-index.index (omega arith) c.part.ensures.value c.loop-index.invariant.kept;
  counted = subst (λ (n : ℕ). c.keep.new.self.count ≤ n) c.loop-index.invariant.most c.in_ok-keep.ensures.counted;
  most = c.in_ok-keep.ensures.most ∙ c.loop-index.invariant.most;
}

pub returns-in_err-keep-clause-cause : goal.returns-in_err-keep-clause-cause
returns-in_err-keep-clause-cause c =
    let near = c.args.near in
    let k = with_point (kept_by c.loop-index.self) c.part.result in
    let rest = part_points_from c.args.a c.args.b c.parts-count.result (c.loop-index.index + 1) in
    let whole = with_points (kept_by c.args.self.now) (part_points c.args.a c.args.b c.parts-count.result) in
    let all : with_points k rest ≡ whole =
    step (kept_by c.loop-index.self) whole c.args.a c.args.b c.part.result c.parts-count.result c.loop-index.index (omega arith) c.part.ensures.value c.loop-index.invariant.kept in
    let is : with_points k rest ≡ with_points (kept_by c.args.self.now) (piece_points near c.args.a c.args.b) =
    all ∙ ap (with_points (kept_by c.args.self.now)) (whole_piece near c.parts-count.result c.args.a c.args.b count_is) in
    let more : k.count ≤ (with_points (kept_by c.args.self.now) (piece_points near c.args.a c.args.b)).count =
    subst (λ (w : Kept). k.count ≤ w.count) is (count-with_points k rest) in
    let cause : HasCause c.args.self.now.most (with_points (kept_by c.args.self.now) (piece_points near c.args.a c.args.b)).count c.in_err-keep.field-0.0 =
    subst (λ (n : ℕ). HasCause n (with_points (kept_by c.args.self.now) (piece_points near c.args.a c.args.b)).count c.in_err-keep.field-0.0) c.loop-index.invariant.most
    (HasCause-more c.loop-index.self.most k.count (with_points (kept_by c.args.self.now) (piece_points near c.args.a c.args.b)).count c.in_err-keep.field-0.0 more c.in_err-keep.ensures.cause) in
    search (rules, cause)
  where
    count_is : c.parts-count.result ≡ parts_of c.args.near (dist2_of c.args.a c.args.b)
    count_is = c.parts-count.ensures.value ∙ ap (parts_of c.args.near) c.dist2.ensures.value

pub returns-clause-kept : goal.returns-clause-kept
returns-clause-kept c =
    let n = c.parts-count.result in
    let at_end : c.loop-index.index ≡ n = omega arith in
    sym (ap (λ i. with_points (kept_by c.loop-index.self) (part_points_from c.args.a c.args.b n i)) at_end ∙ ap (with_points (kept_by c.loop-index.self)) (part_points_from-end c.args.a c.args.b n))
    ∙ c.loop-index.invariant.kept
    ∙ ap (with_points (kept_by c.args.self.now)) (whole_piece c.args.near n c.args.a c.args.b (c.parts-count.ensures.value ∙ ap (parts_of c.args.near) c.dist2.ensures.value))
