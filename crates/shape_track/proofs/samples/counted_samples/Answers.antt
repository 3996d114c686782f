use Rattle.std.proofs.Common.{◌≡◌, refl, sym, ◌∙◌, ap, subst, ℕ, ◌+◌, ◌-◌, ◌<◌, ◌≤◌, List, [], None, drop, length, arith, rules}
use Rattle.map_base.specs.declared.point.Point.{Point}
use Rattle.shape_track.specs.Faults.{HasCause}
use Rattle.shape_track.specs.Samples.{point_at, piece_points, cut_points, samples_of}
use Rattle.shape_track.specs.Sampling.{Kept, kept_by, with_point, with_points}
use Rattle.shape_track.proofs.Keeping.{HasCause-more}
use Rattle.shape_track.proofs.Courses.{course_step, course_end, kept_from_nothing, kept_of_part}
use Rattle.shape_track.proofs.samples.counted_samples.Goals as goal

pub loop-index-preserved : goal.loop-index-preserved
loop-index-preserved c =
    let ps = c.args.points.now in
    let i = c.loop-index.index in
    let near = c.args.near in
    record {
      kept = ap (λ k. with_points k (cut_points near (drop (i + 1 - 1) ps))) c.in_ok-keep_piece.ensures.kept
          ∙ course_step near ps i (kept_by c.loop-index.sampler) (with_points (record { points = []; before = None; count = c.args.count }) (cut_points near ps)) (omega arith) (omega arith)
          c.loop-index.invariant.kept;
      counted = subst (λ (n : ℕ). c.keep_piece.new.self.count ≤ n) c.loop-index.invariant.most c.in_ok-keep_piece.ensures.counted;
      most = c.in_ok-keep_piece.ensures.most ∙ c.loop-index.invariant.most;
    }

pub returns-in_err-keep_piece-clause-cause : goal.returns-in_err-keep_piece-clause-cause
returns-in_err-keep_piece-clause-cause c =
    let ps = c.args.points.now in
    let i = c.loop-index.index in
    let near = c.args.near in
    let whole = with_points (record { points = []; before = None; count = c.args.count }) (cut_points near ps) in
    let k = with_points (kept_by c.loop-index.sampler) (piece_points near (point_at ps (i - 1)) (point_at ps i)) in
    let total = c.args.count + length (samples_of near ps) in
    let step = course_step near ps i (kept_by c.loop-index.sampler) whole (omega arith) (omega arith) c.loop-index.invariant.kept in
    let more : k.count ≤ total =
    subst (λ (n : ℕ). k.count ≤ n) (kept_from_nothing near c.args.count ps whole refl).1 (kept_of_part k whole (cut_points near (drop (i + 1 - 1) ps)) step) in
    let cause : HasCause c.args.most total c.in_err-keep_piece.field-0.0 =
    subst (λ (n : ℕ). HasCause n total c.in_err-keep_piece.field-0.0) c.loop-index.invariant.most
    (HasCause-more c.loop-index.sampler.most k.count total c.in_err-keep_piece.field-0.0 more c.in_err-keep_piece.ensures.cause) in
    search (rules, cause)

-- at the end of the loop the last point makes the course whole
whole_course : (near count i : ℕ) (ps : List Point) (k : Kept) → i ≡ length ps → 0 < length ps →
    with_points k (cut_points near (drop (i - 1) ps)) ≡ with_points (record { points = []; before = None; count = count }) (cut_points near ps) →
    ((with_point k (point_at ps (length ps - 1))).points ≡ samples_of near ps) × ((with_point k (point_at ps (length ps - 1))).count ≡ count + length (samples_of near ps))
whole_course near count i ps k at_end some kept =
    kept_from_nothing near count ps (with_point k (point_at ps (length ps - 1)))
    (sym (course_end near ps i k (with_points (record { points = []; before = None; count = count }) (cut_points near ps)) at_end some kept))

pub returns-in_err-keep-clause-cause : goal.returns-in_err-keep-clause-cause
returns-in_err-keep-clause-cause c =
    let ps = c.args.points.now in
    let near = c.args.near in
    let total = c.args.count + length (samples_of near ps) in
    let whole = whole_course near c.args.count c.loop-index.index ps (kept_by c.loop-index.sampler) (omega arith) c.requires.some c.loop-index.invariant.kept in
    let cause : HasCause c.args.most total c.in_err-keep.field-0.0 =
    subst (λ (n : ℕ). HasCause c.args.most n c.in_err-keep.field-0.0) whole.1
    (subst (λ (n : ℕ). HasCause n (with_point (kept_by c.loop-index.sampler) (point_at ps (length ps - 1))).count c.in_err-keep.field-0.0) c.loop-index.invariant.most c.in_err-keep.ensures.cause) in
    search (rules, cause)

pub returns-clause-samples : goal.returns-clause-samples
returns-clause-samples c =
    ap (λ (k : Kept). k.points) c.in_ok-keep.ensures.kept
    ∙ (whole_course c.args.near c.args.count c.loop-index.index c.args.points.now (kept_by c.loop-index.sampler) (omega arith) c.requires.some c.loop-index.invariant.kept).0

pub returns-clause-count : goal.returns-clause-count
returns-clause-count c =
    ap (λ (k : Kept). k.count) c.in_ok-keep.ensures.kept
    ∙ (whole_course c.args.near c.args.count c.loop-index.index c.args.points.now (kept_by c.loop-index.sampler) (omega arith) c.requires.some c.loop-index.invariant.kept).1
