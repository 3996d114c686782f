use Rattle.std.proofs.Common.{◌≡◌, sym, ◌∙◌, ap, subst, ℕ, suc, ◌+◌, ◌-◌, ◌≤◌, List, [], ◌∷◌, ◌++◌, length, get_or, drop, Vec, arith, rules, append-nil}
use Rattle.std.specs.Global.{Global}
use Rattle.map_base.specs.declared.point.Point.{Point}
use Rattle.shape_track.specs.Faults.{HasCause}
use Rattle.shape_track.specs.Samples.{point_at, samples_of}
use Rattle.shape_track.specs.Hops.{hop_points, hops_of, total_of}
use Rattle.shape_track.proofs.Keeping.{HasCause-more}
use Rattle.shape_track.proofs.HopLemmas.{places_count, place_in_range, places_rise, hop_at, hops_of-end, lists_of, hops_pushed, total_pushed, hop_counted}
use Rattle.std.specs.List.{All}
use Rattle.std.proofs.lemmas.List.{length-map, get_or-map}
use Rattle.fixed_plane.specs.Plane.{IsInPlane}
use Rattle.shape_track.specs.Hops.{AreJoined}
use Rattle.shape_track.proofs.Closeness.{hops_joined}
use Rattle.shape_track.proofs.InPlane.{hops_in_plane}
use Rattle.shape_track.proofs.tracking.track.Goals as goal

pub bounds-places-index : goal.bounds-places-index
bounds-places-index c = omega (arith, places_count 0 (length c.args.samples.now) c.args.stations.now c.args.places.now c.requires.placed)

pub bounds-places-index-in-loop-index : goal.bounds-places-index-in-loop-index
bounds-places-index-in-loop-index c = omega (arith, places_count 0 (length c.args.samples.now) c.args.stations.now c.args.places.now c.requires.placed)

pub hop_course-requires-clause-order : goal.hop_course-requires-clause-order
hop_course-requires-clause-order c =
    let next : suc (c.loop-index.index - 1) ≡ c.loop-index.index = omega arith in
    subst (λ (n : ℕ). get_or c.args.places.now (c.loop-index.index - 1) 0 ≤ get_or c.args.places.now n 0) next
    (places_rise 0 (length c.args.samples.now) c.args.stations.now c.args.places.now (c.loop-index.index - 1) c.requires.placed (omega arith))

pub hop_course-requires-clause-in_range : goal.hop_course-requires-clause-in_range
hop_course-requires-clause-in_range c =
    place_in_range 0 (length c.args.samples.now) c.args.stations.now c.args.places.now c.loop-index.index c.requires.placed c.loop-index-test.true

-- what is sampled is the hop
sampled : (near : ℕ) (samples stations : List Point) (places : List ℕ) (i : ℕ) (course points : List Point) →
    points ≡ course → course ≡ hop_points samples (point_at stations (i - 1)) (get_or places (i - 1) 0) (point_at stations i) (get_or places i 0) →
    samples_of near points ≡ hop_at near samples stations places i
unfolding hop_at
sampled near samples stations places i course points value is = ap (samples_of near) (value ∙ is)

pub loop-index-preserved : goal.loop-index-preserved
loop-index-preserved c =
    let near = c.args.near in
    let samples = c.args.samples.now in
    let stations = c.args.stations.now in
    let places = c.args.places.now in
    let i = c.loop-index.index in
    let hops = c.loop-index.hops.items in
    let hop = c.in_ok-sampler.sampler.kept in
    let count = places_count 0 (length samples) stations places c.requires.placed in
    let is = sampled near samples stations places i c.in_ok-course.course.items c.deref.result.now c.deref.ensures.value c.in_ok-course.ensures.points in
    let hop_is : hop.items ≡ hop_at near samples stations places i = c.in_ok-sampler.ensures.samples ∙ is in
    let pushed : c.push.new.self.items ≡ hops ++ hop ∷ [] = c.in_ok-push.ensures.items in
    record {
      kept = ap (λ (hs : List (Vec Point Global)). lists_of hs ++ hops_of near samples (drop (i + 1 - 1) stations) (drop (i + 1 - 1) places)) pushed
          ∙ hops_pushed hops hop near samples stations places (hops_of near samples stations places) i (omega arith) c.loop-index-test.true count hop_is c.loop-index.invariant.kept;
      counted = c.in_ok-sampler.ensures.count
          ∙ ap (λ n. n + length (samples_of near c.deref.result.now)) c.loop-index.invariant.counted
          ∙ ap (λ xs. total_of (lists_of hops) + length xs) (sym c.in_ok-sampler.ensures.samples)
          ∙ sym (total_pushed hops hop) ∙ ap (λ (hs : List (Vec Point Global)). total_of (lists_of hs)) (sym pushed);
      within = c.in_ok-sampler.ensures.within;
    }

pub returns-in_err-sampler-clause-cause : goal.returns-in_err-sampler-clause-cause
returns-in_err-sampler-clause-cause c =
    let near = c.args.near in
    let samples = c.args.samples.now in
    let stations = c.args.stations.now in
    let places = c.args.places.now in
    let i = c.loop-index.index in
    let hops = c.loop-index.hops.items in
    let whole = hops_of near samples stations places in
    let count = places_count 0 (length samples) stations places c.requires.placed in
    let is = sampled near samples stations places i c.in_ok-course.course.items c.deref.result.now c.deref.ensures.value c.in_ok-course.ensures.points in
    let part : total_of (lists_of hops) + length (hop_at near samples stations places i) ≤ total_of whole =
    hop_counted hops near samples stations places whole i (omega arith) c.loop-index-test.true count c.loop-index.invariant.kept in
    let more : c.loop-index.count + length (samples_of near c.deref.result.now) ≤ total_of whole =
    subst (λ (n : ℕ). n ≤ total_of whole) (sym (ap (λ n. n + length (samples_of near c.deref.result.now)) c.loop-index.invariant.counted ∙ ap (λ xs. total_of (lists_of hops) + length xs) is)) part in
    let cause : HasCause c.args.most (total_of whole) c.in_err-sampler.field-0.0 =
    HasCause-more c.args.most (c.loop-index.count + length (samples_of near c.deref.result.now)) (total_of whole) c.in_err-sampler.field-0.0 more c.in_err-sampler.ensures.cause in
    search (rules, cause)

-- at the end the hops are whole
whole_at_end : (near : ℕ) (samples stations : List Point) (places : List ℕ) (i : ℕ) (hops : List (Vec Point Global)) → length stations ≤ i →
    lists_of hops ++ hops_of near samples (drop (i - 1) stations) (drop (i - 1) places) ≡ hops_of near samples stations places → lists_of hops ≡ hops_of near samples stations places
whole_at_end near samples stations places i hops end kept =
    sym (ap (λ xs. lists_of hops ++ xs) (hops_of-end near samples stations (drop (i - 1) places) i end) ∙ append-nil (lists_of hops)) ∙ kept

pub returns-clause-hops : goal.returns-clause-hops
returns-clause-hops c =
    whole_at_end c.args.near c.args.samples.now c.args.stations.now c.args.places.now c.loop-index.index c.loop-index.hops.items (omega arith) c.loop-index.invariant.kept

pub returns-clause-within : goal.returns-clause-within
returns-clause-within c =
    let whole = whole_at_end c.args.near c.args.samples.now c.args.stations.now c.args.places.now c.loop-index.index c.loop-index.hops.items (omega arith) c.loop-index.invariant.kept in
    subst (λ (n : ℕ). n ≤ c.args.most) (c.loop-index.invariant.counted ∙ ap total_of whole) c.loop-index.invariant.within

pub returns-clause-joined : goal.returns-clause-joined
returns-clause-joined c =
    let whole = whole_at_end c.args.near c.args.samples.now c.args.stations.now c.args.places.now c.loop-index.index c.loop-index.hops.items (omega arith) c.loop-index.invariant.kept in
    subst (λ (hops : List (List Point)). AreJoined c.args.near c.args.stations.now hops) (sym whole)
    (hops_joined c.args.near 0 (length c.args.samples.now) c.args.samples.now c.args.stations.now c.args.places.now c.requires.near_low c.requires.placed)

-- what holds of each list that vectors hold
of_lists : (P : List Point → Type 0) (hops : List (Vec Point Global)) → All P (lists_of hops) → All (λ hop. P hop.items) hops
of_lists P hops all = λ k d below.
    subst P (get_or-map (λ (v : Vec Point Global). v.items) hops k d d.items below) (all k d.items (rw length-map below))

pub returns-clause-in_plane : goal.returns-clause-in_plane
returns-clause-in_plane c =
    let whole = whole_at_end c.args.near c.args.samples.now c.args.stations.now c.args.places.now c.loop-index.index c.loop-index.hops.items (omega arith) c.loop-index.invariant.kept in
    of_lists (λ (hop : List Point). All IsInPlane hop) c.loop-index.hops.items
    (subst (λ (hops : List (List Point)). All (λ hop. All IsInPlane hop) hops) (sym whole)
    (hops_in_plane c.args.near c.args.samples.now c.args.stations.now c.args.places.now c.requires.samples_in_plane c.requires.stations_in_plane))
