-- The hops of a track are runs of samples from station to station.
use Rattle.std.proofs.Common.{◌≡◌, refl, sym, ◌∙◌, ap, ℕ, zero, suc, ◌<◌, List, [], ◌∷◌, ◌++◌, Some, length, get_or, map, All, subst, pos, append_assoc, arith}
use Rattle.std.specs.List.{flat_map}
use Rattle.std.proofs.lemmas.List.{get_or-map, length-map}
use Rattle.map_base.specs.declared.point.Point.{Point}
use Rattle.shape_track.specs.Samples.{AreClose, last_of}
use Rattle.shape_track.specs.Samples as hops
use Rattle.shape_track.specs.Hops.{AreJoined}
use Rattle.track_net.specs.Nearness.{point_at}
use Rattle.track_net.specs.Nets.{NetParts, Joins}
use Rattle.track_net.specs.Laws.{RunsTo, IsRun, JoinsStations}

-- close points that end with b run to it
close_run : (near : ℕ) (p b : Point) (ps : List Point) → last_of (p ∷ ps) ≡ Some b → AreClose near (p ∷ ps) → RunsTo near p ps b
close_run near p b [] ends close = cc
close_run near p b (q ∷ ps) ends close = (close.0, close_run near q b ps ends close.1)

-- what joins two points is a run from the one to the other
pub joined_is_run : (near : ℕ) (a b : Point) (ps : List Point) → hops.Joins near (Some a) (Some b) ps → IsRun near a b ps
joined_is_run near a b [] j = let none = j.begins in cc
joined_is_run near a b (p ∷ ps) j = let first = j.begins in let same : p ≡ a = cc in (same, close_run near p b ps j.ends j.close)

-- hop k runs from station k to the next
pub record IsHopRun (near : ℕ) (stations : List Point) (hop : List Point) (k : ℕ) : Type 0 where
  pub in_range : suc k < length stations
  pub run : IsRun near (point_at stations k) (point_at stations (suc k)) hop

pub hop_is_run : (near : ℕ) (stations : List Point) (hops : List (List Point)) → AreJoined near stations hops → (k : ℕ) → k < length hops → IsHopRun near stations (get_or hops k []) k
hop_is_run near [] [] joined k below = absurd (omega arith)
hop_is_run near [] (hop ∷ hops) joined k below = absurd joined
hop_is_run near (s ∷ []) [] joined k below = absurd (omega arith)
hop_is_run near (s ∷ []) (hop ∷ hops) joined k below = absurd joined
hop_is_run near (s ∷ t ∷ ss) [] joined k below = absurd joined
hop_is_run near (s ∷ t ∷ ss) (hop ∷ hops) joined zero below = record { in_range = omega arith; run = joined_is_run near s t hop joined.0 }
hop_is_run near (s ∷ t ∷ ss) (hop ∷ hops) joined (suc k) below =
    let later = hop_is_run near (t ∷ ss) hops joined.1 k (omega arith) in record { in_range = omega (arith, later.in_range); run = later.run }

-- a list stands somewhere in another
pub record StandsIn {X : Type 0} (part whole : List X) : Type 0 where
  pub before : List X
  pub after : List X
  pub is : whole ≡ before ++ (part ++ after)

pub StandsIn-trans : {X : Type 0} (a b c : List X) → StandsIn a b → StandsIn b c → StandsIn a c
StandsIn-trans a b c h k = record {
  before = k.before ++ h.before;
  after = h.after ++ k.after;
  is =
      k.is ∙ ap (λ xs. k.before ++ (xs ++ k.after)) h.is ∙ ap (λ xs. k.before ++ xs) (append_assoc h.before (a ++ h.after) k.after)
      ∙ ap (λ xs. k.before ++ (h.before ++ xs)) (append_assoc a h.after k.after) ∙ sym (append_assoc k.before h.before (a ++ (h.after ++ k.after)));
}

-- what one element gives stands in what all give
pub flat_map-part : {X Y : Type 0} (f : X → List Y) (xs : List X) (k : ℕ) (d : X) → k < length xs → StandsIn (f (get_or xs k d)) (flat_map f xs)
flat_map-part f [] k d below = absurd (omega arith)
flat_map-part f (x ∷ xs) zero d below = record { before = []; after = flat_map f xs; is = refl }
flat_map-part f (x ∷ xs) (suc k) d below =
    let later = flat_map-part f xs k d (omega arith) in
    record { before = f x ++ later.before; after = later.after; is = ap (λ ys. f x ++ ys) later.is ∙ sym (append_assoc (f x) later.before (f (get_or xs k d) ++ later.after)) }

-- so the net joins the stops of a course that follow each other, where its hops stand in the samples
pub stops_are_joined : (near : ℕ) (points samples : List Point) (net : NetParts) (stops : List ℕ) (hops : List (List Point)) → JoinsStations near points samples net →
    AreJoined near (map (point_at points) stops) hops → All (λ s. s < length points) stops → (k : ℕ) → k < length hops → StandsIn (get_or hops k []) samples →
    Joins net (get_or stops k 0) (get_or stops (suc k) 0)
stops_are_joined near points samples net stops hops law joined in_range k below part =
    law part.before (get_or hops k []) part.after (get_or stops k 0) (get_or stops (suc k) 0) part.is (in_range k 0 first) (in_range (suc k) 0 more)
    (subst (λ (p : Point). IsRun near p (point_at points (get_or stops (suc k) 0)) (get_or hops k [])) (stop_at k first)
    (subst (λ (p : Point). IsRun near (point_at (map (point_at points) stops) k) p (get_or hops k [])) (stop_at (suc k) more) hop.run))
  where
    hop : IsHopRun near (map (point_at points) stops) (get_or hops k []) k
    hop = hop_is_run near (map (point_at points) stops) hops joined k below

    more : suc k < length stops
    more = omega (arith, hop.in_range, length-map stops (point_at points))

    first : k < length stops
    first = omega (arith, more)

    stop_at : (i : ℕ) → i < length stops → point_at (map (point_at points) stops) i ≡ point_at points (get_or stops i 0)
    stop_at i inside = get_or-map (point_at points) stops i 0 (record { x = pos 0; y = pos 0 }) inside
